-- Every text has a report, whatever its bytes.
use Rattle.std.specs.Prelude.{Bool, true, List, ◌≡◌, refl, ℕ}
use Rattle.std.proofs.Math.Bool.{false}
use Rattle.spec_text.specs.declared.Line.{Line}
use Rattle.spec_text.specs.Reading.{Outcome, read}
use Rattle.spec_text.specs.Reading.Outcome.{refused, accepted}
use Rattle.law_walk.specs.Reach.{danger_test, danger_found, danger_none}
use Rattle.spec_report.specs.State.{counts_of, Danger, Robust, summary_graph, is_too_many}
use Rattle.spec_report.specs.Report.{Report, danger_report, refusal_report, robust_report}
use Rattle.spec_report.specs.Report.Report.{refusal, unfolding_refusal, robust, danger}
use Rattle.law_report.specs.ShownWalk.{summary_regular, first_shown}

-- the computed test of the graph decides
pub robust_of : (lines : List Line) → danger_test (summary_graph lines) ≡ false → Robust lines
robust_of lines h = danger_none (summary_graph lines) (summary_regular lines) h

pub danger_of : (lines : List Line) → danger_test (summary_graph lines) ≡ true → Danger lines
danger_of lines h = let w = danger_found (summary_graph lines) h in (w.0, w.1)

-- the report of a text that is read as these lines, few enough
pub report_of_lines : (text : List ℕ) (lines : List Line) → read text ≡ accepted lines → is_too_many lines ≡ false
    → (bytes : List ℕ) × Report text bytes
report_of_lines text lines is_read few = go (danger_test (summary_graph lines)) refl
  where
    go : (b : Bool) → danger_test (summary_graph lines) ≡ b → (bytes : List ℕ) × Report text bytes
    go true h =
        let w = first_shown lines (danger_of lines h) in (danger_report (counts_of lines) w.0, danger lines is_read few w.0 w.1)
    go false h = (robust_report (counts_of lines), robust lines is_read few (robust_of lines h))

pub report_exists : (text : List ℕ) → (bytes : List ℕ) × Report text bytes
report_exists text = go (read text) refl
  where
    few : (lines : List Line) → read text ≡ accepted lines → (b : Bool) → is_too_many lines ≡ b → (bytes : List ℕ) × Report text bytes
    few lines is_read true many = (refusal_report 22 0, unfolding_refusal lines is_read many)
    few lines is_read false fits = report_of_lines text lines is_read fits

    go : (o : Outcome) → read text ≡ o → (bytes : List ℕ) × Report text bytes
    go (refused number line) e = (refusal_report number line, refusal number line e)
    go (accepted lines) e = few lines e (is_too_many lines) refl
