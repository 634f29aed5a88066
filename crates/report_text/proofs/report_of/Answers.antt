-- A refusal is reported with its number and line (reported_refused); an area of 65 steps is long enough, so the word is printed as the report
-- (reported_word).
use Prim.Native.Nat.{ℕ}
use mathlib.Core.Path.{◌∙◌}
use lib.ListN.{length-replicate}
use Rattle.report_text.specs.ReportedLaws.{reported_refused, reported_word}
use Rattle.report_text.proofs.report_of.Goals as goal

pub returns-in-Err : goal.returns-in-Err
returns-in-Err c =
    reported_refused _ c.text_verdict-told.ensures.text_judged (length-replicate {A = ℕ} 260 0) _ c.in-Err.is
    (c.from.ensures ∙ c.number.ensures) c.refusal_printed.ensures

pub returns-in-Ok : goal.returns-in-Ok
returns-in-Ok c =
    reported_word _ c.text_verdict-told.ensures.text_judged (length-replicate {A = ℕ} 260 0) _ c.in-Ok.is c.verdict_printed.ensures
