-- A text has one report: what it is read as is settled, so are the counts, and of the dangerous walks the first is one alone.
use Rattle.std.specs.Prelude.{true, false, List, ◌↔◌, ◌≡◌, ℕ}
use Rattle.std.proofs.lemmas.Bool.{false≢true}
use Rattle.std.proofs.Math.Path.{refl}
use Rattle.std.proofs.Common.{sym, ap, ap₂, subst, ◌∙◌, arith}
use Rattle.spec_text.specs.declared.Line.{Line}
use Rattle.spec_text.specs.Reading.{Outcome}
use Rattle.spec_text.specs.Reading.Outcome.{refused, accepted}
use Rattle.spec_graph.specs.Walk.{Step, FirstWalk}
use Rattle.law_walk.specs.Before.{first_unique}
use Rattle.spec_report.specs.State.{counts_of, summary_graph, is_too_many, Danger}
use Rattle.spec_report.specs.Report.{Report, danger_report, refusal_report, robust_report}
use Rattle.spec_report.specs.Report.Report.{refusal, unfolding_refusal, robust, danger}
use Rattle.law_report.specs.Reports.{report_exists}

-- ---- two readings of one text

apart : {o : Outcome} {number line : ℕ} {lines : List Line} → o ≡ refused number line → o ≡ accepted lines → ⊥
apart e f = let z : ◌≡◌ {A = ℕ} 0 1 = cc in omega arith

lines_one : {o : Outcome} {lines others : List Line} → o ≡ accepted lines → o ≡ accepted others → lines ≡ others
lines_one e f = cc

refusal_one : {o : Outcome} {number line other at : ℕ} → o ≡ refused number line → o ≡ refused other at
    → refusal_report number line ≡ refusal_report other at
refusal_one {number = number} {line = line} {other = other} {at = at} e f =
    let n : number ≡ other = cc in
    let l : line ≡ at = cc in
    ap₂ refusal_report n l

few_many : {lines others : List Line} → lines ≡ others → is_too_many lines ≡ true → is_too_many others ≡ false → ⊥
few_many e many few = false≢true (sym few ∙ ap is_too_many (sym e) ∙ many)

-- ---- two first walks of one workload

-- a robust workload has none
safe_first : {lines others : List Line} {walk : List Step} → others ≡ lines → (Danger lines → ⊥) → FirstWalk (summary_graph others) walk → ⊥
safe_first {walk = walk} e safe first = safe (subst (λ l. Danger l) e (walk, first.dangerous))

-- and of another the reports are the same
danger_one : {lines others : List Line} {walk other : List Step} → lines ≡ others → FirstWalk (summary_graph lines) walk
    → FirstWalk (summary_graph others) other → danger_report (counts_of lines) walk ≡ danger_report (counts_of others) other
danger_one {walk = walk} {other = other} e first same =
    let f = subst (λ l. FirstWalk (summary_graph l) walk) e first in
    ap₂ (λ l v. danger_report (counts_of l) v) e (first_unique walk other f same)

-- ---- the theorem

-- Req 01: any two reports of a text are equal, walk included
pub report_unique : {text a b : List ℕ} → Report text a → Report text b → a ≡ b
report_unique (refusal number line r) (refusal other at s) = refusal_one r s
report_unique (refusal number line r) (unfolding_refusal lines s many) = absurd (apart r s)
report_unique (refusal number line r) (robust lines s few safe) = absurd (apart r s)
report_unique (refusal number line r) (danger lines s few walk first) = absurd (apart r s)
report_unique (unfolding_refusal lines r many) (refusal other at s) = absurd (apart s r)
report_unique (unfolding_refusal lines r many) (unfolding_refusal others s more) = refl
report_unique (unfolding_refusal lines r many) (robust others s few safe) = absurd (few_many (lines_one r s) many few)
report_unique (unfolding_refusal lines r many) (danger others s few walk first) = absurd (few_many (lines_one r s) many few)
report_unique (robust lines r few safe) (refusal other at s) = absurd (apart s r)
report_unique (robust lines r few safe) (unfolding_refusal others s many) = absurd (few_many (lines_one s r) many few)
report_unique (robust lines r few safe) (robust others s little none_dangerous) = ap (λ l. robust_report (counts_of l)) (lines_one r s)
report_unique (robust lines r few safe) (danger others s little walk first) = absurd (safe_first (lines_one s r) safe first)
report_unique (danger lines r few walk first) (refusal other at s) = absurd (apart s r)
report_unique (danger lines r few walk first) (unfolding_refusal others s many) = absurd (few_many (lines_one s r) many few)
report_unique (danger lines r few walk first) (robust others s little safe) = absurd (safe_first (lines_one r s) safe first)
report_unique (danger lines r few walk first) (danger others s little other same) = danger_one (lines_one r s) first same

-- ---- the report of a text

-- as a function of the text's bytes
pub the_report : List ℕ → List ℕ
the_report text = (report_exists text).0

-- bytes are a report of the text exactly if they are these
pub report_is : {text bytes : List ℕ} → Report text bytes ↔ (bytes ≡ the_report text)
unfolding the_report
report_is {text} {bytes} = (λ r. report_unique r (report_exists text).1, λ e. subst (Report text) (sym e) (report_exists text).1)
