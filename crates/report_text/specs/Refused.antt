-- A refused text cannot be taken for robust: the value that `work_of` gives for what reading it answers is refused by every later call.
use Rattle.std.specs.Prelude.{List, ◌≡◌, ℕ}
use Rattle.spec_text.specs.Reading.{read}
use Rattle.spec_text.specs.Reading.Outcome.{refused}
use Rattle.text_read.specs.Parse.{parsed_as, work_of}
use Rattle.text_read.specs.RefusedLaws.{refused_read}
use Rattle.verdict_told.specs.Told.{Told}
use Rattle.verdict_of.specs.Verdict.{Judged}
use Rattle.verdict_of.specs.VerdictLaws.{judged_not_given}

-- a result: the verdict on the value that a refused text is read into (`work_of`) is the refusal 21, and the area stays as it was
pub refused_verdict : (text : List ℕ) {number line : ℕ} {before : List ℕ} {answer : Told} {after : List ℕ} → read text ≡ refused number line
    → Judged (work_of (parsed_as (read text))) before answer after → (answer ≡ Told.refused 21) × (after ≡ before)
refused_verdict text e = judged_not_given (refused_read text e)
