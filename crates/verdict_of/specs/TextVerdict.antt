-- What the verdict on a text promises for every text and every lent area. Believed.
use Rattle.std.specs.Prelude.{List, ◌≡◌, ℕ, Result, Ok, Err}
use Rattle.refusal.specs.declared.Fault.{Fault}
use Rattle.refusal.specs.Numbers.{number_of}
use Rattle.spec_text.specs.declared.Line.{Line}
use Rattle.spec_text.specs.Reading.{Outcome}
use Rattle.spec_text.specs.Reading.Outcome.{refused, accepted}
use Rattle.spec_text.specs.Value.{value_of}
use Rattle.place_text.specs.declared.TextRows.{TextRows}
use Rattle.place_text.specs.Placed.{TextPlaced}
use Rattle.verdict_told.specs.declared.Verdict.{Verdict}
use Rattle.verdict_told.specs.Told.{told}
use Rattle.verdict_of.specs.Verdict.{Judged}

-- the answer for a text that gives a value: the verdict on the value, whose refusals have line 0
abbrev pub on_text : Result Verdict Fault → Result Verdict (ℕ × ℕ)
on_text (Ok v) = Ok v
on_text (Err fault) = Err (number_of fault, 0)

-- R: a refused text's number and line, and the area stays as it was; else the verdict on the value that the text gives
pub data TextJudged (o : Outcome) (before : List ℕ) (r : Result Verdict (ℕ × ℕ)) (after : List ℕ) : Type 0 where
  unread : (number line : ℕ) → o ≡ refused number line → r ≡ Err (number, line) → after ≡ before → TextJudged o before r after
  judged : (lines : List Line) → o ≡ accepted lines → (v : Result Verdict Fault) → r ≡ on_text v → Judged (value_of lines) before (told v) after
      → TextJudged o before r after

-- What the lent table of rows holds after a text is judged: the rows of its places, or what it held before (`TextPlaced`)
pub record RowsLeft (o : Outcome) (before after : List ℕ) : Type 0 where
  pub rows : Result TextRows (ℕ × ℕ)
  pub placed : TextPlaced o before rows after
