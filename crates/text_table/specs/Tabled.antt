-- What reading a text into lent words answers, and what the words hold then. Believed by callers of `read_table`.
use Rattle.std.specs.Prelude.{List, ◌++◌, ◌≡◌, ℕ, ◌*◌, length, drop, Result, Ok, Err}
use Rattle.spec_text.specs.declared.Line.{Line}
use Rattle.spec_text.specs.Reading.{Outcome}
use Rattle.spec_text.specs.Reading.Outcome.{refused, accepted}
use Rattle.value_tables.specs.Lines.{line_table}

-- a refusal: its number and its line
unfoldable pub not_read : ℕ → ℕ → Result ℕ (ℕ × ℕ)
not_read number line = Err (number, line)

-- so many lines
unfoldable pub lines_read : ℕ → Result ℕ (ℕ × ℕ)
lines_read n = Ok n

-- A refused text (R): its number and its line; what the words hold is free. Else the lines of the text stand from their start on, eight words to a
-- line, and the words past them are as they were.
pub data TextTabled (o : Outcome) (before : List ℕ) (r : Result ℕ (ℕ × ℕ)) (after : List ℕ) : Type 0 where
  unread : (number line : ℕ) → o ≡ refused number line → r ≡ not_read number line → TextTabled o before r after
  tabled : (lines : List Line) → o ≡ accepted lines → r ≡ lines_read (length lines)
      → after ≡ line_table lines ++ drop (8 * length lines) before → TextTabled o before r after
