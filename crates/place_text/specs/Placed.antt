-- What the rows of a text's places are, and what is answered with them. Believed by callers of `text_rows`.
use Rattle.std.specs.Prelude.{true, false, List, ◌++◌, ◌≡◌, ℕ, ◌*◌, length, drop, Result, Ok, Err}
use Rattle.spec_text.specs.declared.Line.{Line}
use Rattle.spec_text.specs.Reading.{Outcome}
use Rattle.spec_text.specs.Reading.Outcome.{refused, accepted}
use Rattle.spec_graph.specs.Program.{programs_of}
use Rattle.spec_graph.specs.Unfolding.{nodes_of}
use Rattle.spec_report.specs.State.{statements_in, is_too_many}
use Rattle.place_row.specs.RowTable.{rows_of, table_of}
use Rattle.place_text.specs.declared.TextRows.{TextRows}

-- a refusal: its number and its line
unfoldable pub no_rows : ℕ → ℕ → Result TextRows (ℕ × ℕ)
no_rows number line = Err (number, line)

-- the programs, the nodes, and the words of the rows of lines
unfoldable pub rows_told : List Line → Result TextRows (ℕ × ℕ)
rows_told lines =
    Ok
    (record {
      programs = length (programs_of lines);
      nodes = length (nodes_of lines);
      words = 8 * statements_in (nodes_of lines);
    })

-- A refused text (R): its number and its line. Else S22. Each leaves the table as it was. Else the rows of all places stand from the table's start
-- on, and past them it is as it was. S21 cannot be: the value of an accepted text is one that a text gives.
pub data TextPlaced (o : Outcome) (before : List ℕ) (r : Result TextRows (ℕ × ℕ)) (after : List ℕ) : Type 0 where
  unread : (number line : ℕ) → o ≡ refused number line → r ≡ no_rows number line → after ≡ before → TextPlaced o before r after
  large : (lines : List Line) → o ≡ accepted lines → is_too_many lines ≡ true → r ≡ no_rows 22 0 → after ≡ before → TextPlaced o before r after
  placed : (lines : List Line) → o ≡ accepted lines → is_too_many lines ≡ false → r ≡ rows_told lines
      → after ≡ table_of (rows_of (nodes_of lines)) ++ drop (8 * statements_in (nodes_of lines)) before → TextPlaced o before r after
