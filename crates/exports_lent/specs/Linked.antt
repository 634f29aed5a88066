-- Rows of a text's places that are linked: a step towards its edges.
use Rattle.std.specs.Prelude.{List, ◌≡◌, ℕ, length, take, drop, Result, Ok, Err}
use Rattle.spec_text.specs.Reading.{Outcome}
use Rattle.place_text.specs.declared.TextRows.{TextRows}
use Rattle.place_text.specs.Placed.{TextPlaced}
use Rattle.place_link.specs.Links.{LinkedAs}

-- the rows in the first words of a table are linked, with so many words to work in, and past them the table is as it was
pub record FirstLinked (words : ℕ) (before after : List ℕ) : Type 0 where
  pub size : length after ≡ length before
  pub room : ℕ
  pub rows : LinkedAs (take words before) room (take words after)
  pub rest : drop words after ≡ drop words before

-- how many words the rows of a text take, and a refusal's number and line: 0 where there are none
abbrev pub words_in : Result TextRows (ℕ × ℕ) → ℕ
words_in (Ok rows) = rows.words
words_in (Err refusal) = 0

abbrev pub number_in : Result TextRows (ℕ × ℕ) → ℕ
number_in (Ok rows) = 0
number_in (Err refusal) = refusal.0

abbrev pub line_in : Result TextRows (ℕ × ℕ) → ℕ
line_in (Ok rows) = 0
line_in (Err refusal) = refusal.1

-- the rows of a text's places were put, and then linked
pub record TextLinked (o : Outcome) (before : List ℕ) (r : Result TextRows (ℕ × ℕ)) (after : List ℕ) : Type 0 where
  pub plain : List ℕ
  pub placed : TextPlaced o before r plain
  pub linked : FirstLinked (words_in r) plain after

-- what the lent table holds afterwards: such rows
pub record RowsLinked (o : Outcome) (before after : List ℕ) : Type 0 where
  pub rows : Result TextRows (ℕ × ℕ)
  pub linked : TextLinked o before rows after
