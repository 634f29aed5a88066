-- The steps of the code that reads a text into lent words.
use Rattle.std.specs.Prelude.{List, [], ◌++◌, ◌≡◌, ℕ, ◌*◌, length, drop}
use Rattle.spec_text.specs.declared.Line.{Line}
use Rattle.spec_text.specs.Text.{lines_in}
use Rattle.spec_text.specs.Reading.{read_lines}
use Rattle.line_rules.specs.WordsHold.{HoldsWords}
use Rattle.line_rules.specs.Tested.{Tested}
use Rattle.value_tables.specs.Lines.{line_table, line_put}

-- a line is tested and taken into the state; where it is taken it is put into the table
pub record LineTaken (state table : List ℕ) (n : ℕ) (l : Line) (r : ℕ) (state' table' : List ℕ) : Type 0 where
  pub tested : Tested state l r state'
  pub put : r ≡ 0 → table' ≡ line_put table n l

-- between two lines: these were taken, the words hold them, and what is read is what the lines left give after them
pub record Going (text : List ℕ) (start : ℕ) (table₀ state table : List ℕ) (at n : ℕ) : Type 0 where
  pub before : List Line
  pub count : n ≡ length before
  pub size : length table₀ ≡ 12928
  pub rows : table ≡ line_table before ++ drop (8 * n) table₀
  pub holds : HoldsWords state before
  pub reads : read_lines before (lines_in (drop at text)) ≡ read_lines [] (lines_in (drop start text))
