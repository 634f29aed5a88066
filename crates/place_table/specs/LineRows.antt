-- What the open function over a table of lines promises for all words: what is unfolded is told by them, and rows are filled by what is told. Over
-- the words of a given value's lines the rows are the value's.
use Rattle.std.specs.Prelude.{List, ◌≡◌, ℕ, length, take, Result, Ok, Err}
use Rattle.spec_base.specs.Basic.{numbers}
use Rattle.spec_text.specs.declared.Line.{Line}
use Rattle.spec_text.specs.Value.{Given, value_of}
use Rattle.value_tables.specs.Lines.{line_table, lines_in, table_codes, table_marks}
use Rattle.unfold.specs.declared.Unfolded.{Unfolded}
use Rattle.unfold.specs.UnfoldSteps.{Tabled}
use Rattle.refusal.specs.declared.Fault.{Fault}
use Rattle.place_table.specs.declared.Rows.{Rows}
use Rattle.place_table.specs.RowWords.{FilledBy}
use Rattle.place_table.specs.Rows.{RowsSettled}

-- the unfoldings are told and the words of their places put (`Tabled` settles both), and there are as many words as before; a refusal
-- leaves the table, else it is filled by what is told
pub record LinesFilled (lines places₀ table₀ : List ℕ) (r : Result Rows Fault) (places table : List ℕ) : Type 0 where
  pub told : Result Unfolded Fault
  pub tabled : Tabled (table_codes lines) (numbers (lines_in lines)) (table_marks lines) places₀ told places
  pub lent : length places ≡ length places₀
  pub refuses : (fault : Fault) → told ≡ Err fault → (r ≡ Err fault) × (table ≡ table₀)
  pub fills : (u : Unfolded) → told ≡ Ok u → FilledBy lines (take u.count u.unfoldings) places table₀ r table
  pub settled : (ls : List Line) → lines ≡ line_table ls → Given (value_of ls) → RowsSettled (value_of ls) table₀ r table
