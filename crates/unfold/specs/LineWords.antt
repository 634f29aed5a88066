-- What is written for a line of a table: its id with no line marked, or its number with the lines' marks.
use Rattle.std.specs.Prelude.{Bool, cond, List, [], ℕ}
use Rattle.spec_base.specs.Basic.{numbers}
use Rattle.value_tables.specs.Lines.{lines_in, table_codes, table_ids, table_marks}
use Rattle.unfold.specs.declared.Source.{Source}

unfoldable pub words_by : Bool → List ℕ → List ℕ
words_by ids lines = cond ids (table_ids lines) (numbers (lines_in lines))

unfoldable pub marks_by : Bool → List ℕ → List ℕ
marks_by ids lines = cond ids [] (table_marks lines)

-- what a source tells line by line
abbrev pub codes_in : Source → List ℕ
codes_in s = table_codes s.lines.now

abbrev pub words_in : Source → List ℕ
words_in s = words_by s.ids s.lines.now

abbrev pub marks_in : Source → List ℕ
marks_in s = marks_by s.ids s.lines.now
