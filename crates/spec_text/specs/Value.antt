-- The workload value (docs/MODEL.md, "Refused because of the state", 21). Believed.
use Rattle.std.specs.Prelude.{List, ◌++◌, ◌≡◌, ℕ, ◌-◌, length, take, replicate}
use Rattle.spec_text.specs.declared.Line.{Line}
use Rattle.spec_text.specs.declared.Workload.{Workload}
use Rattle.spec_text.specs.Text.{unused_line}
use Rattle.spec_text.specs.Reading.{read}
use Rattle.spec_text.specs.Reading.Outcome.{accepted}

-- S21: the lines of a workload value
unfoldable pub lines_of : Workload → List Line
lines_of w = take w.count w.lines

-- S21: the workload value that lines give: its first cells hold them, the others the unused line
unfoldable pub value_of : List Line → Workload
value_of lines = record { count = length lines; lines = lines ++ replicate (1616 - length lines) unused_line }

-- S21: some accepted text gives the workload value
pub record Given (w : Workload) : Type 0 where
  pub text : List ℕ
  pub lines : List Line
  pub is_read : read text ≡ accepted lines
  pub value : w ≡ value_of lines

-- S21: no workload, which a refused text is read into: one line more than there are cells, so no text gives it
unfoldable pub no_workload : Workload
no_workload = record { count = 1617; lines = replicate 1616 unused_line }
