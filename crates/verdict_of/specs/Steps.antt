-- What the verdict by the rows of all places promises.
use Rattle.std.specs.Prelude.{◌≡◌, false, List, ℕ, length}
use Rattle.spec_text.specs.declared.Workload.{Workload}
use Rattle.spec_text.specs.Value.{Given, lines_of}
use Rattle.spec_graph.specs.Program.{programs_of}
use Rattle.spec_graph.specs.Unfolding.{nodes_of}
use Rattle.spec_report.specs.State.{is_too_many}
use Rattle.place_row.specs.RowTable.{rows_of, table_of}
use Rattle.verdict_told.specs.Told.{Told}
use Rattle.verdict_of.specs.Verdict.{Judged}

-- the rows of all places of a workload, with the numbers of its programs and nodes
pub record RowsWhole (w : Workload) (programs nodes : ℕ) (rows : List ℕ) : Type 0 where
  pub given : Given w
  pub few : is_too_many (lines_of w) ≡ false
  pub programs_are : programs ≡ length (programs_of (lines_of w))
  pub nodes_are : nodes ≡ length (nodes_of (lines_of w))
  pub rows_are : rows ≡ table_of (rows_of (nodes_of (lines_of w)))

-- the answer is the verdict on any workload whose rows these are
abbrev pub RowsJudged : List ℕ → ℕ → ℕ → List ℕ → Told → List ℕ → Type 0
RowsJudged rows programs nodes before answer after = (w : Workload) → RowsWhole w programs nodes rows → Judged w before answer after
