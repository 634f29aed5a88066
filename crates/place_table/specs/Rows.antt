-- What the open function promises for every workload value and every table.
use Rattle.std.specs.Prelude.{false, List, ◌++◌, ◌⊎◌, ◌≡◌, ℕ, ◌*◌, length, drop, Result, Ok, Err}
use Rattle.std.proofs.Common.{inl, inr}
use Rattle.std.proofs.Math.Option.{none, some}
use Rattle.spec_text.specs.declared.Workload.{Workload}
use Rattle.spec_text.specs.Value.{lines_of}
use Rattle.spec_graph.specs.Program.{programs_of}
use Rattle.spec_graph.specs.Unfolding.{nodes_of}
use Rattle.spec_report.specs.State.{StateRefusal, statements_in}
use Rattle.place_row.specs.RowTable.{rows_of, table_of}
use Rattle.refusal.specs.declared.Fault.{Fault}
use Rattle.refusal.specs.Numbers.{number_of}
use Rattle.place_table.specs.declared.Rows.{Rows}

-- N3: what the answer says: a refusal's number, or how many programs, nodes and places there are
unfoldable pub rows_said : Result Rows Fault → ℕ ⊎ (ℕ × ℕ × ℕ)
rows_said (Err fault) = inl (number_of fault)
rows_said (Ok rows) = inr (rows.programs, rows.nodes, rows.places)

-- S21 or S22, which leaves the table; else programs, nodes and places are counted, and the rows of all places stand from the table's start on;
-- past them it is as it was. No table is too short (S20): 4096 words are 512 places.
pub data RowsSettled (w : Workload) (before : List ℕ) (r : Result Rows Fault) (after : List ℕ) : Type 0 where
  refused : (n : ℕ) → StateRefusal w false (some n) → rows_said r ≡ inl n → after ≡ before → RowsSettled w before r after
  filled : StateRefusal w false none
      → rows_said r ≡ inr (length (programs_of (lines_of w)), length (nodes_of (lines_of w)), statements_in (nodes_of (lines_of w)))
      → after ≡ table_of (rows_of (nodes_of (lines_of w))) ++ drop (8 * statements_in (nodes_of (lines_of w))) before
      → RowsSettled w before r after
