-- Steps of the code: a workload's table.
use Rattle.std.specs.Prelude.{false, Result, Ok, Err, List, ◌≡◌, ℕ, ◌≤◌, length, take}
use Rattle.std.proofs.Math.Option.{none, some}
use Rattle.spec_text.specs.declared.Workload.{Workload}
use Rattle.spec_report.specs.State.{StateRefusal}
use Rattle.refusal.specs.declared.Fault.{Fault}
use Rattle.refusal.specs.Numbers.{number_of}
use Rattle.edge_count.specs.Slots.{table_edges}
use Rattle.edge_list.specs.EdgesSettled.{edges_in}

-- the workload is not refused, and the first words of the table have its edges
pub record Tabled (w : Workload) (words : ℕ) (table : List ℕ) : Type 0 where
  pub taken : StateRefusal w false none
  pub inside : words ≤ length table
  pub edges : table_edges (take words table) ≡ edges_in w

-- a refusal (S21, S22), and no words are told; else how many words of the table have the workload's edges
abbrev pub TabledFor : Workload → Result ℕ Fault → List ℕ → Type 0
TabledFor w (Err fault) table = StateRefusal w false (some (number_of fault))
TabledFor w (Ok words) table = Tabled w words table
