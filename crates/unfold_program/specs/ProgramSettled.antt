-- What is told of one program of a workload, for every workload value and every number (S21; U1, U2, U3). Believed.
use Rattle.std.specs.Prelude.{List, ◌≡◌, ℕ, ◌-◌, length, Option, Some, None, Result, Ok, Err}
use Rattle.std.proofs.Math.Option.{none, some}
use Rattle.std.proofs.Math.ListN.{get_elem?}
use Rattle.spec_text.specs.declared.Line.{Line}
use Rattle.spec_text.specs.declared.Workload.{Workload}
use Rattle.spec_text.specs.Value.{Given, lines_of}
use Rattle.spec_graph.specs.Program.{Program, programs_of}
use Rattle.spec_graph.specs.Unfolding.{unfoldings, nodes_of_program}
use Rattle.spec_report.specs.State.{statements_in}
use Rattle.unfold_laws.specs.Cap.{cap}
use Rattle.unfold_laws.specs.Places.{first_line}
use Rattle.refusal.specs.declared.Fault.{Fault}
use Rattle.refusal.specs.declared.Fault.TheVariants.{NotGiven}
use Rattle.unfold_program.specs.declared.ProgramUnfoldings.{ProgramUnfoldings}

-- T6, U1, U2, U3: program k: its `pr` is the line before its first line; its unfoldings and the statements in them, where 513 stands for every
-- larger number
unfoldable pub program_told : List Line → ℕ → Program → ProgramUnfoldings
program_told lines k p =
    record {
      line = first_line k lines - 1;
      count = cap (length (unfoldings p.body));
      statements = cap (statements_in (nodes_of_program k p));
    }

-- S21 is the only refusal; else there is no such program, or it is told
pub data ProgramSettled (w : Workload) (k : ℕ) : Result (Option ProgramUnfoldings) Fault → Type 0 where
  refused : (Given w → ⊥) → ProgramSettled w k (Err NotGiven)
  missing : Given w → get_elem? (programs_of (lines_of w)) k ≡ none → ProgramSettled w k (Ok None)
  told : Given w → (p : Program) → get_elem? (programs_of (lines_of w)) k ≡ some p → ProgramSettled w k (Ok (Some (program_told (lines_of w) k p)))
