-- The same over the codes of lines: steps towards the promise of specs/ProgramSettled.
use Rattle.std.specs.Prelude.{List, ◌≡◌, ℕ, ◌≤◌, ◌<◌, length, get_or, Option, Some, None}
use Rattle.std.proofs.Math.Option.{none, some}
use Rattle.std.proofs.Math.ListN.{get_elem?}
use Rattle.spec_text.specs.declared.Line.{Line}
use Rattle.spec_graph.specs.Program.{Program, programs_of}
use Rattle.unfold_laws.specs.Codes.{codes_of}
use Rattle.unfold_laws.specs.Pieces.{programs_before}
use Rattle.unfold_program.specs.declared.ProgramUnfoldings.{ProgramUnfoldings}
use Rattle.unfold_program.specs.ProgramSettled.{program_told}

-- the `pr` line of program k: one with k programs before it; there is none where no more than k programs begin
abbrev pub ProgramLine : List ℕ → ℕ → Option ℕ → Type 0
ProgramLine codes k (Some i) = (i < length codes) × (get_or codes i 0 ≡ 3) × (programs_before codes i ≡ k)
ProgramLine codes k None = programs_before codes (length codes) ≤ k

-- over the lines of a workload: that there is no program k, or what is told of it
pub record ProgramOver (codes : List ℕ) (k : ℕ) (r : Option ProgramUnfoldings) : Type 0 where
  pub missing : (lines : List Line) → codes ≡ codes_of lines → get_elem? (programs_of lines) k ≡ none → r ≡ None
  pub told : (lines : List Line) → codes ≡ codes_of lines → (p : Program) → get_elem? (programs_of lines) k ≡ some p
      → r ≡ Some (program_told lines k p)
