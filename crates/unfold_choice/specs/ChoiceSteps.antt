-- The choices of a node over the codes of lines: steps towards the promise of specs/ChoicesSettled.
use Rattle.std.specs.Prelude.{true, false, List, [], ◌≡◌, ℕ, ◌+◌, ◌<◌, length, get_or, drop, Option, Some, None, Result, Ok, Err}
use Rattle.std.proofs.Math.Option.{none, some}
use Rattle.std.proofs.Math.ListN.{get_elem?}
use Rattle.spec_text.specs.declared.Line.{Line}
use Rattle.spec_report.specs.State.{is_too_many}
use Rattle.spec_part.specs.Arm.{Unfolding}
use Rattle.node_laws.specs.Bodies.{Body}
use Rattle.unfold_laws.specs.Choosing.{count_run}
use Rattle.unfold_laws.specs.Codes.{codes_of}
use Rattle.unfold_laws.specs.Pieces.{programs_before}
use Rattle.unfold_program.specs.ProgramLaws.{program_at}
use Rattle.refusal.specs.declared.Fault.{Fault}
use Rattle.refusal.specs.declared.Fault.TheVariants.{Unfoldings}
use Rattle.unfold_choice.specs.declared.Choices.{Choices}
use Rattle.unfold_choice.specs.declared.NodePlace.{NodePlace}
use Rattle.unfold_choice.specs.ChoicesSettled.{unfoldings_of, choices_told}
use Rattle.unfold_choice.specs.NodeLaws.{passed_by}

-- a node that is found: line, program and number are those of its unfolding
pub record Standing (lines : List Line) (node : ℕ) (r : NodePlace) : Type 0 where
  pub inside : r.line < length lines
  pub begins : get_or (codes_of lines) r.line 0 ≡ 3
  pub program : programs_before (codes_of lines) r.line ≡ r.program
  pub below : r.number < count_run (program_at lines r.line).body
  pub reaches : passed_by r.program lines + r.number ≡ node

-- over the lines of a workload that S22 lets pass: the node is found, or there is none
abbrev pub NodeFound : List ℕ → ℕ → Option NodePlace → Type 0
NodeFound codes node (Some p) =
    (p.line < length codes) × ((lines : List Line) → codes ≡ codes_of lines → is_too_many lines ≡ false → Standing lines node p)
NodeFound codes node None =
    (lines : List Line) → codes ≡ codes_of lines → is_too_many lines ≡ false → get_elem? (unfoldings_of lines) node ≡ none

-- T8: after each `pr` line statements and flow with every block closed, then links
unfoldable pub Bodies : List Line → Type 0
Bodies lines = (i : ℕ) → get_or (codes_of lines) i 0 ≡ 3 → Body [] 0 (drop (i + 1) lines)

-- over the lines of a workload: S22, that there is no such node, or what is told of it
pub record ChoicesOver (codes : List ℕ) (node : ℕ) (r : Result (Option Choices) Fault) : Type 0 where
  pub many : (lines : List Line) → codes ≡ codes_of lines → is_too_many lines ≡ true → r ≡ Err Unfoldings
  pub missing : (lines : List Line) → codes ≡ codes_of lines → is_too_many lines ≡ false → get_elem? (unfoldings_of lines) node ≡ none
      → r ≡ Ok None
  pub told : (lines : List Line) → codes ≡ codes_of lines → is_too_many lines ≡ false → Bodies lines → (u : Unfolding)
      → get_elem? (unfoldings_of lines) node ≡ some u → r ≡ Ok (Some (choices_told lines node u))
