-- What is told of the choices of a node, for every workload value and every number (S21, S22; U1, U2, U4). Believed.
use Rattle.std.specs.Prelude.{false, List, map, ◌≡◌, ℕ, eqb, length, take, Option, Some, None, Result, Ok, Err}
use Rattle.std.proofs.Math.Option.{none, some}
use Rattle.std.proofs.Math.ListN.{get_elem?}
use Rattle.spec_base.specs.Basic.{count}
use Rattle.spec_text.specs.declared.Line.{Line}
use Rattle.spec_text.specs.declared.Workload.{Workload}
use Rattle.spec_text.specs.Value.{lines_of}
use Rattle.spec_graph.specs.Program.{programs_of}
use Rattle.spec_report.specs.State.{StateRefusal}
use Rattle.spec_part.specs.Arm.{Unfolding, unfoldings_from}
use Rattle.unfold_laws.specs.Places.{first_line}
use Rattle.unfold.specs.UnfoldTold.{cells}
use Rattle.refusal.specs.declared.Fault.{Fault}
use Rattle.refusal.specs.Numbers.{number_of}
use Rattle.unfold_choice.specs.declared.Choices.{Choices}
use Rattle.spec_choice.specs.Choices.{choices}
use Rattle.unfold_choice.specs.ChoiceWord.{choice_word}

-- U4: the unfoldings of all programs in their order: number k is that of node k
unfoldable pub unfoldings_of : List Line → List Unfolding
unfoldings_of lines = unfoldings_from 0 (programs_of lines)

-- U1, U2: an unfolding's choices as words; the first line of its program's run is the line after its `pr`
unfoldable pub choice_words : List Line → Unfolding → List ℕ
choice_words lines u = map (λ c. choice_word c.place c.taken) (choices u.execution (first_line u.number lines))

-- U4: a node with its unfolding: its program, how many unfoldings of that program come before it, and its choices
unfoldable pub choices_told : List Line → ℕ → Unfolding → Choices
choices_told lines node u =
    record {
      program = u.number;
      number = count (λ v. eqb v.number u.number) (take node (unfoldings_of lines));
      count = length (choice_words lines u);
      words = cells (choice_words lines u);
    }

-- S21, S22 in this order; else there is no such node, or its choices are told
pub data ChoicesSettled (w : Workload) (node : ℕ) : Result (Option Choices) Fault → Type 0 where
  refused : (fault : Fault) → StateRefusal w false (some (number_of fault)) → ChoicesSettled w node (Err fault)
  missing : StateRefusal w false none → get_elem? (unfoldings_of (lines_of w)) node ≡ none → ChoicesSettled w node (Ok None)
  told : StateRefusal w false none → (u : Unfolding) → get_elem? (unfoldings_of (lines_of w)) node ≡ some u
      → ChoicesSettled w node (Ok (Some (choices_told (lines_of w) node u)))
