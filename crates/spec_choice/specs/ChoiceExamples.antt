-- Small runs that pin the choices (U1, U2, U3).
use mathlib.Core.List.{List, [], ◌∷◌, map, flat_map}
use Rattle.std.specs.Prelude.{◌≡◌, refl, ℕ}
use Rattle.spec_text.specs.declared.StatementKind.TheVariants.{Ks}
use Rattle.spec_graph.specs.Program.{Item, Run, statement_of, run_lines}
use Rattle.spec_graph.specs.Program.Run.{done, next}
use Rattle.spec_graph.specs.Program.Item.{statement, loop, branch}
use Rattle.spec_graph.specs.Unfolding.{pairs, unfoldings}
use Rattle.spec_graph.specs.Unfolding.Execution.{end, step}
use Rattle.spec_graph.specs.Unfolding.ItemExecution.{perform, turns}
use Rattle.spec_graph.specs.Unfolding.Turns.{stop, turn}
use Rattle.spec_graph.specs.ExampleText.{ks}
use Rattle.spec_choice.specs.Choices.{Choice, turns_taken, choices}

-- a statement, and a run of one
abbrev s : Item
s = statement (statement_of Ks (ks 0 0 1))

abbrev one : Run
one = next s done

-- at this place so many turns, or this arm
abbrev c : ℕ → ℕ → Choice
c place taken = record { place = place; taken = taken }

-- the choices of each unfolding of a run whose first line is at place 3
unfoldable chosen : Run → List (List Choice)
unfolding unfoldings pairs flat_map choices turns_taken run_lines
chosen r = map (λ e. choices e 3) (unfoldings r)

-- no block, no choice
U1_statements : chosen (next s one) ≡ [] ∷ []
unfolding chosen
U1_statements = refl

-- no turn, one, two
U2_turns : chosen (next (loop one) done) ≡ (c 3 0 ∷ []) ∷ (c 3 1 ∷ []) ∷ (c 3 2 ∷ []) ∷ []
unfolding chosen
U2_turns = refl

-- first arm, second arm; an arm may be empty
U1_arms : chosen (next (branch one done) done) ≡ (c 3 1 ∷ []) ∷ (c 3 2 ∷ []) ∷ []
unfolding chosen
U1_arms = refl

-- a branch after a statement, in a loop: each turn chooses on its own, first turn first
U2_turns_differ : chosen (next s (next (loop (next s (next (branch one done) done))) done))
    ≡ (c 4 0 ∷ [])
    ∷ (c 4 1 ∷ c 6 1 ∷ [])
    ∷ (c 4 1 ∷ c 6 2 ∷ [])
    ∷ (c 4 2 ∷ c 6 1 ∷ c 6 1 ∷ [])
    ∷ (c 4 2 ∷ c 6 1 ∷ c 6 2 ∷ [])
    ∷ (c 4 2 ∷ c 6 2 ∷ c 6 1 ∷ [])
    ∷ (c 4 2 ∷ c 6 2 ∷ c 6 2 ∷ [])
    ∷ []
unfolding chosen
U2_turns_differ = refl

-- a loop in each arm: the second arm's lines stand after the first arm's and the `el`
U1_loop_in_arm : chosen (next (branch (next s (next (loop done) done)) (next (loop one) done)) done)
    ≡ (c 3 1 ∷ c 5 0 ∷ [])
    ∷ (c 3 1 ∷ c 5 1 ∷ [])
    ∷ (c 3 1 ∷ c 5 2 ∷ [])
    ∷ (c 3 2 ∷ c 8 0 ∷ [])
    ∷ (c 3 2 ∷ c 8 1 ∷ [])
    ∷ (c 3 2 ∷ c 8 2 ∷ [])
    ∷ []
unfolding chosen
U1_loop_in_arm = refl

-- two blocks in a row: the second stands after the lines of the first
U3_blocks_in_a_row : chosen (next (branch done one) (next (loop one) done))
    ≡ (c 3 1 ∷ c 7 0 ∷ [])
    ∷ (c 3 1 ∷ c 7 1 ∷ [])
    ∷ (c 3 1 ∷ c 7 2 ∷ [])
    ∷ (c 3 2 ∷ c 7 0 ∷ [])
    ∷ (c 3 2 ∷ c 7 1 ∷ [])
    ∷ (c 3 2 ∷ c 7 2 ∷ [])
    ∷ []
unfolding chosen
U3_blocks_in_a_row = refl

-- a block behind a loop stands after the loop's lines too
U3_behind_a_loop : chosen (next (loop one) (next (branch done done) done))
    ≡ (c 3 0 ∷ c 6 1 ∷ [])
    ∷ (c 3 0 ∷ c 6 2 ∷ [])
    ∷ (c 3 1 ∷ c 6 1 ∷ [])
    ∷ (c 3 1 ∷ c 6 2 ∷ [])
    ∷ (c 3 2 ∷ c 6 1 ∷ [])
    ∷ (c 3 2 ∷ c 6 2 ∷ [])
    ∷ []
unfolding chosen
U3_behind_a_loop = refl

-- H1: an execution may take more turns than an unfolding
H1_three_turns : choices {r = next (loop one) done}
    (step (turns (turn (step perform end) (turn (step perform end) (turn (step perform end) stop)))) end) 3 ≡ c 3 3 ∷ []
unfolding choices turns_taken
H1_three_turns = refl
