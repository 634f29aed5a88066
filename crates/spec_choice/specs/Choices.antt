-- Which turns and arms an execution takes (docs/MODEL.md, "Unfoldings"). Believed.
use Rattle.std.specs.Prelude.{List, [], ◌∷◌, ◌++◌, ℕ, suc, ◌+◌}
use Rattle.spec_graph.specs.Program.{Item, Run, run_lines, item_lines}
use Rattle.spec_graph.specs.Unfolding.{Execution, ItemExecution, Turns}
use Rattle.spec_graph.specs.Unfolding.Execution.{end, step}
use Rattle.spec_graph.specs.Unfolding.ItemExecution.{perform, turns, arm_one, arm_two}
use Rattle.spec_graph.specs.Unfolding.Turns.{stop, turn}

-- U1, U2: a choice: the place of the line that opens the block, and how many turns of a loop, or which arm of a branch, 1 or 2
pub record Choice : Type 0 where
  pub place : ℕ
  pub taken : ℕ

-- U2: how many turns a loop takes
unfoldable pub turns_taken : {r : Run} → Turns r → ℕ
turns_taken stop = 0
turns_taken (turn e ts) = suc (turns_taken ts)

-- U1, U2: the choices of an execution in the order in which it comes to them; `at` is the place of the first line of the run, of the item, of
-- the loop's body
unfoldable mutual
  pub choices : {r : Run} → Execution r → ℕ → List Choice
  choices end at = []
  choices (step {x} e rest) at = item_choices e at ++ choices rest (at + item_lines x)

  pub item_choices : {x : Item} → ItemExecution x → ℕ → List Choice
  item_choices perform at = []
  item_choices (turns ts) at = record { place = at; taken = turns_taken ts } ∷ turn_choices ts (at + 1)
  item_choices (arm_one e) at = record { place = at; taken = 1 } ∷ choices e (at + 1)
  item_choices (arm_two {a} e) at = record { place = at; taken = 2 } ∷ choices e (at + run_lines a + 2)

  pub turn_choices : {r : Run} → Turns r → ℕ → List Choice
  turn_choices stop at = []
  turn_choices (turn e ts) at = choices e at ++ turn_choices ts at
