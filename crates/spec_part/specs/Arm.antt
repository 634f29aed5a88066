-- A graph without an arm: every unfolding that takes it is taken out (Req 06). Believed.
use Rattle.std.specs.Prelude.{Bool, false, not, ◌&&◌, ◌||◌, List, [], ◌∷◌, ◌++◌, map, ℕ, suc, ◌+◌, eqb}
use Rattle.spec_base.specs.Basic.{any, keep}
use Rattle.spec_text.specs.declared.Line.{Line}
use Rattle.spec_text.specs.Reading.{Block, same_block, first_arm, second_arm}
use Rattle.spec_graph.specs.Graph.{Graph}
use Rattle.spec_graph.specs.Program.{Item, Run, Program, run_lines, item_lines, programs_of}
use Rattle.spec_graph.specs.Unfolding.{Execution, ItemExecution, Turns, Node, occurrences, unfoldings}
use Rattle.spec_graph.specs.Unfolding.Execution.{end, step}
use Rattle.spec_graph.specs.Unfolding.ItemExecution.{perform, turns, arm_one, arm_two}
use Rattle.spec_graph.specs.Unfolding.Turns.{stop, turn}
use Rattle.spec_graph.specs.Edge.{graph_of}

-- Req 06: an execution takes an arm in at least one turn. The arm is named by where it stands (T8): the place in the program of the line that opens
-- the branch, and which arm of it. `at` is the place of the first line of the run, of the item, of the loop's body
unfoldable mutual
  pub takes : {r : Run} → Execution r → ℕ → Block → Bool
  takes end at arm = false
  takes (step {x} e rest) at arm = item_takes e at arm || takes rest (at + item_lines x) arm

  pub item_takes : {x : Item} → ItemExecution x → ℕ → Block → Bool
  item_takes perform at arm = false
  item_takes (turns ts) at arm = turns_take ts (at + 1) arm
  item_takes (arm_one e) at arm = same_block arm (record { place = at; part = first_arm }) || takes e (at + 1) arm
  item_takes (arm_two {a} e) at arm = same_block arm (record { place = at; part = second_arm }) || takes e (at + run_lines a + 2) arm

  pub turns_take : {r : Run} → Turns r → ℕ → Block → Bool
  turns_take stop at arm = false
  turns_take (turn e ts) at arm = takes e at arm || turns_take ts at arm

-- U4: an unfolding of a program, with the program and its number
pub record Unfolding : Type 0 where
  pub number : ℕ
  pub program : Program
  pub execution : Execution program.body

-- U4: its node
unfoldable pub node_of : Unfolding → Node
node_of u = record { program = u.number; links = u.program.links; places = occurrences u.execution 0 }

-- U4: the unfoldings of programs in their order, the first program having this number
unfoldable pub unfoldings_from : ℕ → List Program → List Unfolding
unfoldings_from number [] = []
unfoldings_from number (p ∷ programs) =
    map (λ e. record { number = number; program = p; execution = e }) (unfoldings p.body) ++ unfoldings_from (suc number) programs

-- Req 06: an arm of a branch of a program
pub record Arm : Type 0 where
  pub program : ℕ
  pub block : Block

-- Req 06: the unfolding is one of the arm's program and takes the arm
unfoldable pub takes_arm : Arm → Unfolding → Bool
takes_arm arm u = eqb arm.program u.number && takes u.execution 0 arm.block

-- Req 06: the nodes without every unfolding that takes one of these arms, taken out one after the other, and the graph of them
unfoldable pub nodes_without : List Arm → List Line → List Node
nodes_without arms lines = map node_of (keep (λ u. not (any (λ arm. takes_arm arm u) arms)) (unfoldings_from 0 (programs_of lines)))

unfoldable pub graph_without : List Arm → List Line → Graph
graph_without arms lines = graph_of (nodes_without arms lines)
