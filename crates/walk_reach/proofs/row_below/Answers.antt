-- After v turns the word has the nodes below v to which an edge goes from u (word_turn); after the last it has all (last_turn).
use native.Mathlib.Omega.{arith}
use mathlib.Core.Path.{refl}
use Rattle.walk_nodes.specs.Nodes.{word_below}
use Rattle.walk_nodes.specs.NodeWordLaws.{with_one, word_turn, last_turn}
use Rattle.walk_reach.proofs.row_below.Goals as goal

pub loop-v-init : goal.loop-v-init
unfolding word_below
loop-v-init c = refl

pub loop-v-preserved : goal.loop-v-preserved
loop-v-preserved c = word_turn _ _ c.loop-v.invariant refl (with_one _ _ _ (omega arith) c.with_node-word.ensures)

pub returns : goal.returns
returns c = last_turn (word_below _) _ _ c.loop-v.invariant (omega arith) (omega arith)
