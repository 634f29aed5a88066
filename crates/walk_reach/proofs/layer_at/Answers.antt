-- After k turns the word is layer k (layer_turn); a layer that adds nothing is all that come after it (layer_still).
use native.Mathlib.Omega.{arith}
use Rattle.walk_reach.specs.Layers.{layer}
use Rattle.walk_nodes.specs.NodeWordLaws.{last_turn}
use Rattle.walk_reach.specs.LayerLaws.{layer_turn, layer_still}
use Rattle.walk_reach.proofs.layer_at.Goals as goal

pub loop-k-init : goal.loop-k-init
unfolding layer
loop-k-init c = c.node_word-nodes.ensures

pub returns-then-next-nodes : goal.returns-then-next-nodes
returns-then-next-nodes c = layer_still _ _ _ c.loop-k.invariant c.grow-next.ensures c.if-next-nodes.true _ (omega arith)

pub loop-k-preserved : goal.loop-k-preserved
loop-k-preserved c = layer_turn _ _ _ c.loop-k.invariant c.grow-next.ensures

pub returns : goal.returns
returns c = last_turn (layer _ _) _ _ c.loop-k.invariant (omega arith) (omega arith)
