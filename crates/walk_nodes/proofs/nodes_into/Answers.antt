-- After x turns the word has the nodes below x whose row has one (word_turn); past the rows none has (into_end).
use native.Mathlib.Omega.{arith}
use mathlib.Core.Path.{refl}
use Rattle.walk_nodes.specs.Nodes.{word_below, enters_at}
use Rattle.walk_nodes.specs.NodeWordLaws.{with_one, word_turn, into_end}
use Rattle.walk_nodes.proofs.nodes_into.Goals as goal

pub loop-x-init : goal.loop-x-init
unfolding word_below
loop-x-init c = refl

pub loop-x-preserved : goal.loop-x-preserved
unfolding enters_at
loop-x-preserved c =
    let few = c.capped-x-end.ensures in
    word_turn _ _ c.loop-x.invariant refl (with_one _ _ _ (omega arith) c.with_node-word.ensures)

pub returns : goal.returns
returns c = into_end _ _ c.capped-x-end.ensures c.loop-x.invariant (omega arith) (omega arith)
