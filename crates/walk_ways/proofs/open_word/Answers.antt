-- After r turns the words are those of r steps (open_start, open_turn).
use native.Mathlib.Omega.{arith}
use Rattle.walk_ways.specs.TurnLaws.{open_start, open_turn}
use Rattle.walk_ways.specs.Ways.{opening}
use Rattle.walk_nodes.specs.NodeWordLaws.{last_turn}
use Rattle.walk_ways.proofs.open_word.Goals as goal

pub loop-r-init : goal.loop-r-init
loop-r-init c = open_start _ _ _ _ c.requires.0 c.node_word-way.ensures

pub loop-r-preserved : goal.loop-r-preserved
loop-r-preserved c =
    let inv = c.loop-r.invariant in
    open_turn _ _ _ _ _ (omega arith) (omega arith) c.requires.1 inv.0 inv.1 c.nodes_into.ensures c.nodes_into-in-loop-r.ensures
    c.nodes_into-way.ensures

pub returns : goal.returns
returns c = last_turn (opening _ _ _) _ _ c.loop-r.invariant.0 (omega arith) (omega arith)
