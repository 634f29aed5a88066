-- After r turns the first r + 1 words stand (filled_turn) and `nodes` is the last of them (way_turn).
use native.Mathlib.Omega.{arith}
use mathlib.Core.Path.{refl, ap, ◌∙◌}
use Rattle.walk_ways.specs.Ways.{exact_word, ways_to}
use Rattle.walk_reach.specs.Layers.{filled}
use Rattle.walk_reach.specs.FilledLaws.{filled_turn}
use Rattle.walk_ways.specs.TurnLaws.{way_first, ways_first, way_turn}
use Rattle.walk_ways.proofs.ways_to.Goals as goal

pub loop-r-init : goal.loop-r-init
loop-r-init c = (ways_first _ _ c.node_word-nodes.ensures, way_first _ _ c.node_word-nodes.ensures)

pub loop-r-preserved : goal.loop-r-preserved
loop-r-preserved c =
    let more = way_turn _ _ _ c.loop-r.invariant.1 c.nodes_into-nodes.ensures in (filled_turn _ _ _ c.loop-r.invariant.0 more refl, more)

pub returns : goal.returns
unfolding ways_to
returns c = c.loop-r.invariant.0 ∙ ap (filled 65 (exact_word _ _)) (omega arith)
