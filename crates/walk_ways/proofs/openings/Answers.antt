-- After r turns the first r + 1 words stand (filled_turn) and `nodes` is the last of them (opening_turn).
use native.Mathlib.Omega.{arith}
use mathlib.Core.Path.{refl, ap, ◌∙◌}
use Rattle.walk_ways.specs.Ways.{opening, openings}
use Rattle.walk_reach.specs.Layers.{filled}
use Rattle.walk_reach.specs.FilledLaws.{filled_turn}
use Rattle.walk_ways.specs.TurnLaws.{opening_first, openings_first, opening_turn}
use Rattle.walk_ways.proofs.openings.Goals as goal

pub loop-r-init : goal.loop-r-init
loop-r-init c = (openings_first _ _ _, opening_first _ _ _)

pub loop-r-preserved : goal.loop-r-preserved
loop-r-preserved c =
    let more = opening_turn _ _ _ _ c.loop-r.invariant.1 c.next_opening-nodes.ensures in
    (filled_turn _ _ _ c.loop-r.invariant.0 more refl, more)

pub returns : goal.returns
unfolding openings
returns c = c.loop-r.invariant.0 ∙ ap (filled 66 (opening _ _ _)) (omega arith)
