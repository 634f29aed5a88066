-- No layer has one of no nodes (meeting_nothing). Else the first layer from d on that has one is the first of all: one that has none keeps this
-- (meeting_turn), one that has one ends it (meeting_stop), and so does one after which nothing is added (meeting_still).
use native.Mathlib.Omega.{arith}
use mathlib.Core.Path.{refl}
use Rattle.walk_return.specs.MeetingLaws.{meeting_nothing, meeting_stop, meeting_turn, meeting_end, meeting_still}
use Rattle.walk_reach.specs.Layers.{layer}
use Rattle.walk_reach.specs.LayerLaws.{layer_turn}
use Rattle.walk_return.proofs.return_from.Goals as goal

pub returns-then-nodes-eq0 : goal.returns-then-nodes-eq0
returns-then-nodes-eq0 c = (meeting_nothing _ _ _ _ c.requires c.if-nodes-eq0.true, c.requires)

pub loop-d-init : goal.loop-d-init
unfolding layer
loop-d-init c = (c.node_word-layer.ensures, refl)

pub returns-then-nodes-layer-ne0 : goal.returns-then-nodes-layer-ne0
returns-then-nodes-layer-ne0 c =
    let inv = c.loop-d.invariant in
    (meeting_stop _ _ _ _ inv.1 _ c.requires inv.0 (omega arith) c.if-nodes-layer-ne0.true, omega arith)

pub returns-then-next-layer : goal.returns-then-next-layer
returns-then-next-layer c =
    let inv = c.loop-d.invariant in
    (meeting_still _ _ _ _ inv.1 _ c.requires inv.0 c.grow-next.ensures c.if-next-layer.true c.if-nodes-layer-ne0.false, c.requires)

pub loop-d-preserved : goal.loop-d-preserved
loop-d-preserved c =
    let inv = c.loop-d.invariant in (
      layer_turn _ _ _ inv.0 c.grow-next.ensures,
      meeting_turn _ _ _ _ inv.1 _ c.requires inv.0 (omega arith) c.if-nodes-layer-ne0.false,
    )

pub returns : goal.returns
returns c = (meeting_end _ _ _ _ c.loop-d.invariant.1 _ c.requires (omega arith) (omega arith), c.requires)
