-- There is none without a row (leaving_past). After y turns the number is the least of the first y (leaving_turn); after 64, or past the last of the
-- nodes (leaving_none), it is the first place.
use native.Mathlib.Omega.{arith}
use mathlib.Core.Path.{refl}
use borrow.Author.Rules.{rules}
use Rattle.pick_laws.specs.Completing.{least_below}
use Rattle.walk_need.specs.NeedTurns.{leaving_past, leaving_none, leaving_turn}
use Rattle.walk_need.specs.Needs.{leaves_for, first_leaving}
use Rattle.walk_nodes.specs.NodeWordLaws.{last_turn}
use Rattle.walk_need.proofs.first_leaving.Goals as goal

pub returns-then-backs-x : goal.returns-then-backs-x
returns-then-backs-x c = (leaving_past _ _ _ c.if-backs-x.true, omega arith)

pub loop-y-init : goal.loop-y-init
unfolding least_below
loop-y-init c = (refl, omega arith)

pub returns-then-nodes-y-eq0 : goal.returns-then-nodes-y-eq0
returns-then-nodes-y-eq0 c =
    let inv = c.loop-y.invariant in
    (leaving_none _ _ _ _ (omega arith) c.if-nodes-y-eq0.true inv.0, inv.1)

pub loop-y-preserved : goal.loop-y-preserved
loop-y-preserved c =
    let l = c.leaves_for.ensures in
    (leaving_turn _ _ _ _ c.loop-y.invariant.0 l.0 (search rules), omega arith)

pub returns : goal.returns
unfolding first_leaving
returns c =
    let inv = c.loop-y.invariant in
    (last_turn (least_below (leaves_for _ _ _) 1024) 64 _ inv.0 (omega arith) (omega arith), inv.1)
