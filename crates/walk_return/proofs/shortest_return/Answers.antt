-- After u turns `least` is the fewest steps for the nodes below u (return_turn); past the nodes for which one stands there are none (return_end).
use native.Mathlib.Omega.{arith}
use mathlib.Core.Path.{refl}
use Rattle.walk_return.specs.MeetingLaws.{return_turn, return_end}
use Rattle.pick_laws.specs.Completing.{least_below}
use Rattle.walk_return.proofs.shortest_return.Goals as goal

pub loop-u-init : goal.loop-u-init
unfolding least_below
loop-u-init c = (refl, omega arith)

pub loop-u-preserved : goal.loop-u-preserved
loop-u-preserved c =
    let t = c.return_from-least.ensures in (return_turn _ _ _ c.loop-u.invariant.0 t.0, t.1)

pub returns : goal.returns
returns c = return_end _ _ c.capped-u-end.ensures c.loop-u.invariant.0 (omega arith) (omega arith)
