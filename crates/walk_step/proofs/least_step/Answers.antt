-- After i rows the best word is the least of the steps from each of them (rows-turn); after the last row this is `least_step` (all-least).
use mathlib.Core.Path.{refl}
use native.Mathlib.Omega.{arith}
use Rattle.walk_step.specs.StepTurnLaws.{rows_first, rows_turn, from_most, all_least}
use Rattle.walk_step.proofs.least_step.Goals as goal

pub loop-i-init : goal.loop-i-init
loop-i-init c = (omega arith, rows_first _ _ _ _ _)

pub from_place-best-requires : goal.from_place-best-requires
from_place-best-requires c = c.loop-i.invariant.0

pub loop-i-preserved : goal.loop-i-preserved
loop-i-preserved c =
    let e = c.from_place-best.ensures in
    let h = c.loop-i.invariant in
    let l = from_most _ _ _ _ _ _ _ e in
    (omega (arith, l, h.0), rows_turn _ _ _ _ _ _ refl h.1 e)

pub returns : goal.returns
returns c =
    all_least _ _ _ _ _ _ c.row_count-count.ensures c.loop-i.auto.i-end c.loop-i-test.false c.loop-i.invariant.1
