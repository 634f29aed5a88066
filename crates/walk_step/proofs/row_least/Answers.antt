-- After j rows the least is that of the best word and the steps to each of them (row-turn).
use mathlib.Core.Path.{refl}
use native.Mathlib.Omega.{arith}
use Rattle.walk_step.specs.StepTurnLaws.{row_first, row_turn, row_read}
use Rattle.walk_step.proofs.row_least.Goals as goal

pub loop-j-init : goal.loop-j-init
loop-j-init c = (c.requires, row_first _ _ _ _ _)

pub with_row-least-requires : goal.with_row-least-requires
with_row-least-requires c = c.loop-j.invariant.0

pub loop-j-preserved : goal.loop-j-preserved
loop-j-preserved c =
    let e = c.with_row-least.ensures in
    let h = c.loop-j.invariant in
    (omega (arith, e, h.0), row_turn _ _ _ _ _ _ refl h.1 e)

pub returns : goal.returns
returns c = row_read _ _ _ _ _ c.loop-j.auto.j-end c.loop-j-test.false c.loop-j.invariant.1
