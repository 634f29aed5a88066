-- Each turn puts the line of the next step (steps_turn), up to the last (steps_end).
use Rattle.report_print.specs.WalkStepLaws.{steps_first, steps_turn, steps_end}
use Rattle.report_print.proofs.Printed.put_steps.Goals as goal

pub loop-k-init : goal.loop-k-init
loop-k-init c = steps_first _ _ _

pub loop-k-preserved : goal.loop-k-preserved
loop-k-preserved c = steps_turn c.loop-k-test.true c.loop-k.invariant c.put_step.ensures

pub returns : goal.returns
returns c = steps_end c.loop-k-test.false c.loop-k.invariant
