-- A line without a size does not fit (step_unfit), a line that fails a test has a fault (step_fault), and any other is taken into the words with
-- its size (step_taken_lem).
use Rattle.std.proofs.Common.{sym}
use Rattle.value_length.specs.Size.{size_said}
use Rattle.value_given.specs.DecideLaws.{step_unfit, step_fault, step_taken_lem}
use Rattle.value_given.proofs.step.Goals as goal

pub returns-in_err-size : goal.returns-in_err-size
unfolding size_said
returns-in_err-size c = rw c.from_residual.ensures (step_unfit _ _ (sym c.in_err-size.ensures))

pub returns-in-Ok : goal.returns-in-Ok
unfolding size_said
returns-in-Ok c = step_taken_lem _ (sym c.in_ok-size.ensures) c.in-Ok.ensures

pub returns-in-Err : goal.returns-in-Err
returns-in-Err c = step_fault _ c.in-Err.ensures
