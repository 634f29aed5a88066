-- What `take_kind` makes of the words is the state after the line (taken): it asks the line's kind and the fields that are kept.
use Rattle.line_take.specs.TakeLaws.{taken}
use Rattle.line_state.specs.StateSteps.{take_as}
use Rattle.line_take.proofs.take.Goals as goal

pub returns : goal.returns
unfolding take_as
returns c = taken c.take_kind.ensures
