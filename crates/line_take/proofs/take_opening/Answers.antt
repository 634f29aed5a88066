-- A block is pushed at the depth and the place that the words keep, which are those of the state.
use Rattle.line_state.specs.StateWords.{state_in}
use Rattle.line_take.proofs.take_opening.Goals as goal

pub returns : goal.returns
unfolding state_in
returns c = c.push.ensures
