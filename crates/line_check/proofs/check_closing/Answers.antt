-- The words are the counts of the state, and an `en` is in order in a body whose innermost block is a loop or a second arm: so `first_fault`
-- is given the tests that `check_as` lists for `en`.
use Rattle.line_state.specs.StateSteps.{room_of, ordered_of, named_as, sets_fit_as, is_link_of}
use Rattle.line_state.specs.StateWords.{state_in}
use Rattle.line_check.proofs.check_closing.Goals as goal

pub returns : goal.returns
unfolding state_in room_of ordered_of named_as sets_fit_as is_link_of
returns c = λ l. rw (
  c.first_fault.ensures,
  c.innermost-2.ensures,
  c.innermost.ensures,
  c.in_body.ensures,
)
