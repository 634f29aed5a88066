-- The words are the counts of the state, and the cell is the whole set of the statement's relation: so `first_fault` is given the tests that
-- `check_as` lists for a statement.
use Rattle.line_state.specs.StateSteps.{room_of, ordered_of, named_as, sets_fit_as, is_link_of}
use Rattle.line_state.specs.StateWords.{state_in}
use Rattle.line_check.proofs.check_statement.Goals as goal

pub returns : goal.returns
unfolding state_in room_of ordered_of named_as sets_fit_as is_link_of
returns c = rw (
  c.first_fault.ensures,
  c.sets_fit.ensures,
  c.in_body.ensures,
  c.cell-whole.ensures,
)
