-- The words are the counts of the state, and `link_fits` is the test of links: so `first_fault` is given the tests that `check_as` lists for a link.
use Rattle.line_state.specs.StateSteps.{room_of, ordered_of, named_as, sets_fit_as, is_link_of}
use Rattle.line_state.specs.StateWords.{state_in}
use Rattle.line_check.proofs.check_link.Goals as goal

pub returns : goal.returns
unfolding state_in room_of ordered_of named_as sets_fit_as is_link_of
returns c = rw (c.first_fault.ensures, c.link_fits.ensures)
