-- The words are the counts of the state, and room and order ask the same of a loop and of a branch: so `first_fault` gives the number of
-- either kind.
use Rattle.line_state.specs.StateSteps.{room_of, ordered_of, named_as, sets_fit_as, is_link_of}
use Rattle.line_state.specs.StateWords.{state_in}
use Rattle.line_check.proofs.check_opening.Goals as goal

pub returns : goal.returns
unfolding state_in room_of ordered_of named_as sets_fit_as is_link_of
returns c = λ l.
    let same = rw c.in_body.ensures at c.first_fault.ensures in
    (same, same)
