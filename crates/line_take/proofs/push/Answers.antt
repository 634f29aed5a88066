-- The three sets of places are made, a row is stored one depth further, body and lines go up, and the depth is stored: what one block more
-- makes of the state (took-push).
use mathlib.Core.Path.{refl}
use Rattle.line_state.specs.StateSteps.{next_of}
use Rattle.line_take.specs.Stores.{store_in, stores_in}
use Rattle.line_take.specs.TakeLaws.{took_push}
use Rattle.line_take.proofs.push.Goals as goal

pub returns : goal.returns
unfolding stores_in store_in next_of
returns c =
    took_push c.args.below c.args.place c.args.part
    c.mark.ensures
    c.mark-2.ensures c.mark-3.ensures refl
