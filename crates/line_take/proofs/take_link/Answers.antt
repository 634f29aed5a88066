-- Links and lines go up: the state with one link more (took-link).
use mathlib.Core.Path.{refl}
use Rattle.line_state.specs.StateSteps.{next_of}
use Rattle.line_take.specs.Stores.{store_in, stores_in}
use Rattle.line_take.specs.TakeLaws.{took_link}
use Rattle.line_take.proofs.take_link.Goals as goal

pub returns : goal.returns
unfolding stores_in store_in next_of
returns c = took_link refl
