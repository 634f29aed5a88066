-- The set is stored at the number of relations so far, and relations and lines go up: the state with one relation more (took-relation).
use mathlib.Core.Path.{refl}
use Rattle.line_state.specs.StateSteps.{next_of}
use Rattle.line_take.specs.Stores.{store_in, stores_in}
use Rattle.line_take.specs.TakeLaws.{took_relation}
use Rattle.line_take.proofs.take_relation.Goals as goal

pub returns : goal.returns
unfolding stores_in store_in next_of
returns c = took_relation c.args.reads refl
