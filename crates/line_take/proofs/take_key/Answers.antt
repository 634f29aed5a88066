-- Child and parent are stored at the number of keys so far, and keys and lines go up: the state with one key more (took-key).
use mathlib.Core.Path.{refl}
use Rattle.line_state.specs.StateSteps.{next_of}
use Rattle.line_take.specs.Stores.{store_in, stores_in}
use Rattle.line_take.specs.TakeLaws.{took_key}
use Rattle.line_take.proofs.take_key.Goals as goal

pub returns : goal.returns
unfolding stores_in store_in next_of
returns c = took_key c.args.child c.args.parent refl
