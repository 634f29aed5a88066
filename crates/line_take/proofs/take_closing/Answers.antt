-- Body and lines go up, and the depth becomes one less: the state with the innermost block closed (took-closing).
use mathlib.Core.Path.{refl}
use Rattle.line_state.specs.StateSteps.{next_of}
use Rattle.line_take.specs.Stores.{store_in, stores_in}
use Rattle.line_take.specs.TakeLaws.{took_closing}
use Rattle.line_take.proofs.take_closing.Goals as goal

pub returns : goal.returns
unfolding stores_in store_in next_of
returns c = took_closing c.saturating_sub-below.ensures refl
