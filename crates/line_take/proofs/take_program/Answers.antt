-- The counts of the program at hand are set to 0, and programs and lines go up: the state of a new program (took-program).
use mathlib.Core.Path.{refl}
use Rattle.line_state.specs.StateSteps.{next_of}
use Rattle.line_take.specs.Stores.{store_in, stores_in}
use Rattle.line_take.specs.TakeLaws.{took_program}
use Rattle.line_take.proofs.take_program.Goals as goal

pub returns : goal.returns
unfolding stores_in store_in next_of
returns c = took_program refl
