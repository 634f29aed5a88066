-- The tests of the byte stand in the order of `is_allowed`.
use mathlib.Core.Path.{refl}
use Rattle.spec_text.specs.Reading.{is_allowed}
use Rattle.text_whole.proofs.allowed.Goals as goal

pub returns : goal.returns
unfolding is_allowed
returns c = refl
