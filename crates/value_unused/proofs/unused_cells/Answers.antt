-- The cells are 1616 of the line that is made, which is the unused line.
use mathlib.Core.Path.{refl}
use Rattle.spec_text.specs.Text.{unused_line}
use Rattle.value_unused.proofs.unused_cells.Goals as goal

pub returns : goal.returns
unfolding unused_line
returns c = refl
