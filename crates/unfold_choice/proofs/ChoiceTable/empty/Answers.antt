-- No word and cells of zeros are the table of no words, by computation.
use Rattle.unfold_choice.specs.ChoiceTable.{table_of}
use Rattle.unfold.specs.UnfoldTold.{cells}
use mathlib.Core.Path.{refl}
use Rattle.unfold_choice.proofs.ChoiceTable.empty.Goals as goal

pub returns : goal.returns
unfolding table_of cells
returns c = refl
