-- Each word read is a count of the state; where the words hold lines these are the counts of the lines (held-counts).
use mathlib.Core.Path.{refl}
use Rattle.line_state.specs.StateWords.{state_in}
use Rattle.text_before.specs.TakenLaws.{held_counts}
use Rattle.text_before.proofs.counted.Goals as goal

pub returns : goal.returns
unfolding state_in
returns c = λ lines h. held_counts lines h _ refl refl refl refl refl refl refl refl
