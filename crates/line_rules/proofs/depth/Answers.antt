-- The word read is the depth of the state; where the words hold the lines, it is 0 exactly where no block is open (words-depth).
use mathlib.Core.Path.{refl}
use Rattle.line_rules.specs.WordsHoldLaws.{words_depth}
use Rattle.line_state.specs.StateWords.{state_in}
use Rattle.line_rules.proofs.depth.Goals as goal

pub returns : goal.returns
unfolding state_in
returns c = (refl, words_depth refl)
