-- After i turns the first i words are written (fill_turn).
use Rattle.walk_reach.specs.Layers.{FilledBy}
use Rattle.walk_reach.proofs.fill_words.Given as goal

abbrev pub invariant-loop-i : goal.invariant-loop-i
invariant-loop-i g l = FilledBy (goal.F-post g l.word_of) l.i l.initial.words l.words
