-- After the words below i the joined word is 0 only where they all are (blank_turn).
use mathlib.Core.Path.{◌≡◌}
use Rattle.walk_reach.specs.Layers.{Blank}
use Rattle.walk_reach.proofs.words_joined.Given as goal

abbrev pub invariant-loop-i : goal.invariant-loop-i
invariant-loop-i l = l.all ≡ 0 → Blank l.table l.from l.i
