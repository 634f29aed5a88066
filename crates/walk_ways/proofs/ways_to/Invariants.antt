-- After r turns the first r + 1 words stand and `nodes` is the last of them.
use mathlib.Core.Path.{◌≡◌}
use Prim.Native.Nat.{◌+◌}
use Rattle.walk_ways.specs.Ways.{exact_word}
use Rattle.walk_reach.specs.Layers.{filled}
use Rattle.walk_ways.proofs.ways_to.Given as goal

abbrev pub invariant-loop-r : goal.invariant-loop-r
invariant-loop-r l = (l.ways ≡ filled 65 (exact_word l.rows l.s) (l.r + 1)) × (l.nodes ≡ exact_word l.rows l.s l.r)
