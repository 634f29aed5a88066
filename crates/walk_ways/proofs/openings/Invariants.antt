-- After r turns the first r + 1 words stand and `nodes` is the last of them.
use mathlib.Core.Path.{◌≡◌}
use Prim.Native.Nat.{◌+◌}
use Rattle.walk_ways.specs.Ways.{opening}
use Rattle.walk_reach.specs.Layers.{filled}
use Rattle.walk_ways.proofs.openings.Given as goal

abbrev pub invariant-loop-r : goal.invariant-loop-r
invariant-loop-r l = (l.words ≡ filled 66 (opening l.rows l.leads l.ways) (l.r + 1)) × (l.nodes ≡ opening l.rows l.leads l.ways l.r)
