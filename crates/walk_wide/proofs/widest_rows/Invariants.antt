-- After r turns the words of r rounds stand.
use Prim.Native.Nat.{◌*◌}
use Rattle.walk_reach.specs.Layers.{Written}
use Rattle.walk_wide.specs.Wide.{widest_at}
use Rattle.walk_wide.proofs.widest_rows.Given as goal

abbrev pub invariant-loop-r : goal.invariant-loop-r
invariant-loop-r l = Written (widest_at l.forwards l.rows l.s) 0 (l.r * 64) l.initial.table l.table
