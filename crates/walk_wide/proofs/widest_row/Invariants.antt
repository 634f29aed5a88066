-- After x turns the first x words of the round stand.
use Prim.Native.Nat.{◌+◌, ◌*◌}
use Rattle.walk_reach.specs.Layers.{Written}
use Rattle.walk_wide.specs.Wide.{widest_at}
use Rattle.walk_wide.proofs.widest_row.Given as goal

abbrev pub invariant-loop-x : goal.invariant-loop-x
invariant-loop-x l = Written (widest_at l.forwards l.rows l.s) (l.r * 64) (l.r * 64 + l.x) l.initial.table l.table
