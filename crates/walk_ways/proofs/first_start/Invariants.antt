-- The first node from s on at which a walk can start is the first of all.
use mathlib.Core.Path.{◌≡◌}
use Prim.Native.Nat.{◌-◌}
use Rattle.walk_reach.specs.Search.{first_from}
use Rattle.walk_ways.specs.Ways.{starts_at}
use Rattle.walk_ways.proofs.first_start.Given as goal

abbrev pub invariant-loop-s : goal.invariant-loop-s
invariant-loop-s l = first_from (starts_at l.rows l.leads l.steps) (64 - l.s) l.s ≡ first_from (starts_at l.rows l.leads l.steps) 64 0
