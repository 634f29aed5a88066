-- After u turns `least` is the fewest steps for the nodes below u.
use mathlib.Core.Path.{◌≡◌}
use Prim.Native.Nat.{◌≤◌}
use Rattle.walk_return.specs.Returns.{return_from}
use Rattle.pick_laws.specs.Completing.{least_below}
use Rattle.walk_return.proofs.shortest_return.Given as goal

abbrev pub invariant-loop-u : goal.invariant-loop-u
invariant-loop-u l = (l.least ≡ least_below (return_from l.rows l.leads) 64 l.u) × (l.least ≤ 64)
