-- After y turns the number is the least of the first y (leaving_turn); after 64, or past the last of the nodes (leaving_none), it is the first place.
use mathlib.Core.Path.{◌≡◌}
use Prim.Native.Nat.{◌≤◌}
use Rattle.pick_laws.specs.Completing.{least_below}
use Rattle.walk_need.specs.Needs.{leaves_for}
use Rattle.walk_need.proofs.first_leaving.Given as goal

abbrev pub invariant-loop-y : goal.invariant-loop-y
invariant-loop-y l = (l.best ≡ least_below (leaves_for l.backs l.nodes l.x) 1024 l.y) × (l.best ≤ 1024)
