-- The first layer from d on that has one of the nodes is the first of all.
use mathlib.Core.Path.{◌≡◌}
use Prim.Native.Nat.{◌-◌}
use Rattle.walk_return.specs.Returns.{meets_at}
use Rattle.walk_reach.specs.Layers.{layer}
use Rattle.walk_reach.specs.Search.{first_from}
use Rattle.walk_return.proofs.return_from.Given as goal

abbrev pub invariant-loop-d : goal.invariant-loop-d
invariant-loop-d l =
    (l.layer ≡ layer l.rows l.u l.d)
    × (first_from (meets_at l.rows l.nodes l.u) (64 - l.d) l.d ≡ first_from (meets_at l.rows l.nodes l.u) 64 0)
