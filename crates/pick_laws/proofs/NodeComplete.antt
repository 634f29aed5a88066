-- Where one edge stands for all, a dangerous closed walk of any length passes the test. It rests on `return_tested` (PickLaws of specs/), so it
-- stands here.
use Rattle.std.specs.Prelude.{◌≡◌}
use Rattle.std.proofs.Math.Bool.{true}
use Prim.Native.Nat.{ℕ, ◌≤◌}
use Rattle.spec_graph.specs.Graph.{Graph}
use Rattle.spec_graph.specs.Walk.{DangerousWalk}
use Rattle.law_walk.specs.Reach.{Regular, walk_return}
use Rattle.pick_laws.specs.Pick.{Picks, node_test}
use Rattle.pick_laws.specs.PickLaws.{Picked, return_tested}

module _ {g : Graph} {forwards backs : Picks} where
  -- a dangerous closed walk, of any length, passes the test
  pub node_complete : {n : ℕ} → Regular g → Picked g n forwards backs → g.size ≤ n → DangerousWalk g → node_test forwards backs n ≡ true
  node_complete regular picks small walk = return_tested regular picks small (walk_return walk)
