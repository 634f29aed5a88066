-- A node has its row, and what is no node none.
use native.Mathlib.Omega.{arith}
use mathlib.Core.Path.{refl}
use Prim.Native.Nat.{◌≤◌, ◌<◌}
use borrow.Author.Tests.{lt-ltb, le-ltb}
use Rattle.walk_reach.proofs.node_row.Goals as goal

pub returns-then-u-lt-NODES : goal.returns-then-u-lt-NODES
returns-then-u-lt-NODES c =
    let there : c.args.u < 64 = let h = c.if-u-lt-NODES.true in omega arith in
    rw (lt-ltb _ _ there) c.joined_row.ensures

pub returns : goal.returns
returns c = let past : 64 ≤ c.args.u = omega arith in rw (le-ltb _ _ past) refl
