-- From the first row of the chain on run after run is kept (row-run); past the last one that is the whole row (row_read).
use Prim.Native.Nat.{◌-◌}
use Rattle.walk_pick.specs.Leavings.{ChainAt}
use Rattle.walk_pick.proofs.pick_chain.Given as goal

abbrev pub invariant-loop-j : goal.invariant-loop-j
invariant-loop-j l = ChainAt l.s l.limit l.j l.initial.forwards l.initial.backs l.forwards l.backs l.edges l.back

abbrev pub decreases-loop-j : goal.decreases-loop-j
decreases-loop-j l = l.s.count - l.j
