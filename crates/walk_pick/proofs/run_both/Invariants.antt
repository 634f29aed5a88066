-- At each row of the run the words tell whether a forward and whether a back edge stands (told-forward, told_back), and so the run is kept row by
-- row (run-again).
use Prim.Native.Nat.{◌+◌, ◌-◌, ◌≤◌}
use lib.ListN.{length}
use Rattle.walk_pick.specs.Runs.{RunAt, last_mark}
use Rattle.walk_pick.proofs.run_both.Given as goal

abbrev pub invariant-loop-at : goal.invariant-loop-at
invariant-loop-at l =
    (l.last + 8 ≤ length l.s.work.now) × (l.last_back + 8 ≤ length l.s.work.now)
    × RunAt l.s.table.now l.s.count l.s.row l.j l.at (last_mark l.s.work.now l.last l.edges) (last_mark l.s.work.now l.last_back l.turned)
    l.edges l.turned

abbrev pub decreases-loop-at : goal.decreases-loop-at
decreases-loop-at l = 8192 - l.at
