-- The rows that stand right one after the other are met (straight_forward), then the last of these: the words tell whether a forward edge stands
-- (told-forward), no back edge does (told-never), and so the run is kept row by row (run-again).
use Prim.Native.Nat.{◌+◌, ◌-◌, ◌≤◌}
use lib.ListN.{length}
use Rattle.walk_pick.specs.Runs.{RunAt, last_mark}
use Rattle.walk_pick.proofs.run_forward.Given as goal

abbrev pub invariant-loop-at : goal.invariant-loop-at
invariant-loop-at l =
    (l.last + 8 ≤ length l.s.work.now) × RunAt l.s.table.now l.s.count l.s.row l.j l.at (last_mark l.s.work.now l.last l.edges) 0 l.edges 0

abbrev pub decreases-loop-at : goal.decreases-loop-at
decreases-loop-at l = 8192 - l.at
