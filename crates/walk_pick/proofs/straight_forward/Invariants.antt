-- While the run goes on right after a row's words, the words of its next row stand there (run-straight), and the run is kept row by row (run-again).
use mathlib.Core.Path.{◌≡◌}
use Prim.Native.Nat.{◌+◌, ◌-◌, ◌≤◌, ◌<◌}
use lib.ListN.{length, get_or}
use Rattle.walk_pick.specs.Runs.{RunAt, last_mark}
use Rattle.walk_pick.proofs.straight_forward.Given as goal

abbrev pub invariant-loop-straight : goal.invariant-loop-straight
invariant-loop-straight l =
    (l.last + 8 ≤ length l.s.work.now) × (l.straight ≡ get_or l.s.work.now (l.at + 7) 0) × (l.fn.from.at ≤ l.at) × (l.at < 4096)
    × RunAt l.s.table.now l.s.count l.s.row l.j l.at (last_mark l.s.work.now l.last l.edges) 0 l.edges 0

abbrev pub decreases-loop-straight : goal.decreases-loop-straight
decreases-loop-straight l = 4096 - l.at
