-- The bytes that are there lie within the area, and each read that goes on brings one more.
use Rattle.std.proofs.Common.{length, ◌-◌, ◌≤◌}
use Rattle.console.proofs.read_full.Given as goal

abbrev pub invariant-loop-n : goal.invariant-loop-n
invariant-loop-n g l = l.n ≤ length l.area

abbrev pub decreases-loop-n : goal.decreases-loop-n
decreases-loop-n g l = length l.area - l.n
