-- The measure is three times `left`, one more for a block and two more for a run at a line: a run at a place goes to the line with one less left,
-- the others call with as many.
use Rattle.std.proofs.Common.{◌+◌, ◌*◌}
use Rattle.unfold_count.proofs.+block_by_run_behind_run_by.Given as goal

abbrev pub decreases-block_by : goal.decreases-block_by
decreases-block_by l = 3 * l.left + 1

abbrev pub decreases-run_behind : goal.decreases-run_behind
decreases-run_behind l = 3 * l.left + 2

abbrev pub decreases-run_by : goal.decreases-run_by
decreases-run_by l = 3 * l.left
