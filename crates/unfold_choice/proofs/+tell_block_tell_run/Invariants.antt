-- The measure is twice `left`, and one more for a block.
use Rattle.std.proofs.Common.{◌+◌}
use Rattle.unfold_choice.proofs.+tell_block_tell_run.Given as goal

abbrev pub decreases-tell_block : goal.decreases-tell_block
decreases-tell_block l = l.left + l.left + 1

abbrev pub decreases-tell_run : goal.decreases-tell_run
decreases-tell_run l = l.left + l.left
