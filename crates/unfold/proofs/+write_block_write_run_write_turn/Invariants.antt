-- A run lays a stretch of statements and the block after it, turn after turn (`Running`). The measure is three times `left`, one more for a turn, and
-- two more for a block.
use Prim.Native.Nat.{◌+◌, ◌≤◌, ◌<◌}
use Rattle.unfold_laws.specs.Writing.{write_at}
use Rattle.unfold.specs.LineWords.{codes_in, words_in, marks_in}
use Rattle.unfold.proofs.StretchLaws.{Running}
use Rattle.unfold.proofs.+write_block_write_run_write_turn.Given as goal

abbrev pub decreases-write_block : goal.decreases-write_block
decreases-write_block l = l.left + l.left + l.left + 2

abbrev pub decreases-write_run : goal.decreases-write_run
decreases-write_run l = l.left + l.left + l.left

abbrev pub decreases-write_turn : goal.decreases-write_turn
decreases-write_turn l = l.left + l.left + l.left + 1

abbrev pub invariant-write_run-loop-m : goal.invariant-write_run-loop-m
invariant-write_run-loop-m l =
    (l.rest ≤ l.left)
    × (l.here < 18446744073709551616)
    × Running (codes_in l.source) (words_in l.source) (marks_in l.source) l.source.counts.now
    (write_at l.left (codes_in l.source) (words_in l.source) (marks_in l.source) l.seen l.at l.k) l.fn.out l.out l.m l.here l.sees l.rest l.number

abbrev pub decreases-write_run-loop-m : goal.decreases-write_run-loop-m
decreases-write_run-loop-m l = l.rest
