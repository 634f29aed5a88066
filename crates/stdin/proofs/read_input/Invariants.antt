-- As long as every answer was more than 0 there are more bytes each time (`Going`).
use Rattle.std.proofs.Common.{length, ◌≡◌, ◌-◌}
use Rattle.stdin.specs.EndsLaws.{Going}
use Rattle.stdin.proofs.read_input.Given as goal

abbrev pub invariant-loop-area : goal.invariant-loop-area
invariant-loop-area l = (length l.area ≡ length l.initial.area) × Going (length l.area) l.received

abbrev pub decreases-loop-area : goal.decreases-loop-area
decreases-loop-area l = length l.area - l.received.count
