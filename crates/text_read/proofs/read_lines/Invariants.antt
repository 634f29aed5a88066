-- The line at each place is the first of those left (line-here): where it is none, or fails a test, reading ends with that refusal; else it is taken
-- and stands in the value, and reading goes on at the place after it (going_next); at the end no block may be open.
use Prim.Native.Nat.{◌-◌}
use lib.ListN.{length}
use Rattle.text_read.specs.Parse.{Going}
use Rattle.text_read.proofs.read_lines.Given as goal

abbrev pub invariant-loop-at : goal.invariant-loop-at
invariant-loop-at l = Going l.text l.start l.w l.words l.at

abbrev pub decreases-loop-at : goal.decreases-loop-at
decreases-loop-at l = length l.text - l.at
