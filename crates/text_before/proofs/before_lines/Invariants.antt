-- At each place the words hold the lines taken so far, and each line leads to a place further on.
use Rattle.std.proofs.Common.{◌-◌, length}
use Rattle.text_before.specs.TakenLaws.{Taking}
use Rattle.text_before.proofs.before_lines.Given as goal

abbrev pub invariant-loop-at : goal.invariant-loop-at
invariant-loop-at l = Taking l.text l.start l.words l.at

abbrev pub decreases-loop-at : goal.decreases-loop-at
decreases-loop-at l = length l.text - l.at
