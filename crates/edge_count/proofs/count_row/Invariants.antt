-- After j rows the edges into these are counted.
use Rattle.edge_count.specs.Slots.{LeavingTo}
use Rattle.edge_count.proofs.count_row.Given as goal

abbrev pub invariant-loop-j : goal.invariant-loop-j
invariant-loop-j l = LeavingTo l.table l.i l.j l.counts
