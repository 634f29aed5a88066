-- After i rows the counts are those of the slots below 1024 i.
use Rattle.std.proofs.Common.{◌≡◌, ◌*◌}
use Rattle.edge_count.specs.Slots.{counts_below}
use Rattle.edge_count.proofs.count_edges.Given as goal

abbrev pub invariant-loop-i : goal.invariant-loop-i
invariant-loop-i l = l.counts ≡ counts_below l.table (l.i * 1024)
