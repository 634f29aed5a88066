-- Before row i is counted, the edges that stand in the slots of the rows before and the numbers that are left make k.
use Rattle.std.proofs.Common.{◌≡◌, ◌+◌, ◌*◌}
use Rattle.edge_count.specs.Slots.{edges_below}
use Rattle.edge_number.proofs.edge_of_number.Given as goal

abbrev pub invariant-loop-i : goal.invariant-loop-i
invariant-loop-i l = edges_below l.table (l.i * 1024) + l.left ≡ l.k
