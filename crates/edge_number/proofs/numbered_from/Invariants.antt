-- Before edge number i from the slot on is looked for, i more edges stand in the slots below `from` than below the slot.
use Rattle.std.proofs.Common.{◌≡◌, ◌+◌}
use Rattle.edge_count.specs.Slots.{edges_below}
use Rattle.edge_number.proofs.numbered_from.Given as goal

abbrev pub invariant-loop-i : goal.invariant-loop-i
invariant-loop-i l = edges_below l.table l.from ≡ edges_below l.table l.slot + l.i
