-- A back edge that is to come is the next. Else each step passes over slots in which no edge stands (onward-step), until one finds an edge
-- (onward-found) or all rows are left (onward-end).
use Prim.Native.Nat.{◌+◌, ◌-◌, ◌*◌}
use Rattle.edge_put.specs.CursorLaws.{Onward}
use Rattle.edge_put.proofs.next_edge.Given as goal

abbrev pub invariant-loop-d : goal.invariant-loop-d
invariant-loop-d l = Onward l.table l.initial.d l.d

abbrev pub decreases-loop-d : goal.decreases-loop-d
decreases-loop-d l = 600000 - (l.d.i * 1024 + l.d.j)
