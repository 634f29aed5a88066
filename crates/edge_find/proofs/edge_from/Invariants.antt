-- The first edge from slot x on is the first from `from` on: where `look_at` finds none it names a later slot with the same first edge. Past the
-- last slot there is none (edge_none).
use mathlib.Core.Path.{◌≡◌, refl, sym, ◌∙◌}
use Prim.Native.Nat.{◌-◌}
use native.Mathlib.Omega.{arith}
use Rattle.edge_find.specs.Search.{edge_from}
use Rattle.edge_count.specs.SlotLaws.{rows_few}
use Rattle.edge_find.specs.SearchLaws.{edge_none}
use borrow.Author.Rules.{rules}
use Rattle.edge_find.proofs.edge_from.Given as goal

abbrev pub invariant-loop-x : goal.invariant-loop-x
invariant-loop-x l = edge_from l.table l.x ≡ edge_from l.table l.from

abbrev pub decreases-loop-x : goal.decreases-loop-x
decreases-loop-x l = 524288 - l.x
