-- The first edge from slot x on is the first from `from` on: where `look_at` finds none it names a later slot with the same first edge. Past the
-- last slot there is none (edge_none).
use mathlib.Core.Path.{◌≡◌, refl, sym, ◌∙◌}
use Prim.Native.Nat.{◌-◌}
use native.Mathlib.Omega.{arith}
use Rattle.edge_find.specs.Search.{edge_from}
use Rattle.edge_count.specs.SlotLaws.{rows_few}
use Rattle.edge_find.specs.SearchLaws.{edge_none}
use borrow.Author.Rules.{rules}
use Rattle.edge_find.proofs.edge_from.Goals as goal

pub loop-x-init : goal.loop-x-init
loop-x-init c = refl

pub returns-then-is_found : goal.returns-then-is_found
returns-then-is_found c =
    c.look_at-step.ensures.here (sym c.is_found.ensures ∙ c.if-is_found.true) ∙ c.loop-x.invariant

pub loop-x-smaller : goal.loop-x-smaller
loop-x-smaller c =
    let h = (c.look_at-step.ensures.later (sym c.is_found.ensures ∙ c.if-is_found.false)).0 in
    let l = c.loop-x-test.true in
    omega arith

pub loop-x-preserved : goal.loop-x-preserved
loop-x-preserved c =
    (c.look_at-step.ensures.later (sym c.is_found.ensures ∙ c.if-is_found.false)).1 ∙ c.loop-x.invariant

pub overflow_mul-n : goal.overflow_mul-n
overflow_mul-n c = let h = rows_few _ _ c.row_count-n.ensures in record { fits = omega arith }

pub returns : goal.returns
returns c =
    edge_none _ _ _ _ c.row_count-n.ensures c.loop-x-test.false c.nothing_to.ensures ∙ c.loop-x.invariant
