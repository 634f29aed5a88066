-- The chains of the rows from j on stand; each turn puts one row before the first of its chain (chained_more). Past the words that are lent nothing is
-- put (set_past).
use Rattle.std.proofs.Common.{◌≡◌, ◌∙◌, ◌+◌, ◌-◌, ◌*◌, ◌%◌, arith, get_or, refl}
use Rattle.std.proofs.Math.ListN.{set}
use Rattle.place_row.specs.RowTable.{row_at, row_count}
use Rattle.place_next.specs.ChainLaws.{rows_most, set_past, chained_none, chained_more}
use Rattle.place_next.proofs.chain_rows.Goals as goal
use Rattle.place_next.proofs.chain_rows.Goals.{then-j-next, else-j-next}

pub loop-j-init : goal.loop-j-init
loop-j-init c = chained_none _ _ _ c.row_count-n.ensures

pub overflow_mul-c : goal.overflow_mul-c
overflow_mul-c c = let few = rows_most _ c.row_count-n.ensures in record { fits = omega arith }

pub overflow_add-c : goal.overflow_add-c
overflow_add-c c = let few = rows_most _ c.row_count-n.ensures in record { fits = omega arith }

pub offset_bounds-table-j : goal.offset_bounds-table-j
offset_bounds-table-j c = let few = rows_most _ c.row_count-n.ensures in record { fits = omega arith }

pub bounds-table-j : goal.bounds-table-j
unfolding row_count
bounds-table-j c = let rows = c.row_count-n.ensures in omega arith

pub loop-j-preserved : goal.loop-j-preserved
unfolding row_at
loop-j-preserved c =
    let rows = c.row_count-n.ensures in
    let put : c.if-j-next.next
    ≡ set c.loop-j.next (c.loop-j.j - 1) (get_or c.loop-j.heads (get_or c.args.table.now ((c.loop-j.j - 1) * 8 + 3) 0 % 64) 0) =
    elim c.if-j-next.branch [ then-j-next w ↦ w.next-is | else-j-next w ↦ w.next-is ∙ set_past _ _ _ w.if-j-next.false ] in
    chained_more _ _ _ _ _ _ (omega arith) refl (omega arith) put c.loop-j.invariant
