-- Rows whose edges all have lower numbers are passed over (row_passed), and in another row the number that is left is the edge's from the row's first
-- slot on. Where all rows are passed over there are no more edges than k (rows_passed).
use Rattle.std.proofs.Common.{◌≡◌, ◌∙◌, ap, arith}
use Rattle.std.proofs.Math.ListN.{get_elem?}
use Rattle.edge_record.specs.Coded.{found_as}
use Rattle.edge_count.specs.Slots.{table_edges}
use Rattle.edge_count.specs.SlotLaws.{rows_few}
use Rattle.edge_number.specs.NumberLaws.{ahead_first, row_passed, rows_passed}
use Rattle.edge_number.proofs.edge_of_number.Goals as goal

pub loop-i-init : goal.loop-i-init
loop-i-init c = let none = ahead_first c.args.table.now in omega arith

pub overflow_mul-i : goal.overflow_mul-i
overflow_mul-i c = let few = rows_few _ _ c.row_count-n.ensures in let inside = c.loop-i-test.true in record { fits = omega arith }

pub returns-then-left-row : goal.returns-then-left-row
returns-then-left-row c = c.numbered_from.ensures ∙ ap (λ m. found_as (get_elem? (table_edges c.args.table.now) m)) c.loop-i.invariant

pub loop-i-preserved : goal.loop-i-preserved
loop-i-preserved c = row_passed _ _ _ _ c.loop-i.invariant c.count_row-row.ensures c.if-left-row.false

pub returns : goal.returns
returns c =
    let last : c.loop-i.i ≡ c.row_count-n.result = omega arith in
    rows_passed _ _ _ _ c.loop-i.invariant c.row_count-n.ensures last
