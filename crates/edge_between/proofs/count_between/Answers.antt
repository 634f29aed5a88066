-- After i rows the counts are the sums over these rows (left_next), at most 1024 for each; after the last they are those of the table (left_all).
use Rattle.std.proofs.Common.{◌≡◌, ◌∙◌, ◌≤◌, ap, arith}
use Rattle.edge_count.specs.declared.Counts.{Counts}
use Rattle.edge_count.specs.SlotLaws.{rows_few, plus_parts}
use Rattle.edge_between.specs.RowLaws.{left_none, left_next, left_all}
use Rattle.edge_between.proofs.count_between.Goals as goal

pub loop-i-init : goal.loop-i-init
loop-i-init c =
    let none = left_none c.args.table.now c.args.a c.args.b c.args.c c.args.d in
    let edges = ap (λ (x : Counts). x.edges) c.no_edges-counts.ensures in
    let back = ap (λ (x : Counts). x.back) c.no_edges-counts.ensures in
    record { edges = edges ∙ none.0; back = back ∙ none.1; edges_few = omega (arith, edges); back_few = omega (arith, back) }

pub loop-i-preserved : goal.loop-i-preserved
loop-i-preserved c =
    let inv = c.loop-i.invariant in
    let row = c.count_row-t.ensures in
    let next = left_next _ _ _ _ _ _ _ _ inv.edges inv.back row.same in
    let few = rows_few _ _ c.row_count-n.ensures in
    let l = c.loop-i-test.true in
    let sum = plus_parts _ _ c.plus-counts.ensures (omega (arith, inv.edges_few, row.edges, few, l)) (omega (arith, inv.back_few, row.back, few, l)) in
    record {
      edges = sum.0 ∙ next.0;
      back = sum.1 ∙ next.1;
      edges_few = omega (arith, sum.0, inv.edges_few, row.edges);
      back_few = omega (arith, sum.1, inv.back_few, row.back);
    }

pub returns : goal.returns
returns c =
    let inv = c.loop-i.invariant in
    let same : c.loop-i.i ≡ c.row_count-n.result = omega arith in
    left_all _ _ _ _ _ _ _ _ (same ∙ c.row_count-n.ensures) inv.edges inv.back
