-- After j rows the counts are the sums over these rows (entered_next), at most two for each (entered_few); after the last they are all (entered_all).
use Rattle.std.proofs.Common.{◌≡◌, ◌∙◌, ap, arith}
use Rattle.edge_count.specs.declared.Counts.{Counts}
use Rattle.edge_count.specs.SlotLaws.{rows_few, plus_parts}
use Rattle.edge_between.specs.RowLaws.{entered_few, entered_back_few, entered_none, entered_next, entered_all, pair_small}
use Rattle.edge_between.proofs.count_entering.Goals as goal

pub loop-j-init : goal.loop-j-init
loop-j-init c =
    let none = entered_none c.args.table.now c.args.p c.args.from c.args.to in
    record {
      edges = ap (λ (x : Counts). x.edges) c.no_edges-counts.ensures ∙ none.0;
      back = ap (λ (x : Counts). x.back) c.no_edges-counts.ensures ∙ none.1;
    }

pub loop-j-preserved : goal.loop-j-preserved
loop-j-preserved c =
    let inv = c.loop-j.invariant in
    let next = entered_next _ _ _ _ _ _ _ inv.edges inv.back c.row_at-q.ensures c.count_pair-c.ensures in
    let few = rows_few _ _ c.row_count-n.ensures in
    let l = c.loop-j-test.true in
    let edges = entered_few _ _ _ _ _ _ inv.edges in
    let back = entered_back_few _ _ _ _ _ _ inv.back in
    let small = pair_small _ _ _ _ c.count_pair-c.ensures in
    let sum = plus_parts _ _ c.plus-counts.ensures (omega (arith, edges, small.0, few, l)) (omega (arith, back, small.1, few, l)) in
    record { edges = sum.0 ∙ next.0; back = sum.1 ∙ next.1 }

pub returns : goal.returns
returns c =
    let inv = c.loop-j.invariant in
    let few = rows_few _ _ c.row_count-n.ensures in
    let same : c.loop-j.j ≡ c.row_count-n.result = omega arith in
    let edges = entered_few _ _ _ _ _ _ inv.edges in
    let back = entered_back_few _ _ _ _ _ _ inv.back in
    record {
      same = entered_all _ _ _ _ _ _ _ (same ∙ c.row_count-n.ensures) inv.edges inv.back;
      edges = omega (arith, edges, few, same);
      back = omega (arith, back, few, same);
    }
