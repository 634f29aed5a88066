-- After i rows the counts are those of the slots below 1024 i (counts_more, counts_turn), and after the last row they are those of all edges of the
-- table (counts_all).
use Rattle.std.proofs.Common.{arith}
use Rattle.edge_count.specs.SlotLaws.{counts_none, counts_turn}
use Rattle.edge_count.specs.Flattened.{counts_more, counts_all}
use Rattle.edge_count.proofs.count_edges.Goals as goal

pub loop-i-init : goal.loop-i-init
loop-i-init c = counts_none _

pub loop-i-preserved : goal.loop-i-preserved
loop-i-preserved c =
    counts_turn _ _ _
    (counts_more _ _ c.row_count-n.ensures c.loop-i-test.true c.loop-i.invariant c.count_row-more.ensures c.plus-counts.ensures)

pub returns : goal.returns
returns c = counts_all _ _ _ _ c.row_count-n.ensures (omega arith) c.loop-i-test.false c.loop-i.invariant
