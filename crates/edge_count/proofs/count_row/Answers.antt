-- A row has two slots for each row that it may enter, and after j of these the edges in the slots up to there are counted (leaving_pair): the code
-- of the two rows' kinds tells their edges (forward_told, back_told). The slots past the last row are empty, and what stands in a row's slots are the
-- edges that leave it (leaving_all).
use Rattle.std.proofs.Common.{◌≡◌, ◌∙◌, arith, ap₂}
use Rattle.place_row.specs.RowTable.{row_forward, row_back}
use Rattle.kind_table.specs.CodeLaws.{code_right}
use Rattle.edge_test.specs.LetterLaws.{forward_told, back_told}
use Rattle.edge_count.specs.Slots.{pair_counts}
use Rattle.edge_count.specs.SlotLaws.{leaving_none, leaving_pair}
use Rattle.edge_count.specs.Flattened.{leaving_all}
use Rattle.edge_count.proofs.count_row.Goals as goal

pub loop-j-init : goal.loop-j-init
loop-j-init c = leaving_none _ _

pub loop-j-preserved : goal.loop-j-preserved
loop-j-preserved c =
    let known = code_right _ _ c.codes_from-codes.ensures c.code_to-code.ensures in
    let told = c.pair_counts-c.ensures
    ∙ ap₂ pair_counts (c.forward_stands.ensures ∙ forward_told _ _ known ∙ ap₂ row_forward c.row_at-p.ensures c.row_at-q.ensures)
    (c.back_stands.ensures ∙ back_told _ _ known ∙ ap₂ row_back c.row_at-p.ensures c.row_at-q.ensures) in
    leaving_pair _ _ _ _ c.row_count-n.ensures c.loop-j-test.true c.loop-j.invariant told c.plus-counts.ensures

pub returns : goal.returns
returns c =
    let same : c.loop-j.j ≡ c.row_count-n.result = omega arith in
    leaving_all _ _ (same ∙ c.row_count-n.ensures) c.loop-j.invariant
