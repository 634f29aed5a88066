-- The back edge stands between the two rows with the letter that the cursor holds, and the next row comes after it (passed-back).
use Rattle.edge_put.specs.CursorLaws.{back_inside, passed_back}
use Rattle.edge_put.proofs.back_step.Goals as goal

pub row_whole-q-requires : goal.row_whole-q-requires
row_whole-q-requires c = back_inside _ _ _ c.requires

pub row_next-requires : goal.row_next-requires
row_next-requires c = back_inside _ _ _ c.requires

pub returns : goal.returns
returns c =
    passed_back _ _ _ c.requires _ _ _ _ _ _
    c.row_in-p.ensures c.row_whole-q.ensures
    c.back_shared-m.ensures c.back_shared-m.type_inv c.edge_by-edge.ensures
    c.row_next.ensures c.at_pair-cursor.ensures
