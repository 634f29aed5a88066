-- With no forward edge there is no edge (stepped-none); else the code of the two kinds tells its letter, and the back edge's (stepped-forward).
use Rattle.spec_graph.specs.Graph as G
use Rattle.edge_test.specs.LetterLaws.{letter_told}
use Rattle.edge_put.specs.CursorLaws.{pair_inside, stepped_none, stepped_forward}
use mathlib.Core.Path.{◌∙◌}
use Rattle.edge_put.proofs.pair_step.Goals as goal

pub row_whole-q-requires : goal.row_whole-q-requires
row_whole-q-requires c = pair_inside _ _ c.requires

pub row_next-requires : goal.row_next-requires
row_next-requires c = pair_inside _ _ c.requires

pub returns-in_default : goal.returns-in_default
returns-in_default c =
    let told = c.forward_letter-told.ensures ∙ letter_told _ _
    c.pair_code-code.ensures G.Flow.forward in
    stepped_none _ _ c.requires _ _ _
    c.row_in-p.ensures
    c.row_whole-q.ensures told _ _ _ c.in_default.is
    c.row_next.ensures c.at_pair.ensures c.nothing_at.ensures

pub back_told-back-requires : goal.back_told-back-requires
back_told-back-requires c = c.pair_code-code.ensures

pub row_after-requires : goal.row_after-requires
row_after-requires c = pair_inside _ _ c.requires

pub returns : goal.returns
returns c =
    let told = c.forward_letter-told.ensures ∙ letter_told _ _
    c.pair_code-code.ensures G.Flow.forward in
    stepped_forward _ _ c.requires _ _ _
    c.row_in-p.ensures
    c.row_whole-q.ensures told _ _ _ _ _ _
    c.in-Some.is
    c.shared_by-m.ensures c.shared_by-m.type_inv
    c.edge_by-edge.ensures c.back_told-back.ensures c.row_after.ensures c.at_pair-cursor.ensures
