-- After v turns the word has the nodes to which a dangerous pair leads from u by way of a node below v (lead_turn); past the rows of back edges
-- none leads (lead_end).
use native.Mathlib.Omega.{arith}
use Rattle.walk_lead.specs.LeadLaws.{lead_first, lead_turn, lead_end, early_at}
use Rattle.walk_lead.proofs.lead_row.Goals as goal

pub loop-v-init : goal.loop-v-init
loop-v-init c = lead_first _ _ _

pub lead_onward-word-requires : goal.lead_onward-word-requires
lead_onward-word-requires c =
    let n = c.rows_in-v-end.ensures in
    let given = c.requires in
    let here = c.listed-turn.ensures in
    (given.0, rw (here.0, here.1) (early_at _ _ given.2 (omega arith)))

pub loop-v-preserved : goal.loop-v-preserved
loop-v-preserved c =
    let here = c.listed-turn.ensures in
    lead_turn _ _ _ _ c.loop-v.invariant (rw (here.0, here.1) at c.lead_onward-word.ensures)

pub returns : goal.returns
returns c =
    let n = c.rows_in-v-end.ensures in
    lead_end _ _ _ _ _ n.0 n.1 c.loop-v.invariant (omega arith) (omega arith)
