-- By way of a node that no back edge leaves none does (wraps_none). After u turns no node below u has such a pair (wraps_turn); one that has ends
-- the search (wraps_found).
use native.Mathlib.Omega.{arith}
use Rattle.walk_lead.specs.LeadLaws.{wraps_none, wraps_first, wraps_found, wraps_turn, wraps_end}
use Rattle.walk_lead.proofs.Turn.wraps_at.Goals as goal

pub returns-then-self-eq0 : goal.returns-then-self-eq0
returns-then-self-eq0 c = wraps_none _ _ _ _ _ c.args.self.now.row_told c.if-self-eq0.true

pub loop-u-init : goal.loop-u-init
loop-u-init c = wraps_first _ _ _ _

pub wraps_from-requires : goal.wraps_from-requires
wraps_from-requires c =
    let n = c.rows_in-u-end.ensures in
    (omega arith, c.first_place-early.ensures)

pub returns-then-wraps_from : goal.returns-then-wraps_from
returns-then-wraps_from c =
    let n = c.rows_in-u-end.ensures in
    wraps_found _ _ _ _ _ _ (omega arith) c.wraps_from.ensures c.if-wraps_from.true

pub loop-u-preserved : goal.loop-u-preserved
loop-u-preserved c = wraps_turn _ _ _ _ _ c.loop-u.invariant c.wraps_from.ensures c.if-wraps_from.false

pub returns : goal.returns
returns c = wraps_end _ _ _ _ _ _ _ c.rows_in-u-end.ensures.0 c.loop-u.invariant (omega arith) (omega arith)
