-- Below no node there is none (wrap_none). Else the first node from v on by way of which a pair leads so is the first of all: one without such a
-- pair keeps this (search_turn), one with one ends it (search_stop).
use native.Mathlib.Omega.{arith}
use mathlib.Core.Path.{sym, ◌∙◌}
use Rattle.walk_lead.specs.LeadLaws.{wrap_none, wrap_sought}
use Rattle.walk_reach.specs.SearchLaws.{search_start, search_stop, search_turn, search_end}
use Rattle.walk_lead.proofs.wrap_start.Goals as goal

pub returns-then-below-eq0 : goal.returns-then-below-eq0
returns-then-below-eq0 c = wrap_none _ _ _ _ _ c.if-below-eq0.true

pub layers_at-reach-requires : goal.layers_at-reach-requires
layers_at-reach-requires c = c.rows_in-n.ensures.1

pub loop-v-init : goal.loop-v-init
loop-v-init c = search_start _ _

pub returns-then-wraps_at : goal.returns-then-wraps_at
returns-then-wraps_at c =
    let here = c.worked.ensures in
    wrap_sought _ _ _ _ _ c.capped-end.ensures c.rows_in-n.ensures.0 c.layers_at-reach.ensures
    (search_stop _ _ _ c.loop-v.invariant (omega arith) (sym (rw (here.0, here.1) at c.wraps_at.ensures) ∙ c.if-wraps_at.true))

pub loop-v-preserved : goal.loop-v-preserved
loop-v-preserved c =
    let here = c.worked.ensures in
    search_turn _ _ _ c.loop-v.invariant (omega arith) (sym (rw (here.0, here.1) at c.wraps_at.ensures) ∙ c.if-wraps_at.false)

pub returns : goal.returns
returns c =
    wrap_sought _ _ _ _ _ c.capped-end.ensures c.rows_in-n.ensures.0 c.layers_at-reach.ensures
    (search_end _ _ _ c.loop-v.invariant (omega arith) (omega arith))
