-- By the need a forward step may count (may-forward), else by the limit a back step (may-back); into a node past 63 none does (may_past).
use Rattle.walk_step.specs.MayLaws.{may_past, may_forward, may_back}
use Rattle.walk_step.proofs.may_count.Goals as goal

pub returns-then-need_into-le-PLACES : goal.returns-then-need_into-le-PLACES
returns-then-need_into-le-PLACES c = may_forward _ _ _ _ c.if-y.true c.need_into.ensures c.if-need_into-le-PLACES.true

pub returns-then-y : goal.returns-then-y
returns-then-y c =
    may_back _ _ _ _ c.if-y.true c.need_into.ensures c.if-need_into-le-PLACES.false c.word_at.ensures

pub returns : goal.returns
returns c = may_past _ _ _ _ c.if-y.false
