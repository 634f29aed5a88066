-- With no step left nothing opens far enough; else the pair is still to come (opening-later) or its back step is next (opening-next).
use Rattle.walk_need.specs.NeedTurns.{opening_last, opening_later, opening_next}
use Rattle.walk_need.proofs.opening_need.Goals as goal

pub returns-then-r-eq0 : goal.returns-then-r-eq0
returns-then-r-eq0 c = opening_last _ _ _ _ _ c.if-r-eq0.true

pub returns-then-has_bit : goal.returns-then-has_bit
returns-then-has_bit c = opening_later _ _ _ _ _ c.if-r-eq0.false c.word_at.ensures c.has_bit.ensures c.if-has_bit.true

pub returns : goal.returns
returns c = opening_next _ _ _ _ _ c.if-r-eq0.false
    c.word_at.ensures c.has_bit.ensures c.if-has_bit.false
    c.word_at-2.ensures c.first_leaving.ensures.0
