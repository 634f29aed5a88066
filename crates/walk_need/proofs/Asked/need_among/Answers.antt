-- A node of the word needs what its phase asks (among-need); another is never entered (outside-need).
use Rattle.walk_need.specs.NeedTurns.{among_need, outside_need}
use Rattle.walk_need.proofs.Asked.need_among.Goals as goal

pub returns-then-has_bit : goal.returns-then-has_bit
returns-then-has_bit c = among_need _ _ c.has_bit.ensures _ _ _ _ _ _ _ c.if-has_bit.true c.need_at.ensures

pub returns : goal.returns
returns c = outside_need _ _ c.has_bit.ensures _ _ _ _ _ _ _ c.if-has_bit.false
