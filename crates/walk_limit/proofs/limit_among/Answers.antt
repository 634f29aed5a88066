-- A node of the word has the limit of its phase (among-limit); another has none (outside-limit).
use Rattle.walk_limit.specs.LimitTurns.{among_limit, outside_limit}
use Rattle.walk_limit.proofs.limit_among.Goals as goal

pub returns-then-has_bit : goal.returns-then-has_bit
returns-then-has_bit c = among_limit _ _ c.has_bit.ensures _ _ _ _ c.if-has_bit.true c.limit_at.ensures

pub returns : goal.returns
returns c = outside_limit _ _ c.has_bit.ensures _ _ _ _ c.if-has_bit.false
