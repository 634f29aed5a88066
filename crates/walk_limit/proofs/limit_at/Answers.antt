-- Phase by phase: the limit is that of the first step, of the step before, or none.
use Rattle.walk_limit.specs.LimitTurns.{limit_starting, limit_there, limit_elsewhere, limit_closing, limit_ending}
use Rattle.walk_limit.proofs.limit_at.Goals as goal

pub returns-then-has_bit : goal.returns-then-has_bit
returns-then-has_bit c = limit_there _ _ _ _ c.in-Opening.is c.word_at.ensures c.has_bit.ensures c.if-has_bit.true

pub returns-in-Starting : goal.returns-in-Starting
returns-in-Starting c = limit_starting _ _ _ _ c.in-Starting.is c.starting_limit.ensures

pub returns-else-has_bit : goal.returns-else-has_bit
returns-else-has_bit c = limit_elsewhere _ _ _ _ c.in-Opening.is c.word_at.ensures c.has_bit.ensures c.if-has_bit.false

pub returns-in-Closing : goal.returns-in-Closing
returns-in-Closing c = limit_closing _ _ _ _ c.in-Closing.is

pub returns-in-Ending : goal.returns-in-Ending
returns-in-Ending c = limit_ending _ _ _ _ c.in-Ending.is
