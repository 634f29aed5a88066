-- With no step left the walk must end at s and open k (ending_here); else the last step must be able to (ending-later).
use Rattle.walk_need.specs.NeedTurns.{ending_here, ending_far, ending_elsewhere, ending_later}
use mathlib.Core.Path.{refl}
use Rattle.walk_need.proofs.ending_need.Goals as goal

pub returns-then-k-lt-NEVER : goal.returns-then-k-lt-NEVER
returns-then-k-lt-NEVER c = ending_here _ _ _ _ _ c.if-r-eq0.true c.if-y-s.true c.if-k-lt-NEVER.true

pub returns-else-k-lt-NEVER : goal.returns-else-k-lt-NEVER
returns-else-k-lt-NEVER c = ending_far _ _ _ _ _ c.if-r-eq0.true c.if-y-s.true c.if-k-lt-NEVER.false

pub returns-else-y-s : goal.returns-else-y-s
returns-else-y-s c = ending_elsewhere _ _ _ _ _ c.if-r-eq0.true c.if-y-s.false

pub returns : goal.returns
returns c = ending_later _ _ _ _ _ c.if-r-eq0.false c.wide_at.ensures refl c.only_if.ensures
