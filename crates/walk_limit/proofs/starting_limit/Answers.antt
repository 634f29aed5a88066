-- With no step left none may be back (starting-last); else the last step must open the first: past the table none does (starting-past), within it its
-- word tells how far (starting-inside).
use Rattle.walk_limit.specs.LimitTurns.{starting_last, starting_past, starting_inside}
use Rattle.walk_limit.proofs.starting_limit.Goals as goal

pub returns-then-r-eq0 : goal.returns-then-r-eq0
returns-then-r-eq0 c = starting_last _ _ _ c.if-r-eq0.true

pub returns-then-r-gt-NODES : goal.returns-then-r-gt-NODES
returns-then-r-gt-NODES c = starting_past _ _ _ c.if-r-eq0.false c.if-r-gt-NODES.true

pub returns : goal.returns
returns c = starting_inside _ _ _ c.if-r-eq0.false c.if-r-gt-NODES.false c.word_at.ensures
