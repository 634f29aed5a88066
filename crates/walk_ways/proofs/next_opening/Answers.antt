-- With no step left after this nothing is opened (opening-last); else by a step that leads on or by a pair (opening-before).
use Rattle.walk_ways.specs.TurnLaws.{opening_last, opening_before}
use Rattle.walk_ways.proofs.next_opening.Goals as goal

pub returns-then-r-eq0 : goal.returns-then-r-eq0
returns-then-r-eq0 c = opening_last _ _ _ _ _ c.if-r-eq0.true

pub returns : goal.returns
returns c = opening_before _ _ _ _ _ c.if-r-eq0.false c.nodes_into.ensures c.nodes_into-2.ensures
