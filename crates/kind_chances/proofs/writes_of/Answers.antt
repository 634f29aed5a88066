-- The facts of the kind tell the class of its writes (writes-by): those that T9 allows.
use Rattle.kind_chances.proofs.ClassesTold.{writes_by_lem}
use Rattle.kind_chances.proofs.writes_of.Goals as goal

pub returns : goal.returns
returns c = writes_by_lem c.args.k c.facts_of-facts.ensures.0 c.class_of.ensures
