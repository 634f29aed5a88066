-- The facts of the kind tell the class of its reads (reads-by): those that T9 allows.
use Rattle.kind_chances.proofs.ClassesTold.{reads_by_lem}
use Rattle.kind_chances.proofs.reads_of.Goals as goal

pub returns : goal.returns
returns c = reads_by_lem c.args.k c.facts_of-facts.ensures.0 c.class_of.ensures
