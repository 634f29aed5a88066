-- The fact says it (tests-there).
use Rattle.kind_chances.specs.Classes.{tests_there}
use Rattle.kind_chances.proofs.has_tests.Goals as goal

pub returns : goal.returns
returns c = tests_there c.args.k c.facts_of.ensures.0
