-- The relation and the words of the row that is left decide which of the three ways the run is gone.
use mathlib.Core.Path.{◌∙◌}
use Rattle.walk_pick.proofs.run_from.Goals as goal

pub run_forward-requires : goal.run_forward-requires
run_forward-requires c = ((c.requires.0, c.if-s-relation.false ∙ c.requires.1), c.if-s.true)

pub run_both-requires : goal.run_both-requires
run_both-requires c = (c.requires.0, c.if-s-relation.false ∙ c.requires.1)
