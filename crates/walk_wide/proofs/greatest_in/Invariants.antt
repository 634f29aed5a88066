-- After y turns it is the greatest of the first y words that stand at one of the nodes.
use mathlib.Core.Path.{◌≡◌}
use Rattle.pick_laws.specs.Completing.{greatest_below}
use Rattle.walk_wide.specs.Wide.{word_for}
use Rattle.walk_wide.proofs.greatest_in.Given as goal

abbrev pub invariant-loop-y : goal.invariant-loop-y
invariant-loop-y l = l.best ≡ greatest_below (word_for l.table l.from l.nodes) l.y
