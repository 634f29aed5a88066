-- An edge that does not open as far as is needed does not count (forward-shut); else it counts where it stands (forward-open).
use Rattle.walk_step.specs.StepTurnLaws.{forward_shut, forward_open}
use mathlib.Core.Path.{◌∙◌}
use Rattle.edge_test.specs.LetterLaws.{forward_told}
use Rattle.walk_step.proofs.forward_counts.Goals as goal

pub returns-then-opens_to-need : goal.returns-then-opens_to-need
returns-then-opens_to-need c = forward_shut _ _ _ c.opens_to.ensures c.if-opens_to-need.true

pub returns : goal.returns
returns c =
    forward_open _ _ _ c.opens_to.ensures c.if-opens_to-need.false
    (c.forward_stands.ensures ∙ forward_told _ _ c.requires)
