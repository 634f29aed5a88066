-- The table of kinds tells whether the left row is loose (opens-loose, opens-place).
use Rattle.walk_step.specs.StepTurnLaws.{opens_loose, opens_place}
use Rattle.walk_step.proofs.opens_to.Goals as goal

pub returns-then-kind_has : goal.returns-then-kind_has
returns-then-kind_has c = opens_loose _ _ c.kind_has.ensures c.if-kind_has.true

pub returns-else-kind_has : goal.returns-else-kind_has
returns-else-kind_has c = opens_place _ _ c.kind_has.ensures c.if-kind_has.false
