-- A back edge that leaves from the limit on does not count (back-late); else it counts where it stands (back_early).
use Rattle.walk_step.specs.StepTurnLaws.{back_late, back_early}
use mathlib.Core.Path.{◌∙◌}
use Rattle.edge_test.specs.LetterLaws.{back_told}
use native.Mathlib.Omega.{arith}
use Rattle.walk_step.proofs.back_counts.Goals as goal

pub returns-then-limit-p : goal.returns-then-limit-p
returns-then-limit-p c = back_late _ _ _ (omega arith)

pub returns : goal.returns
returns c = back_early _ _ _ (omega arith) (c.back_stands.ensures ∙ back_told _ _ c.requires)
