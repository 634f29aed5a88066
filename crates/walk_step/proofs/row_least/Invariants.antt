-- After j rows the least is that of the best word and the steps to each of them (row-turn).
use Rattle.walk_step.specs.LeastStep.{whole_needs}
use Rattle.walk_step.specs.StepTurns.{row_least}
use mathlib.Core.Path.{◌≡◌}
use Prim.Native.Nat.{◌≤◌}
use Rattle.walk_step.proofs.row_least.Given as goal

abbrev pub invariant-loop-j : goal.invariant-loop-j
invariant-loop-j l = (l.least ≤ 134217728) × (l.least ≡ row_least l.asked.table.now l.j (whole_needs l.asked.needs.now) l.asked.limits.now l.p l.best)
