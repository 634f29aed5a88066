-- After i rows the best word is the least of the steps from each of them (rows-turn); after the last row this is `least_step` (all-least).
use Rattle.walk_step.specs.LeastStep.{whole_needs}
use Rattle.walk_step.specs.StepTurns.{least_rows}
use mathlib.Core.Path.{◌≡◌}
use Prim.Native.Nat.{◌≤◌}
use Rattle.walk_step.proofs.least_step.Given as goal

abbrev pub invariant-loop-i : goal.invariant-loop-i
invariant-loop-i l =
    (l.best ≤ 134217728)
    × (l.best ≡ least_rows l.asked.table.now l.asked.count l.x (whole_needs l.asked.needs.now) l.asked.limits.now l.i)
