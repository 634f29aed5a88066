-- The rows before the one looked at are not loose (none-turn): the first that is decides (loose-found); after the last there is none (loose_none).
use Rattle.walk_step.specs.StepTurns.{NoneBefore}
use Rattle.walk_step.proofs.loose_at.Given as goal

abbrev pub invariant-loop-k : goal.invariant-loop-k
invariant-loop-k l = NoneBefore l.table l.x l.place l.k
