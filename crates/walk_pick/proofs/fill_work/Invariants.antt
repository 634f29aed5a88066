-- After j rows their words stand (worked-turn); the next row on a chain is known.
use Rattle.walk_pick.specs.Runs.{Worked}
use Rattle.walk_pick.proofs.fill_work.Given as goal

abbrev pub invariant-loop-j : goal.invariant-loop-j
invariant-loop-j l = Worked l.table l.n l.j l.work
