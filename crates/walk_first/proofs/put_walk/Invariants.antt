-- In each turn what is written and what is still to come make the walk (put-start, put-turn); at the end nothing is to come (put-end).
use Rattle.walk_first.specs.TakingLaws.{PutTurn}
use Rattle.walk_first.specs.FirstSteps.{sought}
use mathlib.Core.Path.{◌≡◌}
use lib.ListN.{length}
use Rattle.walk_first.proofs.put_walk.Given as goal

abbrev pub invariant-loop-k : goal.invariant-loop-k
invariant-loop-k l =
    (length l.needs ≡ length l.initial.needs) × (length l.limits ≡ length l.initial.limits)
    × PutTurn l.s.table.now l.s.backs.now (sought l.s) l.steps l.initial.out l.out l.spot.node l.spot.going l.k
