-- The tables are cleared (rows-first), the rows are chained and their words put; after i rows the tables hold the greatest words of the pairs so far
-- and the numbers count their edges (rows-turn); after the last row they are filled (all-picked).
use Rattle.walk_pick.specs.PickSteps.{RowsKept}
use Rattle.walk_pick.proofs.pick_rows.Given as goal

abbrev pub invariant-loop-i : goal.invariant-loop-i
invariant-loop-i l =
    RowsKept l.limit l.table l.n l.i l.forwards l.backs l.edges l.back
