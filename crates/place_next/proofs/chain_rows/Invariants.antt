-- The chains of the rows from j on stand; each turn puts one row before the first of its chain.
use Rattle.place_next.specs.Chains.{ChainedFrom}
use Rattle.place_next.proofs.chain_rows.Given as goal

abbrev pub invariant-loop-j : goal.invariant-loop-j
invariant-loop-j l = ChainedFrom l.table l.initial.next l.heads l.next l.j
