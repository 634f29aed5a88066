-- The names stand in front, and after i turns the first i lines behind them (`Filling`); each turn puts the next (line-next), up to the last
-- (table-end).
use Rattle.kind_print.specs.Lines.{Filling}
use Rattle.kind_print.proofs.fill.Given as goal

abbrev pub invariant-loop-i : goal.invariant-loop-i
invariant-loop-i l = Filling l.i l.out
