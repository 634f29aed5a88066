-- Before each turn the words from a line on are those for the runs there, and the totals of the lines before it with those summed so far are the
-- totals of all (`Filling`).
use Rattle.value_tables.specs.Lines.{table_codes}
use Rattle.unfold_count.proofs.WordLaws.{Filling}
use Rattle.unfold_count.proofs.fill.Given as goal

abbrev pub invariant-loop-at : goal.invariant-loop-at
invariant-loop-at l = Filling (table_codes l.lines) l.at l.counts l.t
