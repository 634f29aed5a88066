-- Before line i the totals are those of the lines before it.
use Rattle.value_tables.specs.Lines.{table_codes}
use Rattle.unfold_laws.specs.Pieces.{totals_before}
use Rattle.unfold_count.specs.Counted.{Totalled}
use Rattle.unfold_count.proofs.count_all.Given as goal

abbrev pub invariant-loop-i : goal.invariant-loop-i
invariant-loop-i l = Totalled (totals_before (table_codes l.lines) l.i) l.t
