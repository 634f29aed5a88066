-- After j rows the counts are the sums over these rows.
use Rattle.std.proofs.Common.{◌≡◌}
use Rattle.edge_between.specs.RowLaws.{entered, entered_back}
use Rattle.edge_between.proofs.count_entering.Given as goal

abbrev pub invariant-loop-j : goal.invariant-loop-j
invariant-loop-j l = record {
  edges : l.counts.edges ≡ entered l.table l.p l.from l.to l.j;
  back : l.counts.back ≡ entered_back l.table l.p l.from l.to l.j;
}
