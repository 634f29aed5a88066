-- After i rows the counts are the sums over these rows, at most 1024 for each.
use Rattle.std.proofs.Common.{◌≡◌, ◌*◌, ◌≤◌}
use Rattle.edge_between.specs.RowLaws.{left, left_back}
use Rattle.edge_between.proofs.count_between.Given as goal

abbrev pub invariant-loop-i : goal.invariant-loop-i
invariant-loop-i l = record {
  edges : l.counts.edges ≡ left l.table l.a l.b l.c l.d l.i;
  back : l.counts.back ≡ left_back l.table l.a l.b l.c l.d l.i;
  edges_few : l.counts.edges ≤ l.i * 1024;
  back_few : l.counts.back ≤ l.i * 1024;
}
