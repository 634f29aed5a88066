-- A row outside the first range has no edge that counts (row_low, row-high); for one inside it those count that enter the second (row_in).
use borrow.Author.Rules.{rules}
use native.Mathlib.Omega.{arith}
use mathlib.Core.Path.{ap, ◌∙◌}
use Rattle.edge_count.specs.declared.Counts.{Counts}
use Rattle.edge_between.proofs.RowsIn.{row_low, row_high, row_in}
use Rattle.edge_between.specs.RowLaws.{nothing_few}
use Rattle.edge_between.proofs.count_row.Goals as goal

pub returns-then-p-a : goal.returns-then-p-a
returns-then-p-a c = nothing_few _ c.no_edges.ensures (row_low _ _ _ _ _ _ c.row_at-p.ensures c.if-p-a.true)

pub returns-then-b-p : goal.returns-then-b-p
returns-then-b-p c =
    nothing_few _ c.no_edges-then-b-p.ensures
    (row_high _ _ _ _ _ _ c.row_at-p.ensures c.if-p-a.false c.if-b-p.true)

pub returns : goal.returns
returns c =
    let few = c.count_entering.ensures in
    record {
      same = few.same
          ∙ row_in _ _ _ _ _ _ c.row_at-p.ensures c.if-p-a.false
          c.if-b-p.false;
      edges = few.edges;
      back = few.back;
    }
