-- The next row on the chain where rows are linked, else the row after.
use Rattle.edge_put.specs.Cursors.{next_row}
use Rattle.edge_put.proofs.row_next.Goals as goal

pub returns-then-linked : goal.returns-then-linked
unfolding next_row
returns-then-linked c = simp c.if-linked.true

pub returns : goal.returns
unfolding next_row
returns c = simp c.if-linked.false
