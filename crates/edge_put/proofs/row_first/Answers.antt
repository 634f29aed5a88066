-- The first row on the chain where rows are linked, else the first of all.
use Rattle.edge_put.specs.Cursors.{first_row}
use Rattle.edge_put.proofs.row_first.Goals as goal

pub returns-then-linked : goal.returns-then-linked
unfolding first_row
returns-then-linked c = simp c.if-linked.true

pub returns : goal.returns
unfolding first_row
returns c = simp c.if-linked.false
