-- Each field is its word, and the kind is the one that its number names.
use Rattle.edge_put.proofs.row_in.Goals as goal

pub returns : goal.returns
returns c = simp (← c.kind_of-k.ensures)
