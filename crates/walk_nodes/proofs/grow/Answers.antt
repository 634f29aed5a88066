-- The nodes, joined with those that have an edge into one of them.
use Rattle.walk_nodes.specs.Nodes.{grown}
use Rattle.walk_nodes.proofs.grow.Goals as goal

pub returns : goal.returns
unfolding grown
returns c = simp c.nodes_into.ensures
