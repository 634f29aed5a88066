-- The word of the edge to a node is asked how far it opens (width-in); to another number there is no edge (width-out).
use Rattle.walk_wide.specs.WideLaws.{width_in, width_out}
use Rattle.walk_wide.proofs.width_into.Goals as goal

pub returns-then-s-lt-NODES : goal.returns-then-s-lt-NODES
returns-then-s-lt-NODES c = width_in _ _ _ c.if-s-lt-NODES.true c.word_at.ensures c.opens_below.ensures

pub returns : goal.returns
returns c = width_out _ _ _ c.if-s-lt-NODES.false
