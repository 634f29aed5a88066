-- A word of the first row is how far the edge itself opens (widest-first), a later one the greatest in the row before it (widest-later).
use Rattle.walk_wide.specs.WideLaws.{widest_first, widest_later}
use Rattle.walk_wide.proofs.widest_from.Goals as goal

pub returns-then-i-lt-NODES : goal.returns-then-i-lt-NODES
returns-then-i-lt-NODES c = widest_first _ _ _ _ _ c.if-i-lt-NODES.true c.width_into.ensures

pub returns : goal.returns
returns c = widest_later _ _ _ _ _ c.if-i-lt-NODES.false c.word_at-nodes.ensures c.greatest_in.ensures
