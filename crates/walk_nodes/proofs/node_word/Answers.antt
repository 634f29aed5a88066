-- The shift makes 2 to u, which fits a word since u is below 64.
use borrow.Author.Tests.{lt-ltb, le-ltb}
use Rattle.walk_nodes.specs.Nodes.{node_word}
use Rattle.walk_nodes.specs.NodeWordLaws.{bit_shifted}
use Rattle.walk_nodes.proofs.node_word.Goals as goal

pub returns-then-u-lt-NODES : goal.returns-then-u-lt-NODES
unfolding node_word
returns-then-u-lt-NODES c = simp (lt-ltb _ _ c.if-u-lt-NODES.true, bit_shifted _ c.if-u-lt-NODES.true)

pub returns : goal.returns
unfolding node_word
returns c = simp (le-ltb _ _ c.if-u-lt-NODES.false)
