-- Where the test passed, `|` joins the word of the node; else the word stays.
use Rattle.walk_nodes.proofs.with_node.Goals as goal

pub returns-then-test : goal.returns-then-test
returns-then-test c = simp (c.if-test.true, c.node_word.ensures)

pub returns : goal.returns
returns c = simp c.if-test.false
