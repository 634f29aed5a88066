-- After x turns the word has the nodes below x whose row has one (word_turn); past the rows none has (into_end).
use mathlib.Core.Path.{◌≡◌}
use Rattle.walk_nodes.specs.Nodes.{word_below, enters_at}
use Rattle.walk_nodes.proofs.nodes_into.Given as goal

abbrev pub invariant-loop-x : goal.invariant-loop-x
invariant-loop-x l = l.word ≡ word_below (enters_at l.rows l.nodes) l.x
