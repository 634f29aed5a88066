-- After v turns the word has the nodes below v to which an edge goes from u (word_turn).
use mathlib.Core.Path.{◌≡◌}
use Rattle.walk_nodes.specs.Nodes.{word_below}
use Rattle.walk_reach.specs.Layers.{joined_bit}
use Rattle.walk_reach.proofs.row_below.Given as goal

abbrev pub invariant-loop-v : goal.invariant-loop-v
invariant-loop-v l = l.word ≡ word_below (joined_bit l.forwards l.u) l.v
