-- After k turns the word is layer k (layer_turn); a layer that adds nothing is all that come after it (layer_still).
use mathlib.Core.Path.{◌≡◌}
use Rattle.walk_reach.specs.Layers.{layer}
use Rattle.walk_reach.proofs.layer_at.Given as goal

abbrev pub invariant-loop-k : goal.invariant-loop-k
invariant-loop-k l = l.nodes ≡ layer l.rows l.u l._k
