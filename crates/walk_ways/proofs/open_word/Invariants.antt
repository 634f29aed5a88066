-- After r turns the words are those of r steps.
use mathlib.Core.Path.{◌≡◌}
use Prim.Native.Nat.{◌-◌}
use Rattle.walk_ways.specs.Ways.{exact_word, ways_to, opening}
use Rattle.walk_ways.proofs.open_word.Given as goal

abbrev pub invariant-loop-r : goal.invariant-loop-r
invariant-loop-r l =
    (l.nodes ≡ opening l.rows l.leads (ways_to l.rows l.s l.steps) l._r) × (l.way ≡ exact_word l.rows l.s (l._r - 1))
