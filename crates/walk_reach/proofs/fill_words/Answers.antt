-- The loop ends at n, or at the last word where there are fewer: as far as there are words, the first n are then written.
use native.Mathlib.Omega.{arith}
use Rattle.walk_reach.proofs.fill_words.Goals as goal

pub returns : goal.returns
returns g c =
    let p = c.loop-i.invariant in
    record {
      size = p.size;
      inside = λ i h l. p.inside i (omega arith) l;
      above = λ i h. p.above i (omega arith);
    }
