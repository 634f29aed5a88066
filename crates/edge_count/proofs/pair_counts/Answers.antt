-- Each return has the numbers that `pair_counts` has for the two answers.
use Rattle.edge_count.specs.Slots.{pair_counts}
use Rattle.edge_count.proofs.pair_counts.Goals as goal

pub returns-then-back : goal.returns-then-back
unfolding pair_counts
returns-then-back c = simp (c.if-forward.true, c.if-back.true)

pub returns-then-forward : goal.returns-then-forward
unfolding pair_counts
returns-then-forward c = simp (c.if-forward.true, c.if-back.false)

pub returns-then-back-2 : goal.returns-then-back-2
unfolding pair_counts
returns-then-back-2 c = simp (c.if-forward.false, c.if-back-2.true)

pub returns : goal.returns
unfolding pair_counts
returns c = simp (c.if-forward.false, c.if-back-2.false)
