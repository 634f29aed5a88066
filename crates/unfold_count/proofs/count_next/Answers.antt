-- Each unfolding of the block goes with each of the run: products of the counts, stopped at 513, as `next_counted` has them (next-made).
use Rattle.unfold_count.proofs.RunLaws.{next_made}
use Rattle.unfold_count.proofs.count_next.Goals as goal

pub returns : goal.returns
returns c =
    next_made _ _ _ _ _ _ c.product-count.ensures c.product.ensures c.product-2.ensures c.sum-statements.ensures
