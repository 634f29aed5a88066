-- No turn, one turn and two turns add up to what `loop_counted` has, sums and products stopped at 513 (loop-made).
use Rattle.unfold_count.proofs.RunLaws.{loop_made}
use Rattle.unfold_count.proofs.count_loop.Goals as goal

pub returns : goal.returns
returns c =
    loop_made _ _ _ _ _ _ _ _ _ _ c.product.ensures c.sum.ensures c.sum-count.ensures c.product-2.ensures
    c.product-3.ensures c.sum-2.ensures c.sum-statements.ensures c.line_after-end.ensures
