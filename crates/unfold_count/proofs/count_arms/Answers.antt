-- Sums that stop at 513 and the place after the second arm's closing line are what `branch_counted` is made of (branch-made).
use Rattle.unfold_count.proofs.RunLaws.{branch_made}
use Rattle.unfold_count.proofs.count_arms.Goals as goal

pub returns : goal.returns
returns c =
    branch_made _ _ _ _ _ _ c.sum-count.ensures c.sum-statements.ensures c.line_after-end.ensures
