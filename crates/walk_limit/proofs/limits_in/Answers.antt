-- The function tells the limit at each node (written_by), as many as there is room for (written_end).
use borrow.Author.Rules.{rules}
use native.Mathlib.Omega.{arith}
use Rattle.walk_reach.specs.FilledLaws.{written_by, written_end}
use Rattle.walk_limit.specs.Limits.{limit_among}
use Rattle.walk_limit.proofs.limits_in.Goals as goal

pub returns : goal.returns
returns c =
    let room = c.capped-n.ensures in
    written_end _ (omega arith) (omega arith)
    (written_by (limit_among _ _ _ _ _) _ (omega arith) (λ i x h p. search rules) c.fill_words.ensures)
