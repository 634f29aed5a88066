-- Each answer is that reason of W4 for any two steps with these numbers, and the pair is dangerous by the same join of them (reasons-told).
use borrow.Author.Rules.{rules}
use Rattle.walk_reason.specs.ReasonLaws.{reasons_told}
use Rattle.walk_reason.proofs.pair_reasons.Goals as goal

pub returns : goal.returns
returns c = reasons_told _ _ _ _ _ _ c.kind_has-loose.ensures
