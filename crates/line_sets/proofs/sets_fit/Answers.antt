-- Each set is asked to lie within the relation's, and `kind_sets` asks what the kind says of them, as the contract lists them.
use borrow.Author.Rules.{rules}
use Rattle.line_sets.proofs.kind_sets.Reads as kind-sets-reads
use Rattle.line_sets.proofs.sets_fit.Goals as goal

pub returns : goal.returns
returns c = rw c.kind_sets.ensures
