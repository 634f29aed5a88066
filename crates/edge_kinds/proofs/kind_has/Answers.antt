-- The facts are the kind's (kind_facts), and the test is the one that the contract names.
use borrow.Author.Rules.{rules}
use Rattle.edge_kinds.proofs.kind_has.Goals as goal

pub returns : goal.returns
returns c = rw c.kind_facts.ensures
