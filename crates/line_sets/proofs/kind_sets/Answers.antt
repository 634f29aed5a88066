-- The facts of the kind tell which of the three tests count, and those that do are the ones of `kind_sets` (told).
use Rattle.line_kinds.specs.KindLaws.{told}
use borrow.Author.Rules.{rules}
use Rattle.line_kinds.proofs.facts_of.Reads as facts-of-reads
use Rattle.line_sets.proofs.kind_sets.Goals as goal

pub returns : goal.returns
returns c =
    let a = c.args in
    rw c.facts_of-facts.ensures.0 ((told a.kind).sets a.whole a.l)
