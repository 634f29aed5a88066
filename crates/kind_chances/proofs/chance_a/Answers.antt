-- What is asked of the kinds and of their sets gives the chance of A (a-told).
use Rattle.kind_chances.specs.EntryLaws.{a_told}
use Rattle.kind_chances.proofs.chance_a.Goals as goal

pub returns : goal.returns
returns c =
    a_told c.args.k c.args.l c.met.ensures c.deletes.ensures c.inserts.ensures
    c.writes_of.ensures c.writes_of-2.ensures c.unless.ensures
