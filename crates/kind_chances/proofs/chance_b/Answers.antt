-- What is asked of the kinds and of their sets gives the chance of B (b-told).
use Rattle.kind_chances.specs.EntryLaws.{b_told}
use Rattle.kind_chances.proofs.chance_b.Goals as goal

pub returns : goal.returns
returns c =
    b_told c.args.k c.args.l c.met.ensures c.deletes.ensures
    c.writes_of.ensures c.reads_of.ensures c.unless.ensures
