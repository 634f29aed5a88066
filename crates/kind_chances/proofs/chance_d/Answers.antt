-- What is asked of the kinds and of their sets gives the chance of D (d-told).
use Rattle.kind_chances.specs.EntryLaws.{d_told}
use Rattle.kind_chances.proofs.chance_d.Goals as goal

pub returns : goal.returns
returns c =
    d_told c.args.k c.args.l c.met.ensures c.inserts.ensures
    c.reads_of.ensures c.writes_of.ensures c.unless.ensures
