-- It is C the other way round (e-told).
use Rattle.kind_chances.specs.EntryLaws.{e_told}
use Rattle.kind_chances.proofs.chance_e.Goals as goal

pub returns : goal.returns
returns c = e_told c.args.k c.args.l c.chance_c.result c.chance_c.ensures
