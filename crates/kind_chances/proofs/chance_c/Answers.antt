-- What is asked of the kinds and of their sets gives the chance of C (c-told).
use Rattle.kind_chances.specs.EntryLaws.{c_told}
use Rattle.kind_chances.proofs.chance_c.Goals as goal

pub returns : goal.returns
returns c =
    c_told c.args.k c.args.l c.met-meet.ensures c.writes_of.ensures c.tests_of.ensures
    c.has_tests.ensures c.inserts.ensures c.deletes.ensures c.or_certain.ensures
    c.needing.ensures
