-- Each letter's chance means what it says.
use Rattle.spec_text.specs.declared.StatementKind.{StatementKind}
use Rattle.spec_graph.specs.Edge.Letter.{A, B, C, D, E}
use Rattle.spec_kinds.specs.Meaning.{Means}
use Rattle.kind_chances.specs.declared.Entry.{Entry}
use Rattle.kind_chances.specs.Entries.{EntryMeans}
use Rattle.kind_chances.proofs.entry_of.Goals as goal

each : (k l : StatementKind) (e : Entry) → Means A k l e.a → Means B k l e.b → Means C k l e.c → Means D k l e.d → Means E k l e.e
    → EntryMeans k l e
each k l e a b c d f A = a
each k l e a b c d f B = b
each k l e a b c d f C = c
each k l e a b c d f D = d
each k l e a b c d f E = f

pub returns : goal.returns
returns c = each _ _ _ c.chance_a.ensures c.chance_b.ensures c.chance_c.ensures c.chance_d.ensures c.chance_e.ensures
