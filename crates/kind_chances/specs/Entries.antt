-- What is said of the letters between two kinds, together. Believed.
use Rattle.spec_text.specs.declared.StatementKind.{StatementKind}
use Rattle.spec_graph.specs.Edge.{Letter}
use Rattle.spec_graph.specs.Edge.Letter.{A, B, C, D, E}
use Rattle.spec_kinds.specs.declared.Chance.{Chance}
use Rattle.spec_kinds.specs.Meaning.{Means}
use Rattle.kind_chances.specs.declared.Entry.{Entry}

-- the chance of a letter
abbrev pub chance_for : Entry → Letter → Chance
chance_for e A = e.a
chance_for e B = e.b
chance_for e C = e.c
chance_for e D = e.d
chance_for e E = e.e

-- Req 05: each says what is so by the rules
abbrev pub EntryMeans : StatementKind → StatementKind → Entry → Type 0
EntryMeans k l e = (x : Letter) → Means x k l (chance_for e x)
