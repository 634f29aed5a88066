-- The chains of the rows are told first; each turn links one row by them (linking-more).
use Rattle.place_link.specs.LinkLaws.{Linking}
use Rattle.place_link.proofs.link_rows.Given as goal

abbrev pub invariant-loop-j : goal.invariant-loop-j
invariant-loop-j l = Linking l.initial.table l.next l.heads l.n l.table l.j
