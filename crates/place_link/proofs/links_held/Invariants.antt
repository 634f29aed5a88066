-- From the first row on each word is held against what linking makes of it (link-held, link-not).
use Rattle.place_link.specs.LinkLaws.{Chains, LinksTo}
use Prim.Native.Nat.{◌≤◌}
use Rattle.place_link.proofs.links_held.Given as goal

abbrev pub invariant-loop-j : goal.invariant-loop-j
invariant-loop-j l = Chains l.table l.next l.heads l.n × (l.j ≤ l.n) × LinksTo l.table l.j
