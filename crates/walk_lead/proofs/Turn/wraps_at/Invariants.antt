-- After u turns no node below u has such a pair.
use mathlib.Core.Path.{◌≡◌}
use mathlib.Core.Bool.{false}
use Rattle.walk_lead.specs.Leads.{wraps_among}
use Rattle.walk_lead.proofs.Turn.wraps_at.Given as goal

abbrev pub invariant-loop-u : goal.invariant-loop-u
invariant-loop-u l = false ≡ wraps_among l.forwards l.self.backs.now l.reach l.u l.self.v
