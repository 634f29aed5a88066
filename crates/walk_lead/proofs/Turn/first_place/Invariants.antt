-- After w turns the number is the least of the first w.
use mathlib.Core.Path.{◌≡◌}
use Rattle.pick_laws.specs.Completing.{least_below}
use Rattle.walk_lead.specs.Leads.{leaves_to}
use Rattle.walk_lead.proofs.Turn.first_place.Given as goal

abbrev pub invariant-loop-w : goal.invariant-loop-w
invariant-loop-w l = l.best ≡ least_below (leaves_to l.self.backs.now l.self.v) 1024 l.w
