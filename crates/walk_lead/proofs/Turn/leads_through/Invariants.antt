-- After w turns the word has the nodes below w to which a pair leads.
use mathlib.Core.Path.{◌≡◌}
use Rattle.walk_nodes.specs.Nodes.{word_below}
use Rattle.walk_lead.specs.Leads.{leads_along}
use Rattle.walk_lead.proofs.Turn.leads_through.Given as goal

abbrev pub invariant-loop-w : goal.invariant-loop-w
invariant-loop-w l = l.word ≡ word_below (leads_along l.self.backs.now l.e l.self.v) l.w
