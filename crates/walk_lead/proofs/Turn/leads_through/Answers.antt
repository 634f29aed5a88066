-- After w turns the word has the nodes below w to which a pair leads (word_turn); after 64, or past the last node to which a back edge goes
-- (through_past), it has all.
use native.Mathlib.Omega.{arith}
use mathlib.Core.Path.{refl}
use Rattle.walk_nodes.specs.Nodes.{word_below}
use Rattle.walk_nodes.specs.NodeWordLaws.{word_turn, last_turn}
use Rattle.walk_lead.specs.LeadLaws.{through_past}
use Rattle.walk_lead.specs.Leads.{leads_along, leads_through}
use Rattle.walk_lead.proofs.Turn.leads_through.Goals as goal

pub loop-w-init : goal.loop-w-init
unfolding word_below
loop-w-init c = refl

pub returns-then-self-w-eq0 : goal.returns-then-self-w-eq0
returns-then-self-w-eq0 c = through_past _ _ _ c.args.self.now.row_told c.if-self-w-eq0.true (omega arith) c.loop-w.invariant

pub loop-w-preserved : goal.loop-w-preserved
loop-w-preserved c = word_turn (leads_along _ _ _) _ c.loop-w.invariant refl c.with_lead-word.ensures

pub returns : goal.returns
unfolding leads_through
returns c = last_turn (word_below (leads_along _ _ _)) 64 _ c.loop-w.invariant (omega arith) (omega arith)
