-- After w turns the number is the least of the first w (place_turn); past the last node to which a back edge goes it stays so (place_past).
use native.Mathlib.Omega.{arith}
use mathlib.Core.Path.{refl}
use borrow.Author.Rules.{rules}
use Rattle.pick_laws.specs.Completing.{least_below}
use Rattle.walk_lead.specs.LeadLaws.{place_past, place_turn}
use Rattle.walk_lead.specs.Leads.{leaves_to, earliest}
use Rattle.walk_nodes.specs.NodeWordLaws.{last_turn}
use Rattle.walk_lead.proofs.Turn.first_place.Goals as goal

pub loop-w-init : goal.loop-w-init
unfolding least_below
loop-w-init c = refl

pub returns-then-self-w-eq0 : goal.returns-then-self-w-eq0
returns-then-self-w-eq0 c = place_past _ _ c.args.self.now.row_told c.if-self-w-eq0.true (omega arith) c.loop-w.invariant

pub loop-w-preserved : goal.loop-w-preserved
loop-w-preserved c = place_turn _ _ _ c.loop-w.invariant c.word_at.ensures c.leaves_at.ensures.0 (search rules)

pub returns : goal.returns
unfolding earliest
returns c = last_turn (least_below (leaves_to _ _) 1024) 64 _ c.loop-w.invariant (omega arith) (omega arith)
