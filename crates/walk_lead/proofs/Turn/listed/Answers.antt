-- The list has the row of the node (turns_at).
use Rattle.walk_lead.specs.LeadLaws.{turns_at}
use Rattle.walk_lead.proofs.Turn.listed.Goals as goal

pub invariant_of-result : goal.invariant_of-result
invariant_of-result c = record { is_node = c.requires.0; row_told = turns_at _ _ c.requires.1 c.requires.0 }
