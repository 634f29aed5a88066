-- w is joined where the pair is dangerous (lead_told).
use Rattle.walk_lead.specs.LeadLaws.{lead_told}
use Rattle.walk_lead.proofs.Turn.with_lead.Goals as goal

pub returns : goal.returns
returns c = lead_told _ _ _ _ _ c.word_at-c.ensures c.dangerous.ensures c.requires c.with_node.ensures
