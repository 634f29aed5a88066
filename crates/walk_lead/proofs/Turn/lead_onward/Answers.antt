-- Nothing is new (onward-known), no back edge leaves early enough (onward-early), each does (onward-loose), or they are looked at one by one
-- (onward-through).
use Rattle.walk_lead.specs.LeadLaws.{onward_known, onward_early, onward_loose, onward_through}
use Rattle.walk_lead.proofs.Turn.lead_onward.Goals as goal

pub returns-then-word-self : goal.returns-then-word-self
returns-then-word-self c = onward_known _ _ _ _ _ c.args.self.now.row_told c.if-word-self.true

pub returns-then-opens-early : goal.returns-then-opens-early
returns-then-opens-early c =
    onward_early _ _ _ _ _ c.word_at-e.ensures c.opens_below-opens.ensures c.requires.1 c.if-opens-early.true

pub returns-then-opens-eq-PLACES : goal.returns-then-opens-eq-PLACES
returns-then-opens-eq-PLACES c =
    onward_loose _ _ _ _ _ c.word_at-e.ensures c.opens_below-opens.ensures c.args.self.now.row_told c.if-opens-eq-PLACES.true

pub returns : goal.returns
returns c =
    onward_through _ _ _ _ _ c.word_at-e.ensures c.opens_below-opens.ensures c.leads_through.ensures
