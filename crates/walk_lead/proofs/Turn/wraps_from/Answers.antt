-- No back edge goes where u is reached from (wrap-apart), none leaves early enough (wrap-early), or they are looked at one by one (wrap-through).
use Rattle.walk_lead.specs.LeadLaws.{wrap_apart, wrap_early, wrap_through}
use Rattle.walk_lead.proofs.Turn.wraps_from.Goals as goal

pub returns-then-self-near-eq0 : goal.returns-then-self-near-eq0
returns-then-self-near-eq0 c = wrap_apart _ _ _ _ _ c.args.self.now.row_told c.if-self-near-eq0.true

pub returns-then-opens_below-early : goal.returns-then-opens_below-early
returns-then-opens_below-early c =
    wrap_early _ _ _ _ _ c.word_at-e.ensures c.opens_below.ensures c.requires.1 c.if-opens_below-early.true

pub returns : goal.returns
returns c =
    wrap_through _ _ _ _ _ c.word_at-e.ensures c.opens_below.ensures c.leads_through.ensures
