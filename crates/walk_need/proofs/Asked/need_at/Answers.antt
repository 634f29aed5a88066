-- Phase by phase the need is that of its function.
use Rattle.walk_need.specs.NeedTurns.{need_starting, need_opening, need_closing, need_ending}
use Rattle.std.proofs.Common.{inl, inr}
use Rattle.walk_need.proofs.Asked.need_at.Goals as goal

pub returns-in-Starting : goal.returns-in-Starting
returns-in-Starting c =
    elim c.in-Starting.is [
      | inl e ↦ need_starting _ _ _ _ _ _ _ e c.opening_need.ensures
      | inr e ↦ need_opening _ _ _ _ _ _ _ e.1 c.opening_need.ensures
    ]

pub returns-in-Closing : goal.returns-in-Closing
returns-in-Closing c =
    need_closing _ _ _ _ _ _ _ c.in-Closing.is c.word_at.ensures c.has_bit.ensures c.only_if.ensures

pub returns-in-Ending : goal.returns-in-Ending
returns-in-Ending c = need_ending _ _ _ _ _ _ _ c.in-Ending.is c.ending_need.ensures
