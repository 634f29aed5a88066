-- The needs, the limits, the least word, its step and the phase after it are those of `taken` and `going_on` (taking).
use Rattle.walk_first.specs.TakingLaws.{taking}
use Rattle.lent_words.specs.Lent.{Lent}
use Rattle.walk_first.proofs.take_step.Goals as goal

pub returns : goal.returns
unfolding Lent
returns c =
    let given = c.requires in record {
      taken_as = taking _ _ _ _ _ _ _ _ _ _ _ _ given.2 given.3 c.needs_in.ensures c.limits_in.ensures c.least_step-word.ensures
          c.step_of-t.ensures c.flow_word.ensures c.put_words.ensures c.opens_at-opens.ensures
          c.going_after-next.ensures;
      lent = (c.needs_in.ensures.size, c.limits_in.ensures.size);
    }
