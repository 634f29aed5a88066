-- What is picked from the rows, and the walk that is found in it, are the word (judged-picked); no function changes how many words are lent.
use mathlib.Core.Path.{◌∙◌}
use borrow.Author.Rules.{rules}
use Rattle.lent_words.specs.Lent.{Lent}
use Rattle.verdict_of.specs.VerdictLaws.{judged_picked}
use Rattle.verdict_of.proofs.judge_rows.Goals as goal

pub returns : goal.returns
unfolding Lent
returns c =
    record {
      rows_judged = judged_picked _ _ _ _ _ _ c.requires.0 c.requires.1 c.pick_edges-c.ensures.picked_as
          c.find_walk-found.ensures.walk_answered c.judged.ensures;
      lent = (
        c.pick_edges-c.ensures.next_lent,
        c.find_walk-found.ensures.lent ∙ c.pick_edges-c.ensures.work_lent,
        search rules,
        search rules,
      );
    }
