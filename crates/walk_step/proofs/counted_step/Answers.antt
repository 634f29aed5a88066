-- Between rows of two relations no step counts (counted-apart). Else the first flow that counts has the lesser word (counted-forward, counted_back);
-- where neither does there is none (counted_none).
use Rattle.walk_step.specs.StepTurnLaws.{counted_apart, counted_forward, counted_back, counted_none}
use borrow.Author.Rules.{rules}
use Rattle.walk_step.proofs.counted_step.Goals as goal

pub returns-then-p-q : goal.returns-then-p-q
returns-then-p-q c = counted_apart _ _ _ _ c.if-p-q.true

pub forward_counts-requires : goal.forward_counts-requires
forward_counts-requires c = search (rules, c.pair_code-code.ensures)

pub returns-then-forward_counts : goal.returns-then-forward_counts
returns-then-forward_counts c = counted_forward _ _ _ _ c.forward_counts.ensures c.if-forward_counts.true c.step_word.ensures

pub back_counts-requires : goal.back_counts-requires
back_counts-requires c = search (rules, c.pair_code-code.ensures)

pub returns-then-back_counts : goal.returns-then-back_counts
returns-then-back_counts c =
    counted_back _ _ _ _ c.forward_counts.ensures c.back_counts.ensures c.if-forward_counts.false
    c.if-back_counts.true c.step_word-then-back_counts.ensures

pub returns : goal.returns
returns c =
    counted_none _ _ _ _ c.forward_counts.ensures c.back_counts.ensures c.if-forward_counts.false c.if-back_counts.false
