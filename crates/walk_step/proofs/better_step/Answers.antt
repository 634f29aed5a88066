-- The node of a row for which a word has room is below 64 (word_room). The lesser of the best word and the pair's is the pair's where it is less
-- (better-found), else the best (better-not, better-late, better-none).
use Rattle.walk_step.specs.StepTurnLaws.{word_room, better_found, better_not, better_late, better_none}
use Rattle.walk_step.proofs.better_step.Goals as goal

pub need_into-requires : goal.need_into-requires
need_into-requires c = (word_room _ c.has_word.ensures c.if-has_word.true).0

pub returns-then-s-best : goal.returns-then-s-best
returns-then-s-best c =
    better_found _ _ _ _ c.has_word.ensures _ c.if-has_word.true c.need_into.ensures
    c.word_at.ensures c.counted_step-s.ensures c.if-s-best.true

pub returns-else-s-best : goal.returns-else-s-best
returns-else-s-best c =
    better_not _ _ _ _ c.has_word.ensures _ c.if-has_word.true c.need_into.ensures
    c.word_at.ensures c.counted_step-s.ensures c.if-s-best.false

pub returns-else-w-best : goal.returns-else-w-best
returns-else-w-best c =
    better_late _ _ _ _ c.has_word.ensures _ c.if-has_word.true c.step_word-w.ensures c.if-w-best.false

pub returns-else-has_word : goal.returns-else-has_word
returns-else-has_word c = better_none _ _ _ _ c.has_word.ensures _ c.requires c.if-has_word.false
