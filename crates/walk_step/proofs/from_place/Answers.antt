-- A row whose first word is another node's gives nothing (other-first, from-other); another is taken out.
use Rattle.walk_step.specs.StepTurnLaws.{other_first, from_other}
use Rattle.walk_step.proofs.from_place.Goals as goal

pub returns-then-word_at-x : goal.returns-then-word_at-x
returns-then-word_at-x c = from_other _ _ _ _ _ _ _ (other_first _ _ _ c.word_at.ensures c.if-word_at-x.true)

pub returns : goal.returns
returns c = rw (← c.row_at-p.ensures) c.from_row.ensures
