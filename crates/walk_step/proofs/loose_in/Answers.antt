-- A row whose first word is another node's is not asked for (other-first, loose-other); another is taken out.
use Rattle.walk_step.specs.LooseLaws.{loose_other}
use Rattle.walk_step.specs.StepTurnLaws.{other_first}
use Rattle.walk_step.proofs.loose_in.Goals as goal

pub returns-then-word_at-x : goal.returns-then-word_at-x
returns-then-word_at-x c = loose_other _ _ _ (other_first _ _ _ c.word_at.ensures c.if-word_at-x.true)

pub returns : goal.returns
returns c = rw (← c.row_at-p.ensures) c.loose_row.ensures
