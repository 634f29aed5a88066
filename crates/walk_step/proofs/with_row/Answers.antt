-- A row that may count is taken out and compared; another leaves the best word as it is (row-passed).
use Rattle.walk_step.specs.MayLaws.{row_passed}
use Rattle.walk_step.proofs.with_row.Goals as goal

pub returns-then-may_count : goal.returns-then-may_count
returns-then-may_count c = rw (← c.row_at-q.ensures) c.better_step.ensures

pub returns-then-j-lt-ROWS : goal.returns-then-j-lt-ROWS
returns-then-j-lt-ROWS c =
    row_passed _ _ _ _ _ c.requires c.word_at-y.ensures c.may_count.ensures c.if-may_count.false

pub returns : goal.returns
returns c = rw (← c.row_at-q-2.ensures) c.better_step-2.ensures
