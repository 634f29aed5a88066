-- A row of another node or past the places of a word gives nothing (from-other, from_past), nor does one that leaves too late (from-late).
use Rattle.walk_step.specs.StepTurnLaws.{from_other, from_past, from_late, from_row_lem}
use Rattle.walk_step.proofs.from_row.Goals as goal

pub returns-then-p-x : goal.returns-then-p-x
returns-then-p-x c = from_other _ _ _ _ _ _ _ c.if-p-x.true

pub returns-then-p-best : goal.returns-then-p-best
returns-then-p-best c =
    from_row_lem _ _ _ _ _ _ _ c.if-p-x.false c.if-p-lt-PLACES.true c.row_least.ensures

pub returns-else-p-best : goal.returns-else-p-best
returns-else-p-best c =
    from_late _ _ _ _ _ _ _ c.if-p-x.false c.if-p-lt-PLACES.true c.if-p-best.false

pub returns-else-p-lt-PLACES : goal.returns-else-p-lt-PLACES
returns-else-p-lt-PLACES c = from_past _ _ _ _ _ _ _ c.if-p-x.false c.if-p-lt-PLACES.false
