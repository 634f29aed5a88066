-- Past the last row the next is left (stepped-row), if there is one (stepped-past); else the pair's edge is told.
use Rattle.edge_put.specs.CursorLaws.{row_fits, next_inside, stepped_row, stepped_past}
use Rattle.edge_put.proofs.look_on.Goals as goal

pub overflow_add-i : goal.overflow_add-i
overflow_add-i c = record { fits = row_fits _ _ c.requires c.if-n-c.true }

pub returns-then-n-i : goal.returns-then-n-i
returns-then-n-i c =
    stepped_past _ _ c.requires c.if-n-c.true _ _ c.if-n-i.true
    c.past_all.ensures c.nothing_at.ensures

pub row_first-first-requires : goal.row_first-first-requires
row_first-first-requires c =
    next_inside _ _ c.requires c.if-n-c.true c.if-n-i.false

pub row_start-requires : goal.row_start-requires
row_start-requires c =
    next_inside _ _ c.requires c.if-n-c.true c.if-n-i.false

pub returns-then-n-c : goal.returns-then-n-c
returns-then-n-c c =
    stepped_row _ _ c.requires c.if-n-c.true c.if-n-i.false _ _ _
    c.row_first-first.ensures c.row_start.ensures c.nothing_at-then-n-c.ensures

pub pair_step-requires : goal.pair_step-requires
pair_step-requires c = record { ready = c.requires; right = c.if-n-c.false }

pub returns : goal.returns
returns c = c.pair_step.ensures
