-- After x turns the first x words of the round stand (row_turn); the words of nodes without a row are 0 (row_end).
use native.Mathlib.Omega.{arith}
use Rattle.walk_wide.specs.WideLaws.{row_start_lem, row_turn, row_end}
use Rattle.walk_wide.proofs.widest_row.Goals as goal

pub loop-x-init : goal.loop-x-init
loop-x-init c = row_start_lem _ _ _ _ _

pub loop-x-preserved : goal.loop-x-preserved
loop-x-preserved c =
    let given = c.requires in
    row_turn _ _ _ _ _ given.3 (omega arith) given.4 given.5 c.loop-x.invariant c.widest_from.ensures

pub returns : goal.returns
returns c =
    let given = c.requires in
    row_end _ _ _ _ _ _ given.0 given.1 given.2 (omega arith) (omega arith) c.loop-x.invariant c.clear.ensures
