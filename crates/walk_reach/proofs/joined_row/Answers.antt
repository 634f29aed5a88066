-- Past the end of the table there are no nodes (row-part, row-none).
use native.Mathlib.Omega.{arith}
use Rattle.walk_reach.specs.LayerLaws.{row_part, row_none}
use Rattle.walk_reach.proofs.joined_row.Goals as goal

pub returns-then-m-b : goal.returns-then-m-b
returns-then-m-b c = row_none _ _ c.if-m-b.true

pub row_below-requires : goal.row_below-requires
row_below-requires c =
    let a = c.if-b-m.false in
    let b = c.if-m-b.false in
    let l = c.requires.0 in
    (l, omega arith, omega arith)

pub returns : goal.returns
returns c =
    let a = c.if-b-m.false in
    let b = c.if-m-b.false in
    row_part _ _ (omega arith) (omega arith) c.row_below.ensures
