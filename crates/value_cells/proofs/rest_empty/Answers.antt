-- The cells from i on are all empty exactly where those from the count on are: an empty cell keeps this (cells-next), another one makes both
-- false (cells-other), and past 1616 none is left (cells-past).
use Rattle.value_cells.specs.CellLaws.{cells_past, cells_next, cells_other}
use native.Mathlib.Omega.{arith}
use mathlib.Core.Path.{refl, sym, ◌∙◌}
use Rattle.value_cells.proofs.rest_empty.Goals as goal

pub loop-i-init : goal.loop-i-init
loop-i-init c = refl

pub returns-then-not-is_empty : goal.returns-then-not-is_empty
returns-then-not-is_empty c =
    let other = sym c.is_empty.ensures ∙ c.if-not-is_empty.true in
    sym (cells_other c.args.w.lines c.loop-i.i _ (omega arith) other) ∙ c.loop-i.invariant

pub loop-i-preserved : goal.loop-i-preserved
loop-i-preserved c =
    let empty = sym c.is_empty.ensures ∙ c.if-not-is_empty.false in
    sym (cells_next c.args.w.lines c.loop-i.i _ (omega arith) empty) ∙ c.loop-i.invariant

pub returns : goal.returns
returns c =
    sym (cells_past c.args.w.lines c.loop-i.i (omega arith)) ∙ c.loop-i.invariant
