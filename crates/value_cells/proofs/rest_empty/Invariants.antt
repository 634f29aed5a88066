-- The cells from i on are all empty exactly where those from the count on are: an empty cell keeps this (cells-next), another one makes both
-- false (cells-other), and past 1616 none is left (cells-past).
use Rattle.spec_base.specs.Basic.{all}
use Rattle.value_cells.specs.Cells.{is_empty}
use mathlib.Core.Path.{◌≡◌}
use lib.ListN.{drop}
use Rattle.value_cells.proofs.rest_empty.Given as goal

abbrev pub invariant-loop-i : goal.invariant-loop-i
invariant-loop-i l = all is_empty (drop l.i l.w.lines) ≡ all is_empty (drop l.w.count l.w.lines)
