-- `count_all` tells nodes and statements, stopped at 513, so 22 is tested exactly (over_many_lem). Past it there is no such node (over_missing), or
-- the choices of its unfolding are told, at most 63 (over_told).
use Rattle.unfold_choice.proofs.OverLaws.{over_many_lem, over_missing, over_told}
use native.Mathlib.Omega.{arith}
use mathlib.Core.Path.{sym}
use Rattle.unfold_choice.proofs.choices_over.Goals as goal

pub returns-in-Some : goal.returns-in-Some
returns-in-Some c = over_many_lem _ _ _ c.count_all-t.ensures _ (sym c.in-Some.ensures)

pub returns-in_default-find_node : goal.returns-in_default-find_node
returns-in_default-find_node c = over_missing _ _ _ c.count_all-t.ensures (sym c.in_default.ensures) c.in_default-find_node.ensures

pub overflow_add-first : goal.overflow_add-first
overflow_add-first c = omega (arith, c.in-Some-find_node.ensures.0, c.requires)

pub overflow_sub-left : goal.overflow_sub-left
overflow_sub-left c = omega (arith, c.in-Some-find_node.ensures.0, c.lines_in.ensures)

pub returns : goal.returns
returns c =
    over_told _ _ _ c.count_all-t.ensures (sym c.in_default.ensures) _ c.in-Some-find_node.ensures _ _ c.empty.ensures _ c.lines_in.ensures
    c.tell_run-c.ensures
