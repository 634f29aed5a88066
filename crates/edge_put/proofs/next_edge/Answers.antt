-- A back edge that is to come is the next. Else each step passes over slots in which no edge stands (onward-step), until one finds an edge
-- (onward-found) or all rows are left (onward-end).
use mathlib.Core.Path.{refl}
use native.Mathlib.Omega.{arith}
use Rattle.edge_put.specs.CursorLaws.{onward_step, onward_found, onward_end, onward_high}
use Rattle.edge_put.proofs.next_edge.Goals as goal

pub back_step-requires : goal.back_step-requires
back_step-requires c = record { stands = c.requires; there = c.in-Some.is }

pub loop-d-init : goal.loop-d-init
loop-d-init c = record { stands = c.requires; none = c.in_default.is; below = refl }

pub look_on-step-requires : goal.look_on-step-requires
look_on-step-requires c = let o = c.loop-d.invariant in record { stands = o.stands; none = o.none; left = c.loop-d-test.true }

pub returns-in-Some-edge : goal.returns-in-Some-edge
returns-in-Some-edge c = onward_found _ _ _ _ c.loop-d.invariant c.look_on-step.ensures _ c.in-Some-edge.is

pub loop-d-smaller : goal.loop-d-smaller
loop-d-smaller c =
    let o = c.loop-d.invariant in
    let s = c.look_on-step.ensures in
    let high = onward_high _ _ _ (onward_step _ _ _ _ o s c.in-None.is) in
    let later = (s.skipped c.in-None.is).later in
    omega (arith, high, later)

pub loop-d-preserved : goal.loop-d-preserved
loop-d-preserved c =
    onward_step _ _ _ _ c.loop-d.invariant c.look_on-step.ensures c.in-None.is

pub returns : goal.returns
returns c =
    onward_end _ _ _ _ c.loop-d.invariant c.loop-d-test.false c.nothing_at.ensures
