-- After j rows their words stand (worked-turn); the next row on a chain is known.
use mathlib.Core.Path.{refl}
use native.Mathlib.Omega.{arith}
use Rattle.place_next.specs.ChainLaws.{rows_most}
use Rattle.walk_pick.specs.WorkLaws.{worked_none, worked_turn, worked_all, next_most}
use Rattle.walk_pick.proofs.fill_work.Goals as goal

pub loop-j-init : goal.loop-j-init
loop-j-init c = worked_none c.requires.size

pub offset_bounds-next-j : goal.offset_bounds-next-j
offset_bounds-next-j c =
    let known = c.requires in
    let few = rows_most _ known.rows in
    let l = c.loop-j-test.true in
    record { fits = omega arith }

pub bounds-next-j : goal.bounds-next-j
bounds-next-j c =
    let room = c.requires.room in
    let l = c.loop-j-test.true in
    omega arith

pub put_work-requires : goal.put_work-requires
put_work-requires c =
    let known = c.requires in
    let l = c.loop-j-test.true in
    (known.rows, l, next_most known l refl)

pub loop-j-preserved : goal.loop-j-preserved
loop-j-preserved c =
    let known = c.requires in
    let few = rows_most _ known.rows in
    let l = c.loop-j-test.true in
    worked_turn _ _ _ (omega arith) c.loop-j.invariant (known.nexts _ l) c.put_work.ensures

pub returns : goal.returns
returns c = worked_all c.loop-j.auto.j-end c.loop-j-test.false c.loop-j.invariant
