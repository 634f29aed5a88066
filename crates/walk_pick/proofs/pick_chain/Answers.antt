-- From the first row of the chain on run after run is kept (row-run); past the last one that is the whole row (row_read).
use mathlib.Core.Path.{refl}
use native.Mathlib.Omega.{arith}
use Rattle.place_next.specs.ChainLaws.{rows_most}
use Rattle.walk_pick.specs.PairLaws.{row_most, row_read}
use Rattle.walk_pick.specs.PickStepLaws.{row_tables}
use Rattle.walk_pick.specs.RunLaws.{row_run}
use Rattle.walk_pick.proofs.pick_chain.Goals as goal

pub pick_run-t-requires : goal.pick_run-t-requires
pick_run-t-requires c =
    let inv = c.loop-j.invariant in
    let l = c.loop-j-test.true in
    let tables = row_tables c.requires.1 c.requires.2 inv.2 in
    ((l, inv.1 l), tables.0, tables.1)

pub overflow_add-edges : goal.overflow_add-edges
overflow_add-edges c =
    let few = rows_most _ c.args.s.now.counted in
    let added = c.pick_run-t.ensures in
    let h = row_most (row_run c.requires.1 c.requires.2 c.loop-j.invariant.2 added) in
    let l = added.ran.inside in
    record { fits = omega (arith, h.0) }

pub overflow_add-edges-in-loop-j : goal.overflow_add-edges-in-loop-j
overflow_add-edges-in-loop-j c =
    let few = rows_most _ c.args.s.now.counted in
    let added = c.pick_run-t.ensures in
    let h = row_most (row_run c.requires.1 c.requires.2 c.loop-j.invariant.2 added) in
    let l = added.ran.inside in
    record { fits = omega (arith, h.0) }

pub overflow_add-back : goal.overflow_add-back
overflow_add-back c =
    let few = rows_most _ c.args.s.now.counted in
    let added = c.pick_run-t.ensures in
    let h = row_most (row_run c.requires.1 c.requires.2 c.loop-j.invariant.2 added) in
    let l = added.ran.inside in
    record { fits = omega (arith, h.1) }

pub loop-j-smaller : goal.loop-j-smaller
loop-j-smaller c =
    let ran = c.pick_run-t.ensures.ran in
    let later = ran.later in
    let inside = ran.inside in
    let l = c.loop-j-test.true in
    omega arith

pub loop-j-preserved : goal.loop-j-preserved
loop-j-preserved c =
    let added = c.pick_run-t.ensures in
    (added.ran.inside, added.ran.chain, row_run c.requires.1 c.requires.2 c.loop-j.invariant.2 added)

pub returns : goal.returns
returns c =
    let inv = c.loop-j.invariant in
    let most = inv.0 in
    let least = c.loop-j-test.false in
    row_read refl (omega arith) inv.2
