-- While the run goes on right after a row's words, the words of its next row stand there (run-straight), and the run is kept row by row (run-again).
use mathlib.Core.Path.{refl, sym, ◌∙◌}
use native.Mathlib.Omega.{arith}
use Rattle.place_next.specs.ChainLaws.{rows_most}
use Rattle.walk_pick.specs.Leavings.{known_of}
use Rattle.walk_pick.specs.RunLaws.{here, here_fits, run_most, run_straight, run_again, last_turn, last_fits, told_forward, told_never}
use Rattle.walk_pick.proofs.straight_forward.Goals as goal

pub straight_at-straight-requires : goal.straight_at-straight-requires
straight_at-straight-requires c =
    let pre = c.requires in
    let known = known_of c.args.s.now c.args.j pre.0.0 in
    here_fits known.rows known.worked (here pre.2.run pre.2.inside)

pub loop-straight-init : goal.loop-straight-init
loop-straight-init c =
    let pre = c.requires in
    (pre.2.last_inside, c.straight_at-straight.ensures, omega arith, pre.2.inside, pre.2.run)

pub entered_at-q-requires : goal.entered_at-q-requires
entered_at-q-requires c =
    let pre = c.requires in
    let known = known_of c.args.s.now c.args.j pre.0.0 in
    let inv = c.loop-straight.invariant in
    here_fits known.rows known.worked (here inv.4 inv.3)

pub overflow_add-edges : goal.overflow_add-edges
overflow_add-edges c =
    let pre = c.requires in
    let known = known_of c.args.s.now c.args.j pre.0.0 in
    let inv = c.loop-straight.invariant in
    let h = here inv.4 inv.3 in
    let few = rows_most _ known.rows in
    let l = h.inside in
    let most = run_most h.kept in
    let one = c.one_if-edges.ensures.1 in
    record { fits = omega (arith, most.0) }

pub overflow_add-at : goal.overflow_add-at
overflow_add-at c =
    let low = c.loop-straight.invariant.3 in
    record { fits = omega arith }

pub straight_at-straight-requires-in-loop-straight : goal.straight_at-straight-requires-in-loop-straight
straight_at-straight-requires-in-loop-straight c =
    let pre = c.requires in
    let known = known_of c.args.s.now c.args.j pre.0.0 in
    let inv = c.loop-straight.invariant in
    let h = here inv.4 inv.3 in
    let on = run_straight known.rows known.worked h inv.1 c.loop-straight-test.true in
    let low = on.1 in
    let size = known.worked.size in
    let e = h.stands_at in
    omega arith

pub loop-straight-smaller : goal.loop-straight-smaller
loop-straight-smaller c =
    let low = c.loop-straight.invariant.3 in
    omega arith

pub loop-straight-preserved : goal.loop-straight-preserved
loop-straight-preserved c =
    let turn = c.loop-straight in
    let inv = turn.invariant in
    let pre = c.requires in
    let known = known_of c.args.s.now c.args.j pre.0.0 in
    let stands = c.forward_meets-f in
    let first = here inv.4 inv.3 in
    let fits = here_fits known.rows known.worked first in
    let from = inv.2 in (
      last_fits _ stands.result turn.at turn.last c.last_if-last.ensures fits inv.0,
      c.straight_at-straight-in-loop-straight.ensures,
      omega arith,
      (run_straight known.rows known.worked first inv.1 c.loop-straight-test.true).1,
      let entered = c.entered_at-q.ensures in
          let on = run_straight known.rows known.worked first inv.1 c.loop-straight-test.true in
          run_again known.rows known.worked first on.0
          (told_forward known.worked known.left_is first entered stands.ensures)
          (told_never known.worked known.left_is first entered (sym c.args.s.now.never_is ∙ pre.1))
          refl
          (last_turn _ stands.result turn.at turn.last _ c.last_if-last.ensures c.one_if-edges.ensures.0) refl
          c.one_if-edges.ensures.0 refl,
    )

pub returns : goal.returns
returns c =
    let pre = c.requires in
    let inv = c.loop-straight.invariant in
    (record { inside = inv.3; last_inside = inv.0; run = inv.4 }, inv.2)
