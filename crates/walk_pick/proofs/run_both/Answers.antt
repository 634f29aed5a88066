-- At each row of the run the words tell whether a forward and whether a back edge stands (told-forward, told_back), and so the run is kept row by
-- row (run-again).
use mathlib.Core.Path.{refl}
use native.Mathlib.Omega.{arith}
use Rattle.place_next.specs.ChainLaws.{rows_most}
use Rattle.walk_pick.specs.Runs.{last_mark}
use Rattle.walk_pick.specs.Leavings.{known_of}
use Rattle.walk_pick.specs.RunLaws.{here, here_fits, run_first, run_most, run_less, run_again, run_end, last_turn, last_fits}
use Rattle.walk_pick.specs.RunLaws.{told_forward, told_back}
use Rattle.walk_pick.proofs.run_both.Goals as goal

pub overflow_mul-at : goal.overflow_mul-at
overflow_mul-at c =
    let known = known_of c.args.s.now c.args.j c.requires.0 in
    let few = rows_most _ known.rows in
    let l = known.inside in
    record { fits = omega arith }

pub loop-at-init : goal.loop-at-init
unfolding last_mark
loop-at-init c =
    let known = known_of c.args.s.now c.args.j c.requires.0 in
    let size = known.worked.size in
    (omega arith, omega arith, run_first known.inside known.chain c.requires.1 refl)

pub entered_at-q-requires : goal.entered_at-q-requires
entered_at-q-requires c =
    let known = known_of c.args.s.now c.args.j c.requires.0 in
    let h = here c.loop-at.invariant.2 c.loop-at-test.true in
    here_fits known.rows known.worked h

pub overflow_add-edges : goal.overflow_add-edges
overflow_add-edges c =
    let known = known_of c.args.s.now c.args.j c.requires.0 in
    let h = here c.loop-at.invariant.2 c.loop-at-test.true in
    let few = rows_most _ known.rows in
    let l = h.inside in
    let most = run_most h.kept in
    let one = c.one_if-edges.ensures.1 in
    record { fits = omega (arith, most.0) }

pub overflow_add-turned : goal.overflow_add-turned
overflow_add-turned c =
    let known = known_of c.args.s.now c.args.j c.requires.0 in
    let h = here c.loop-at.invariant.2 c.loop-at-test.true in
    let few = rows_most _ known.rows in
    let l = h.inside in
    let most = run_most h.kept in
    let one = c.one_if-turned.ensures.1 in
    record { fits = omega (arith, most.1) }

pub along_at-at-requires : goal.along_at-at-requires
along_at-at-requires c =
    let known = known_of c.args.s.now c.args.j c.requires.0 in
    let h = here c.loop-at.invariant.2 c.loop-at-test.true in
    here_fits known.rows known.worked h

pub loop-at-smaller : goal.loop-at-smaller
loop-at-smaller c =
    let known = known_of c.args.s.now c.args.j c.requires.0 in
    let h = here c.loop-at.invariant.2 c.loop-at-test.true in
    let less = run_less known.rows known.worked h c.along_at-at.ensures in
    omega (arith, less.0, less.1)

pub loop-at-preserved : goal.loop-at-preserved
loop-at-preserved c =
    let turn = c.loop-at in
    let inv = turn.invariant in
    let stands = c.forward_meets-f in
    let back = c.back_meets-b in
    let known = known_of c.args.s.now c.args.j c.requires.0 in
    let fits = here_fits known.rows known.worked (here inv.2 c.loop-at-test.true) in (
      last_fits _ stands.result turn.at turn.last c.last_if-last.ensures fits inv.0,
      last_fits _ back.result turn.at turn.last_back c.last_if-last_back.ensures fits inv.1,
      let h = here inv.2 c.loop-at-test.true in
          let entered = c.entered_at-q.ensures in
          run_again known.rows known.worked h c.along_at-at.ensures
          (told_forward known.worked known.left_is h entered stands.ensures)
          (told_back known.worked known.left_is h entered back.ensures)
          refl
          (last_turn _ stands.result turn.at turn.last _ c.last_if-last.ensures c.one_if-edges.ensures.0)
          (last_turn _ back.result turn.at turn.last_back _ c.last_if-last_back.ensures c.one_if-turned.ensures.0)
          c.one_if-edges.ensures.0 c.one_if-turned.ensures.0,
    )

pub last_mark-forward-requires : goal.last_mark-forward-requires
last_mark-forward-requires c = c.loop-at.invariant.0

pub last_mark-back-requires : goal.last_mark-back-requires
last_mark-back-requires c = c.loop-at.invariant.1

pub returns : goal.returns
returns c =
    rw (c.last_mark-forward.ensures, c.last_mark-back.ensures)
    (run_end c.args.s.now.counted c.loop-at.invariant.2 c.loop-at-test.false)
