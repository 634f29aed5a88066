-- The rows that stand right one after the other are met (straight_forward), then the last of these: the words tell whether a forward edge stands
-- (told-forward), no back edge does (told-never), and so the run is kept row by row (run-again).
use mathlib.Core.Path.{refl, sym, ◌∙◌}
use native.Mathlib.Omega.{arith}
use Rattle.place_next.specs.ChainLaws.{rows_most}
use Rattle.walk_pick.specs.Runs.{last_mark}
use Rattle.walk_pick.specs.Leavings.{known_of}
use Rattle.walk_pick.specs.RunLaws.{here, here_fits, run_first, run_most, run_less, run_again, run_end, last_turn, last_fits}
use Rattle.walk_pick.specs.RunLaws.{told_forward, told_never}
use Rattle.walk_pick.proofs.run_forward.Goals as goal

pub overflow_mul-at : goal.overflow_mul-at
overflow_mul-at c =
    let known = known_of c.args.s.now c.args.j c.requires.0.0 in
    let few = rows_most _ known.rows in
    let l = known.inside in
    record { fits = omega arith }

pub loop-at-init : goal.loop-at-init
unfolding last_mark
loop-at-init c =
    let known = known_of c.args.s.now c.args.j c.requires.0.0 in
    let size = known.worked.size in
    (omega arith, run_first known.inside known.chain c.requires.0.1 refl)

pub straight_forward-far-requires : goal.straight_forward-far-requires
straight_forward-far-requires c =
    let pre = c.requires in
    let inv = c.loop-at.invariant in
    (pre.0, pre.1, record { inside = c.loop-at-test.true; last_inside = inv.0; run = inv.1 })

pub entered_at-q-requires : goal.entered_at-q-requires
entered_at-q-requires c =
    let known = known_of c.args.s.now c.args.j c.requires.0.0 in
    let s = c.straight_forward-far.ensures.0 in
    here_fits known.rows known.worked (here s.run s.inside)

pub overflow_add-edges : goal.overflow_add-edges
overflow_add-edges c =
    let known = known_of c.args.s.now c.args.j c.requires.0.0 in
    let s = c.straight_forward-far.ensures.0 in
    let h = here s.run s.inside in
    let few = rows_most _ known.rows in
    let l = h.inside in
    let most = run_most h.kept in
    let one = c.one_if.ensures.1 in
    record { fits = omega (arith, most.0) }

pub along_at-at-requires : goal.along_at-at-requires
along_at-at-requires c =
    let known = known_of c.args.s.now c.args.j c.requires.0.0 in
    let s = c.straight_forward-far.ensures.0 in
    here_fits known.rows known.worked (here s.run s.inside)

pub loop-at-smaller : goal.loop-at-smaller
loop-at-smaller c =
    let known = known_of c.args.s.now c.args.j c.requires.0.0 in
    let s = c.straight_forward-far.ensures in
    let later = s.1 in
    let less = run_less known.rows known.worked (here s.0.run s.0.inside) c.along_at-at.ensures in
    omega (arith, less.0, less.1)

pub loop-at-preserved : goal.loop-at-preserved
loop-at-preserved c =
    let known = known_of c.args.s.now c.args.j c.requires.0.0 in
    let far = c.straight_forward-far.result in
    let s = c.straight_forward-far.ensures.0 in
    let h = here s.run s.inside in
    let stands = c.forward_meets-f in
    let last = c.last_if-last.ensures in
    let one = c.one_if.ensures.0 in
    let entered = c.entered_at-q.ensures in (
      last_fits _ stands.result far.at far.last last (here_fits known.rows known.worked h) s.last_inside,
      run_again known.rows known.worked h c.along_at-at.ensures
          (told_forward known.worked known.left_is h entered stands.ensures) (told_never known.worked known.left_is h entered (sym c.args.s.now.never_is ∙ c.requires.1))
          refl (last_turn _ stands.result far.at far.last _ last one) refl one refl,
    )

pub last_mark-forward-requires : goal.last_mark-forward-requires
last_mark-forward-requires c = c.loop-at.invariant.0

pub returns : goal.returns
returns c =
    rw c.last_mark-forward.ensures (run_end c.args.s.now.counted c.loop-at.invariant.1 c.loop-at-test.false)
