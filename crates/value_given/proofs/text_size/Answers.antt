-- The lines before a place are sound, the words hold them, and the size is that of their text (`Going`): a line without fault joins them (going_next).
-- A line that does not fit or has a fault, and a block open at the end, give none (going_wrong, going_open).
use Rattle.std.proofs.Common.{◌≡◌, ℕ, ◌<◌, ◌≤◌, length, take, arith, length-take-le, get_or-take}
use Rattle.spec_text.specs.declared.Workload.{Workload}
use Rattle.spec_text.specs.Value.{lines_of}
use Rattle.value_given.specs.DecideLaws.{going_start, going_next, going_wrong, going_open, going_closed}
use Rattle.value_given.proofs.text_size.Goals as goal

-- the places of the lines, and those past them
module _ (w : Workload) (cells : length w.lines ≡ 1616) (few : w.count ≤ 1616) (i : ℕ) where
  among : i < length (take w.count w.lines) → i < w.count
  among h = omega (arith, length-take-le w.count w.lines (omega arith))

  past : length (take w.count w.lines) ≤ i → w.count ≤ i
  past h = omega (arith, length-take-le w.count w.lines (omega arith))

pub loop-l-init : goal.loop-l-init
loop-l-init c = going_start _ _ _ c.start.ensures.1

pub returns-in_err-size : goal.returns-in_err-size
unfolding lines_of
returns-in_err-size c =
    let w = c.args.w in
    let inside = among w c.requires.0 c.requires.1 c.loop-l.l-index c.loop-l-test.true in
    rw c.from_residual.ensures
    (going_wrong w.lines w.count _ _ c.loop-l.l-index _ _ _ c.loop-l.invariant inside (omega arith) (get_or-take _ w.lines _ _ inside)
    c.in_err-size.ensures)

pub loop-l-preserved : goal.loop-l-preserved
loop-l-preserved c =
    let w = c.args.w in
    let inside = among w c.requires.0 c.requires.1 c.loop-l.l-index c.loop-l-test.true in
    going_next w.lines w.count _ _ c.loop-l.l-index _ _ _ _ c.loop-l.invariant inside (omega arith) (get_or-take _ w.lines _ _ inside)
    c.in_ok-size.ensures

pub returns-then-depth-ne0 : goal.returns-then-depth-ne0
unfolding lines_of
returns-then-depth-ne0 c =
    let w = c.args.w in
    going_open w.lines w.count _ _ c.loop-l.l-index _ c.loop-l.invariant (past w c.requires.0 c.requires.1 _ c.loop-l-test.false)
    c.depth.ensures.1 c.if-depth-ne0.true

pub returns : goal.returns
unfolding lines_of
returns c =
    let w = c.args.w in
    going_closed w.lines w.count _ _ c.loop-l.l-index _ c.loop-l.invariant (past w c.requires.0 c.requires.1 _ c.loop-l-test.false)
    c.depth.ensures.1 c.if-depth-ne0.false
