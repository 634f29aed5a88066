-- A run lays a stretch of statements and the block after it, turn after turn (`Running`); the block takes the quotient of the number by what the run
-- after it counts, that run the remainder (running-next). It ends where a stretch says so (stretch-whole). What is found in the words is what is
-- counted (known-run). A block is its turns (`Parted`); a turn is a stretch and the run after it (turn_on).
use native.Mathlib.Omega.{arith}
use Rattle.unfold.proofs.PathLaws.{known_run, end_known}
use Rattle.unfold.proofs.LaidLaws.{lays_nothing, lays_both}
use Rattle.unfold.proofs.StretchLaws.{
  running_start,
  running_end,
  running_next,
  stretch_whole,
  stretch_known,
  block_ends,
  turn_on,
  turn_whole,
  no_block,
}
use Rattle.value_tables.specs.TableLaws.{codes_many}
use Rattle.unfold.proofs.+write_block_write_run_write_turn.Goals as goal

pub write_block-returns-in-Nothing : goal.write_block-returns-in-Nothing
write_block-returns-in-Nothing t c = lays_nothing _ _ (c.in-Nothing.ensures _)

pub write_block-returns-in-Once : goal.write_block-returns-in-Once
write_block-returns-in-Once t c = rw (c.in-Once.ensures.1 _) c.write_turn.ensures

pub write_block-returns-in-Twice : goal.write_block-returns-in-Twice
write_block-returns-in-Twice t c = lays_both _ _ _ _ _ _ _ _ (c.in-Twice.ensures.1 _) c.write_turn-m.ensures c.write_run.ensures

pub write_run-loop-m-init : goal.write_run-loop-m-init
write_run-loop-m-init t c = (omega arith, omega arith, running_start _ _ _ _ _ _ _ _ _ c.requires)

pub write_run-returns-in_default : goal.write_run-returns-in_default
write_run-returns-in_default t c =
    stretch_whole _ _ _ _ _ _ _ _ _ _ _ _ c.loop-m.invariant.2 _ _ c.write_stretch-s.ensures (no_block _ c.in_default.not-Some)

pub write_run-overflow_add-line : goal.write_run-overflow_add-line
write_run-overflow_add-line t c =
    record { fits = omega (arith, codes_many c.args.source.now.lines.now, c.write_stretch-s.ensures.laid.reach, c.loop-m.invariant.1) }

pub write_run-nonzero_div-number : goal.write_run-nonzero_div-number
write_run-nonzero_div-number t c =
    let known = stretch_known _ _ _ _ _ _ _ _ _ _ _ _ c.loop-m.invariant.2 _ _ c.write_stretch-s.ensures _ c.in-Some.is in
    let onward = end_known _ _ _ _ known (c.write_stretch-s.ensures.block _ c.in-Some.is).1.inside _ c.block_end-here.ensures in
    let more = known_run _ _ _ _ onward _ c.run_at-more.ensures in
    omega (arith, more.counting.positive)

pub write_run-nonzero_rem-number : goal.write_run-nonzero_rem-number
write_run-nonzero_rem-number t c =
    let known = stretch_known _ _ _ _ _ _ _ _ _ _ _ _ c.loop-m.invariant.2 _ _ c.write_stretch-s.ensures _ c.in-Some.is in
    let onward = end_known _ _ _ _ known (c.write_stretch-s.ensures.block _ c.in-Some.is).1.inside _ c.block_end-here.ensures in
    let more = known_run _ _ _ _ onward _ c.run_at-more.ensures in
    omega (arith, more.counting.positive)

pub write_run-loop-m-preserved : goal.write_run-loop-m-preserved
write_run-loop-m-preserved t c =
    let known = stretch_known _ _ _ _ _ _ _ _ _ _ _ _ c.loop-m.invariant.2 _ _ c.write_stretch-s.ensures _ c.in-Some.is in
    let onward = end_known _ _ _ _ known (c.write_stretch-s.ensures.block _ c.in-Some.is).1.inside _ c.block_end-here.ensures in
    let more = known_run _ _ _ _ onward _ c.run_at-more.ensures in (
      omega (arith, c.loop-m.invariant.0),
      omega (
        arith,
        codes_many c.args.source.now.lines.now,
        block_ends _ _ _ _ _ _ _ _ _ _ _ _ c.loop-m.invariant.2 _ _ c.write_stretch-s.ensures _ c.in-Some.is _ c.block_end-here.ensures,
      ),
      running_next _ _ _ _ _ _ _ _ _ _ _ _ c.loop-m.invariant.2 _ _ c.write_stretch-s.ensures _ c.in-Some.is _ _
          c.block_end-here.ensures more onward _ _ c.write_block-m.ensures,
    )

pub write_run-returns : goal.write_run-returns
write_run-returns t c = running_end _ _ _ _ _ _ _ _ _ _ _ _ c.loop-m.invariant.2 c.loop-m-test.false

pub write_turn-overflow_add-at : goal.write_turn-overflow_add-at
write_turn-overflow_add-at t c = record { fits = omega (arith, codes_many c.args.source.now.lines.now, c.write_stretch-s.ensures.laid.reach) }

pub write_turn-returns-in_default : goal.write_turn-returns-in_default
write_turn-returns-in_default t c =
    turn_whole _ _ _ _ _ _ _ _ _ c.requires _ _ c.write_stretch-s.ensures (no_block _ c.in_default.not-Some)

pub write_turn-returns : goal.write_turn-returns
write_turn-returns t c = turn_on _ _ _ _ _ _ _ _ _ c.requires _ _ c.write_stretch-s.ensures _ c.in-Some.is _ _ c.write_run.ensures
