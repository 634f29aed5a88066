-- A turn puts the word of one line more (filling-next), and at the first line all stand (filling-all).
use mathlib.Core.Path.{refl}
use native.Mathlib.Omega.{arith}
use Rattle.unfold_count.proofs.WordLaws.{filling_start, filling_behind, filling_end, filling_next, filling_all}
use Rattle.unfold_count.proofs.fill.Goals as goal

pub loop-at-init : goal.loop-at-init
loop-at-init c = filling_start _ _ _ refl c.requires.0 c.requires.1

pub run_behind-c-requires : goal.run_behind-c-requires
run_behind-c-requires c =
    filling_behind _ _ _ _ c.loop-at.invariant _ _ (omega arith) (omega (arith, c.requires.0, c.loop-at.auto.at, c.loop-at-test.true))

pub count_line-t-requires : goal.count_line-t-requires
count_line-t-requires c = (
  filling_behind _ _ _ _ c.loop-at.invariant _ _ (omega arith) (omega (arith, c.requires.0, c.loop-at.auto.at, c.loop-at-test.true)),
  omega (arith, c.requires.0, c.loop-at.auto.at, c.loop-at-test.true),
  c.loop-at.invariant.few,
  c.loop-at.invariant.short,
)

pub count_word-requires : goal.count_word-requires
count_word-requires c = (
  c.run_behind-c.ensures.counting.few,
  c.run_behind-c.ensures.counting.short,
  filling_end _ _ _ _ c.loop-at.invariant _ _ (omega arith)
      (omega (arith, c.requires.0, c.loop-at.auto.at, c.loop-at-test.true)) _ c.run_behind-c.ensures,
)

pub loop-at-preserved : goal.loop-at-preserved
loop-at-preserved c =
    filling_next _ _ _ _ c.loop-at.invariant _ _ (omega arith)
    (omega (arith, c.requires.0, c.loop-at.auto.at, c.loop-at-test.true)) _ c.run_behind-c.ensures _
    c.count_line-t.ensures _ c.count_word.ensures

pub returns : goal.returns
returns c = filling_all _ _ _ _ c.loop-at.invariant (omega (arith, c.loop-at-test.false))
