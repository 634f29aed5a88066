-- Each line adds its part (lines_next); after the last line the totals are the workload's, whose nodes and statements they count (lines-all).
use native.Mathlib.Omega.{arith}
use Rattle.unfold_count.proofs.AllLaws.{lines_all, lines_none, lines_next}
use Rattle.unfold_count.proofs.WordLaws.{behind_past}
use Rattle.unfold_count.proofs.count_all.Goals as goal

pub loop-i-init : goal.loop-i-init
loop-i-init c = lines_none _

pub count_line-t-requires : goal.count_line-t-requires
count_line-t-requires c = (
  behind_past _ _ _ _ (omega (arith, c.lines_in-n.ensures, c.loop-i-test.true)) (omega arith),
  omega (arith, c.lines_in-n.ensures, c.loop-i-test.true),
  c.loop-i.invariant.few,
  c.loop-i.invariant.short,
)

pub loop-i-preserved : goal.loop-i-preserved
loop-i-preserved c = lines_next _ _ _ _ c.loop-i.invariant c.count_line-t.ensures

pub returns : goal.returns
returns c =
    lines_all _ c.loop-i.i _ (omega (arith, c.lines_in-n.ensures, c.loop-i.auto.i-end)) (omega (arith, c.lines_in-n.ensures, c.loop-i-test.false))
    c.loop-i.invariant
