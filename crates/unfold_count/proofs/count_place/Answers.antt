-- Past the lines nothing is counted (place-past); within them `block_by` counts what stands there (place_inside).
use native.Mathlib.Omega.{arith}
use Rattle.unfold_count.proofs.RunLaws.{place_past, place_inside}
use Rattle.unfold_count.proofs.WordLaws.{behind_past}
use Rattle.unfold_count.proofs.count_place.Goals as goal

pub returns-then-lines_in-at : goal.returns-then-lines_in-at
returns-then-lines_in-at c = place_past _ _ _ _ (omega (arith, c.lines_in.ensures, c.if-lines_in-at.true)) c.nothing.ensures

pub block_by-requires : goal.block_by-requires
block_by-requires c = behind_past _ _ _ _ (omega (arith, c.lines_in.ensures, c.if-lines_in-at.false)) (omega arith)

pub returns : goal.returns
returns c = place_inside _ _ _ _ (omega (arith, c.lines_in.ensures, c.if-lines_in-at.false)) c.block_by.ensures
