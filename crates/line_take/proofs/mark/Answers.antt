-- Another part has no place; else the shift makes 2 to the place, which fits a word.
use Prim.Native.Nat.{◌%◌, ◌<◌}
use native.Mathlib.Nat.{one-mul, mod-eq_of_lt}
use native.Mathlib.Omega.{arith}
use lib.Pow.{pow-lt}
use borrow.Author.Tests.{eq-eqb, ne_eqb}
use Rattle.line_state.specs.StateSteps.{mark_of}
use Rattle.line_take.proofs.mark.Goals as goal

pub returns-then-part-which : goal.returns-then-part-which
unfolding mark_of
returns-then-part-which c =
    let below : c.args.place % 64 < 64 = omega arith in
    simp (eq-eqb _ _ c.if-part-which.true) (rw (one-mul, mod-eq_of_lt (pow-lt below)))

pub returns-else-part-which : goal.returns-else-part-which
unfolding mark_of
returns-else-part-which c = simp (ne_eqb _ _ c.if-part-which.false)
