-- 0 has one digit. Any other set has a digit for each four bits from its highest one down (hexadecimal-many), and at most 64 zeros stand in front
-- of it, so the difference is exact.
use lib.Count.{leading_le}
use Rattle.value_length.specs.LineSizeLaws.{hexadecimal_zero, hexadecimal_many}
use native.Mathlib.Omega.{arith}
use mathlib.Core.Path.{sym}
use Rattle.value_length.proofs.hexadecimal_digits.Goals as goal

pub returns-then-set-eq0 : goal.returns-then-set-eq0
returns-then-set-eq0 c = (rw c.if-set-eq0.true (sym hexadecimal_zero), omega arith)

pub overflow_cast-zeros : goal.overflow_cast-zeros
overflow_cast-zeros c = record { fits = omega (arith, leading_le 64 c.args.set) }

pub overflow_sub-result : goal.overflow_sub-result
overflow_sub-result c = omega (arith, leading_le 64 c.args.set)

pub returns : goal.returns
returns c =
    (sym (hexadecimal_many _ (omega (arith, c.if-set-eq0.false)) (omega arith)), omega (arith, leading_le 64 c.args.set))
