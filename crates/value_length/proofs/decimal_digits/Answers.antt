-- Below 10 there is one digit, below 100 two, and any other byte has three (decimal-one, decimal-two, decimal-three).
use Rattle.value_length.specs.LineSizeLaws.{decimal_one, decimal_two, decimal_three}
use native.Mathlib.Omega.{arith}
use mathlib.Core.Path.{sym}
use Rattle.value_length.proofs.decimal_digits.Goals as goal

pub returns-then-n-lt10 : goal.returns-then-n-lt10
returns-then-n-lt10 c = (sym (decimal_one _ c.if-n-lt10.true), omega arith)

pub returns-then-n-lt100 : goal.returns-then-n-lt100
returns-then-n-lt100 c = (sym (decimal_two _ c.if-n-lt10.false c.if-n-lt100.true), omega arith)

pub returns : goal.returns
returns c = (sym (decimal_three _ c.if-n-lt100.false (omega arith)), omega arith)
