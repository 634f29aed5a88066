-- Below 10 the number is one digit (put_digit); else the digits of its tenth stand before its last one (put_digits). A word has at most 20
-- digits, so the last one has room (last_room).
use Rattle.std.proofs.Common.{arith}
use Rattle.report_print.specs.DecimalLaws.{last_room, put_digit, put_digits}
use Rattle.report_print.proofs.Printed.+put_decimal.Goals as goal

pub returns-then-n-lt10 : goal.returns-then-n-lt10
returns-then-n-lt10 t c = put_digit _ c.if-n-lt10.true c.digit_byte.ensures c.put_byte.ensures

pub put_byte-requires-2 : goal.put_byte-requires-2
put_byte-requires-2 t c = omega (arith, last_room c.args.n (omega arith) (omega arith), c.put_decimal.ensures.place)

pub returns : goal.returns
returns t c = put_digits _ c.if-n-lt10.false (omega arith) c.put_decimal.ensures c.digit_byte-2.ensures c.put_byte-2.ensures
