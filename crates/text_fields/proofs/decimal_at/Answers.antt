-- There is a byte, and it is a decimal digit or not.
use Rattle.std.proofs.Common.{arith, sym, ap, ◌∙◌}
use Rattle.text_number.specs.Digits.{hexadecimal}
use Rattle.text_fields.specs.RunLaws.{decimal_here, decimal_above, decimal_below}
use Rattle.text_fields.proofs.decimal_at.Goals as goal

pub returns-in-48-to-57 : goal.returns-in-48-to-57
returns-in-48-to-57 c =
    let byte = c.in_ok-b.ensures.lookup.3 in
    let here = decimal_here c.in_ok-b.field-0.now (omega arith) (omega arith) in
    (byte.0, ap hexadecimal (sym (byte.1 0)) ∙ here ∙ sym c.from.ensures, omega arith)

pub returns-in_default : goal.returns-in_default
returns-in_default c inside = let byte = c.in_ok-b.ensures.lookup.3.1 0 in rw (← byte) (decimal_below _ (omega arith))

pub returns-in_default-2 : goal.returns-in_default-2
returns-in_default-2 c inside = let byte = c.in_ok-b.ensures.lookup.3.1 0 in rw (← byte) (decimal_above _ (omega arith))
