-- Up to three digits, read one by one; each that is one stands within the text.
use Rattle.text_fields.specs.RunLaws.{at_end, number_zero, number_one, number_two, number_three}
use Rattle.text_fields.proofs.number_digits.Goals as goal

pub returns-in_err-a : goal.returns-in_err-a
returns-in_err-a c = rw c.from_residual.ensures (at_end _ _ _ _ _ c.in_err-a.ensures)

pub returns-then-a-eq0 : goal.returns-then-a-eq0
returns-then-a-eq0 c = rw (← number_zero _ _ _ c.in_ok-a.ensures c.if-a-eq0.true) c.ended.ensures

pub returns-in_default : goal.returns-in_default
returns-in_default c =
    rw (← number_one _ _ _ c.in_ok-a.ensures c.if-a-eq0.false c.in_default.ensures) c.ended-in_default.ensures

pub returns-in_default-decimal_at : goal.returns-in_default-decimal_at
returns-in_default-decimal_at c =
    rw (← number_two _ _ _ c.in_ok-a.ensures c.if-a-eq0.false _ c.in-Some.ensures c.in_default-decimal_at.ensures)
    c.ended-in_default-decimal_at.ensures

pub returns : goal.returns
returns c =
    rw (← number_three _ _ _ c.in_ok-a.ensures c.if-a-eq0.false _ c.in-Some.ensures _ c.in-Some-decimal_at.ensures) c.ended-2.ensures
