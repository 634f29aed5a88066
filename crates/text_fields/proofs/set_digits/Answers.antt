-- The first byte is no digit, the zero, or a digit with more after it.
use Rattle.std.proofs.Common.{◌≡◌, sym, ap, ◌∙◌, arith, get_or}
use Rattle.text_number.specs.Digits.{hexadecimal}
use Rattle.text_fields.specs.RunLaws.{at_over, at_none, at_zero, at_digit}
use Rattle.text_fields.proofs.set_digits.Goals as goal

pub returns-in_err-get : goal.returns-in_err-get
returns-in_err-get c = rw c.from_residual.ensures (at_over _ _ _ _ _ c.in_err-get.ensures.lookup.3)

pub returns-in_err-d : goal.returns-in_err-d
returns-in_err-d c =
    let byte = c.in_ok-get.ensures.lookup.3 in
    let none_here : hexadecimal (get_or c.args.text.now c.args.at 0) ≡ 16 = ap hexadecimal (sym (byte.1 0)) ∙ c.in_err-d.ensures in
    rw c.from_residual-in_err-d.ensures (at_none _ _ _ _ _ byte.0 (omega arith))

pub returns-then-d-eq0 : goal.returns-then-d-eq0
returns-then-d-eq0 c =
    let byte = c.in_ok-get.ensures.lookup.3 in
    let here : hexadecimal (get_or c.args.text.now c.args.at 0) ≡ c.in_ok-d.d = ap hexadecimal (sym (byte.1 0)) ∙ c.in_ok-d.ensures.1 in
    let small = c.in_ok-d.ensures.0 in
    rw (← at_zero c.args.text.now c.args.at c.args.last 16 15 byte.0 (omega arith) (here ∙ c.if-d-eq0.true)) c.ended.ensures

pub returns : goal.returns
returns c =
    let byte = c.in_ok-get.ensures.lookup.3 in
    let here : hexadecimal (get_or c.args.text.now c.args.at 0) ≡ c.in_ok-d.d = ap hexadecimal (sym (byte.1 0)) ∙ c.in_ok-d.ensures.1 in
    let small = c.in_ok-d.ensures.0 in
    let read = at_digit c.args.text.now c.args.at c.args.last 16 15 byte.0 (omega arith) (λ z. c.if-d-eq0.false (sym here ∙ z)) in
    rw (← read, here) c.set_more.ensures
