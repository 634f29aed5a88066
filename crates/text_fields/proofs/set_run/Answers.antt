-- What is left to read gives the answer: a digit more, a byte that is none, or the end.
use Rattle.std.proofs.Common.{◌≡◌, ◌∙◌, ℕ, suc, ◌+◌, ◌-◌, ◌*◌, ◌^◌, ◌≤◌, ◌<◌, length, get_or, arith}
use Rattle.text_number.specs.Digits.{hexadecimal}
use Rattle.text_number.specs.DigitLaws.{next_power, power_fits}
use Rattle.text_fields.specs.RunLaws.{run_digit, run_stop, run_done}
use Rattle.text_fields.proofs.set_run.Goals as goal

-- a digit more keeps the value below the next power of 16, which a word holds
grown : (value d i : ℕ) → value < 16 ^ (i + 1) → d < 16 → i < 15 → (value * 16 + d < 16 ^ (i + 1 + 1)) × (value * 16 + d < 2 ^ 64)
grown value d i below less few =
    let more = next_power 16 value (i + 1) d (omega arith) below less in
    let fits = power_fits (i + 1) (omega arith) in
    (more, omega arith)

-- at the start no digit is read
pub loop-i-init : goal.loop-i-init
loop-i-init c =
    let none_read : c.args.at - c.args.at + 1 ≡ 1 = omega arith in
    let all_left : c.args.at + 15 - c.args.at ≡ 15 = omega arith in
    (rw none_read (omega arith), rw all_left)

pub overflow_mul-value : goal.overflow_mul-value
overflow_mul-value c =
    let most = c.requires.0.most in
    let fits = grown c.loop-i.value c.in-Some.d (c.loop-i.i - c.args.at) c.loop-i.invariant.0 c.in-Some.ensures.0 (omega arith) in omega arith

pub overflow_add-value : goal.overflow_add-value
overflow_add-value c =
    let most = c.requires.0.most in
    let fits = grown c.loop-i.value c.in-Some.d (c.loop-i.i - c.args.at) c.loop-i.invariant.0 c.in-Some.ensures.0 (omega arith) in omega arith

pub loop-i-preserved : goal.loop-i-preserved
loop-i-preserved c =
    let loop = c.loop-i in
    let digit = c.in-Some.ensures in
    let reach = c.requires.0 in
    let one_more : loop.i + 1 - c.args.at + 1 ≡ loop.i - c.args.at + 1 + 1 = omega arith in
    let left : c.args.at + 15 - loop.i ≡ suc (c.args.at + 15 - (loop.i + 1)) = omega arith in
    let inside : loop.i < length c.args.text.now = omega arith in
    let more = grown loop.value c.in-Some.d (loop.i - c.args.at) loop.invariant.0 digit.0 (omega arith) in
    let small : hexadecimal (get_or c.args.text.now loop.i 0) < 16 = omega arith in
    (rw one_more more.0, loop.invariant.1 ∙ rw (← digit.1) (run_digit c.args.text.now loop.i c.args.last 16 _ _ loop.value left inside small))

pub returns-in_default : goal.returns-in_default
returns-in_default c =
    let loop = c.loop-i in
    let other = c.in_default.ensures in
    let reach = c.requires.0 in
    let inside : loop.i < length c.args.text.now = omega arith in
    let none_here : 16 ≤ hexadecimal (get_or c.args.text.now loop.i 0) = omega arith in
    rw (loop.invariant.1, run_stop c.args.text.now loop.i c.args.last 16 _ loop.value inside none_here) c.ended.ensures

pub returns : goal.returns
returns c =
    let loop = c.loop-i in
    let reach = c.requires.0 in
    let all_read : loop.i ≡ c.args.limit = omega arith in
    let none_left : loop.i < length c.args.text.now → c.args.at + 15 - loop.i ≡ 0 = λ h. omega (arith, reach.all (omega arith)) in
    rw (loop.invariant.1, run_done c.args.text.now loop.i c.args.last 16 _ loop.value none_left, all_read) c.ended-2.ensures
