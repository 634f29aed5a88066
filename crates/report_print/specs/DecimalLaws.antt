-- The digits of a number: those in front of the last one are the digits of a tenth of it.
use Rattle.std.specs.Prelude.{Bool, true, false, List, [], ◌∷◌, ◌++◌, ◌≡◌, refl, ℕ, zero, suc, ◌+◌, ◌*◌, ◌/◌, ◌%◌, ◌≤◌, ◌<◌, ltb, length}
use Rattle.std.proofs.Common.{sym, ap, subst, ◌∙◌, arith, length-append, lt-ltb, le-ltb, ltb-true, ltb-false}
use Rattle.spec_text.specs.Text.{digit, digits_of}
use Rattle.spec_report.specs.Report.{decimal}
use Rattle.law_text.specs.WrittenLaws.{digits_most}
use Rattle.report_print.specs.Printed.{Put}
use Rattle.report_print.specs.PrintLaws.{put_both, put_most, put_same}

digits_one : (most n : ℕ) → n < 10 → digits_of 10 (suc most) n ≡ digit n ∷ []
unfolding digits_of
digits_one most n h = rw (lt-ltb n 10 h, digits_of)

digits_many : (most n : ℕ) → 10 ≤ n → digits_of 10 (suc most) n ≡ digits_of 10 most (n / 10) ++ (digit (n % 10) ∷ [])
unfolding digits_of
digits_many most n h = rw (le-ltb n 10 h, digits_of)

-- 10, 100, and so on
unfoldable tens : ℕ → ℕ
tens zero = 10
tens (suc most) = 10 * tens most

-- room for one digit more changes nothing where there is room enough
digits_room : (most n : ℕ) → n < tens most → digits_of 10 (suc most) n ≡ digits_of 10 (suc (suc most)) n
unfolding tens
digits_room zero n h = digits_one 0 n h ∙ sym (digits_one 1 n h)
digits_room (suc most) n h = go (ltb n 10) refl (λ k. digits_room most (n / 10) k)
  where
    tenth : n / 10 < tens most
    tenth = omega arith

    go : (b : Bool) → ltb n 10 ≡ b → (n / 10 < tens most → digits_of 10 (suc most) (n / 10) ≡ digits_of 10 (suc (suc most)) (n / 10))
        → digits_of 10 (suc (suc most)) n ≡ digits_of 10 (suc (suc (suc most))) n
    go true e rest = digits_one (suc most) n (ltb-true n 10 e) ∙ sym (digits_one (suc (suc most)) n (ltb-true n 10 e))
    go false e rest =
        digits_many (suc most) n (ltb-false n 10 e)
        ∙ ap (λ (l : List ℕ). l ++ (digit (n % 10) ∷ [])) (rest tenth)
        ∙ sym (digits_many (suc (suc most)) n (ltb-false n 10 e))

pub decimal_one : (n : ℕ) → n < 10 → decimal n ≡ digit n ∷ []
unfolding decimal
decimal_one n h = digits_one 19 n h

-- a word has at most 20 digits
pub decimal_many : (n : ℕ) → 10 ≤ n → n < 18446744073709551616 → decimal n ≡ decimal (n / 10) ++ (digit (n % 10) ∷ [])
unfolding decimal tens
decimal_many n h w =
    let tenth : n / 10 < 10000000000000000000 = omega arith in
    digits_many 19 n h ∙ ap (λ (l : List ℕ). l ++ (digit (n % 10) ∷ [])) (digits_room 18 (n / 10) tenth)

pub decimal_few : (n : ℕ) → length (decimal n) ≤ 20
unfolding decimal
decimal_few n = digits_most 10 20 n

-- after the digits in front there is room for the last
pub last_room : (n : ℕ) → 10 ≤ n → n < 18446744073709551616 → length (decimal (n / 10)) + 1 ≤ 20
last_room n h w =
    let many = length-append (decimal (n / 10)) (digit (n % 10) ∷ []) in
    let all : length (decimal (n / 10) ++ (digit (n % 10) ∷ [])) ≤ 20 =
    subst (λ (l : List ℕ). length l ≤ 20) (decimal_many n h w) (decimal_few n) in
    omega arith

-- a number of one digit is written
pub put_digit : (n : ℕ) {b at r : ℕ} {before after : List ℕ} → n < 10 → b ≡ digit (n % 10) → Put (b ∷ []) 1 at before r after
    → Put (decimal n) 20 at before r after
put_digit n h e p =
    let one : n % 10 ≡ n = omega arith in
    put_same (ap (λ (d : ℕ). d ∷ []) (e ∙ ap digit one) ∙ sym (decimal_one n h)) (put_most (omega arith) p)

-- the digits in front and then the last one are written
pub put_digits : (n : ℕ) {b at k r : ℕ} {before mid after : List ℕ} → 10 ≤ n → n < 18446744073709551616
    → Put (decimal (n / 10)) 20 at before k mid → b ≡ digit (n % 10) → Put (b ∷ []) 1 k mid r after → Put (decimal n) 20 at before r after
put_digits n {b} {at} {k} {r} {before} {mid} {after} h w p e q =
    let both = put_same (ap (λ (d : ℕ). decimal (n / 10) ++ (d ∷ [])) e ∙ sym (decimal_many n h w)) (put_both p q) in
    record { place = both.place; few = decimal_few n; area = both.area }
