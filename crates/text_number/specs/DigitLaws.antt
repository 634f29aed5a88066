-- Digits read one by one give what the believed definitions give.
use Rattle.std.specs.Prelude.{Bool, not, ◌&&◌, ◌||◌, ◌≡◌, ℕ, zero, suc, ◌+◌, ◌*◌, ◌-◌, ◌^◌, ◌≤◌, ◌<◌, eqb, leb, ltb, length}
use Rattle.std.proofs.Math.Bool.{true, false, cond}
use mathlib.Core.List.{List, [], ◌∷◌}
use Rattle.std.proofs.Math.Option.{none, some}
use Rattle.std.proofs.Math.Path.{refl}
use Rattle.std.proofs.Common.{sym, ◌∙◌, mul-le-mul, pow-suc, add-one, arith, ltb-true, ltb-false, leb-true, leb-false, lt-ltb, le-ltb, le-leb}
use Rattle.std.proofs.Math.Nat.{pow-le-pow_right}
use Rattle.std.proofs.Math.Dec.{eqb-suc-zero}
use Rattle.std.proofs.lemmas.Bool.{lt-leb}
use Rattle.spec_base.specs.Basic.{all}
use Rattle.law_base.specs.BoolLaws.{and_true}
use Rattle.spec_text.specs.Text.{is_decimal, is_hexadecimal, digits_form, digit_value, value_after, number_of, set_of}
use Rattle.text_number.specs.Digits.{hexadecimal, digits_from, digits_in, at_most255}

-- what the tests and the values say of a byte: it is a decimal digit, a letter a to f, or no digit
pub data Digit (b : ℕ) : Type 0 where
  decimal : 0x30 ≤ b → b ≤ 0x39 → is_decimal b ≡ true → is_hexadecimal b ≡ true → hexadecimal b ≡ b - 0x30 → digit_value b ≡ b - 0x30
      → Digit b
  letter : 0x61 ≤ b → b ≤ 0x66 → is_decimal b ≡ false → is_hexadecimal b ≡ true → hexadecimal b ≡ b - 0x57 → digit_value b ≡ b - 0x57
      → Digit b
  neither : is_decimal b ≡ false → is_hexadecimal b ≡ false → hexadecimal b ≡ 16 → Digit b

pub digit_view : (b : ℕ) → Digit b
unfolding hexadecimal digit_value
digit_view b = low (ltb b 0x30) refl
  where
    high : (t : Bool) → leb b 0x66 ≡ t → ltb b 0x30 ≡ false → leb b 0x39 ≡ false → ltb b 0x61 ≡ false → Digit b
    high true h l m n =
        let past : 0x61 ≤ b = ltb-false b 0x61 n in
        let from : leb 0x30 b ≡ true = le-leb 0x30 b (omega arith) in
        let begun : leb 0x61 b ≡ true = le-leb 0x61 b past in
        letter past (leb-true b 0x66 h) (simp (from, m)) (simp (from, m, begun, h)) (simp (l, m, n, h)) (simp (from, m) (omega arith))
    high false h l m n =
        let past : 0x61 ≤ b = ltb-false b 0x61 n in
        let from : leb 0x30 b ≡ true = le-leb 0x30 b (omega arith) in
        let begun : leb 0x61 b ≡ true = le-leb 0x61 b past in
        neither (simp (from, m)) (simp (from, m, begun, h)) (simp (l, m, n, h))

    above : (t : Bool) → ltb b 0x61 ≡ t → ltb b 0x30 ≡ false → leb b 0x39 ≡ false → Digit b
    above true n l m =
        let from : leb 0x30 b ≡ true = le-leb 0x30 b (ltb-false b 0x30 l) in
        let before : leb 0x61 b ≡ false = lt-leb 0x61 b (ltb-true b 0x61 n) in
        neither (simp (from, m)) (simp (from, m, before)) (simp (l, m, n))
    above false n l m = high (leb b 0x66) refl l m n

    middle : (t : Bool) → leb b 0x39 ≡ t → ltb b 0x30 ≡ false → Digit b
    middle true m l =
        let from : leb 0x30 b ≡ true = le-leb 0x30 b (ltb-false b 0x30 l) in
        decimal (ltb-false b 0x30 l) (leb-true b 0x39 m) (simp (from, m)) (simp (from, m)) (simp (l, m)) (simp (from, m))
    middle false m l = above (ltb b 0x61) refl l m

    low : (t : Bool) → ltb b 0x30 ≡ t → Digit b
    low true l =
        let from : leb 0x30 b ≡ false = lt-leb 0x30 b (ltb-true b 0x30 l) in
        let begun : leb 0x61 b ≡ false = lt-leb 0x61 b (let h : b < 0x30 = ltb-true b 0x30 l in omega arith) in
        neither (simp from) (simp (from, begun)) (simp l)
    low false l = middle (leb b 0x39) refl l

-- a byte is a decimal digit where it stands for less than 10
pub below_ten : (b : ℕ) → leb 10 (hexadecimal b) ≡ not (is_decimal b)
below_ten b = go (digit_view b)
  where
    go : Digit b → leb 10 (hexadecimal b) ≡ not (is_decimal b)
    go (decimal l h d x v w) = rw (d, v) (lt-leb 10 (b - 0x30) (omega arith))
    go (letter l h d x v w) = rw (d, v) (le-leb 10 (b - 0x57) (omega arith))
    go (neither d x v) = rw (d, v)

-- and a hexadecimal digit where it stands for less than 16
pub below_sixteen : (b : ℕ) → leb 16 (hexadecimal b) ≡ not (is_hexadecimal b)
below_sixteen b = go (digit_view b)
  where
    go : Digit b → leb 16 (hexadecimal b) ≡ not (is_hexadecimal b)
    go (decimal l h d x v w) = rw (x, v) (lt-leb 16 (b - 0x30) (omega arith))
    go (letter l h d x v w) = rw (x, v) (lt-leb 16 (b - 0x57) (omega arith))
    go (neither d x v) = rw (x, v)

-- what a hexadecimal digit stands for
pub hexadecimal_value : (b : ℕ) → is_hexadecimal b ≡ true → hexadecimal b ≡ digit_value b
hexadecimal_value b e = go (digit_view b)
  where
    go : Digit b → hexadecimal b ≡ digit_value b
    go (decimal l h d x v w) = v ∙ sym w
    go (letter l h d x v w) = v ∙ sym w
    go (neither d x v) = let z : true ≡ false = sym e ∙ x in cc

pub decimal_value : (b : ℕ) → is_decimal b ≡ true → hexadecimal b ≡ digit_value b
decimal_value b e = go (digit_view b)
  where
    go : Digit b → hexadecimal b ≡ digit_value b
    go (decimal l h d x v w) = v ∙ sym w
    go (letter l h d x v w) = v ∙ sym w
    go (neither d x v) = let z : true ≡ false = sym e ∙ d in cc

-- no digit
pub digit_none : (b : ℕ) → is_hexadecimal b ≡ false → 16 ≡ hexadecimal b
digit_none b e = go (digit_view b)
  where
    go : Digit b → 16 ≡ hexadecimal b
    go (decimal l h d x v w) = let z : true ≡ false = sym x ∙ e in cc
    go (letter l h d x v w) = let z : true ≡ false = sym x ∙ e in cc
    go (neither d x v) = sym v

-- the tests of digits' form in the order of the code, and all at once
form_tests : (digits fit leading lone : Bool) (value : ℕ)
    → cond (not fit) none
    (cond (not lone) (cond leading none (cond digits (some value) none)) (cond digits (some value) none))
    ≡ cond (digits && fit && (not leading || lone)) (some value) none
form_tests true true true true value = refl
form_tests true true true false value = refl
form_tests true true false true value = refl
form_tests true true false false value = refl
form_tests true false leading lone value = refl
form_tests false true true true value = refl
form_tests false true true false value = refl
form_tests false true false true value = refl
form_tests false true false false value = refl
form_tests false false leading lone value = refl

-- more is not at most
more_test : (a b : ℕ) → ltb b a ≡ not (leb a b)
more_test a b = go (leb a b) refl
  where
    go : (t : Bool) → leb a b ≡ t → ltb b a ≡ not (leb a b)
    go true e = rw e (le-ltb b a (leb-true a b e))
    go false e = rw e (lt-ltb b a (leb-false a b e))

-- over one where not none more
one_test : (n : ℕ) → ltb 1 (suc n) ≡ not (eqb n 0)
one_test zero = refl
one_test (suc n) = rw eqb-suc-zero (lt-ltb 1 (suc (suc n)) (omega arith))

-- digits in a base, tested one by one and all at once
module _ (base : ℕ) (is_digit : ℕ → Bool) (tests : (b : ℕ) → leb base (hexadecimal b) ≡ not (is_digit b))
    (values : (b : ℕ) → is_digit b ≡ true → hexadecimal b ≡ digit_value b) where
  digits_from_lem : (n : ℕ) (field : List ℕ) → digits_from base n field ≡ cond (all is_digit field) (some (value_after base n field)) none
  unfolding digits_from value_after
  digits_from_lem n [] = refl
  digits_from_lem n (b ∷ field) = go (is_digit b) refl (digits_from_lem (n * base + digit_value b) field)
    where
      go : (t : Bool) → is_digit b ≡ t
          → digits_from base (n * base + digit_value b) field
          ≡ cond (all is_digit field) (some (value_after base (n * base + digit_value b) field)) none
          → cond (leb base (hexadecimal b)) none (digits_from base (n * base + hexadecimal b) field)
          ≡ cond (is_digit b && all is_digit field) (some (value_after base (n * base + digit_value b) field)) none
      go true e h = rw (tests b, e, values b e) h
      go false e h = rw (tests b, e)

  digits_in_lem : (most : ℕ) (field : List ℕ)
      → digits_in base most field ≡ cond (digits_form is_digit most field) (some (value_after base 0 field)) none
  unfolding digits_in digits_form
  digits_in_lem most [] = refl
  digits_in_lem most (d ∷ more) =
      rw (eqb-suc-zero, more_test (suc (length more)) most, one_test, digits_from_lem 0 (d ∷ more))
      (form_tests (all is_digit (d ∷ more)) (leb (suc (length more)) most) (eqb d 0x30) (eqb (length more) 0)
      (value_after base 0 (d ∷ more)))

-- a set's digits
pub set_in_lem : (field : List ℕ) → digits_in 16 16 field ≡ set_of field
unfolding set_of
set_in_lem field = digits_in_lem 16 is_hexadecimal below_sixteen hexadecimal_value 16 field

-- a number's digits, and the limit of numbers
pub number_in : (field : List ℕ) → number_of field ≡ at_most255 (digits_in 10 3 field)
unfolding number_of at_most255
number_in field = rw (digits_in_lem 10 is_decimal below_ten decimal_value 3 field) (go (digits_form is_decimal 3 field))
  where
    go : (t : Bool) → cond (t && leb (value_after 10 0 field) 255) (some (value_after 10 0 field)) none
        ≡ at_most255 (cond t (some (value_after 10 0 field)) none)
    go true = refl
    go false = refl

-- one digit more takes a value below the next power of 16, and 16 digits fit a word
pub next_power : (base n i d : ℕ) → base ≤ 16 → n < 16 ^ i → d < base → n * base + d < 16 ^ (i + 1)
next_power base n i d small below h =
    let least : suc n * base ≤ 16 ^ i * 16 = mul-le-mul below small in
    rw (add-one i, pow-suc 16 i) (omega arith)

pub power_fits : (i : ℕ) → i < 16 → 16 ^ (i + 1) ≤ 2 ^ 64
power_fits i h = pow-le-pow_right {n = 16} (omega arith) {i = i + 1} {j = 16} (omega arith)

-- a byte that is a decimal digit, one that is a letter a to f, and one that is neither
abbrev pub is_hex_letter : ℕ → Bool
is_hex_letter b = leb 0x61 b && leb b 0x66

pub decimal_is : (b : ℕ) → is_decimal b ≡ true → (0x30 ≤ b) × (b ≤ 0x39) × (hexadecimal b ≡ b - 0x30)
decimal_is b e = go (digit_view b)
  where
    go : Digit b → (0x30 ≤ b) × (b ≤ 0x39) × (hexadecimal b ≡ b - 0x30)
    go (decimal l h d x v w) = (l, h, v)
    go (letter l h d x v w) = let z : ◌≡◌ {A = Bool} true false = sym e ∙ d in let y : ◌≡◌ {A = ℕ} 0 1 = cc in absurd (omega arith)
    go (neither d x v) = let z : ◌≡◌ {A = Bool} true false = sym e ∙ d in let y : ◌≡◌ {A = ℕ} 0 1 = cc in absurd (omega arith)

pub letter_is : (b : ℕ) → is_hex_letter b ≡ true → (0x61 ≤ b) × (b ≤ 0x66) × (hexadecimal b ≡ b - 0x57)
unfolding hexadecimal
letter_is b e =
    let both = and_true (leb 0x61 b) (leb b 0x66) e in
    let from : 0x61 ≤ b = leb-true 0x61 b both.0 in
    let to : b ≤ 0x66 = leb-true b 0x66 both.1 in
    (from, to, rw (le-ltb b 0x30 (omega arith), lt-leb b 0x39 (omega arith), le-ltb b 0x61 from, both.1))

pub digit_neither : (b : ℕ) → is_decimal b ≡ false → is_hex_letter b ≡ false → 16 ≡ hexadecimal b
digit_neither b e f = digit_none b (rw (e, f))
