-- Laws of sets as words: a word is known by the attributes that it has.
use Rattle.std.specs.Prelude.{◌≡◌, refl, true, false, not, ◌&&◌, ◌||◌, ◌⊎◌, ℕ, zero, suc, ◌-◌, ◌/◌, ◌%◌, ◌^◌, ◌≤◌, ◌<◌, eqb}
use Rattle.std.proofs.Common.{sym, ap, ◌∙◌, inl, inr, div-one, not-suc-le-zero, le_of_suc-le-suc, pow-suc, lt_of_lt_of_le, one-add, arith, shr-shr, pow_mono, pow_pos, eqb-true, eq-eqb, ne_eqb}
use Rattle.std.proofs.Math.Nat.{zero-div, div-eq_of_lt}
use Rattle.std.proofs.Math.Decide.{ℕ_discrete, dec_lt}
use Rattle.std.proofs.Math.Arith.{bin_ind}
use Rattle.std.specs.Int.Bits.{bit_and, bit_or, and_step, or_step}
use Rattle.std.proofs.lemmas.Nat.{and_shr, or_shr, and_comm}
use Rattle.std.proofs.lemmas.Bool.{eqb-false}
use Rattle.spec_base.specs.Basic.{has, meets, within}
use Rattle.law_base.specs.BoolLaws.{decide, true_false, same_test, and_true, and_of, or_true, or_left, or_right}
use Rattle.law_base.specs.BoolLaws.{not_true, not_of_false}

-- ---- one attribute at a time

-- a set has the first attribute if the word is odd
pub has_first : (x : ℕ) → has x 0 ≡ eqb (x % 2) 1
has_first x = ap (λ (y : ℕ). eqb (y % 2) 1) (div-one x)

-- a set has a later attribute if half of the word has the one before
pub has_later : (x k : ℕ) → has x (suc k) ≡ has (x / 2) k
has_later x k = ap (λ (y : ℕ). eqb (y % 2) 1) (ap (λ (j : ℕ). x / 2 ^ j) (sym (one-add k)) ∙ sym (shr-shr x 1 k))

-- the empty set has no attribute
pub has_empty : (k : ℕ) → has 0 k ≡ false
has_empty k = ap (λ (y : ℕ). eqb (y % 2) 1) (zero-div (2 ^ k))

-- a set that has an attribute is not empty
pub has_nonzero : (x k : ℕ) → has x k ≡ true → x ≡ 0 → ⊥
has_nonzero x k h e = true_false h (ap (λ (y : ℕ). has y k) e ∙ has_empty k)

-- a set that is not empty has an attribute
pub nonzero_has : (x : ℕ) → (x ≡ 0 → ⊥) → (k : ℕ) × (has x k ≡ true)
nonzero_has =
    bin_ind (λ (n : ℕ). (n ≡ 0 → ⊥) → (k : ℕ) × (has n k ≡ true)) (λ h. absurd (h refl))
    (λ n ih h. go n ih h (ℕ_discrete (n % 2) 1))
  where
    go : (n : ℕ) → ((n / 2 ≡ 0 → ⊥) → (k : ℕ) × (has (n / 2) k ≡ true)) → (n ≡ 0 → ⊥) → Dec (n % 2 ≡ 1) → (k : ℕ) × (has n k ≡ true)
    go n ih h (yes e) = (0, has_first n ∙ eq-eqb (n % 2) 1 e)
    go n ih h (no d) = let t = ih (λ z. h (omega arith)) in (suc t.0, has_later n t.0 ∙ t.1)

-- a word below 2 ^ w has no attribute from w on
pub has_past : (w x k : ℕ) → x < 2 ^ w → w ≤ k → has x k ≡ false
has_past w x k h l = ap (λ (y : ℕ). eqb (y % 2) 1) (div-eq_of_lt (lt_of_lt_of_le h (pow_mono l)))

-- the attributes of a word below 2 ^ w are below w
pub has_below : (w x k : ℕ) → x < 2 ^ w → has x k ≡ true → k < w
has_below w x k h e = go (dec_lt k w)
  where
    go : Dec (k < w) → k < w
    go (yes l) = l
    go (no d) = absurd (true_false e (has_past w x k h (omega arith)))

-- words that are odd together have the same last digit
odd_same : (x y : ℕ) → eqb (x % 2) 1 ≡ eqb (y % 2) 1 → x % 2 ≡ y % 2
odd_same x y e = go (decide (eqb (x % 2) 1))
  where
    go : (eqb (x % 2) 1 ≡ true) ⊎ (eqb (x % 2) 1 ≡ false) → x % 2 ≡ y % 2
    go (inl p) = eqb-true (x % 2) 1 p ∙ sym (eqb-true (y % 2) 1 (sym e ∙ p))
    go (inr p) =
        let c : x % 2 ≡ 1 → ⊥ = eqb-false (x % 2) 1 p in
        let d : y % 2 ≡ 1 → ⊥ = eqb-false (y % 2) 1 (sym e ∙ p) in
        omega arith

-- sets that have the same attributes are equal
pub has_equal : (x y : ℕ) → ((k : ℕ) → has x k ≡ has y k) → x ≡ y
has_equal =
    bin_ind (λ (n : ℕ). (y : ℕ) → ((k : ℕ) → has n k ≡ has y k) → n ≡ y) base step
  where
    base : (y : ℕ) → ((k : ℕ) → has 0 k ≡ has y k) → 0 ≡ y
    base y f = go (ℕ_discrete y 0)
      where
        go : Dec (y ≡ 0) → 0 ≡ y
        go (yes e) = sym e
        go (no d) = let t = nonzero_has y d in absurd (true_false t.1 (sym (f t.0) ∙ has_empty t.0))

    step : (n : ℕ) → ((y : ℕ) → ((k : ℕ) → has (n / 2) k ≡ has y k) → n / 2 ≡ y) → (y : ℕ) → ((k : ℕ) → has n k ≡ has y k) → n ≡ y
    step n ih y f =
        let low = odd_same n y (sym (has_first n) ∙ f 0 ∙ has_first y) in
        let high = ih (y / 2) (λ k. sym (has_later n k) ∙ f (suc k) ∙ has_later y k) in
        omega arith

-- words below 2 ^ w that have the same attributes below w are equal
pub words_equal : (w x y : ℕ) → x < 2 ^ w → y < 2 ^ w → ((k : ℕ) → k < w → has x k ≡ has y k) → x ≡ y
words_equal w x y h l f = has_equal x y (λ k. go k (dec_lt k w))
  where
    go : (k : ℕ) → Dec (k < w) → has x k ≡ has y k
    go k (yes b) = f k b
    go k (no d) = has_past w x k h (omega arith) ∙ sym (has_past w y k l (omega arith))

-- ---- sets together

-- the common part is odd if both are
and_odd : (x y : ℕ) → eqb (bit_and x y % 2) 1 ≡ eqb (x % 2) 1 && eqb (y % 2) 1
and_odd x y = same_test (eqb (bit_and x y % 2) 1) (eqb (x % 2) 1 && eqb (y % 2) 1) both joined
  where
    both : eqb (bit_and x y % 2) 1 ≡ true → eqb (x % 2) 1 && eqb (y % 2) 1 ≡ true
    both h =
        let e = eqb-true (bit_and x y % 2) 1 h in
        let s = and_step x y in
        and_of (eq-eqb (x % 2) 1 (omega arith)) (eq-eqb (y % 2) 1 (omega arith))

    joined : eqb (x % 2) 1 && eqb (y % 2) 1 ≡ true → eqb (bit_and x y % 2) 1 ≡ true
    joined h =
        let t = and_true (eqb (x % 2) 1) (eqb (y % 2) 1) h in
        let a = eqb-true (x % 2) 1 t.0 in
        let b = eqb-true (y % 2) 1 t.1 in
        let s = and_step x y in
        eq-eqb (bit_and x y % 2) 1 (omega arith)

-- the union is odd if either is
or_odd : (x y : ℕ) → eqb (bit_or x y % 2) 1 ≡ eqb (x % 2) 1 || eqb (y % 2) 1
or_odd x y =
    same_test (eqb (bit_or x y % 2) 1) (eqb (x % 2) 1 || eqb (y % 2) 1)
    (λ h. either h (ℕ_discrete (x % 2) 1)) (λ h. joined (or_true (eqb (x % 2) 1) (eqb (y % 2) 1) h))
  where
    either : eqb (bit_or x y % 2) 1 ≡ true → Dec (x % 2 ≡ 1) → eqb (x % 2) 1 || eqb (y % 2) 1 ≡ true
    either h (yes e) = or_left (eqb (y % 2) 1) (eq-eqb (x % 2) 1 e)
    either h (no d) =
        let e = eqb-true (bit_or x y % 2) 1 h in
        let s = or_step x y in
        or_right (eqb (x % 2) 1) (eq-eqb (y % 2) 1 (omega arith))

    joined : (eqb (x % 2) 1 ≡ true) ⊎ (eqb (y % 2) 1 ≡ true) → eqb (bit_or x y % 2) 1 ≡ true
    joined (inl h) =
        let a = eqb-true (x % 2) 1 h in
        let s = or_step x y in
        eq-eqb (bit_or x y % 2) 1 (omega arith)
    joined (inr h) =
        let b = eqb-true (y % 2) 1 h in
        let s = or_step x y in
        eq-eqb (bit_or x y % 2) 1 (omega arith)

-- the common part has what both have
pub has_bit_and : (x y k : ℕ) → has (bit_and x y) k ≡ has x k && has y k
has_bit_and x y k = ap (λ (z : ℕ). eqb (z % 2) 1) (and_shr x y k) ∙ and_odd (x / 2 ^ k) (y / 2 ^ k)

-- the union has what either has
pub has_bit_or : (x y k : ℕ) → has (bit_or x y) k ≡ has x k || has y k
has_bit_or x y k = ap (λ (z : ℕ). eqb (z % 2) 1) (or_shr x y k) ∙ or_odd (x / 2 ^ k) (y / 2 ^ k)

-- sets that meet share an attribute
pub meets_has : (x y : ℕ) → meets x y ≡ true → (k : ℕ) × (has x k ≡ true) × (has y k ≡ true)
meets_has x y h =
    let t = nonzero_has (bit_and x y) (eqb-false (bit_and x y) 0 (not_true (eqb (bit_and x y) 0) h)) in
    let u = and_true (has x t.0) (has y t.0) (sym (has_bit_and x y t.0) ∙ t.1) in
    (t.0, u.0, u.1)

-- and below w, if one of them is a word below 2 ^ w
pub meets_has_below : (w x y : ℕ) → x < 2 ^ w → meets x y ≡ true → (k : ℕ) × (k < w) × (has x k ≡ true) × (has y k ≡ true)
meets_has_below w x y b h = let t = meets_has x y h in (t.0, has_below w x t.0 b t.1, t.1, t.2)

-- sets that share an attribute meet
pub has_meets : (x y k : ℕ) → has x k ≡ true → has y k ≡ true → meets x y ≡ true
has_meets x y k h l = not_of_false (ne_eqb (bit_and x y) 0 (has_nonzero (bit_and x y) k (has_bit_and x y k ∙ and_of h l)))

-- to meet is mutual
pub meets_comm : (x y : ℕ) → meets x y ≡ meets y x
meets_comm x y = ap (λ (z : ℕ). not (eqb z 0)) (and_comm x y)

-- a set that is not empty meets itself
pub meets_self : (x : ℕ) → (x ≡ 0 → ⊥) → meets x x ≡ true
meets_self x h = let t = nonzero_has x h in has_meets x x t.0 t.1 t.1

-- the empty set meets none
pub meets_empty : (y : ℕ) → meets 0 y ≡ false
meets_empty y = refl

-- a set has what is in a set within it
pub within_has : (x y k : ℕ) → within x y ≡ true → has x k ≡ true → has y k ≡ true
within_has x y k h l =
    (and_true (has x k) (has y k) (sym (has_bit_and x y k) ∙ ap (λ (z : ℕ). has z k) (eqb-true (bit_and x y) x h) ∙ l)).1

-- a set whose attributes are all in another is within it
pub has_within : (x y : ℕ) → ((k : ℕ) → has x k ≡ true → has y k ≡ true) → within x y ≡ true
has_within x y f = eq-eqb (bit_and x y) x (has_equal (bit_and x y) x (λ k. has_bit_and x y k ∙ same k))
  where
    same : (k : ℕ) → has x k && has y k ≡ has x k
    same k =
        same_test (has x k && has y k) (has x k) (λ h. (and_true (has x k) (has y k) h).0) (λ h. and_of h (f k h))

-- ---- every attribute

-- the word of w ones has each attribute below w
pub has_ones : (w k : ℕ) → k < w → has (2 ^ w - 1) k ≡ true
has_ones zero k h = absurd (not-suc-le-zero h)
has_ones (suc w) zero h = has_first (2 ^ suc w - 1) ∙ eq-eqb ((2 ^ suc w - 1) % 2) 1 (omega (arith, pow-suc 2 w, pow_pos w))
has_ones (suc w) (suc k) h =
    has_later (2 ^ suc w - 1) k ∙ ap (λ (z : ℕ). has z k) (omega (arith, pow-suc 2 w, pow_pos w)) ∙ has_ones w k (le_of_suc-le-suc h)

-- the set of every attribute has each attribute below 64
pub has_every : (k : ℕ) → k < 64 → has 18446744073709551615 k ≡ true
has_every k h = has_ones 64 k h

-- ---- one attribute alone

-- the word 2 ^ j has attribute j
pub has_one : (j : ℕ) → has (2 ^ j) j ≡ true
has_one zero = refl
has_one (suc j) = has_later (2 ^ suc j) j ∙ ap (λ (z : ℕ). has z j) (omega (arith, pow-suc 2 j)) ∙ has_one j

-- and no other
pub has_one_other : (j k : ℕ) → (k ≡ j → ⊥) → has (2 ^ j) k ≡ false
has_one_other zero zero d = absurd (d refl)
has_one_other zero (suc k) d = has_past 1 1 (suc k) (omega arith) (omega arith)
has_one_other (suc j) zero d = has_first (2 ^ suc j) ∙ ne_eqb (2 ^ suc j % 2) 1 (omega (arith, pow-suc 2 j))
has_one_other (suc j) (suc k) d =
    has_later (2 ^ suc j) k ∙ ap (λ (z : ℕ). has z k) (omega (arith, pow-suc 2 j)) ∙ has_one_other j k (λ e. d (ap suc e))

-- the word of one bit has that bit alone
pub has_bit : (j k : ℕ) → has (2 ^ j) k ≡ eqb k j
has_bit j k = go (ℕ_discrete k j)
  where
    go : Dec (k ≡ j) → has (2 ^ j) k ≡ eqb k j
    go (yes e) = ap (has (2 ^ j)) e ∙ has_one j ∙ sym (eq-eqb k j e)
    go (no d) = has_one_other j k d ∙ sym (ne_eqb k j d)
