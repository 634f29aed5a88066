-- The word of a row's keys: in its low half the keys that shield the place where an edge leaves it, in its high half those that shield it where an
-- edge enters it (E3, Req 02). Keys are below 32.
use Rattle.std.specs.Prelude.{◌≡◌, ℕ, zero, suc, ◌+◌, ◌*◌, ◌/◌, ◌%◌, ◌^◌, ◌<◌, eqb}
use Rattle.std.proofs.Common.{sym, ap, ◌∙◌, not-suc-le-zero, le_of_suc-le-suc, mul_left_comm, arith}
use Rattle.spec_base.specs.Basic.{has}
use Rattle.law_base.specs.SetLaws.{has_first, has_later}

abbrev pub packed_keys : ℕ → ℕ → ℕ
packed_keys near far = near + far * 4294967296

-- the high half; the low half is not cut out, since the keys of a high half are below 32
abbrev pub far_in : ℕ → ℕ
far_in word = word / 4294967296

pub far_packed : (near far : ℕ) → near < 2 ^ 32 → far_in (packed_keys near far) ≡ far
far_packed near far h = omega arith

-- the low digits of a sum are those of its low part, one by one
low_digits : (n a b k : ℕ) → k < n → has (a + b * 2 ^ n) k ≡ has a k
low_digits zero a b k h = absurd (not-suc-le-zero h)
low_digits (suc n) a b k h = go k h (λ k l. low_digits n (a / 2) b k l)
  where
    even : b * 2 ^ suc n ≡ 2 * (b * 2 ^ n)
    even = let e : 2 ^ suc n ≡ 2 * 2 ^ n = omega arith in ap (λ (x : ℕ). b * x) e ∙ mul_left_comm b 2 (2 ^ n)

    go : (k : ℕ) → k < suc n → ((k : ℕ) → k < n → has (a / 2 + b * 2 ^ n) k ≡ has (a / 2) k) → has (a + b * 2 ^ suc n) k ≡ has a k
    go zero h again =
        let same : (a + b * 2 ^ suc n) % 2 ≡ a % 2 = omega (arith, even) in
        has_first (a + b * 2 ^ suc n) ∙ ap (λ (x : ℕ). eqb x 1) same ∙ sym (has_first a)
    go (suc k) h again =
        let half : (a + b * 2 ^ suc n) / 2 ≡ a / 2 + b * 2 ^ n = omega (arith, even) in
        has_later (a + b * 2 ^ suc n) k ∙ ap (λ (x : ℕ). has x k) half ∙ again k (le_of_suc-le-suc h) ∙ sym (has_later a k)

pub near_packed : (near far f : ℕ) → f < 32 → has (packed_keys near far) f ≡ has near f
near_packed near far f h = low_digits 32 near far f h
