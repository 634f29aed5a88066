-- The least and the greatest of the numbers that a function gives below n.
use Rattle.std.specs.Prelude.{◌≡◌, true, false, ◌⊎◌, ℕ, zero, suc, ◌≤◌, ◌<◌, min, max, eqb, ltb, leb}
use Rattle.std.proofs.Common.{ap, inl, inr, not-suc-le-zero, arith, eqb-true, ltb-true, ltb-false, leb-true, leb-false}
use Rattle.std.proofs.Math.Decide.{dec_lt}
use Rattle.std.proofs.lemmas.Bool.{eqb-false}
use Rattle.law_base.specs.BoolLaws.{decide}
use Rattle.pick_laws.specs.Completing.{least_below, greatest_below}

pub least_most : (f : ℕ → ℕ) (most n : ℕ) → least_below f most n ≤ most
unfolding least_below
least_most f most zero = omega arith
least_most f most (suc n) = let h = least_most f most n in omega arith

pub least_at : (f : ℕ → ℕ) (most n x : ℕ) → x < n → least_below f most n ≤ f x
unfolding least_below
least_at f most zero x h = absurd (not-suc-le-zero h)
least_at f most (suc n) x h = by_last (least_at f most n x) (decide (eqb x n))
  where
    by_last : (x < n → least_below f most n ≤ f x) → (eqb x n ≡ true) ⊎ (eqb x n ≡ false) → min (least_below f most n) (f n) ≤ f x
    by_last rest (inl e) = let same = ap f (eqb-true x n e) in omega arith
    by_last rest (inr e) = let apart = eqb-false x n e in let below = rest (omega arith) in omega arith

-- a least that is below the bound is some number's
pub least_some : (f : ℕ → ℕ) (most n : ℕ) → least_below f most n < most → (x : ℕ) × (x < n) × (f x ≡ least_below f most n)
unfolding least_below
least_some f most zero h = let z : ⊥ = omega arith in absurd z
least_some f most (suc n) h = by_last (least_some f most n) (decide (leb (f n) (least_below f most n)))
  where
    by_last : (least_below f most n < most → (x : ℕ) × (x < n) × (f x ≡ least_below f most n))
        → (leb (f n) (least_below f most n) ≡ true) ⊎ (leb (f n) (least_below f most n) ≡ false)
        → (x : ℕ) × (x < suc n) × (f x ≡ min (least_below f most n) (f n))
    by_last rest (inl e) = let l = leb-true (f n) (least_below f most n) e in (n, omega arith, omega arith)
    by_last rest (inr e) =
        let l = leb-false (f n) (least_below f most n) e in
        let t = rest (omega arith) in
        let inside = t.1 in
        let same = t.2 in (t.0, omega arith, omega arith)

pub greatest_at : (f : ℕ → ℕ) (n x : ℕ) → x < n → f x ≤ greatest_below f n
unfolding greatest_below
greatest_at f zero x h = absurd (not-suc-le-zero h)
greatest_at f (suc n) x h = by_last (greatest_at f n x) (decide (eqb x n))
  where
    by_last : (x < n → f x ≤ greatest_below f n) → (eqb x n ≡ true) ⊎ (eqb x n ≡ false) → f x ≤ max (greatest_below f n) (f n)
    by_last rest (inl e) = let same = ap f (eqb-true x n e) in omega arith
    by_last rest (inr e) = let apart = eqb-false x n e in let below = rest (omega arith) in omega arith

-- what is below the greatest is below some number's
pub greatest_some : (f : ℕ → ℕ) (n k : ℕ) → k < greatest_below f n → (x : ℕ) × (x < n) × (k < f x)
unfolding greatest_below
greatest_some f zero k h = absurd (not-suc-le-zero h)
greatest_some f (suc n) k h = by_last (greatest_some f n k) (decide (ltb k (f n)))
  where
    by_last : (k < greatest_below f n → (x : ℕ) × (x < n) × (k < f x)) → (ltb k (f n) ≡ true) ⊎ (ltb k (f n) ≡ false)
        → (x : ℕ) × (x < suc n) × (k < f x)
    by_last rest (inl e) = (n, omega arith, ltb-true k (f n) e)
    by_last rest (inr e) =
        let l = ltb-false k (f n) e in
        let t = rest (omega arith) in
        let inside = t.1 in (t.0, omega arith, t.2)

-- numbers that add nothing from one on
pub least_rest : (f : ℕ → ℕ) (most k n : ℕ) → k ≤ n → ((x : ℕ) → k ≤ x → x < n → most ≤ f x) → least_below f most k ≡ least_below f most n
unfolding least_below
least_rest f most k zero h past = let same : k ≡ 0 = omega arith in ap (least_below f most) same
least_rest f most k (suc n) h past = go (λ l. least_rest f most k n l (λ x a b. past x a (omega arith))) (dec_lt n k)
  where
    go : (k ≤ n → least_below f most k ≡ least_below f most n) → Dec (n < k) → least_below f most k ≡ least_below f most (suc n)
    go again (yes l) = let same : k ≡ suc n = omega arith in ap (least_below f most) same
    go again (no d) =
        let rest = again (omega arith) in
        let last = past n (omega arith) (omega arith) in
        let bound = least_most f most n in omega arith

pub greatest_rest : (f : ℕ → ℕ) (k n : ℕ) → k ≤ n → ((x : ℕ) → k ≤ x → x < n → f x ≡ 0) → greatest_below f k ≡ greatest_below f n
unfolding greatest_below
greatest_rest f k zero h past = let same : k ≡ 0 = omega arith in ap (greatest_below f) same
greatest_rest f k (suc n) h past = go (λ l. greatest_rest f k n l (λ x a b. past x a (omega arith))) (dec_lt n k)
  where
    go : (k ≤ n → greatest_below f k ≡ greatest_below f n) → Dec (n < k) → greatest_below f k ≡ greatest_below f (suc n)
    go again (yes l) = let same : k ≡ suc n = omega arith in ap (greatest_below f) same
    go again (no d) =
        let rest = again (omega arith) in
        let last = past n (omega arith) (omega arith) in omega arith
