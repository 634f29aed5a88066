-- Counting that stops at 513: sums and products of stopped numbers stop where those of the numbers themselves do.
use Rattle.std.specs.Prelude.{Bool, true, false, ◌≡◌, refl, ℕ, zero, suc, ◌+◌, ◌*◌, ◌<◌, ◌≤◌, min, leb}
use Rattle.std.proofs.Common.{sym, ap, ◌∙◌, mul_comm, mul-zero, le-mul_of_pos_right, arith, leb-true, leb-false}

-- a number, and 513 for every larger one
unfoldable pub cap : ℕ → ℕ
cap x = min 513 x

-- sums and products that stop there
abbrev pub plus : ℕ → ℕ → ℕ
plus a b = cap (a + b)

abbrev pub times : ℕ → ℕ → ℕ
times a b = cap (a * b)

pub cap_small : {x : ℕ} → x ≤ 513 → cap x ≡ x
unfolding cap
cap_small h = omega arith

pub cap_large : {x : ℕ} → 513 ≤ x → cap x ≡ 513
unfolding cap
cap_large h = omega arith

pub cap_le : (x : ℕ) → cap x ≤ 513
unfolding cap
cap_le x = omega arith

-- the limits 64 and 512 are seen in the stopped numbers
pub cap_over : (x : ℕ) (limit : ℕ) → limit < 513 → limit < x → limit < cap x
unfolding cap
cap_over x limit h p = omega arith

pub cap_add : (a b : ℕ) → cap (cap a + cap b) ≡ cap (a + b)
unfolding cap
cap_add a b = omega arith

-- the first factor may be stopped
cap_mul_left : (a b : ℕ) → cap (cap a * b) ≡ cap (a * b)
cap_mul_left a zero = ap cap (mul-zero (cap a) ∙ sym (mul-zero a))
cap_mul_left a (suc b) = go (leb a 513) refl
  where
    go : (t : Bool) → leb a 513 ≡ t → cap (cap a * suc b) ≡ cap (a * suc b)
    go true e = ap (λ (x : ℕ). cap (x * suc b)) (cap_small (leb-true a 513 e))
    go false e =
        let h : 513 ≤ a = omega (arith, leb-false a 513 e) in
        cap_large (omega (arith, cap_large h, le-mul_of_pos_right {m = suc b} (cap a) (omega arith)))
        ∙ sym (cap_large (omega (arith, le-mul_of_pos_right {m = suc b} a (omega arith))))

pub cap_mul : (a b : ℕ) → cap (cap a * cap b) ≡ cap (a * b)
cap_mul a b =
    cap_mul_left a (cap b) ∙ ap cap (mul_comm a (cap b)) ∙ cap_mul_left b a ∙ ap cap (mul_comm b a)

-- stopping again changes nothing
pub cap_cap : (a : ℕ) → cap (cap a) ≡ cap a
unfolding cap
cap_cap a = omega arith

-- numbers that stop alike
pub record Alike (a b : ℕ) : Type 0 where
  pub same : cap a ≡ cap b

pub alike_refl : (a : ℕ) → Alike a a
alike_refl a = record { same = refl }

-- a stopped number stops again where it did
pub stopped : {x n : ℕ} → x ≡ cap n → Alike x n
stopped {x} {n} p = record { same = ap cap p ∙ cap_cap n }

-- their sums and products stop alike
pub plus_same : {a b c d : ℕ} → Alike a b → Alike c d → plus a c ≡ cap (b + d)
plus_same {a} {b} {c} {d} p q = sym (cap_add a c) ∙ rw (p.same, q.same) (cap_add b d)

pub times_same : {a b c d : ℕ} → Alike a b → Alike c d → times a c ≡ cap (b * d)
times_same {a} {b} {c} {d} p q = sym (cap_mul a c) ∙ rw (p.same, q.same) (cap_mul b d)

pub plus_alike : {a b c d : ℕ} → Alike a b → Alike c d → Alike (plus a c) (b + d)
plus_alike p q = stopped (plus_same p q)

pub times_alike : {a b c d : ℕ} → Alike a b → Alike c d → Alike (times a c) (b * d)
times_alike p q = stopped (times_same p q)
