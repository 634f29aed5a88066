-- What one read more leaves: reading goes on, or it ends in one of the three ways.
use Rattle.std.specs.Prelude.{true, false, List, ◌≡◌, refl, ℕ, zero, suc, ◌+◌, ◌-◌, ◌≤◌, ◌<◌, ℤ, pos, negsuc, length}
use Rattle.std.proofs.Common.{sym, ap, ◌∙◌, arith, ltb-true, SFits, of_z, to_z}
use Rattle.std.specs.Int.Signed.{lt_z}
use Rattle.std.specs.Int.{w64}
use Rattle.std.proofs.lemmas.Int.{to_z-of_z}
use Rattle.io.specs.Counts.{clamp_len}
use Rattle.stdin.specs.declared.reads.Received.{Received}
use Rattle.stdin.specs.Reads.{Moved, nothing_read, ReadMore}
use Rattle.stdin.specs.Ends.{Negative}
use Rattle.stdin.specs.ReadsLaws.{more_read}

-- as long as reading goes on: the bytes fit the area, and where they fill it the last read filled what it was lent
pub record Going (size : ℕ) (t : Received) : Type 0 where
  pub fits : t.count ≤ size
  pub full : t.count ≡ size → t.last ≡ pos t.room

pub going_first : (size : ℕ) {t : Received} → t ≡ nothing_read → Going size t
going_first size e = rw e (record { fits = omega arith; full = λ h. refl })

-- what a read that was lent room tells of its answer, its count and its room
record Lent (size : ℕ) (t r : Received) (answer : ℤ) : Type 0 where
  last : r.last ≡ answer
  count : r.count ≡ t.count + clamp_len answer (size - t.count)
  room : r.room ≡ size - t.count
  moved : Moved (size - t.count) answer

lent : {t : Received} {before after : List ℕ} {r : Received} (answer : ℤ) → ReadMore t before after r → t.count < length before
    → r.last ≡ answer → Lent (length before) t r answer
lent {t} {before} answer m less e = record {
  last = e;
  count = ap (λ (x : Received). x.count) (more_read m less) ∙ ap (λ (z : ℤ). t.count + clamp_len z (length before - t.count)) e;
  room = ap (λ (x : Received). x.room) (more_read m less);
  moved = rw (sym e) (m.answer less);
}

-- The cases of an answer: below 0, 0, more than 0. The area is as long afterwards, and the code tests the answer read out, z below.
module _
    {t : Received}
    {before after : List ℕ}
    {r : Received}
    {size : ℕ}
    {z : ℤ}
    (same : size ≡ length before)
    (m : ReadMore t before after r)
    (less : t.count < length before)
    (told : z ≡ r.last) where
  pub failed_ends : lt_z z (pos 0) ≡ true → Negative r.last × (r.count + r.room ≡ size)
  failed_ends h = go r.last refl (rw (sym told) h)
    where
      go : (a : ℤ) → r.last ≡ a → lt_z a (pos 0) ≡ true → Negative a × (r.count + r.room ≡ size)
      go (pos k) e v = absurd (omega (arith, ltb-true k 0 v))
      go (negsuc k) e v = let b = lent (negsuc k) m less e in (tt, omega (arith, b.count, b.room, same))

  pub ended_ends : z ≡ pos 0 → (r.last ≡ pos 0) × (0 < r.room) × (r.count + r.room ≡ size)
  ended_ends h =
      let e = sym told ∙ h in
      let b = lent (pos 0) m less e in
      (e, omega (arith, b.room), omega (arith, b.count, b.room, same))

  module _ (counted : lt_z z (pos 0) ≡ false) (some : z ≡ pos 0 → ⊥) where
    pub going_further : t.count < r.count
    going_further = go r.last refl (rw (sym told) counted) (λ h. some (told ∙ h))
      where
        go : (a : ℤ) → r.last ≡ a → lt_z a (pos 0) ≡ false → (a ≡ pos 0 → ⊥) → t.count < r.count
        go (pos zero) e v n = absurd (n refl)
        go (pos (suc k)) e v n = let b = lent (pos (suc k)) m less e in omega (arith, b.count)
        go (negsuc k) e v n = absurd (let z : ◌≡◌ {A = ℕ} 0 1 = cc in omega arith)

    pub going_on : Going size r
    going_on = go r.last refl (rw (sym told) counted)
      where
        go : (a : ℤ) → r.last ≡ a → lt_z a (pos 0) ≡ false → Going size r
        go (pos k) e v =
            let b = lent (pos k) m less e in
            record {
              fits = omega (arith, b.count, same);
              full = λ f. e ∙ ap pos (omega (arith, b.count, b.room, b.moved, f, same));
            }
        go (negsuc k) e v = absurd (let z : ◌≡◌ {A = ℕ} 0 1 = cc in omega arith)

-- the answer's 64 bits are 0 where the answer is, and nowhere else
pub zero_of_bits : {z : ℤ} → SFits w64 z → of_z w64 z ≡ 0 → z ≡ pos 0
zero_of_bits {z} f e = sym (to_z-of_z w64 z f) ∙ ap (to_z w64) e

pub bits_of_zero : {z : ℤ} → z ≡ pos 0 → of_z w64 z ≡ 0
bits_of_zero e = ap (of_z w64) e
