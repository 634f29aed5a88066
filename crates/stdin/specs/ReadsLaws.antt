-- One read more, as the code makes it.
use Rattle.std.specs.Prelude.{Bool, cond, List, Option, Some, None, ◌≡◌, refl, ℕ, ◌+◌, ◌-◌, ◌≤◌, ◌<◌, ℤ, length, take}
use Rattle.std.proofs.Common.{sym, ap, subst, ◌∙◌, zero-le, arith, lt-ltb, le-ltb}
use Rattle.io.specs.Counts.{clamp_len}
use Rattle.stdin.specs.declared.reads.Received.{Received}
use Rattle.stdin.specs.Reads.{Moved, answer_of, count_of, Brought, read_once, ReadMore}

-- no room, no read
pub no_more : (t : Received) (bytes : List ℕ) → length bytes ≤ t.count → ReadMore t bytes bytes t
no_more t bytes h = record {
  read = sym (ap (λ (b : Bool). cond b (read_once t (length bytes) t.last) t) (le-ltb t.count (length bytes) h));
  answer = λ less. absurd (omega arith);
  kept = refl;
}

-- as many bytes as the answer says, none where the read failed
pub brought_counts : (n : ℕ) (one : Option ℕ) → Brought n one → count_of one ≡ clamp_len (answer_of one) n
brought_counts n (Some count) b = omega (arith, b)
brought_counts n None b = refl

pub brought_fits : (n : ℕ) (one : Option ℕ) → Brought n one → count_of one ≤ n
brought_fits n (Some count) b = b
brought_fits n None b = zero-le

-- the read that was made; the code holds its answer read out, z below
pub one_more : (t : Received) (before after : List ℕ) (one : Option ℕ) {lent count : ℕ} {z : ℤ} → z ≡ answer_of one
    → count ≡ clamp_len (answer_of one) (length before - t.count) → t.count < length before
    → lent ≡ length before - t.count → Brought lent one → take t.count after ≡ take t.count before
    → ReadMore t before after (record { count = t.count + count; last = z; room = length before - t.count })
one_more t before after one {lent} {count} {z} same brought less l moved kept = record {
  read = ap (λ (n : ℕ). record { count = t.count + n; last = z; room = length before - t.count })
      (brought ∙ ap (λ (a : ℤ). clamp_len a (length before - t.count)) (sym same))
      ∙ sym (ap (λ (b : Bool). cond b (read_once t (length before) z) t) (lt-ltb t.count (length before) less));
  answer = λ h. subst (λ (n : ℕ). Moved n z) l (subst (Moved lent) (sym same) moved);
  kept = kept;
}

-- where there was room, its count and its room
pub more_read : {t : Received} {before after : List ℕ} {r : Received} → ReadMore t before after r → t.count < length before
    → r ≡ read_once t (length before) r.last
more_read {t} {before} {after} {r} m less =
    m.read ∙ ap (λ (b : Bool). cond b (read_once t (length before) r.last) t) (lt-ltb t.count (length before) less)
