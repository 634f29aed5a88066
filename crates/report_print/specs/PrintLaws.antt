-- Bytes that are written one after the other.
use Rattle.std.specs.Prelude.{List, [], ◌∷◌, ◌++◌, ◌≡◌, refl, ℕ, zero, suc, ◌+◌, ◌-◌, ◌≤◌, ◌<◌, length, get_or, set, take, drop, replicate}
use Rattle.std.proofs.Common.{append_assoc, sym, ap, ap₂, subst, ◌∙◌, zero-le, add-zero, zero-add, add-one, arith, length-append, drop_of_length-le, drop-cons}
use Rattle.std.proofs.Math.Nat.{sub-zero}
use Rattle.std.proofs.lemmas.List.{length-replicate, drop-drop}
use borrow.Rule.Slice.PartMut.{put_mid}
use Rattle.std.proofs.lemmas.List.Edits.{sets, sets-eq}
use Rattle.report_print.specs.declared.Printed.{Printed}
use Rattle.report_print.specs.Printed.{blank, printed_as, Put, Copying}

sets_append : (a b l : List ℕ) (i : ℕ) → sets l i (a ++ b) ≡ sets (sets l i a) (i + length a) b
sets_append [] b l i = ap (λ (k : ℕ). sets l k b) (sym (add-zero i))
sets_append (x ∷ a) b l i =
    let e : suc i + length a ≡ i + suc (length a) = omega arith in
    sets_append a b (set l i x) (suc i) ∙ ap (λ (k : ℕ). sets (sets (set l i x) (suc i) a) k b) e

-- bytes and then others after them
pub put_both : {a b : List ℕ} {m n at r s : ℕ} {before mid after : List ℕ} → Put a m at before r mid → Put b n r mid s after
    → Put (a ++ b) (m + n) at before s after
put_both {a} {b} {m} {n} {at} {r} {s} {before} {mid} {after} p q =
    let many = length-append a b in
    record {
      place = omega (arith, p.place, q.place);
      few = omega (arith, p.few, q.few);
      area =
          q.area ∙ ap₂ (λ (l : List ℕ) (k : ℕ). sets l k b) p.area p.place ∙ sym (sets_append a b before at);
    }

-- a looser bound
pub put_most : {a : List ℕ} {m n at r : ℕ} {before after : List ℕ} → m ≤ n → Put a m at before r after → Put a n at before r after
put_most h p = record { place = p.place; few = omega (arith, p.few); area = p.area }

-- the same bytes
pub put_same : {a b : List ℕ} {m at r : ℕ} {before after : List ℕ} → a ≡ b → Put a m at before r after → Put b m at before r after
put_same {a} {b} {m} {at} {r} {before} {after} e p = subst (λ (l : List ℕ). Put l m at before r after) e p

-- bytes that are copied over as many
pub put_copied : {bytes before part : List ℕ} (at k : ℕ) → at + length bytes ≤ length before → k ≡ length bytes → part ≡ bytes
    → Put bytes (length bytes) at before (at + length bytes) (put_mid at k before part)
put_copied {bytes} {before} {part} at k h long e =
    let rest : drop k (drop at before) ≡ drop (at + length bytes) before = drop-drop k at before ∙ ap (λ (n : ℕ). drop (at + n) before) long in
    record {
      place = refl;
      few = omega arith;
      area =
          ap₂ (λ (a b : List ℕ). take at before ++ (a ++ b)) e rest
          ∙ sym (append_assoc (take at before) bytes _)
          ∙ sym (sets-eq bytes before at h);
    }

-- copying begins
pub copy_first : (bytes area : List ℕ) (at : ℕ) → Copying bytes at area 0 area
copy_first bytes area at = record { inside = zero-le; written = ap (λ (k : ℕ). sets area k bytes) (add-zero at) }

-- a byte more
pub copy_turn : {bytes before area : List ℕ} {at i : ℕ} → i < length bytes → Copying bytes at before i area
    → Copying bytes at before (i + 1) (set area (at + i) (get_or bytes i 0))
copy_turn {bytes} {before} {area} {at} {i} h t =
    let next : at + (i + 1) ≡ suc (at + i) = omega arith in
    let more : i + 1 ≡ suc i = add-one i in
    record {
      inside = omega arith;
      written =
          ap₂ (λ (k j : ℕ). sets (set area (at + i) (get_or bytes i 0)) k (drop j bytes)) next more
          ∙ ap (λ (l : List ℕ). sets area (at + i) l) (sym (drop-cons bytes i 0 h))
          ∙ t.written;
    }

-- it ends with all of them written
pub copy_end : {bytes before area : List ℕ} {at i : ℕ} → length bytes ≤ i → Copying bytes at before i area
    → Put bytes (length bytes) at before (at + i) area
copy_end {bytes} {before} {area} {at} {i} h t =
    record {
      place = omega (arith, t.inside);
      few = omega arith;
      area = ap (λ (b : List ℕ). sets area (at + i) b) (sym (drop_of_length-le bytes h)) ∙ t.written;
    }

drop_replicate : (n m b : ℕ) → drop n (replicate m b) ≡ replicate (m - n) b
drop_replicate zero m b = ap (λ (k : ℕ). replicate k b) (sym (sub-zero m))
drop_replicate (suc n) zero b =
    let e : 0 ≡ 0 - suc n = omega arith in ap (λ (k : ℕ). replicate k b) e
drop_replicate (suc n) (suc m) b =
    let e : m - n ≡ suc m - suc n = omega arith in drop_replicate n m b ∙ ap (λ (k : ℕ). replicate k b) e

-- bytes written from the start of zeros on
front : (size : ℕ) {a : List ℕ} {m r : ℕ} {after : List ℕ} → m ≤ size → Put a m 0 (replicate size 0) r after
    → after ≡ a ++ replicate (size - length a) 0
front size {a} {m} {r} {after} h p =
    let many = length-replicate {A = ℕ} size 0 in
    p.area ∙ sets-eq a (replicate size 0) 0 (omega (arith, p.few, many))
    ∙ ap (λ (l : List ℕ). a ++ l) (ap (λ (k : ℕ). drop k (replicate size 0)) (zero-add (length a)) ∙ drop_replicate (length a) size 0)

pub printed_is : {a : List ℕ} {m r : ℕ} {after : List ℕ} → m ≤ 8192 → Put a m 0 (replicate 8192 0) r after
    → ◌≡◌ {A = Printed} (record { length = r; bytes = after }) (printed_as a)
unfolding printed_as
printed_is {a} {m} {r} {after} h p =
    let place : r ≡ length a = omega (arith, p.place) in
    let bytes = front 8192 h p in
    λ i. record { length = place i; bytes = bytes i }

-- the same of a report that is printed from nothing on
pub printed_after : {first after : Printed} {a : List ℕ} {m : ℕ} → first ≡ blank → m ≤ 8192 → Put a m first.length first.bytes after.length after.bytes
    → after ≡ printed_as a
printed_after {first} {after} {a} {m} e h p =
    printed_is h (subst (λ (x : Printed). Put a m x.length x.bytes after.length after.bytes) e p)
