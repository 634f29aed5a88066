-- Words at the start of a lent area, one after the other.
use mathlib.Core.List.{List, [], ◌++◌, append_assoc, append-nil}
use mathlib.Core.Path.{◌≡◌, refl, sym, ap, ◌∙◌}
use Prim.Native.Nat.{ℕ, ◌+◌, ◌-◌, ◌≤◌}
use native.Mathlib.Omega.{arith}
use lib.ListN.{length, take, drop, length-append, length-drop, drop_of_length-le}
use lib.Seq.{take_at, drop_at, take_all, drop-drop}
use borrow.Rule.Slice.PartMut.{put_mid}
use Rattle.unfold.specs.Laid.{Laid}
use Rattle.unfold.proofs.LaidLaws.{laid_fits}
use Rattle.unfold.specs.Written.{Wrote}

-- nothing is written
pub wrote_nothing : (w before : List ℕ) → w ≡ [] → Wrote w before 0 before
wrote_nothing w before e = rw e (record { many = refl; inside = omega arith; stands = refl })

-- words that are laid over an area with room for them
pub wrote_laid : (w before : List ℕ) (r : ℕ) (area : List ℕ) → length w ≤ length before → Laid w before r area → Wrote w before r area
wrote_laid w before r area h l =
    record { many = omega (arith, l.many); inside = l.inside; stands = l.stands ∙ laid_fits w before h }

-- one after the other: the first part's room, the second's, and what stands there in the end
module _ (a b w before : List ℕ) (e : w ≡ a ++ b) (room : length w ≤ length before) where
  both_length : length a + length b ≤ length before
  both_length = omega (arith, ap length e, length-append a b)

  pub room_left : length a ≤ length before
  room_left = omega (arith, both_length)

  module _ (m : ℕ) (mid : List ℕ) (first : Wrote a before m mid) where
    rest : drop m mid ≡ drop (length a) before
    rest = rw first.stands (drop_at a (drop (length a) before) m (sym first.many))

    mid_length : length mid ≡ length before
    mid_length = rw first.stands (length-append a (drop (length a) before) ∙ omega (arith, length-drop (length a) before, both_length))

    part : take (length mid - m) (drop m mid) ≡ drop (length a) before
    part = take_all (length mid - m) (drop m mid) (omega (arith, length-drop m mid)) ∙ rest

    pub room_right : length b ≤ length (take (length mid - m) (drop m mid))
    room_right = rw part (omega (arith, both_length, length-drop (length a) before))

    pub wrote_both : (n : ℕ) (end : List ℕ) → Wrote b (take (length mid - m) (drop m mid)) n end
        → Wrote w before (m + n) (put_mid m (length mid - m) mid end)
    wrote_both n end second =
        record {
          many = omega (arith, first.many, second.many, ap length e, length-append a b);
          inside = omega (arith, first.many, second.many, both_length);
          stands = stands;
        }
      where
        front : take m mid ≡ a
        front = rw first.stands (take_at a (drop (length a) before) m (sym first.many))

        back : drop (length mid - m) (drop m mid) ≡ []
        back = drop_of_length-le (drop m mid) {i = length mid - m} (omega (arith, length-drop m mid))

        written : end ≡ b ++ drop (length b) (drop (length a) before)
        written = second.stands ∙ ap (λ (l : List ℕ). b ++ drop (length b) l) part

        stands : put_mid m (length mid - m) mid end ≡ w ++ drop (length w) before
        stands = rw (front, back, append-nil, written, drop-drop, e, length-append, append_assoc)
