-- Words laid over an area, one after the other.
use mathlib.Core.List.{List, [], ◌∷◌, ◌++◌, append-nil}
use mathlib.Core.Path.{◌≡◌, refl, sym, ap, ◌∙◌}
use Prim.Native.Nat.{ℕ, suc, ◌+◌, ◌-◌, ◌≤◌, min}
use native.Mathlib.Omega.{arith}
use lib.ListN.{length, take, drop, length-append, length-take, length-drop, drop_of_length-le}
use lib.Seq.{take_all}
use borrow.Rule.Slice.PartMut.{put_mid}
use Rattle.unfold.specs.Laid.{laid, Laid}

laid_none : (words : List ℕ) → laid words [] ≡ []
unfolding laid
laid_none [] = refl
laid_none (w ∷ words) = refl

laid_length : (words before : List ℕ) → length (laid words before) ≡ length before
unfolding laid
laid_length [] before = refl
laid_length (w ∷ words) [] = refl
laid_length (w ∷ words) (x ∷ before) = ap suc (laid_length words before)

-- words that find room
pub laid_fits : (words before : List ℕ) → length words ≤ length before → laid words before ≡ words ++ drop (length words) before
unfolding laid
laid_fits [] before h = refl
laid_fits (w ∷ words) [] h = absurd (omega arith)
laid_fits (w ∷ words) (x ∷ before) h = ap (λ (l : List ℕ). w ∷ l) (laid_fits words before (omega arith))

-- the second words after the first, as far as these found room
laid_append : (a b before : List ℕ) (m : ℕ) → m ≡ min (length a) (length before)
    → take m (laid a before) ++ laid b (drop m (laid a before)) ≡ laid (a ++ b) before
unfolding laid
laid_append [] b before m e = let z : m ≡ 0 = omega arith in rw z refl
laid_append (w ∷ a) b [] m e = let z : m ≡ 0 = omega arith in rw z (laid_none b)
laid_append (w ∷ a) b (x ∷ before) m e =
    let n = min (length a) (length before) in
    let z : m ≡ suc n = omega arith in
    rw z (ap (λ (l : List ℕ). w ∷ l) (laid_append a b before n refl))

-- nothing is laid
pub lays_nothing : (words before : List ℕ) → words ≡ [] → Laid words before 0 before
unfolding laid
lays_nothing words before e = rw e (record { many = omega arith; inside = omega arith; stands = refl })

pub lays_length : (a before : List ℕ) (m : ℕ) (area : List ℕ) → Laid a before m area → length area ≡ length before
lays_length a before m area l = ap length l.stands ∙ laid_length a before

-- words laid over an area that they fill, whatever comes after them
pub lays_full : (a b w before : List ℕ) (m : ℕ) (area : List ℕ) → w ≡ a ++ b → Laid a before m area → length before ≤ m → Laid w before m area
lays_full a b w before m area e l h =
    record {
      many = rw (e, length-append) (omega (arith, l.many, l.inside));
      inside = l.inside;
      stands = rw (e, ← laid_append a b before m l.many, ← l.stands, drop_of_length-le area {i = m} short, laid_none, append-nil)
          (sym (take_all m area short));
    }
  where
    short : length area ≤ m
    short = omega (arith, ap length l.stands, laid_length a before)

-- words with nothing after them
pub lays_end : (a b w before : List ℕ) (m : ℕ) (area : List ℕ) → w ≡ a ++ b → b ≡ [] → Laid a before m area → Laid w before m area
lays_end a b w before m area e none l = rw (e, none, append-nil) l

pub lays_as : (w v before : List ℕ) (r : ℕ) (area : List ℕ) → w ≡ v → Laid v before r area → Laid w before r area
lays_as w v before r area e h = rw e h

-- words laid over an area, and more over what is left of it
pub lays_both : (a b w before : List ℕ) (m : ℕ) (mid : List ℕ) (n : ℕ) (end : List ℕ) → w ≡ a ++ b → Laid a before m mid
    → Laid b (take (length mid - m) (drop m mid)) n end → Laid w before (m + n) (put_mid m (length mid - m) mid end)
lays_both a b w before m mid n end e first second =
    record {
      many = rw (e, length-append) (omega (arith, first.many, second.many, rest_length, mid_length));
      inside = omega (arith, first.inside, second.inside, rest_length, mid_length);
      stands = rw (back, append-nil, second.stands, part, first.stands, e) (laid_append a b before m first.many);
    }
  where
    mid_length : length mid ≡ length before
    mid_length = rw first.stands (laid_length a before)

    part : take (length mid - m) (drop m mid) ≡ drop m mid
    part = take_all (length mid - m) (drop m mid) (omega (arith, length-drop m mid))

    rest_length : length (take (length mid - m) (drop m mid)) ≡ length mid - m
    rest_length = omega (arith, length-take (length mid - m) (drop m mid), length-drop m mid)

    back : drop (length mid - m) (drop m mid) ≡ []
    back = drop_of_length-le (drop m mid) {i = length mid - m} (omega (arith, length-drop m mid))

pub lays_inside : (a b before : List ℕ) (m : ℕ) (mid : List ℕ) (n : ℕ) (end : List ℕ) → Laid a before m mid
    → Laid b (take (length mid - m) (drop m mid)) n end → m + n ≤ length before
lays_inside a b before m mid n end first second = (lays_both a b (a ++ b) before m mid n end refl first second).inside
