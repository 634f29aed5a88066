-- The events before a position: which they are, and that a list taken from them runs back in time.
use Rattle.std.specs.Prelude.{◌≡◌, Bool, true, false, cond, ◌⊎◌, take}
use Rattle.std.proofs.Math.Path.{refl}
use Rattle.std.proofs.Common.{sym, ap, subst, ◌∙◌, inl, inr, not-suc-le-zero, le_of_suc-le-suc}
use mathlib.Core.List.{List, [], ◌∷◌, reverse, reverse_aux, Memᴰ}
use mathlib.Core.List.Memᴰ
use Rattle.std.proofs.Math.Option.{Option, none, some, none-ne-some}
use Prim.Native.Nat.{ℕ, zero, suc, ◌≤◌, ◌<◌}
use native.Mathlib.Omega.{arith}
use Rattle.std.proofs.Math.Decide.{ℕ_discrete}
use Rattle.std.proofs.Math.ListN.{get_elem?}
use Rattle.spec_base.specs.Basic.{keep, first, from}
use Rattle.law_base.specs.BoolLaws.{true_false}
use Rattle.law_base.specs.ListLaws.{some_injective, get_elem?_same, keep_yes, member_keep, from_member}
use Rattle.spec_schedule.specs.Event.{Event, past_at}
use Rattle.soundness.specs.dependency.Positions.{position_past}

-- ---- lists turned round

module _ {A : Type 0} where
  -- taking one element more puts it in front
  reverse_take : (l : List A) (n : ℕ) (r : List A) {x : A} → get_elem? l n ≡ some x
      → reverse_aux (take (suc n) l) r ≡ x ∷ reverse_aux (take n l) r
  reverse_take [] n r {x} h = absurd (none-ne-some x h)
  reverse_take (y ∷ l) zero r h = ap {B = List A} (λ z. z ∷ r) (some_injective h)
  reverse_take (y ∷ l) (suc n) r h = reverse_take l n (y ∷ r) h

  -- after the end nothing more is taken
  take_end : (l : List A) (n : ℕ) → get_elem? l n ≡ none → take (suc n) l ≡ take n l
  take_end [] zero h = refl
  take_end [] (suc n) h = refl
  take_end (y ∷ l) zero h = absurd (none-ne-some y (sym h))
  take_end (y ∷ l) (suc n) h = ap {B = List A} (λ s. y ∷ s) (take_end l n h)

  -- the part that begins with a kept element that passes is all of it
  from_keep_yes : (p q : A → Bool) (x : A) (l : List A) → q x ≡ true → p x ≡ true → from p (keep q (x ∷ l)) ≡ x ∷ keep q l
  from_keep_yes p q x l h k =
      ap (from p) (keep_yes q x l h) ∙ ap (λ (b : Bool). cond b (x ∷ keep q l) (from p (keep q l))) k

  -- an element more in front loses nothing of the part that begins with the first that passes
  from_keep_more : (p q : A → Bool) (x : A) (l : List A) {w : A} → Memᴰ w (from p (keep q l)) → Memᴰ w (from p (keep q (x ∷ l)))
  from_keep_more p q x l {w} m = outer (q x)
    where
      inner : (b : Bool) → Memᴰ w (cond b (x ∷ keep q l) (from p (keep q l)))
      inner true = Memᴰ.tail (from_member p (keep q l) m)
      inner false = m

      outer : (b : Bool) → Memᴰ w (from p (cond b (x ∷ keep q l) (keep q l)))
      outer true = inner (p x)
      outer false = m

-- ---- the past

-- the past of the next position is the event here and the past of this one
pub past_next : (events : List Event) (n : ℕ) {e : Event} → get_elem? events n ≡ some e → past_at events (suc n) ≡ e ∷ past_at events n
unfolding past_at
past_next events n h = reverse_take events n [] h

-- after the last event the past is the same
pub past_end : (events : List Event) (n : ℕ) → get_elem? events n ≡ none → past_at events (suc n) ≡ past_at events n
unfolding past_at
past_end events n h = ap {B = List Event} reverse (take_end events n h)

-- ---- lists that run back in time

-- events that stand at falling positions, all of them below n
abbrev pub Falling : List Event → ℕ → List Event → Type 0
Falling events n [] = Unit
Falling events n (e ∷ l) = (k : ℕ) × (k < n) × (get_elem? events k ≡ some e) × Falling events k l

module _ (events : List Event) where
  -- a higher bound does too
  falling_wider : (l : List Event) (k n : ℕ) → k ≤ n → Falling events k l → Falling events n l
  falling_wider [] k n h f = tt
  falling_wider (e ∷ l) k n h f = (f.0, omega arith, f.2, f.3)

  -- the past runs back in time
  pub falling_past : (n : ℕ) → Falling events n (past_at events n)
  unfolding past_at
  falling_past zero = tt
  falling_past (suc n) = go (falling_past n) (get_elem? events n) refl
    where
      go : Falling events n (past_at events n) → (o : Option Event) → get_elem? events n ≡ o → Falling events (suc n) (past_at events (suc n))
      go f none h = rw (past_end events n h) (falling_wider (past_at events n) n (suc n) (omega arith) f)
      go f (some e) h = rw (past_next events n h) (n, omega arith, h, f)

  -- so does what is kept of a list that does
  pub falling_keep : (p : Event → Bool) (l : List Event) (n : ℕ) → Falling events n l → Falling events n (keep p l)
  falling_keep p [] n f = tt
  falling_keep p (e ∷ l) n f = go (falling_keep p l f.0 f.3) (p e)
    where
      go : Falling events f.0 (keep p l) → (b : Bool) → Falling events n (cond b (e ∷ keep p l) (keep p l))
      go g true = (f.0, f.1, f.2, g)
      go g false = falling_wider (keep p l) f.0 n (omega arith) g

  -- and the part that begins with an element that passes
  pub falling_from : (p : Event → Bool) (l : List Event) (n : ℕ) → Falling events n l → Falling events n (from p l)
  falling_from p [] n f = tt
  falling_from p (e ∷ l) n f = go (falling_from p l f.0 f.3) (p e)
    where
      go : Falling events f.0 (from p l) → (b : Bool) → Falling events n (cond b (e ∷ l) (from p l))
      go g true = f
      go g false = falling_wider (from p l) f.0 n (omega arith) g

  -- its elements stand below the bound
  pub falling_member : (l : List Event) (n : ℕ) → Falling events n l → {x : Event} → Memᴰ x l
      → (k : ℕ) × (k < n) × (get_elem? events k ≡ some x)
  falling_member [] n f m = absurd (Memᴰ.not-nil m)
  falling_member (e ∷ l) n f {x} m = go (λ r. falling_member l f.0 f.3 r) (Memᴰ.cases_cons m)
    where
      go : (Memᴰ x l → (k : ℕ) × (k < f.0) × (get_elem? events k ≡ some x)) → (x ≡ e) ⊎ Memᴰ x l
          → (k : ℕ) × (k < n) × (get_elem? events k ≡ some x)
      go rest (inl q) = (f.0, f.1, f.2 ∙ ap {B = Option Event} some (sym q))
      go rest (inr r) = let t = rest r in (t.0, omega arith, t.2)

  -- the first that passes is the latest that passes
  pub falling_first : (p : Event → Bool) (l : List Event) (n : ℕ) → Falling events n l → {x : Event} → first p l ≡ some x
      → (k : ℕ) × (get_elem? events k ≡ some x)
      × ((y : Event) → Memᴰ y l → p y ≡ true → (j : ℕ) × (j ≤ k) × (get_elem? events j ≡ some y))
  falling_first p [] n f {x} h = absurd (none-ne-some x h)
  falling_first p (e ∷ l) n f {x} h = go (λ q. falling_first p l f.0 f.3 q) (p e) refl h
    where
      Latest : List Event → Type 0
      Latest s = (k : ℕ) × (get_elem? events k ≡ some x)
          × ((y : Event) → Memᴰ y s → p y ≡ true → (j : ℕ) × (j ≤ k) × (get_elem? events j ≡ some y))

      here : (y : Event) → (y ≡ e) ⊎ Memᴰ y l → (j : ℕ) × (j ≤ f.0) × (get_elem? events j ≡ some y)
      here y (inl q) = (f.0, omega arith, f.2 ∙ ap {B = Option Event} some (sym q))
      here y (inr m) = let t = falling_member l f.0 f.3 m in (t.0, omega arith, t.2)

      there : (r : Latest l) → p e ≡ false → (y : Event) → (y ≡ e) ⊎ Memᴰ y l → p y ≡ true
          → (j : ℕ) × (j ≤ r.0) × (get_elem? events j ≡ some y)
      there r q y (inl s) t = absurd (true_false t (ap p s ∙ q))
      there r q y (inr m) t = r.2 y m t

      go : (first p l ≡ some x → Latest l) → (b : Bool) → p e ≡ b → cond b (some e) (first p l) ≡ some x → Latest (e ∷ l)
      go rest true q s = (f.0, f.2 ∙ s, λ y m t. here y (Memᴰ.cases_cons m))
      go rest false q s = let r = rest s in (r.0, r.1, λ y m t. there r q y (Memᴰ.cases_cons m) t)

  -- what stands in the part that begins with an element that passes stands at or before one that passes
  pub falling_up_to : (p : Event → Bool) (l : List Event) (n : ℕ) → Falling events n l → {w : Event} → Memᴰ w (from p l)
      → (v : Event) × Memᴰ v l × (p v ≡ true) × (j : ℕ) × (j < n) × (get_elem? events j ≡ some v)
      × (k : ℕ) × (k ≤ j) × (get_elem? events k ≡ some w)
  falling_up_to p [] n f m = absurd (Memᴰ.not-nil m)
  falling_up_to p (e ∷ l) n f {w} m = go (λ r. falling_up_to p l f.0 f.3 r) (p e) refl m
    where
      UpTo : ℕ → List Event → Type 0
      UpTo b s = (v : Event) × Memᴰ v s × (p v ≡ true) × (j : ℕ) × (j < b) × (get_elem? events j ≡ some v)
          × (k : ℕ) × (k ≤ j) × (get_elem? events k ≡ some w)

      here : p e ≡ true → (k : ℕ) × (k < suc f.0) × (get_elem? events k ≡ some w) → UpTo n (e ∷ l)
      here q t = (e, Memᴰ.head refl, q, f.0, f.1, f.2, t.0, le_of_suc-le-suc t.1, t.2)

      go : (Memᴰ w (from p l) → UpTo f.0 l) → (b : Bool) → p e ≡ b → Memᴰ w (cond b (e ∷ l) (from p l)) → UpTo n (e ∷ l)
      go rest true q r = here q (falling_member (e ∷ l) (suc f.0) (f.0, omega arith, f.2, f.3) r)
      go rest false q r =
          let t = rest r in (t.0, Memᴰ.tail t.1, t.2, t.3, omega arith, t.5, t.6, t.7, t.8)

  -- the other way round: what stands at or before one that passes is in the part that begins with the latest that passes
  pub past_up_to : (p q : Event → Bool) (n j k : ℕ) {v w : Event} → k ≤ j → j < n → get_elem? events j ≡ some v → get_elem? events k ≡ some w
      → q v ≡ true → q w ≡ true → p v ≡ true → Memᴰ w (from p (keep q (past_at events n)))
  past_up_to p q zero j k h l atv atw qv qw pv = absurd (not-suc-le-zero l)
  past_up_to p q (suc n) j k {v} {w} h l atv atw qv qw pv =
      go (λ r. past_up_to p q n j k h r atv atw qv qw pv) (ℕ_discrete j n) (get_elem? events n) refl
    where
      Goal : List Event → Type 0
      Goal past = Memᴰ w (from p (keep q past))

      latest : j ≡ n → Goal (past_at events (suc n))
      latest e =
          subst Goal (sym (past_next events n (ap (get_elem? events) (sym e) ∙ atv)))
          (subst (Memᴰ w) (sym (from_keep_yes p q v (past_at events n) qv pv)) (stands (ℕ_discrete k n)))
        where
          stands : Dec (k ≡ n) → Memᴰ w (v ∷ keep q (past_at events n))
          stands (yes d) = Memᴰ.head (get_elem?_same events k atw (ap (get_elem? events) (d ∙ sym e) ∙ atv))
          stands (no d) = Memᴰ.tail (member_keep q (position_past events n k (omega arith) atw) qw)

      go : (j < n → Goal (past_at events n)) → Dec (j ≡ n) → (o : Option Event) → get_elem? events n ≡ o → Goal (past_at events (suc n))
      go rest (yes e) o at = latest e
      go rest (no d) none at = subst Goal (sym (past_end events n at)) (rest (omega arith))
      go rest (no d) (some e) at = subst Goal (sym (past_next events n at)) (from_keep_more p q e (past_at events n) (rest (omega arith)))
