-- Laws of positions: in lists put one after the other, and among the elements that pass a test.
use Rattle.std.specs.Prelude.{Bool, true, false, ◌⊎◌, refl, take}
use mathlib.Core.List.{List, [], ◌∷◌, ◌++◌, flat_map}
use Rattle.std.proofs.Common.{inl, inr, sym, ap, ◌∙◌, zero-add}
use Rattle.std.proofs.Math.Option.{some}
use Rattle.std.proofs.Math.Path.{◌≡◌}
use Prim.Native.Nat.{ℕ, zero, suc, ◌+◌, ◌≤◌, ◌<◌}
use native.Mathlib.Omega.{arith}
use Rattle.std.proofs.Math.ListN.{length, get_elem?}
use Rattle.spec_base.specs.Basic.{keep}
use Rattle.law_base.specs.ListLaws.{get_elem?_lt, get_elem?_append_left, get_elem?_append_right, some_injective, keep_yes, keep_no}

-- the case of a position in two lists one after the other
pub position_cases : {A : Type 0} (l r : List A) (n : ℕ) {x : A} → get_elem? (l ++ r) n ≡ some x
    → ((n < length l) × (get_elem? l n ≡ some x)) ⊎ ((k : ℕ) × (n ≡ length l + k) × (get_elem? r k ≡ some x))
position_cases [] r n e = inr (n, sym (zero-add n), e)
position_cases (y ∷ l) r zero e = inl (omega arith, e)
position_cases (y ∷ l) r (suc n) {x} e = go (position_cases l r n e)
  where
    go : ((n < length l) × (get_elem? l n ≡ some x)) ⊎ ((k : ℕ) × (n ≡ length l + k) × (get_elem? r k ≡ some x))
        → ((suc n < suc (length l)) × (get_elem? l n ≡ some x)) ⊎ ((k : ℕ) × (suc n ≡ suc (length l) + k) × (get_elem? r k ≡ some x))
    go (inl h) = inl (omega arith, h.1)
    go (inr h) = inr (h.0, omega arith, h.2)

-- a position in lists put one after the other: which of the lists, where in it, and that its neighbour is the neighbour there too
pub record Chunk {A B : Type 0} (f : A → List B) (l : List A) (k : ℕ) (o : B) : Type 0 where
  pub index : ℕ
  pub value : A
  pub at : get_elem? l index ≡ some value
  pub inner : ℕ
  pub within : get_elem? (f value) inner ≡ some o
  pub next : (o' : B) → get_elem? (f value) (suc inner) ≡ some o' → get_elem? (flat_map f l) (suc k) ≡ some o'

module _ {A B : Type 0} (f : A → List B) where
  here : (x : A) (l : List A) (k : ℕ) {o : B} → get_elem? (f x) k ≡ some o → Chunk f (x ∷ l) k o
  unfolding flat_map
  here x l k e =
      record {
        index = 0;
        value = x;
        at = refl;
        inner = k;
        within = e;
        next = λ o' h. get_elem?_append_left (f x) (flat_map f l) (suc k) (get_elem?_lt (f x) (suc k) h) ∙ h;
      }

  later : (x : A) (l : List A) (k j : ℕ) {o : B} → k ≡ length (f x) + j → Chunk f l j o → Chunk f (x ∷ l) k o
  unfolding flat_map
  later x l k j eq c =
      record {
        index = suc c.index;
        value = c.value;
        at = c.at;
        inner = c.inner;
        within = c.within;
        next = λ o' h.
            let e : suc k ≡ length (f x) + suc j = omega arith in
            rw e (get_elem?_append_right (f x) (flat_map f l) (suc j) ∙ c.next o' h);
      }

  pub chunk_at : (l : List A) (k : ℕ) {o : B} → get_elem? (flat_map f l) k ≡ some o → Chunk f l k o
  unfolding flat_map
  chunk_at [] k e = let z : ◌≡◌ {A = ℕ} 0 1 = cc in absurd (omega arith)
  chunk_at (x ∷ l) k {o} e = go (λ j. chunk_at l j) (position_cases (f x) (flat_map f l) k e)
    where
      go : ((j : ℕ) → get_elem? (flat_map f l) j ≡ some o → Chunk f l j o)
          → ((k < length (f x)) × (get_elem? (f x) k ≡ some o)) ⊎ ((j : ℕ) × (k ≡ length (f x) + j) × (get_elem? (flat_map f l) j ≡ some o))
          → Chunk f (x ∷ l) k o
      go rest (inl h) = here x l k h.1
      go rest (inr h) = later x l k h.0 h.1 (rest h.0 h.2)

  -- of two positions the earlier one is not in a later list
  pub chunk_order : (l : List A) (k k' : ℕ) {o o' : B} → k < k' → get_elem? (flat_map f l) k ≡ some o → get_elem? (flat_map f l) k' ≡ some o'
      → (c : Chunk f l k o) × (c' : Chunk f l k' o') × (c.index ≤ c'.index)
  unfolding flat_map here later
  chunk_order [] k k' lt e e' = let z : ◌≡◌ {A = ℕ} 0 1 = cc in absurd (omega arith)
  chunk_order (x ∷ l) k k' {o} {o'} lt e e' =
      go (λ j j'. chunk_order l j j') (position_cases (f x) (flat_map f l) k e) (position_cases (f x) (flat_map f l) k' e')
    where
      go : ((j j' : ℕ) → j < j' → get_elem? (flat_map f l) j ≡ some o → get_elem? (flat_map f l) j' ≡ some o'
          → (c : Chunk f l j o) × (c' : Chunk f l j' o') × (c.index ≤ c'.index))
          → ((k < length (f x)) × (get_elem? (f x) k ≡ some o)) ⊎ ((j : ℕ) × (k ≡ length (f x) + j) × (get_elem? (flat_map f l) j ≡ some o))
          → ((k' < length (f x)) × (get_elem? (f x) k' ≡ some o')) ⊎ ((j : ℕ) × (k' ≡ length (f x) + j) × (get_elem? (flat_map f l) j ≡ some o'))
          → (c : Chunk f (x ∷ l) k o) × (c' : Chunk f (x ∷ l) k' o') × (c.index ≤ c'.index)
      go rest (inl h) (inl h') = (here x l k h.1, here x l k' h'.1, omega arith)
      go rest (inl h) (inr h') = (here x l k h.1, later x l k' h'.0 h'.1 (chunk_at l h'.0 h'.2), omega arith)
      go rest (inr h) (inl h') = let a : k ≡ length (f x) + h.0 = h.1 in let b : k' < length (f x) = h'.0 in absurd (omega arith)
      go rest (inr h) (inr h') =
          let a : k ≡ length (f x) + h.0 = h.1 in
          let b : k' ≡ length (f x) + h'.0 = h'.1 in
          let r = rest h.0 h'.0 (omega arith) h.2 h'.2 in
          let le : r.0.index ≤ r.1.index = r.2 in
          (later x l k h.0 h.1 r.0, later x l k' h'.0 h'.1 r.1, omega arith)

  -- what stands in one of the lists stands in all of them put one after the other
  pub chunk_position : (l : List A) (j i : ℕ) {x : A} {o : B} → get_elem? l j ≡ some x → get_elem? (f x) i ≡ some o
      → (k : ℕ) × (get_elem? (flat_map f l) k ≡ some o)
  unfolding flat_map
  chunk_position [] j i e h = let z : ◌≡◌ {A = ℕ} 0 1 = cc in absurd (omega arith)
  chunk_position (y ∷ l) zero i {x} {o} e h =
      let h' : get_elem? (f y) i ≡ some o = rw (some_injective e) h in
      (i, get_elem?_append_left (f y) (flat_map f l) i (get_elem?_lt (f y) i h') ∙ h')
  chunk_position (y ∷ l) (suc j) i e h =
      let r = chunk_position l j i e h in
      (length (f y) + r.0, get_elem?_append_right (f y) (flat_map f l) r.0 ∙ r.1)

module _ {A : Type 0} where
  -- an element that passes stands, among those that pass, after as many as pass before it
  pub keep_position : (p : A → Bool) (l : List A) (n : ℕ) {x : A} → get_elem? l n ≡ some x → p x ≡ true
      → get_elem? (keep p l) (length (keep p (take n l))) ≡ some x
  keep_position p [] n e h = e
  keep_position p (y ∷ l) zero {x} e h = rw (keep_yes p y l (ap p (some_injective e) ∙ h)) e
  keep_position p (y ∷ l) (suc n) {x} e h = go (p y) refl (keep_position p l n e h)
    where
      go : (b : Bool) → p y ≡ b → get_elem? (keep p l) (length (keep p (take n l))) ≡ some x
          → get_elem? (keep p (y ∷ l)) (length (keep p (y ∷ take n l))) ≡ some x
      go true b r = rw (keep_yes p y l b, keep_yes p y (take n l) b) r
      go false b r = rw (keep_no p y l b, keep_no p y (take n l) b) r

  -- and what stands among those that pass stands in the list, after as many that pass
  pub position_keep : (p : A → Bool) (l : List A) (k : ℕ) {x : A} → get_elem? (keep p l) k ≡ some x
      → (n : ℕ) × (get_elem? l n ≡ some x) × (length (keep p (take n l)) ≡ k)
  position_keep p [] k e = let z : ◌≡◌ {A = ℕ} 0 1 = cc in absurd (omega arith)
  position_keep p (y ∷ l) k {x} e = go (p y) refl k e (λ k. position_keep p l k)
    where
      Found : ℕ → Type 0
      Found k = (n : ℕ) × (get_elem? (y ∷ l) n ≡ some x) × (length (keep p (take n (y ∷ l))) ≡ k)

      go : (b : Bool) → p y ≡ b → (k : ℕ) → get_elem? (keep p (y ∷ l)) k ≡ some x
          → ((k : ℕ) → get_elem? (keep p l) k ≡ some x → (n : ℕ) × (get_elem? l n ≡ some x) × (length (keep p (take n l)) ≡ k)) → Found k
      go true b zero h rest = (0, rw (keep_yes p y l b) at h, refl)
      go true b (suc k) h rest =
          let r = rest k (rw (keep_yes p y l b) at h) in
          (suc r.0, r.1, ap length (keep_yes p y (take r.0 l) b) ∙ ap suc r.2)
      go false b k h rest =
          let r = rest k (rw (keep_no p y l b) at h) in
          (suc r.0, r.1, ap length (keep_no p y (take r.0 l) b) ∙ r.2)
