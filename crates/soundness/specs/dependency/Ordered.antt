-- Lists in an order: which element stands before which, and when two lists have the same first element that passes a test.
use Rattle.std.specs.Prelude.{◌≡◌, refl, Bool, true, false, cond, ◌⊎◌, ℕ, zero, suc, ◌+◌, ◌≤◌, ◌<◌, length, take}
use Rattle.std.proofs.Common.{sym, ap, subst, ◌∙◌, inl, inr, ⊎_elim, zero-le, suc-le-suc, not-suc-le-zero, le_of_suc-le-suc, arith}
use Rattle.std.proofs.lemmas.Bool.{false≢true}
use mathlib.Core.List.{List, [], ◌∷◌, ◌++◌, reverse, reverse_aux, Memᴰ}
use mathlib.Core.List.Memᴰ
use Rattle.std.proofs.Math.Option.{Option, none, some, some-injective, none-ne-some}
use Rattle.std.proofs.Math.ListN.{get_elem?}
use Rattle.spec_base.specs.Basic.{keep, first, from, count}
use Rattle.law_base.specs.BoolLaws.{true_false}
use Rattle.law_base.specs.ListLaws.{keep_member, first_some, first_none, get_elem?_member, member_get_elem?, get_elem?_take, get_elem?_of_take}
use Rattle.law_base.specs.ListLaws.{take_member}

-- ---- members

module _ {A : Type 0} where
  -- a member of the first n elements stands below n
  pub take_position : (n : ℕ) (l : List A) {x : A} → Memᴰ x (take n l) → (m : ℕ) × (m < n) × (get_elem? l m ≡ some x)
  take_position n l m = let t = member_get_elem? m in let u = get_elem?_of_take n l t.0 t.1 in (t.0, u.0, u.1)

  -- what stands below n is a member of the first n elements
  pub position_take : (n : ℕ) (l : List A) (m : ℕ) {x : A} → m < n → get_elem? l m ≡ some x → Memᴰ x (take n l)
  position_take n l m h stands = get_elem?_member (take n l) m (get_elem?_take n l m h ∙ stands)

-- ---- counting

module _ {A : Type 0} where
  -- an element that passes is counted
  pub count_one : (p : A → Bool) (l : List A) (a : ℕ) {x : A} → get_elem? l a ≡ some x → p x ≡ true → 1 ≤ count p l
  count_one p [] a {x} h q = absurd (none-ne-some x h)
  count_one p (y ∷ l) zero {x} h q =
      let e : ◌≡◌ {A = ℕ} (cond (p y) 1 0) 1 = ap {B = ℕ} (λ (b : Bool). cond b 1 0) (ap p (some-injective y x h) ∙ q) in omega arith
  count_one p (y ∷ l) (suc a) h q = let t = count_one p l a h q in omega arith

  -- two elements that pass are both counted
  pub count_two : (p : A → Bool) (l : List A) (a b : ℕ) {x y : A} → a < b → get_elem? l a ≡ some x → get_elem? l b ≡ some y
      → p x ≡ true → p y ≡ true → 2 ≤ count p l
  count_two p [] a b {x} l h k q r = absurd (none-ne-some x h)
  count_two p (z ∷ l) a zero h i j q r = absurd (not-suc-le-zero h)
  count_two p (z ∷ l) zero (suc b) {x} h i j q r =
      let e : ◌≡◌ {A = ℕ} (cond (p z) 1 0) 1 = ap {B = ℕ} (λ (t : Bool). cond t 1 0) (ap p (some-injective z x i) ∙ q) in
      let t = count_one p l b j r in
      omega arith
  count_two p (z ∷ l) (suc a) (suc b) h i j q r = let t = count_two p l a b (le_of_suc-le-suc h) i j q r in omega arith

  -- where some element is counted, one that passes is found
  pub count_found : (p : A → Bool) (l : List A) → 1 ≤ count p l → (x : A) × Memᴰ x l × (p x ≡ true)
  count_found p [] h = absurd (not-suc-le-zero h)
  count_found p (y ∷ l) h = go (λ k. count_found p l k) (p y) refl h
    where
      go : (1 ≤ count p l → (x : A) × Memᴰ x l × (p x ≡ true))
          → (b : Bool) → p y ≡ b → 1 ≤ cond b 1 0 + count p l → (x : A) × Memᴰ x (y ∷ l) × (p x ≡ true)
      go rest true e k = (y, Memᴰ.head refl, e)
      go rest false e k = let t = rest (omega arith) in (t.0, Memᴰ.tail t.1, t.2)

  -- further on in the list, more elements that pass stand before
  pub keep_take : (p : A → Bool) (l : List A) (m n : ℕ) {x : A} → m < n → get_elem? l m ≡ some x → p x ≡ true
      → length (keep p (take m l)) < length (keep p (take n l))
  keep_take p [] m n {x} h k q = absurd (none-ne-some x k)
  keep_take p (y ∷ l) m zero {x} h k q = absurd (not-suc-le-zero h)
  keep_take p (y ∷ l) zero (suc n) {x} h k q = go (p y) (ap p (some-injective y x k) ∙ q)
    where
      go : (b : Bool) → b ≡ true → 0 < length (cond b (y ∷ keep p (take n l)) (keep p (take n l)))
      go true e = suc-le-suc zero-le
      go false e = absurd (false≢true e)
  keep_take p (y ∷ l) (suc m) (suc n) {x} h k q = go (keep_take p l m n (le_of_suc-le-suc h) k q) (p y)
    where
      go : length (keep p (take m l)) < length (keep p (take n l))
          → (b : Bool)
          → length (cond b (y ∷ keep p (take m l)) (keep p (take m l))) < length (cond b (y ∷ keep p (take n l)) (keep p (take n l)))
      go rest true = suc-le-suc rest
      go rest false = rest

-- ---- order

module _ {A : Type 0} where
  -- x stands before y in the list
  abbrev pub Earlier : List A → A → A → Type 0
  Earlier l x y = (m n : ℕ) × (m < n) × (get_elem? l m ≡ some x) × (get_elem? l n ≡ some y)

  -- each element has the relation to each after it
  abbrev pub Ordered : (A → A → Type 0) → List A → Type 0
  Ordered R [] = Unit {0}
  Ordered R (x ∷ l) = ((y : A) → Memᴰ y l → R x y) × Ordered R l

  -- a list is in the order of another relation that holds where the first does
  pub ordered_weaker : (R S : A → A → Type 0) (l : List A)
      → ((x y : A) → Memᴰ x l → Memᴰ y l → R x y → S x y) → Ordered R l → Ordered S l
  ordered_weaker R S [] f o = tt
  ordered_weaker R S (x ∷ l) f o = (
    λ y m. f x y (Memᴰ.head refl) (Memᴰ.tail m) (o.0 y m),
    ordered_weaker R S l (λ y z m n. f y z (Memᴰ.tail m) (Memᴰ.tail n)) o.1,
  )

  -- what is kept stays in order
  pub ordered_keep : (R : A → A → Type 0) (p : A → Bool) (l : List A) → Ordered R l → Ordered R (keep p l)
  ordered_keep R p [] o = tt
  ordered_keep R p (x ∷ l) o = go (ordered_keep R p l o.1) (p x)
    where
      go : Ordered R (keep p l) → (b : Bool) → Ordered R (cond b (x ∷ keep p l) (keep p l))
      go rest true = (λ y m. o.0 y (keep_member p l m).0, rest)
      go rest false = rest

  -- so does what is left from an element on
  pub ordered_from : (R : A → A → Type 0) (p : A → Bool) (l : List A) → Ordered R l → Ordered R (from p l)
  ordered_from R p [] o = tt
  ordered_from R p (x ∷ l) o = go (ordered_from R p l o.1) (p x)
    where
      go : Ordered R (from p l) → (b : Bool) → Ordered R (cond b (x ∷ l) (from p l))
      go rest true = o
      go rest false = rest

  -- and the first n elements
  pub ordered_take : (R : A → A → Type 0) (n : ℕ) (l : List A) → Ordered R l → Ordered R (take n l)
  ordered_take R zero l o = tt
  ordered_take R (suc n) [] o = tt
  ordered_take R (suc n) (x ∷ l) o = (λ y m. o.0 y (take_member n l m), ordered_take R n l o.1)

  -- two lists joined are in order if each is and what stands in the first has the relation to what stands in the second
  pub ordered_append : (R : A → A → Type 0) (l r : List A) → Ordered R l → Ordered R r
      → ((x y : A) → Memᴰ x l → Memᴰ y r → R x y) → Ordered R (l ++ r)
  ordered_append R [] r o s f = s
  ordered_append R (x ∷ l) r o s f = (
    λ y m. ⊎_elim (λ n. o.0 y n) (λ n. f x y (Memᴰ.head refl) n) (Memᴰ.append_cases l m),
    ordered_append R l r o.1 s (λ y z m n. f y z (Memᴰ.tail m) n),
  )

  -- a list turned round onto another is in the order turned round, if what stands in that one comes after
  reverse_aux_ordered : (R : A → A → Type 0) (l r : List A) → Ordered R l → Ordered (λ x y. R y x) r
      → ((x y : A) → Memᴰ x l → Memᴰ y r → R y x) → Ordered (λ x y. R y x) (reverse_aux l r)
  reverse_aux_ordered R [] r o s f = s
  reverse_aux_ordered R (x ∷ l) r o s f =
      reverse_aux_ordered R l (x ∷ r) o.1 (λ y m. f x y (Memᴰ.head refl) m, s) (λ y z m n. go y z m (Memᴰ.cases_cons n))
    where
      go : (y z : A) → Memᴰ y l → (z ≡ x) ⊎ Memᴰ z r → R z y
      go y z m (inl e) = subst (λ (w : A). R w y) (sym e) (o.0 y m)
      go y z m (inr n) = f y z (Memᴰ.tail m) n

  -- a list turned round is in the order turned round
  pub ordered_reverse : (R : A → A → Type 0) (l : List A) → Ordered R l → Ordered (λ x y. R y x) (reverse l)
  ordered_reverse R l o = reverse_aux_ordered R l [] o tt (λ x y m n. absurd (Memᴰ.not-nil n))

  -- a list is in its own order
  pub ordered_earlier : (l : List A) → Ordered (Earlier l) l
  ordered_earlier [] = tt
  ordered_earlier (x ∷ l) = (
    λ y m. let t = member_get_elem? m in (0, suc t.0, suc-le-suc zero-le, refl, t.1),
    ordered_weaker (Earlier l) (Earlier (x ∷ l)) l (λ y z m n t. (suc t.0, suc t.1, suc-le-suc t.2, t.3, t.4)) (ordered_earlier l),
  )

  -- what stands before a position has the relation to what stands there
  pub ordered_past : (R : A → A → Type 0) (l : List A) (k : ℕ) {x e : A} → Ordered R l → get_elem? l k ≡ some e → Memᴰ x (take k l)
      → R x e
  ordered_past R [] k {e} o h m = absurd (none-ne-some e h)
  ordered_past R (y ∷ l) zero o h m = absurd (Memᴰ.not-nil m)
  ordered_past R (y ∷ l) (suc k) {x} {e} o h m = go (λ n. ordered_past R l k o.1 h n) (Memᴰ.cases_cons m)
    where
      go : (Memᴰ x (take k l) → R x e) → (x ≡ y) ⊎ Memᴰ x (take k l) → R x e
      go rest (inl q) = subst (λ (w : A). R w e) (sym q) (o.0 e (get_elem?_member l k h))
      go rest (inr n) = rest n

  -- an element stands before a position, or there, or what stands there has the relation to it
  pub ordered_place : (R : A → A → Type 0) (l : List A) (k : ℕ) {x e : A} → Ordered R l → get_elem? l k ≡ some e → Memᴰ x l
      → Memᴰ x (take k l) ⊎ ((x ≡ e) ⊎ R e x)
  ordered_place R [] k {e} o h m = absurd (none-ne-some e h)
  ordered_place R (y ∷ l) zero {x} {e} o h m = go (Memᴰ.cases_cons m)
    where
      go : (x ≡ y) ⊎ Memᴰ x l → Memᴰ x (take zero (y ∷ l)) ⊎ ((x ≡ e) ⊎ R e x)
      go (inl q) = inr (inl (q ∙ some-injective y e h))
      go (inr n) = inr (inr (subst (λ (w : A). R w x) (some-injective y e h) (o.0 x n)))
  ordered_place R (y ∷ l) (suc k) {x} {e} o h m = go (λ n. ordered_place R l k o.1 h n) (Memᴰ.cases_cons m)
    where
      next : Memᴰ x (take k l) ⊎ ((x ≡ e) ⊎ R e x) → Memᴰ x (y ∷ take k l) ⊎ ((x ≡ e) ⊎ R e x)
      next (inl n) = inl (Memᴰ.tail n)
      next (inr q) = inr q

      go : (Memᴰ x l → Memᴰ x (take k l) ⊎ ((x ≡ e) ⊎ R e x)) → (x ≡ y) ⊎ Memᴰ x l
          → Memᴰ x (y ∷ take k l) ⊎ ((x ≡ e) ⊎ R e x)
      go rest (inl q) = inl (Memᴰ.head q)
      go rest (inr n) = next (rest n)

  -- the first that passes has the relation to each other that passes
  pub first_ordered : (R : A → A → Type 0) (p : A → Bool) (l : List A) {x y : A} → Ordered R l → first p l ≡ some x → Memᴰ y l
      → p y ≡ true → (x ≡ y) ⊎ R x y
  first_ordered R p [] o h m q = absurd (Memᴰ.not-nil m)
  first_ordered R p (z ∷ l) {x} {y} o h m q = go (λ e n. first_ordered R p l o.1 e n q) (p z) refl h (Memᴰ.cases_cons m)
    where
      go : (first p l ≡ some x → Memᴰ y l → (x ≡ y) ⊎ R x y)
          → (b : Bool) → p z ≡ b → cond b (some z) (first p l) ≡ some x → (y ≡ z) ⊎ Memᴰ y l → (x ≡ y) ⊎ R x y
      go rest true e t (inl s) = inl (sym (some-injective z x t) ∙ sym s)
      go rest true e t (inr n) = inr (subst (λ (w : A). R w y) (some-injective z x t) (o.0 y n))
      go rest false e t (inl s) = absurd (true_false q (ap p s ∙ e))
      go rest false e t (inr n) = rest t n

  -- two lists have the same first element that passes, if the same elements of them pass and no two of these stand the other way round
  pub first_same : (R S : A → A → Type 0) (p : A → Bool) (l r : List A) → Ordered R l → Ordered S r
      → ((x : A) → Memᴰ x l → p x ≡ true → Memᴰ x r) → ((x : A) → Memᴰ x r → p x ≡ true → Memᴰ x l)
      → ((x y : A) → Memᴰ x l → Memᴰ y l → p x ≡ true → p y ≡ true → R x y → S y x → ⊥) → first p l ≡ first p r
  first_same R S p l r o s f g clash = go (first p l) (first p r) refl refl
    where
      last : (x y : A) → Memᴰ x l → Memᴰ y l → p x ≡ true → p y ≡ true → R x y → (y ≡ x) ⊎ S y x → x ≡ y
      last x y m n a b h (inl e) = sym e
      last x y m n a b h (inr k) = absurd (clash x y m n a b h k)

      next : (x y : A) → Memᴰ x l → Memᴰ y l → p x ≡ true → p y ≡ true → (y ≡ x) ⊎ S y x → (x ≡ y) ⊎ R x y → x ≡ y
      next x y m n a b k (inl e) = e
      next x y m n a b k (inr h) = last x y m n a b h k

      go : (a b : Option A) → first p l ≡ a → first p r ≡ b → first p l ≡ first p r
      go none none h k = h ∙ sym k
      go none (some y) h k = let t = first_some p r k in absurd (true_false t.1 (first_none p h (g y t.0 t.1)))
      go (some x) none h k = let t = first_some p l h in absurd (true_false t.1 (first_none p k (f x t.0 t.1)))
      go (some x) (some y) h k =
          let t = first_some p l h in
          let u = first_some p r k in
          let v = g y u.0 u.1 in
          let e =
          next x y t.0 v t.1 u.1 (first_ordered S p r s k (f x t.0 t.1) t.1) (first_ordered R p l o h v u.1) in
          h ∙ ap {B = Option A} some e ∙ sym k
