-- Laws of the list words of `Basic`, over membership as data and positions in native numbers.
use Rattle.std.specs.Prelude.{◌≡◌, Bool, true, false, cond, ◌&&◌, ◌||◌, ◌⊎◌, ℕ, zero, suc, ◌+◌, ◌≤◌, ◌<◌, length, take, drop}
use Rattle.std.proofs.Math.Path.{refl}
use Rattle.std.proofs.Common.{sym, ap, ap₂, subst, ◌∙◌, true≢false, inl, inr, ⊎_elim, zero-le, suc-le-suc, not-suc-le-zero, le_of_suc-le-suc, add-zero, suc-add, zero-add, arith}
use Rattle.std.proofs.lemmas.Bool.{false≢true}
use Rattle.std.proofs.Math.Bool as B
use mathlib.Core.List.{List, [], ◌∷◌, ◌++◌, map, flat_map, reverse, reverse_aux, Memᴰ}
use mathlib.Core.List.Memᴰ
use Rattle.std.proofs.Math.Option
use Rattle.std.proofs.Math.Option.{Option, none, some, none-ne-some}
use Rattle.std.proofs.Math.Decide.{ℕ_discrete}
use Rattle.std.proofs.Math.ListN.{get_elem?}
use Rattle.spec_base.specs.Basic.{any, all, keep, first, from, count, pairs_to, around, numbers_from, numbers}
use Rattle.law_base.specs.BoolLaws.{true_false, and_true, and_of, and_false, and_left, and_right}
use Rattle.law_base.specs.BoolLaws.{or_true, or_left, or_right, or_false, or_of}

-- ---- some element, every element

module _ {A : Type 0} where
  -- a test that some element passes finds one
  pub any_true : (p : A → Bool) (l : List A) → any p l ≡ true → (x : A) × Memᴰ x l × (p x ≡ true)
  any_true p [] h = absurd (false≢true h)
  any_true p (y ∷ l) h = go (λ e. any_true p l e) (or_true (p y) (any p l) h)
    where
      go : (any p l ≡ true → (x : A) × Memᴰ x l × (p x ≡ true)) → (p y ≡ true) ⊎ (any p l ≡ true)
          → (x : A) × Memᴰ x (y ∷ l) × (p x ≡ true)
      go rest (inl e) = (y, Memᴰ.head refl, e)
      go rest (inr e) = let t = rest e in (t.0, Memᴰ.tail t.1, t.2)

  -- an element that passes is enough for `any`
  pub any_of : (p : A → Bool) {x : A} {l : List A} → Memᴰ x l → p x ≡ true → any p l ≡ true
  any_of p (Memᴰ.head {x = y} {xs = l} e) h = or_left (any p l) (ap p (sym e) ∙ h)
  any_of p (Memᴰ.tail {x = y} {xs = l} m) h = or_right (p y) (any_of p m h)

  -- where `any` fails, each element fails
  pub any_false : (p : A → Bool) {x : A} {l : List A} → any p l ≡ false → Memᴰ x l → p x ≡ false
  any_false p h (Memᴰ.head {x = y} {xs = l} e) = ap p e ∙ (or_false (p y) (any p l) h).0
  any_false p h (Memᴰ.tail {x = y} {xs = l} m) = any_false p (or_false (p y) (any p l) h).1 m

  -- where each element fails, `any` fails
  pub any_none : (p : A → Bool) (l : List A) → ((x : A) → Memᴰ x l → p x ≡ false) → any p l ≡ false
  any_none p [] f = refl
  any_none p (y ∷ l) f = or_of (f y (Memᴰ.head refl)) (any_none p l (λ x m. f x (Memᴰ.tail m)))

  -- where `all` passes, each element passes
  pub all_true : (p : A → Bool) {x : A} {l : List A} → all p l ≡ true → Memᴰ x l → p x ≡ true
  all_true p h (Memᴰ.head {x = y} {xs = l} e) = ap p e ∙ (and_true (p y) (all p l) h).0
  all_true p h (Memᴰ.tail {x = y} {xs = l} m) = all_true p (and_true (p y) (all p l) h).1 m

  -- where each element passes, `all` passes
  pub all_of : (p : A → Bool) (l : List A) → ((x : A) → Memᴰ x l → p x ≡ true) → all p l ≡ true
  all_of p [] f = refl
  all_of p (y ∷ l) f = and_of (f y (Memᴰ.head refl)) (all_of p l (λ x m. f x (Memᴰ.tail m)))

  -- where `all` fails, an element that fails is found
  pub all_false : (p : A → Bool) (l : List A) → all p l ≡ false → (x : A) × Memᴰ x l × (p x ≡ false)
  all_false p [] h = absurd (true≢false h)
  all_false p (y ∷ l) h = go (λ e. all_false p l e) (and_false (p y) (all p l) h)
    where
      go : (all p l ≡ false → (x : A) × Memᴰ x l × (p x ≡ false)) → (p y ≡ false) ⊎ (all p l ≡ false)
          → (x : A) × Memᴰ x (y ∷ l) × (p x ≡ false)
      go rest (inl e) = (y, Memᴰ.head refl, e)
      go rest (inr e) = let t = rest e in (t.0, Memᴰ.tail t.1, t.2)

  -- an element that fails is enough for `all` to fail
  pub all_broken : (p : A → Bool) {x : A} {l : List A} → Memᴰ x l → p x ≡ false → all p l ≡ false
  all_broken p (Memᴰ.head {x = y} {xs = l} e) h = and_left (all p l) (ap p (sym e) ∙ h)
  all_broken p (Memᴰ.tail {x = y} {xs = l} m) h = and_right (p y) (all_broken p m h)

  -- `any` of two lists joined
  pub any_append : (p : A → Bool) (l r : List A) → any p (l ++ r) ≡ any p l || any p r
  any_append p [] r = refl
  any_append p (x ∷ l) r = ap (λ (b : Bool). p x || b) (any_append p l r) ∙ sym (B.or_assoc (p x) (any p l) (any p r))

  -- `all` of two lists joined
  pub all_append : (p : A → Bool) (l r : List A) → all p (l ++ r) ≡ all p l && all p r
  all_append p [] r = refl
  all_append p (x ∷ l) r = ap (λ (b : Bool). p x && b) (all_append p l r) ∙ sym (B.and_assoc (p x) (all p l) (all p r))

  -- `any` of two tests that agree on the elements
  pub any_same : (p q : A → Bool) (l : List A) → ((x : A) → Memᴰ x l → p x ≡ q x) → any p l ≡ any q l
  any_same p q [] f = refl
  any_same p q (x ∷ l) f = ap₂ ◌||◌ (f x (Memᴰ.head refl)) (any_same p q l (λ y m. f y (Memᴰ.tail m)))

  -- `all` of two tests that agree on the elements
  pub all_same : (p q : A → Bool) (l : List A) → ((x : A) → Memᴰ x l → p x ≡ q x) → all p l ≡ all q l
  all_same p q [] f = refl
  all_same p q (x ∷ l) f = ap₂ ◌&&◌ (f x (Memᴰ.head refl)) (all_same p q l (λ y m. f y (Memᴰ.tail m)))

-- ---- the elements that pass

module _ {A : Type 0} where
  -- what passes is kept
  pub keep_yes : (p : A → Bool) (x : A) (l : List A) → p x ≡ true → keep p (x ∷ l) ≡ x ∷ keep p l
  keep_yes p x l h = ap (λ (b : Bool). cond b (x ∷ keep p l) (keep p l)) h

  -- what fails is dropped
  pub keep_no : (p : A → Bool) (x : A) (l : List A) → p x ≡ false → keep p (x ∷ l) ≡ keep p l
  keep_no p x l h = ap (λ (b : Bool). cond b (x ∷ keep p l) (keep p l)) h

  -- a kept element is an element that passes
  pub keep_member : (p : A → Bool) (l : List A) {x : A} → Memᴰ x (keep p l) → Memᴰ x l × (p x ≡ true)
  keep_member p [] m = absurd (Memᴰ.not-nil m)
  keep_member p (y ∷ l) {x} m = go (λ n. keep_member p l n) (p y) refl m
    where
      Rest : Type 0
      Rest = Memᴰ x (keep p l) → Memᴰ x l × (p x ≡ true)

      head : Rest → p y ≡ true → (x ≡ y) ⊎ Memᴰ x (keep p l) → Memᴰ x (y ∷ l) × (p x ≡ true)
      head rest e (inl q) = (Memᴰ.head q, ap p q ∙ e)
      head rest e (inr n) = let t = rest n in (Memᴰ.tail t.0, t.1)

      go : Rest → (b : Bool) → p y ≡ b → Memᴰ x (cond b (y ∷ keep p l) (keep p l)) → Memᴰ x (y ∷ l) × (p x ≡ true)
      go rest true e n = head rest e (Memᴰ.cases_cons n)
      go rest false e n = let t = rest n in (Memᴰ.tail t.0, t.1)

  -- an element that passes is kept
  pub member_keep : (p : A → Bool) {x : A} {l : List A} → Memᴰ x l → p x ≡ true → Memᴰ x (keep p l)
  member_keep p {x} (Memᴰ.head {x = y} {xs = l} e) h = go (p y) (ap p (sym e) ∙ h)
    where
      go : (b : Bool) → b ≡ true → Memᴰ x (cond b (y ∷ keep p l) (keep p l))
      go true q = Memᴰ.head e
      go false q = absurd (false≢true q)
  member_keep p {x} (Memᴰ.tail {x = y} {xs = l} m) h = go (member_keep p m h) (p y)
    where
      go : Memᴰ x (keep p l) → (b : Bool) → Memᴰ x (cond b (y ∷ keep p l) (keep p l))
      go n true = Memᴰ.tail n
      go n false = n

  -- keeping goes through a join
  pub keep_append : (p : A → Bool) (l r : List A) → keep p (l ++ r) ≡ keep p l ++ keep p r
  keep_append p [] r = refl
  keep_append p (x ∷ l) r = go (keep_append p l r) (p x)
    where
      go : keep p (l ++ r) ≡ keep p l ++ keep p r
          → (b : Bool) → cond b (x ∷ keep p (l ++ r)) (keep p (l ++ r)) ≡ cond b (x ∷ keep p l) (keep p l) ++ keep p r
      go e true = ap {B = List A} (λ s. x ∷ s) e
      go e false = e

  -- keeping first by a weaker test changes nothing
  pub keep_keep : (p q : A → Bool) (l : List A) → ((x : A) → Memᴰ x l → q x ≡ true → p x ≡ true) → keep q (keep p l) ≡ keep q l
  keep_keep p q [] f = refl
  keep_keep p q (x ∷ l) f = go (keep_keep p q l (λ y m. f y (Memᴰ.tail m))) (p x) (q x) refl refl
    where
      go : keep q (keep p l) ≡ keep q l
          → (a b : Bool) → p x ≡ a → q x ≡ b → keep q (cond a (x ∷ keep p l) (keep p l)) ≡ cond b (x ∷ keep q l) (keep q l)
      go ih true b e h = ap₂ (λ (c : Bool) (s : List A). cond c (x ∷ s) s) h ih
      go ih false true e h = absurd (true_false (f x (Memᴰ.head refl) h) e)
      go ih false false e h = ih

  -- keeping twice is keeping what passes both
  pub keep_both : (p q : A → Bool) (l : List A) → keep q (keep p l) ≡ keep (λ x. p x && q x) l
  keep_both p q [] = refl
  keep_both p q (x ∷ l) = go (keep_both p q l) (p x)
    where
      go : keep q (keep p l) ≡ keep (λ y. p y && q y) l
          → (a : Bool)
          → keep q (cond a (x ∷ keep p l) (keep p l)) ≡ cond (a && q x) (x ∷ keep (λ y. p y && q y) l) (keep (λ y. p y && q y) l)
      go ih true = ap (λ (s : List A). cond (q x) (x ∷ s) s) ih
      go ih false = ih

  -- tests that agree on the elements keep the same
  pub keep_same : (p q : A → Bool) (l : List A) → ((x : A) → Memᴰ x l → p x ≡ q x) → keep p l ≡ keep q l
  keep_same p q [] f = refl
  keep_same p q (x ∷ l) f =
      ap₂ (λ (c : Bool) (s : List A). cond c (x ∷ s) s) (f x (Memᴰ.head refl)) (keep_same p q l (λ y m. f y (Memᴰ.tail m)))

  -- what is kept is no longer than the list
  pub length_keep : (p : A → Bool) (l : List A) → length (keep p l) ≤ length l
  length_keep p [] = zero-le
  length_keep p (x ∷ l) = go (length_keep p l) (p x)
    where
      go : length (keep p l) ≤ length l → (b : Bool) → length (cond b (x ∷ keep p l) (keep p l)) ≤ suc (length l)
      go h true = suc-le-suc h
      go h false = omega arith

  -- where every element passes, all are kept
  pub keep_all : (p : A → Bool) (l : List A) → ((x : A) → Memᴰ x l → p x ≡ true) → keep p l ≡ l
  keep_all p [] f = refl
  keep_all p (x ∷ l) f =
      keep_yes p x l (f x (Memᴰ.head refl)) ∙ ap {B = List A} (λ s. x ∷ s) (keep_all p l (λ y m. f y (Memᴰ.tail m)))

  -- where no element passes, none is kept
  pub keep_none : (p : A → Bool) (l : List A) → ((x : A) → Memᴰ x l → p x ≡ false) → keep p l ≡ []
  keep_none p [] f = refl
  keep_none p (x ∷ l) f = keep_no p x l (f x (Memᴰ.head refl)) ∙ keep_none p l (λ y m. f y (Memᴰ.tail m))

  -- the number of elements that pass is the number of those kept
  pub count_keep : (p : A → Bool) (l : List A) → count p l ≡ length (keep p l)
  count_keep p [] = refl
  count_keep p (x ∷ l) = go (count_keep p l) (p x)
    where
      go : count p l ≡ length (keep p l) → (b : Bool) → cond b 1 0 + count p l ≡ length (cond b (x ∷ keep p l) (keep p l))
      go e true = omega arith
      go e false = omega arith

  -- counting goes through a join
  pub count_append : (p : A → Bool) (l r : List A) → count p (l ++ r) ≡ count p l + count p r
  count_append p [] r = sym (zero-add (count p r))
  count_append p (x ∷ l) r = let e = count_append p l r in omega arith

-- ---- the first element that passes, and the list from there

module _ {A : Type 0} where
  -- the first that passes is an element and passes
  pub first_some : (p : A → Bool) (l : List A) {x : A} → first p l ≡ some x → Memᴰ x l × (p x ≡ true)
  first_some p [] {x} h = absurd (none-ne-some x h)
  first_some p (y ∷ l) {x} h = go (λ e. first_some p l e) (p y) refl h
    where
      go : (first p l ≡ some x → Memᴰ x l × (p x ≡ true))
          → (b : Bool) → p y ≡ b → cond b (some y) (first p l) ≡ some x → Memᴰ x (y ∷ l) × (p x ≡ true)
      go rest true e q = let s : x ≡ y = cc in (Memᴰ.head s, ap p s ∙ e)
      go rest false e q = let t = rest q in (Memᴰ.tail t.0, t.1)

  -- where no first is found, each element fails
  pub first_none : (p : A → Bool) {x : A} {l : List A} → first p l ≡ none → Memᴰ x l → p x ≡ false
  first_none p {x} h (Memᴰ.head {x = y} {xs = l} e) = go (p y) refl h
    where
      go : (b : Bool) → p y ≡ b → cond b (some y) (first p l) ≡ none → p x ≡ false
      go true q n = absurd (none-ne-some y (sym n))
      go false q n = ap p e ∙ q
  first_none p {x} h (Memᴰ.tail {x = y} {xs = l} m) = first_none p (go (p y) h) m
    where
      go : (b : Bool) → cond b (some y) (first p l) ≡ none → first p l ≡ none
      go true n = absurd (none-ne-some y (sym n))
      go false n = n

  -- where each element fails, no first is found
  pub first_of_none : (p : A → Bool) (l : List A) → ((x : A) → Memᴰ x l → p x ≡ false) → first p l ≡ none
  first_of_none p [] f = refl
  first_of_none p (x ∷ l) f =
      ap (λ (b : Bool). cond b (some x) (first p l)) (f x (Memᴰ.head refl)) ∙ first_of_none p l (λ y m. f y (Memᴰ.tail m))

  -- where an element passes, a first is found
  pub first_found : (p : A → Bool) (l : List A) {x : A} → Memᴰ x l → p x ≡ true → (y : A) × (first p l ≡ some y)
  first_found p l {x} m h = go (first p l) refl
    where
      go : (o : Option A) → first p l ≡ o → (y : A) × (first p l ≡ some y)
      go none e = absurd (true_false h (first_none p e m))
      go (some y) e = (y, e)

  -- dropping first what a weaker test drops does not change the first that passes
  pub first_keep : (p q : A → Bool) (l : List A)
      → ((x : A) → Memᴰ x l → p x ≡ true → q x ≡ true) → first p (keep q l) ≡ first p l
  first_keep p q [] f = refl
  first_keep p q (x ∷ l) f = go (first_keep p q l (λ y m. f y (Memᴰ.tail m))) (q x) (p x) refl refl
    where
      go : first p (keep q l) ≡ first p l
          → (a b : Bool) → q x ≡ a → p x ≡ b → first p (cond a (x ∷ keep q l) (keep q l)) ≡ cond b (some x) (first p l)
      go ih true b e h = ap₂ (λ (c : Bool) (o : Option A). cond c (some x) o) h ih
      go ih false true e h = absurd (true_false (f x (Memᴰ.head refl) h) e)
      go ih false false e h = ih

  -- the first that passes in a join is the first of the left part, if there is one
  pub first_append_left : (p : A → Bool) (l r : List A) {x : A} → first p l ≡ some x → first p (l ++ r) ≡ some x
  first_append_left p [] r {x} h = absurd (none-ne-some x h)
  first_append_left p (y ∷ l) r {x} h = go (λ e. first_append_left p l r e) (p y) h
    where
      go : (first p l ≡ some x → first p (l ++ r) ≡ some x)
          → (b : Bool) → cond b (some y) (first p l) ≡ some x → cond b (some y) (first p (l ++ r)) ≡ some x
      go rest true e = e
      go rest false e = rest e

  -- and the first of the right part, if the left part has none
  pub first_append_right : (p : A → Bool) (l r : List A) → first p l ≡ none → first p (l ++ r) ≡ first p r
  first_append_right p [] r h = refl
  first_append_right p (y ∷ l) r h = go (λ e. first_append_right p l r e) (p y) h
    where
      go : (first p l ≡ none → first p (l ++ r) ≡ first p r)
          → (b : Bool) → cond b (some y) (first p l) ≡ none → cond b (some y) (first p (l ++ r)) ≡ first p r
      go rest true e = absurd (none-ne-some y (sym e))
      go rest false e = rest e

  -- the list splits where `from` begins, and what stands before fails
  pub from_split : (p : A → Bool) (l : List A)
      → (front : List A) × (l ≡ front ++ from p l) × ((x : A) → Memᴰ x front → p x ≡ false)
  from_split p [] = ([], refl, λ x m. absurd (Memᴰ.not-nil m))
  from_split p (y ∷ l) = go (from_split p l) (p y) refl
    where
      go : (front : List A) × (l ≡ front ++ from p l) × ((x : A) → Memᴰ x front → p x ≡ false)
          → (b : Bool) → p y ≡ b
          → (front : List A) × (y ∷ l ≡ front ++ cond b (y ∷ l) (from p l)) × ((x : A) → Memᴰ x front → p x ≡ false)
      go t true e = ([], refl, λ x m. absurd (Memᴰ.not-nil m))
      go t false e = (
        y ∷ t.0,
        ap {B = List A} (λ s. y ∷ s) t.1,
        λ x m. ⊎_elim (λ (q : x ≡ y). ap p q ∙ e) (λ (n : Memᴰ x t.0). t.2 x n) (Memᴰ.cases_cons m),
      )

  -- where each element fails, nothing is left
  pub from_none : (p : A → Bool) (l : List A) → ((x : A) → Memᴰ x l → p x ≡ false) → from p l ≡ []
  from_none p [] f = refl
  from_none p (x ∷ l) f =
      ap (λ (b : Bool). cond b (x ∷ l) (from p l)) (f x (Memᴰ.head refl)) ∙ from_none p l (λ y m. f y (Memᴰ.tail m))

  -- what is left begins with an element that passes
  pub from_head : (p : A → Bool) (l : List A) {x : A} {r : List A} → from p l ≡ x ∷ r → p x ≡ true
  from_head p [] {x} {r} h = cc
  from_head p (y ∷ l) {x} {r} h = go (λ e. from_head p l e) (p y) refl h
    where
      go : (from p l ≡ x ∷ r → p x ≡ true) → (b : Bool) → p y ≡ b → cond b (y ∷ l) (from p l) ≡ x ∷ r → p x ≡ true
      go rest true e q = cc
      go rest false e q = rest q

  -- what is left is of the list
  pub from_member : (p : A → Bool) (l : List A) {x : A} → Memᴰ x (from p l) → Memᴰ x l
  from_member p [] m = m
  from_member p (y ∷ l) {x} m = go (λ n. from_member p l n) (p y) m
    where
      go : (Memᴰ x (from p l) → Memᴰ x l) → (b : Bool) → Memᴰ x (cond b (y ∷ l) (from p l)) → Memᴰ x (y ∷ l)
      go rest true n = n
      go rest false n = Memᴰ.tail (rest n)

  -- an element that passes is left
  pub member_from : (p : A → Bool) {x : A} {l : List A} → Memᴰ x l → p x ≡ true → Memᴰ x (from p l)
  member_from p {x} (Memᴰ.head {x = y} {xs = l} e) h = go (p y) (ap p (sym e) ∙ h)
    where
      go : (b : Bool) → b ≡ true → Memᴰ x (cond b (y ∷ l) (from p l))
      go true q = Memᴰ.head e
      go false q = absurd (false≢true q)
  member_from p {x} (Memᴰ.tail {x = y} {xs = l} m) h = go (member_from p m h) (p y)
    where
      go : Memᴰ x (from p l) → (b : Bool) → Memᴰ x (cond b (y ∷ l) (from p l))
      go n true = Memᴰ.tail m
      go n false = n

  -- the first that passes heads what is left
  pub first_from_lem : (p : A → Bool) (l : List A) {x : A} → first p l ≡ some x → (r : List A) × (from p l ≡ x ∷ r)
  first_from_lem p [] {x} h = absurd (none-ne-some x h)
  first_from_lem p (y ∷ l) {x} h = go (λ e. first_from_lem p l e) (p y) h
    where
      go : (first p l ≡ some x → (r : List A) × (from p l ≡ x ∷ r))
          → (b : Bool) → cond b (some y) (first p l) ≡ some x → (r : List A) × (cond b (y ∷ l) (from p l) ≡ x ∷ r)
      go rest true e = (l, ap {B = List A} (λ z. z ∷ l) (Option.some-injective y x e))
      go rest false e = rest e

  -- and what is left is headed by the first that passes
  pub from_first : (p : A → Bool) (l : List A) {x : A} {r : List A} → from p l ≡ x ∷ r → first p l ≡ some x
  from_first p [] {x} {r} h = cc
  from_first p (y ∷ l) {x} {r} h = go (λ e. from_first p l e) (p y) h
    where
      go : (from p l ≡ x ∷ r → first p l ≡ some x)
          → (b : Bool) → cond b (y ∷ l) (from p l) ≡ x ∷ r → cond b (some y) (first p l) ≡ some x
      go rest true e = cc
      go rest false e = rest e

-- ---- positions

module _ {A : Type 0} where
  -- a position that holds an element is below the length
  pub get_elem?_lt : (l : List A) (i : ℕ) {x : A} → get_elem? l i ≡ some x → i < length l
  get_elem?_lt [] i {x} h = absurd (none-ne-some x h)
  get_elem?_lt (y ∷ l) zero h = suc-le-suc zero-le
  get_elem?_lt (y ∷ l) (suc i) h = suc-le-suc (get_elem?_lt l i h)

  -- what stands at a position is an element
  pub get_elem?_member : (l : List A) (i : ℕ) {x : A} → get_elem? l i ≡ some x → Memᴰ x l
  get_elem?_member [] i {x} h = absurd (none-ne-some x h)
  get_elem?_member (y ∷ l) zero {x} h = Memᴰ.head (sym (Option.some-injective y x h))
  get_elem?_member (y ∷ l) (suc i) h = Memᴰ.tail (get_elem?_member l i h)

  -- an element stands at some position
  pub member_get_elem? : {x : A} {l : List A} → Memᴰ x l → (i : ℕ) × (get_elem? l i ≡ some x)
  member_get_elem? (Memᴰ.head e) = (zero, ap {B = Option A} some (sym e))
  member_get_elem? (Memᴰ.tail m) = let t = member_get_elem? m in (suc t.0, t.1)

  -- each position below the length holds an element
  pub get_elem?_found : (l : List A) (i : ℕ) → i < length l → (x : A) × (get_elem? l i ≡ some x)
  get_elem?_found [] i h = absurd (not-suc-le-zero h)
  get_elem?_found (y ∷ l) zero h = (y, refl)
  get_elem?_found (y ∷ l) (suc i) h = get_elem?_found l i (le_of_suc-le-suc h)

  -- a position past the end holds nothing
  pub get_elem?_past : (l : List A) (i : ℕ) → length l ≤ i → get_elem? l i ≡ none
  get_elem?_past [] i h = refl
  get_elem?_past (y ∷ l) zero h = absurd (not-suc-le-zero h)
  get_elem?_past (y ∷ l) (suc i) h = get_elem?_past l i (le_of_suc-le-suc h)

  -- a position that holds nothing is past the end
  pub get_elem?_none : (l : List A) (i : ℕ) → get_elem? l i ≡ none → length l ≤ i
  get_elem?_none [] i h = zero-le
  get_elem?_none (y ∷ l) zero h = absurd (none-ne-some y (sym h))
  get_elem?_none (y ∷ l) (suc i) h = suc-le-suc (get_elem?_none l i h)

  -- equal found values are equal
  pub some_injective : {x y : A} → ◌≡◌ {A = Option A} (some x) (some y) → x ≡ y
  some_injective {x} {y} h = Option.some-injective x y h

  -- one position holds one element
  pub get_elem?_same : (l : List A) (i : ℕ) {x y : A} → get_elem? l i ≡ some x → get_elem? l i ≡ some y → x ≡ y
  get_elem?_same l i p q = some_injective (sym p ∙ q)

  -- a join holds its left part first
  pub get_elem?_append_left : (l r : List A) (i : ℕ) → i < length l → get_elem? (l ++ r) i ≡ get_elem? l i
  get_elem?_append_left [] r i h = absurd (not-suc-le-zero h)
  get_elem?_append_left (x ∷ l) r zero h = refl
  get_elem?_append_left (x ∷ l) r (suc i) h = get_elem?_append_left l r i (le_of_suc-le-suc h)

  -- and its right part after that
  pub get_elem?_append_right : (l r : List A) (i : ℕ) → get_elem? (l ++ r) (length l + i) ≡ get_elem? r i
  get_elem?_append_right [] r i = ap (get_elem? r) (zero-add i)
  get_elem?_append_right (x ∷ l) r i = ap (get_elem? (x ∷ (l ++ r))) (suc-add (length l) i) ∙ get_elem?_append_right l r i

  -- the element between two parts
  pub get_elem?_middle : (l : List A) (x : A) (r : List A) → get_elem? (l ++ (x ∷ r)) (length l) ≡ some x
  get_elem?_middle [] x r = refl
  get_elem?_middle (y ∷ l) x r = get_elem?_middle l x r

  -- the list splits at a position that holds an element
  pub get_elem?_split : (l : List A) (i : ℕ) {x : A} → get_elem? l i ≡ some x
      → (front : List A) × (back : List A) × (l ≡ front ++ (x ∷ back)) × (length front ≡ i)
  get_elem?_split [] i {x} h = absurd (none-ne-some x h)
  get_elem?_split (y ∷ l) zero {x} h = ([], l, ap {B = List A} (λ z. z ∷ l) (Option.some-injective y x h), refl)
  get_elem?_split (y ∷ l) (suc i) h =
      let t = get_elem?_split l i h in (y ∷ t.0, t.1, ap {B = List A} (λ s. y ∷ s) t.2, ap suc t.3)

  -- the first n elements stand where they stood
  pub get_elem?_take : (n : ℕ) (l : List A) (i : ℕ) → i < n → get_elem? (take n l) i ≡ get_elem? l i
  get_elem?_take zero l i h = absurd (not-suc-le-zero h)
  get_elem?_take (suc n) [] i h = refl
  get_elem?_take (suc n) (x ∷ l) zero h = refl
  get_elem?_take (suc n) (x ∷ l) (suc i) h = get_elem?_take n l i (le_of_suc-le-suc h)

  -- what stands in the first n elements stands in the list, below n
  pub get_elem?_of_take : (n : ℕ) (l : List A) (i : ℕ) {x : A} → get_elem? (take n l) i ≡ some x → (i < n) × (get_elem? l i ≡ some x)
  get_elem?_of_take zero l i {x} h = absurd (none-ne-some x h)
  get_elem?_of_take (suc n) [] i {x} h = absurd (none-ne-some x h)
  get_elem?_of_take (suc n) (y ∷ l) zero h = (suc-le-suc zero-le, h)
  get_elem?_of_take (suc n) (y ∷ l) (suc i) h = let t = get_elem?_of_take n l i h in (suc-le-suc t.0, t.1)

  -- without the first n elements, each stands n places earlier
  pub get_elem?_drop : (n : ℕ) (l : List A) (i : ℕ) → get_elem? (drop n l) i ≡ get_elem? l (n + i)
  get_elem?_drop zero l i = ap (get_elem? l) (sym (zero-add i))
  get_elem?_drop (suc n) [] i = refl
  get_elem?_drop (suc n) (x ∷ l) i = get_elem?_drop n l i ∙ ap (get_elem? (x ∷ l)) (sym (suc-add n i))

  -- a member of the first n elements is a member
  pub take_member : (n : ℕ) (l : List A) {x : A} → Memᴰ x (take n l) → Memᴰ x l
  take_member n l m = let t = member_get_elem? m in get_elem?_member l t.0 (get_elem?_of_take n l t.0 t.1).1

  -- a member of what follows them is a member
  pub drop_member : (n : ℕ) (l : List A) {x : A} → Memᴰ x (drop n l) → Memᴰ x l
  drop_member zero l m = m
  drop_member (suc n) [] m = m
  drop_member (suc n) (y ∷ l) m = Memᴰ.tail (drop_member n l m)

  -- the list splits at an element
  pub member_split : {x : A} {l : List A} → Memᴰ x l → (front : List A) × (back : List A) × (l ≡ front ++ (x ∷ back))
  member_split (Memᴰ.head {xs = l} e) = ([], l, ap {B = List A} (λ z. z ∷ l) (sym e))
  member_split (Memᴰ.tail {x = y} m) = let t = member_split m in (y ∷ t.0, t.1, ap {B = List A} (λ s. y ∷ s) t.2)

  -- two lists that hold the same at each position are equal
  pub get_elem?_equal : (l r : List A) → ((i : ℕ) → get_elem? l i ≡ get_elem? r i) → l ≡ r
  get_elem?_equal [] [] f = refl
  get_elem?_equal [] (y ∷ r) f = absurd (none-ne-some y (f zero))
  get_elem?_equal (x ∷ l) [] f = absurd (none-ne-some x (sym (f zero)))
  get_elem?_equal (x ∷ l) (y ∷ r) f = ap₂ {C = List A} ◌∷◌ (some_injective (f zero)) (get_elem?_equal l r (λ i. f (suc i)))

module _ {A B : Type 0} where
  -- a map acts at each position
  pub get_elem?_map : (f : A → B) (l : List A) (i : ℕ) → get_elem? (map f l) i ≡ Option.map f (get_elem? l i)
  get_elem?_map f [] i = refl
  get_elem?_map f (x ∷ l) zero = refl
  get_elem?_map f (x ∷ l) (suc i) = get_elem?_map f l i

  -- the image of what stands at a position stands there after a map
  pub get_elem?_map_some : (f : A → B) (l : List A) (i : ℕ) {x : A} → get_elem? l i ≡ some x → get_elem? (map f l) i ≡ some (f x)
  get_elem?_map_some f l i h = get_elem?_map f l i ∙ ap (Option.map f) h

  -- what stands at a position after a map is the image of what stood there
  pub get_elem?_of_map : (f : A → B) (l : List A) (i : ℕ) {y : B} → get_elem? (map f l) i ≡ some y
      → (x : A) × (get_elem? l i ≡ some x) × (f x ≡ y)
  get_elem?_of_map f [] i {y} h = absurd (none-ne-some y h)
  get_elem?_of_map f (x ∷ l) zero {y} h = (x, refl, Option.some-injective (f x) y h)
  get_elem?_of_map f (x ∷ l) (suc i) h = get_elem?_of_map f l i h

  -- a member of a mapped list is the image of a member
  pub map_member : (f : A → B) (l : List A) {y : B} → Memᴰ y (map f l) → (x : A) × Memᴰ x l × (f x ≡ y)
  map_member f l m =
      let t = member_get_elem? m in let u = get_elem?_of_map f l t.0 t.1 in (u.0, get_elem?_member l t.0 u.1, u.2)

  -- `any` after a map tests the images
  pub any_map : (p : B → Bool) (f : A → B) (l : List A) → any p (map f l) ≡ any (λ x. p (f x)) l
  any_map p f [] = refl
  any_map p f (x ∷ l) = ap (λ (b : Bool). p (f x) || b) (any_map p f l)

  -- `all` after a map tests the images
  pub all_map : (p : B → Bool) (f : A → B) (l : List A) → all p (map f l) ≡ all (λ x. p (f x)) l
  all_map p f [] = refl
  all_map p f (x ∷ l) = ap (λ (b : Bool). p (f x) && b) (all_map p f l)

-- ---- the numbers from a on

-- the numbers from a on are at least a and below a + n
pub numbers_from_member : (a n : ℕ) {x : ℕ} → Memᴰ x (numbers_from a n) → (a ≤ x) × (x < a + n)
numbers_from_member a zero m = absurd (Memᴰ.not-nil m)
numbers_from_member a (suc n) {x} m = go (λ k. numbers_from_member (suc a) n k) (Memᴰ.cases_cons m)
  where
    go : (Memᴰ x (numbers_from (suc a) n) → (suc a ≤ x) × (x < suc a + n))
        → (x ≡ a) ⊎ Memᴰ x (numbers_from (suc a) n) → (a ≤ x) × (x < a + suc n)
    go rest (inl e) = omega arith
    go rest (inr k) = let t = rest k in omega arith

-- and each such number is one of them
pub member_numbers_from : (a n x : ℕ) → a ≤ x → x < a + n → Memᴰ x (numbers_from a n)
member_numbers_from a zero x h k = absurd (omega arith)
member_numbers_from a (suc n) x h k = go (λ q. member_numbers_from (suc a) n x q (omega arith)) (ℕ_discrete x a)
  where
    go : (suc a ≤ x → Memᴰ x (numbers_from (suc a) n)) → Dec (x ≡ a) → Memᴰ x (a ∷ numbers_from (suc a) n)
    go rest (yes e) = Memᴰ.head e
    go rest (no d) = Memᴰ.tail (rest (omega arith))

-- how many they are
pub length_numbers_from : (a n : ℕ) → length (numbers_from a n) ≡ n
length_numbers_from a zero = refl
length_numbers_from a (suc n) = ap suc (length_numbers_from (suc a) n)

-- which stands where
pub get_elem?_numbers_from : (a n i : ℕ) → i < n → get_elem? (numbers_from a n) i ≡ some (a + i)
get_elem?_numbers_from a zero i h = absurd (not-suc-le-zero h)
get_elem?_numbers_from a (suc n) zero h = ap {B = Option ℕ} some (sym (add-zero a))
get_elem?_numbers_from a (suc n) (suc i) h = get_elem?_numbers_from (suc a) n i (le_of_suc-le-suc h) ∙ ap {B = Option ℕ} some (omega arith)

-- the numbers below n are below n
pub numbers_member : (n : ℕ) {x : ℕ} → Memᴰ x (numbers n) → x < n
numbers_member n m = let t = numbers_from_member 0 n m in omega arith

-- and each number below n is one of them
pub member_numbers : (n x : ℕ) → x < n → Memᴰ x (numbers n)
member_numbers n x h = member_numbers_from 0 n x zero-le (omega arith)

-- how many are below n
pub length_numbers : (n : ℕ) → length (numbers n) ≡ n
length_numbers n = length_numbers_from 0 n

-- what passes for all numbers below n passes for each
pub all_numbers : (p : ℕ → Bool) (n : ℕ) → all p (numbers n) ≡ true → (i : ℕ) → i < n → p i ≡ true
all_numbers p n h i k = all_true p h (member_numbers n i k)

-- and what passes for each passes for all
pub all_numbers_of : (p : ℕ → Bool) (n : ℕ) → ((i : ℕ) → i < n → p i ≡ true) → all p (numbers n) ≡ true
all_numbers_of p n f = all_of p (numbers n) (λ i m. f i (numbers_member n m))

-- what passes for some number below n passes for one that is found
pub any_numbers : (p : ℕ → Bool) (n : ℕ) → any p (numbers n) ≡ true → (i : ℕ) × (i < n) × (p i ≡ true)
any_numbers p n h = let t = any_true p (numbers n) h in (t.0, numbers_member n t.1, t.2)

-- a number below n that passes is enough
pub any_numbers_of : (p : ℕ → Bool) (n i : ℕ) → i < n → p i ≡ true → any p (numbers n) ≡ true
any_numbers_of p n i k h = any_of p (member_numbers n i k) h

-- ---- closed walks

module _ {A : Type 0} where
  -- a pair of a walk is of elements, but the last may be where the walk ends
  pub pairs_to_member : (end : A) (l : List A) {q : A × A} → Memᴰ q (pairs_to end l)
      → Memᴰ q.0 l × (Memᴰ q.1 l ⊎ (q.1 ≡ end))
  pairs_to_member end [] m = absurd (Memᴰ.not-nil m)
  pairs_to_member end (x ∷ []) {q} m = go (Memᴰ.cases_cons m)
    where
      go : (q ≡ (x, end)) ⊎ Memᴰ q [] → Memᴰ q.0 (x ∷ []) × (Memᴰ q.1 (x ∷ []) ⊎ (q.1 ≡ end))
      go (inl e) = (Memᴰ.head (ap (λ (r : A × A). r.0) e), inr (ap (λ (r : A × A). r.1) e))
      go (inr n) = absurd (Memᴰ.not-nil n)
  pairs_to_member end (x ∷ y ∷ l) {q} m = go (λ n. pairs_to_member end (y ∷ l) n) (Memᴰ.cases_cons m)
    where
      wider : Memᴰ q.1 (y ∷ l) ⊎ (q.1 ≡ end) → Memᴰ q.1 (x ∷ y ∷ l) ⊎ (q.1 ≡ end)
      wider (inl n) = inl (Memᴰ.tail n)
      wider (inr e) = inr e

      go : (Memᴰ q (pairs_to end (y ∷ l)) → Memᴰ q.0 (y ∷ l) × (Memᴰ q.1 (y ∷ l) ⊎ (q.1 ≡ end)))
          → (q ≡ (x, y)) ⊎ Memᴰ q (pairs_to end (y ∷ l))
          → Memᴰ q.0 (x ∷ y ∷ l) × (Memᴰ q.1 (x ∷ y ∷ l) ⊎ (q.1 ≡ end))
      go rest (inl e) =
          (Memᴰ.head (ap (λ (r : A × A). r.0) e), inl (Memᴰ.tail (Memᴰ.head (ap (λ (r : A × A). r.1) e))))
      go rest (inr n) = let t = rest n in (Memᴰ.tail t.0, wider t.1)

  -- a pair of a closed walk is of two elements
  pub around_member : (l : List A) {q : A × A} → Memᴰ q (around l) → Memᴰ q.0 l × Memᴰ q.1 l
  around_member [] m = absurd (Memᴰ.not-nil m)
  around_member (x ∷ l) {q} m = let t = pairs_to_member x (x ∷ l) m in (t.0, go t.1)
    where
      go : Memᴰ q.1 (x ∷ l) ⊎ (q.1 ≡ x) → Memᴰ q.1 (x ∷ l)
      go (inl n) = n
      go (inr e) = Memᴰ.head e

  -- a walk through x is a walk to x and then one from x
  pub pairs_to_append : (end : A) (l : List A) (x : A) (r : List A) → pairs_to end (l ++ (x ∷ r)) ≡ pairs_to x l ++ pairs_to end (x ∷ r)
  pairs_to_append end [] x r = refl
  pairs_to_append end (y ∷ []) x r = refl
  pairs_to_append end (y ∷ z ∷ l) x r = ap {B = List (A × A)} (λ s. (y, z) ∷ s) (pairs_to_append end (z ∷ l) x r)

  -- each element of a walk has a next
  pub pairs_to_next : (end : A) (l : List A) {a : A} → Memᴰ a l → (b : A) × Memᴰ (a, b) (pairs_to end l)
  pairs_to_next end [] m = absurd (Memᴰ.not-nil m)
  pairs_to_next end (x ∷ []) {a} m = go (Memᴰ.cases_cons m)
    where
      go : (a ≡ x) ⊎ Memᴰ a [] → (b : A) × Memᴰ (a, b) (pairs_to end (x ∷ []))
      go (inl e) = (end, Memᴰ.head (ap {B = A × A} (λ z. (z, end)) e))
      go (inr n) = absurd (Memᴰ.not-nil n)
  pairs_to_next end (x ∷ y ∷ l) {a} m = go (λ n. pairs_to_next end (y ∷ l) n) (Memᴰ.cases_cons m)
    where
      go : (Memᴰ a (y ∷ l) → (b : A) × Memᴰ (a, b) (pairs_to end (y ∷ l)))
          → (a ≡ x) ⊎ Memᴰ a (y ∷ l) → (b : A) × Memᴰ (a, b) (pairs_to end (x ∷ y ∷ l))
      go rest (inl e) = (y, Memᴰ.head (ap {B = A × A} (λ z. (z, y)) e))
      go rest (inr n) = let t = rest n in (t.0, Memᴰ.tail t.1)

  -- each element of a walk but the first, and where it ends, has a previous
  pub pairs_to_previous : (end x : A) (l : List A) {b : A} → Memᴰ b l ⊎ (b ≡ end) → (a : A) × Memᴰ (a, b) (pairs_to end (x ∷ l))
  pairs_to_previous end x [] (inl m) = absurd (Memᴰ.not-nil m)
  pairs_to_previous end x [] (inr e) = (x, Memᴰ.head (ap {B = A × A} (λ z. (x, z)) e))
  pairs_to_previous end x (y ∷ l) {b} (inl m) = go (λ n. pairs_to_previous end y l (inl n)) (Memᴰ.cases_cons m)
    where
      go : (Memᴰ b l → (a : A) × Memᴰ (a, b) (pairs_to end (y ∷ l)))
          → (b ≡ y) ⊎ Memᴰ b l → (a : A) × Memᴰ (a, b) (pairs_to end (x ∷ y ∷ l))
      go rest (inl e) = (x, Memᴰ.head (ap {B = A × A} (λ z. (x, z)) e))
      go rest (inr n) = let t = rest n in (t.0, Memᴰ.tail t.1)
  pairs_to_previous end x (y ∷ l) (inr e) = let t = pairs_to_previous end y l (inr e) in (t.0, Memᴰ.tail t.1)

  -- each element of a closed walk has a next
  pub around_next : (l : List A) {a : A} → Memᴰ a l → (b : A) × Memᴰ (a, b) (around l)
  around_next [] m = absurd (Memᴰ.not-nil m)
  around_next (x ∷ l) m = pairs_to_next x (x ∷ l) m

  -- each element of a closed walk has a previous
  pub around_previous : (l : List A) {b : A} → Memᴰ b l → (a : A) × Memᴰ (a, b) (around l)
  around_previous [] m = absurd (Memᴰ.not-nil m)
  around_previous (x ∷ l) {b} m = go (Memᴰ.cases_cons m)
    where
      go : (b ≡ x) ⊎ Memᴰ b l → (a : A) × Memᴰ (a, b) (pairs_to x (x ∷ l))
      go (inl e) = pairs_to_previous x x l (inr e)
      go (inr n) = pairs_to_previous x x l (inl n)

-- ---- the members of a list turned round, and of lists joined

module _ {A : Type 0} where
  -- a list turned round onto another keeps the members of that one
  reverse_aux_right : (l : List A) {r : List A} {x : A} → Memᴰ x r → Memᴰ x (reverse_aux l r)
  reverse_aux_right [] m = m
  reverse_aux_right (y ∷ l) m = reverse_aux_right l (Memᴰ.tail m)

  -- and has its own
  reverse_aux_left : {x : A} {l : List A} → Memᴰ x l → (r : List A) → Memᴰ x (reverse_aux l r)
  reverse_aux_left (Memᴰ.head {x = y} {xs = l} e) r = reverse_aux_right l (Memᴰ.head e)
  reverse_aux_left (Memᴰ.tail {x = y} {xs = l} m) r = reverse_aux_left m (y ∷ r)

  -- a list turned round has the same members
  pub member_reverse : {l : List A} {x : A} → Memᴰ x l → Memᴰ x (reverse l)
  member_reverse m = reverse_aux_left m []

  -- a list turned round onto another has no members but theirs
  reverse_aux_member : (l r : List A) {x : A} → Memᴰ x (reverse_aux l r) → Memᴰ x l ⊎ Memᴰ x r
  reverse_aux_member [] r m = inr m
  reverse_aux_member (y ∷ l) r {x} m = go (reverse_aux_member l (y ∷ r) m)
    where
      next : (x ≡ y) ⊎ Memᴰ x r → Memᴰ x (y ∷ l) ⊎ Memᴰ x r
      next (inl e) = inl (Memᴰ.head e)
      next (inr n) = inr n

      go : Memᴰ x l ⊎ Memᴰ x (y ∷ r) → Memᴰ x (y ∷ l) ⊎ Memᴰ x r
      go (inl n) = inl (Memᴰ.tail n)
      go (inr n) = next (Memᴰ.cases_cons n)

  -- and no others
  pub reverse_member : (l : List A) {x : A} → Memᴰ x (reverse l) → Memᴰ x l
  reverse_member l {x} m = go (reverse_aux_member l [] m)
    where
      go : Memᴰ x l ⊎ Memᴰ x [] → Memᴰ x l
      go (inl n) = n
      go (inr n) = absurd (Memᴰ.not-nil n)

module _ {A B : Type 0} where
  -- a member of the lists joined is a member of one of them
  pub flat_map_member : (f : A → List B) (l : List A) {y : B} → Memᴰ y (flat_map f l) → (x : A) × Memᴰ x l × Memᴰ y (f x)
  unfolding flat_map
  flat_map_member f [] m = absurd (Memᴰ.not-nil m)
  flat_map_member f (x ∷ l) {y} m = go (λ n. flat_map_member f l n) (Memᴰ.append_cases (f x) m)
    where
      go : (Memᴰ y (flat_map f l) → (z : A) × Memᴰ z l × Memᴰ y (f z)) → Memᴰ y (f x) ⊎ Memᴰ y (flat_map f l)
          → (z : A) × Memᴰ z (x ∷ l) × Memᴰ y (f z)
      go rest (inl n) = (x, Memᴰ.head refl, n)
      go rest (inr n) = let t = rest n in (t.0, Memᴰ.tail t.1, t.2)

  -- a member of one of the lists is a member of them joined
  pub member_flat_map : (f : A → List B) {x : A} {l : List A} {y : B} → Memᴰ x l → Memᴰ y (f x) → Memᴰ y (flat_map f l)
  unfolding flat_map
  member_flat_map f {y} (Memᴰ.head {x = z} {xs = l} e) n =
      Memᴰ.append_left (flat_map f l) (subst (λ (s : List B). Memᴰ y s) (ap f e) n)
  member_flat_map f (Memᴰ.tail {x = z} {xs = l} m) n = Memᴰ.append_right (f z) (member_flat_map f m n)
