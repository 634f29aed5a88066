-- What is gathered from the elements of a list.
use Rattle.std.specs.Prelude.{Bool, ◌≡◌}
use Rattle.std.proofs.Math.Bool.{true, false, cond}
use mathlib.Core.List.{List, [], ◌∷◌, ◌++◌, map, flat_map, append_assoc, Memᴰ}
use Rattle.std.proofs.Math.Path.{refl, sym, ap, ap₂}
use Rattle.std.proofs.Common.{◌∙◌}
use Rattle.spec_base.specs.Basic.{keep}
use Rattle.law_base.specs.ListLaws.{keep_yes, keep_no, keep_append}

module _ {A B C : Type 0} where
  -- to map and then to gather is to gather what is mapped
  pub flat_map_map : (f : B → List C) (g : A → B) (l : List A) → flat_map f (map g l) ≡ flat_map (λ x. f (g x)) l
  unfolding flat_map
  flat_map_map f g [] = refl
  flat_map_map f g (x ∷ l) = ap (λ (r : List C). f (g x) ++ r) (flat_map_map f g l)

module _ {A C : Type 0} where
  -- to gather from two parts is to gather from each
  pub flat_map_append : (f : A → List C) (l r : List A) → flat_map f (l ++ r) ≡ flat_map f l ++ flat_map f r
  unfolding flat_map
  flat_map_append f [] r = refl
  flat_map_append f (x ∷ l) r =
      ap (λ (t : List C). f x ++ t) (flat_map_append f l r) ∙ sym (append_assoc (f x) (flat_map f l) (flat_map f r))

  -- what agrees on each element gathers the same
  pub flat_map_same : (f g : A → List C) (l : List A) → ((x : A) → Memᴰ x l → f x ≡ g x) → flat_map f l ≡ flat_map g l
  unfolding flat_map
  flat_map_same f g [] same = refl
  flat_map_same f g (x ∷ l) same =
      ap₂ (λ (a b : List C). a ++ b) (same x (Memᴰ.head refl)) (flat_map_same f g l (λ y m. same y (Memᴰ.tail m)))

  -- what gives nothing for each element gathers nothing
  pub flat_map_none : (f : A → List C) (l : List A) → ((x : A) → Memᴰ x l → f x ≡ []) → flat_map f l ≡ []
  unfolding flat_map
  flat_map_none f [] none = refl
  flat_map_none f (x ∷ l) none =
      ap₂ (λ (a b : List C). a ++ b) (none x (Memᴰ.head refl)) (flat_map_none f l (λ y m. none y (Memᴰ.tail m)))

  -- what gives nothing for an element that fails a test gathers from those that pass
  pub flat_map_keep : (p : A → Bool) (f : A → List C) (l : List A) → flat_map (λ x. cond (p x) (f x) []) l ≡ flat_map f (keep p l)
  unfolding flat_map
  flat_map_keep p f [] = refl
  flat_map_keep p f (x ∷ l) = go (p x) refl (flat_map_keep p f l)
    where
      go : (b : Bool) → p x ≡ b → flat_map (λ y. cond (p y) (f y) []) l ≡ flat_map f (keep p l)
          → cond (p x) (f x) [] ++ flat_map (λ y. cond (p y) (f y) []) l ≡ flat_map f (keep p (x ∷ l))
      go true e rest = rw (keep_yes p x l e, e) (ap (λ (r : List C). f x ++ r) rest)
      go false e rest = rw (keep_no p x l e, e) rest

  -- a test of what is gathered is one of what each element gives
  pub keep_flat_map : (p : C → Bool) (f : A → List C) (l : List A) → keep p (flat_map f l) ≡ flat_map (λ x. keep p (f x)) l
  unfolding flat_map
  keep_flat_map p f [] = refl
  keep_flat_map p f (x ∷ l) = keep_append p (f x) (flat_map f l) ∙ ap (λ (r : List C). keep p (f x) ++ r) (keep_flat_map p f l)
