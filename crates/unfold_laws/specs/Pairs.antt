-- Pairs of two lists by their number, how many there are, and sums over them.
use mathlib.Core.List.{List, [], ◌∷◌, ◌++◌, map, flat_map}
use Rattle.std.proofs.Math.Option.{Option, none, some}
use Rattle.std.proofs.Math.Path.{◌≡◌, ap}
use Rattle.std.specs.Prelude.{refl}
use Rattle.std.proofs.Common.{sym, ◌∙◌, zero-add, mul-zero, mul-suc, arith}
use Prim.Native.Nat.{ℕ, zero, suc, ◌+◌, ◌*◌}
use Rattle.std.proofs.Math.Nat.{suc-mul, zero-mul, add-mul}
use Rattle.std.proofs.Math.ListN.{length, get_elem?, length-append, length-map}
use Rattle.law_base.specs.ListLaws.{get_elem?_append_left, get_elem?_append_right, get_elem?_map_some, get_elem?_lt, some_injective}
use Rattle.spec_graph.specs.Unfolding.{pairs}

-- the sum of a number over a list
unfoldable pub sum_of : {A : Type 0} → (A → ℕ) → List A → ℕ
sum_of f [] = 0
sum_of f (x ∷ l) = f x + sum_of f l

module _ {A B C : Type 0} (f : A → B → C) where
  -- as many pairs as the product of the lengths
  pub length_pairs : (xs : List A) (ys : List B) → length (pairs f xs ys) ≡ length xs * length ys
  unfolding pairs flat_map
  length_pairs [] ys = rw zero-mul
  length_pairs (x ∷ xs) ys =
      length-append (map (f x) ys) (pairs f xs ys) ∙ omega (arith, length-map ys (f x), length_pairs xs ys, suc-mul (length xs) (length ys))

  -- the pair at quotient i and remainder j
  pub get_elem?_pairs : (xs : List A) (ys : List B) (i j : ℕ) {x : A} {y : B} → get_elem? xs i ≡ some x → get_elem? ys j ≡ some y
      → get_elem? (pairs f xs ys) (i * length ys + j) ≡ some (f x y)
  unfolding pairs flat_map
  get_elem?_pairs [] ys i j {x} {y} p q = let z : ◌≡◌ {A = Option A} none (some x) = p in cc
  get_elem?_pairs (a ∷ xs) ys zero j {x} {y} p q =
      let e : a ≡ x = some_injective p in
      ap (get_elem? (map (f a) ys ++ pairs f xs ys)) index
      ∙ get_elem?_append_left (map (f a) ys) (pairs f xs ys) j (omega (arith, get_elem?_lt ys j q, length-map ys (f a)))
      ∙ get_elem?_map_some (f a) ys j q
      ∙ ap (λ (z : A). some (f z y)) e
    where
      index : 0 * length ys + j ≡ j
      index = omega (arith, zero-mul (length ys))
  get_elem?_pairs (a ∷ xs) ys (suc i) j {x} {y} p q =
      ap (get_elem? (map (f a) ys ++ pairs f xs ys)) index
      ∙ get_elem?_append_right (map (f a) ys) (pairs f xs ys) (i * length ys + j)
      ∙ get_elem?_pairs xs ys i j p q
    where
      index : suc i * length ys + j ≡ length (map (f a) ys) + (i * length ys + j)
      index = omega (arith, suc-mul i (length ys), length-map ys (f a))

-- a sum over two lists, one after the other
pub sum_append : {A : Type 0} (f : A → ℕ) (l r : List A) → sum_of f (l ++ r) ≡ sum_of f l + sum_of f r
unfolding sum_of
sum_append f [] r = sym (zero-add (sum_of f r))
sum_append f (x ∷ l) r = omega (arith, sum_append f l r)

-- a sum over what a function makes of a list
pub sum_map : {A B : Type 0} (f : B → ℕ) (g : A → B) (l : List A) → sum_of f (map g l) ≡ sum_of (λ x. f (g x)) l
unfolding sum_of
sum_map f g [] = refl
sum_map f g (x ∷ l) = omega (arith, sum_map f g l)

-- equal numbers have equal sums
pub sum_same : {A : Type 0} (f g : A → ℕ) (l : List A) → ((x : A) → f x ≡ g x) → sum_of f l ≡ sum_of g l
unfolding sum_of
sum_same f g [] h = refl
sum_same f g (x ∷ l) h = omega (arith, sum_same f g l h, h x)

-- the same number in front of each
pub sum_plus : {A : Type 0} (n : ℕ) (f : A → ℕ) (l : List A) → sum_of (λ x. n + f x) l ≡ n * length l + sum_of f l
unfolding sum_of
sum_plus n f [] = rw mul-zero
sum_plus n f (x ∷ l) = omega (arith, sum_plus n f l, mul-suc n (length l))

module _ {A B C : Type 0} (f : A → B → C) (g : C → ℕ) (a : A → ℕ) (b : B → ℕ) (h : (x : A) (y : B) → g (f x y) ≡ a x + b y) where
  -- a sum over pairs: each first part once for each second, each second once for each first
  pub sum_pairs : (xs : List A) (ys : List B) → sum_of g (pairs f xs ys) ≡ sum_of a xs * length ys + length xs * sum_of b ys
  unfolding sum_of pairs flat_map
  sum_pairs [] ys = omega (arith, zero-mul (length ys), zero-mul (sum_of b ys))
  sum_pairs (x ∷ xs) ys =
      sum_append g (map (f x) ys) (pairs f xs ys)
      ∙ omega (arith, here, sum_pairs xs ys, add-mul (a x) (sum_of a xs) (length ys), suc-mul (length xs) (sum_of b ys))
    where
      here : sum_of g (map (f x) ys) ≡ a x * length ys + sum_of b ys
      here = sum_map g (f x) ys ∙ sum_same (λ y. g (f x y)) (λ y. a x + b y) ys (h x) ∙ sum_plus (a x) b ys
