-- The few words on lists and sets that the definitions use beside the library's. Believed.
use Rattle.std.specs.Prelude.{Bool, true, false, cond, not, ◌&&◌, ◌||◌, List, [], ◌∷◌, ℕ, zero, suc, ◌+◌, ◌/◌, ◌%◌, ◌^◌, eqb}
use Rattle.std.proofs.Math.Option.{Option, none, some}
use Rattle.std.specs.Int.Bits.{bit_and}

module _ {A : Type 0} where
  -- some element passes the test
  abbrev pub any : (A → Bool) → List A → Bool
  any p [] = false
  any p (x ∷ l) = p x || any p l

  -- every element passes the test
  abbrev pub all : (A → Bool) → List A → Bool
  all p [] = true
  all p (x ∷ l) = p x && all p l

  -- the elements that pass the test, in their order
  abbrev pub keep : (A → Bool) → List A → List A
  keep p [] = []
  keep p (x ∷ l) = cond (p x) (x ∷ keep p l) (keep p l)

  -- the first element that passes the test
  abbrev pub first : (A → Bool) → List A → Option A
  first p [] = none
  first p (x ∷ l) = cond (p x) (some x) (first p l)

  -- the part of the list that begins with the first element that passes the test
  abbrev pub from : (A → Bool) → List A → List A
  from p [] = []
  from p (x ∷ l) = cond (p x) (x ∷ l) (from p l)

  -- how many elements pass the test
  abbrev pub count : (A → Bool) → List A → ℕ
  count p [] = 0
  count p (x ∷ l) = cond (p x) 1 0 + count p l

  -- each element with the one that follows it, where `end` follows the last
  abbrev pub pairs_to : A → List A → List (A × A)
  pairs_to end [] = []
  pairs_to end (x ∷ []) = (x, end) ∷ []
  pairs_to end (x ∷ y ∷ l) = (x, y) ∷ pairs_to end (y ∷ l)

  -- each element with the one that follows it, the first following the last
  abbrev pub around : List A → List (A × A)
  around [] = []
  around (x ∷ l) = pairs_to x (x ∷ l)

-- the numbers from a on, n of them
abbrev pub numbers_from : ℕ → ℕ → List ℕ
numbers_from a zero = []
numbers_from a (suc n) = a ∷ numbers_from (suc a) n

-- the numbers below n
abbrev pub numbers : ℕ → List ℕ
numbers n = numbers_from 0 n

-- T4: a set is a 64-bit word; bit k stands for attribute k
abbrev pub has : ℕ → ℕ → Bool
has set k = eqb (set / 2 ^ k % 2) 1

-- two sets share an attribute
abbrev pub meets : ℕ → ℕ → Bool
meets x y = not (eqb (bit_and x y) 0)

-- every attribute of the first set is in the second
abbrev pub within : ℕ → ℕ → Bool
within x y = eqb (bit_and x y) x
