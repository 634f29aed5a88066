-- Closed cases of the words on lists and sets: each is computed from the definitions.
use Rattle.std.specs.Prelude.{Bool, true, false, List, [], ◌∷◌, map, ◌≡◌, refl, ℕ, ◌+◌, ◌^◌, ltb}
use Rattle.std.proofs.Math.Option.{Option, none, some}
use Rattle.spec_base.specs.Basic.{any, all, keep, first, from, count, around, numbers_from, numbers, has, meets, within}

-- lists in which none, some and all numbers are over 4
abbrev lists : List (List ℕ)
lists = [] ∷ (1 ∷ 2 ∷ []) ∷ (5 ∷ 1 ∷ []) ∷ (1 ∷ 5 ∷ []) ∷ (1 ∷ 5 ∷ 2 ∷ 6 ∷ []) ∷ (7 ∷ 6 ∷ []) ∷ []

abbrev over4 : ℕ → Bool
over4 n = ltb 4 n

any_of : map (any over4) lists ≡ false ∷ false ∷ true ∷ true ∷ true ∷ true ∷ []
any_of = refl

all_of : map (all over4) lists ≡ true ∷ false ∷ false ∷ false ∷ false ∷ true ∷ []
all_of = refl

keep_of : map (keep over4) lists ≡ [] ∷ [] ∷ (5 ∷ []) ∷ (5 ∷ []) ∷ (5 ∷ 6 ∷ []) ∷ (7 ∷ 6 ∷ []) ∷ []
keep_of = refl

first_of : map (first over4) lists ≡ none ∷ none ∷ some 5 ∷ some 5 ∷ some 5 ∷ some 7 ∷ []
first_of = refl

from_of : map (from over4) lists ≡ [] ∷ [] ∷ (5 ∷ 1 ∷ []) ∷ (5 ∷ []) ∷ (5 ∷ 2 ∷ 6 ∷ []) ∷ (7 ∷ 6 ∷ []) ∷ []
from_of = refl

count_of : map (count over4) lists ≡ 0 ∷ 0 ∷ 1 ∷ 1 ∷ 2 ∷ 2 ∷ []
count_of = refl

-- each element with the next, the last with the first; a list of one with itself
around_of : map (around {A = ℕ}) ([] ∷ (1 ∷ []) ∷ (1 ∷ 2 ∷ []) ∷ (1 ∷ 2 ∷ 3 ∷ []) ∷ [])
    ≡ [] ∷ ((1, 1) ∷ []) ∷ ((1, 2) ∷ (2, 1) ∷ []) ∷ ((1, 2) ∷ (2, 3) ∷ (3, 1) ∷ []) ∷ []
around_of = refl

numbers_of : (numbers_from 3 4 ≡ 3 ∷ 4 ∷ 5 ∷ 6 ∷ []) × (numbers 3 ≡ 0 ∷ 1 ∷ 2 ∷ []) × (numbers 0 ≡ [])
numbers_of = (refl, refl, refl)

-- T4: attributes 0, 2, 3 and 63
has_of : keep (has (13 + 2 ^ 63)) (numbers 65) ≡ 0 ∷ 2 ∷ 3 ∷ 63 ∷ []
has_of = refl

-- sets of two attributes against sets: equal, parts, overlapping, apart, nothing
meets_of : map (meets 6) (6 ∷ 2 ∷ 7 ∷ 12 ∷ 9 ∷ 0 ∷ []) ≡ true ∷ true ∷ true ∷ true ∷ false ∷ false ∷ []
meets_of = refl

meets_nothing : map (meets 0) (0 ∷ 7 ∷ []) ≡ false ∷ false ∷ []
meets_nothing = refl

within_of : map (within 6) (6 ∷ 2 ∷ 7 ∷ 12 ∷ 9 ∷ 0 ∷ []) ≡ true ∷ false ∷ true ∷ false ∷ false ∷ false ∷ []
within_of = refl

within_nothing : map (within 0) (0 ∷ 7 ∷ []) ≡ true ∷ true ∷ []
within_nothing = refl
