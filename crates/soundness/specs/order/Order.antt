-- Lemma 2 as a computation: an order of the transactions 0 .. n-1 in which every dependency points forward, or a closed walk.
-- `before i j` says that there is a dependency from i to j; only pairs of different transactions count.
use Rattle.std.specs.Prelude.{Bool, true, false, cond, not, ◌&&◌, List, [], ◌∷◌, ◌≡◌, ℕ, zero, suc, ◌<◌, eqb, ltb, length}
use Rattle.std.proofs.Math.Option.{Option, none, some}
use Rattle.std.proofs.Math.ListN.{get_elem?}
use Rattle.spec_base.specs.Basic.{any, all, first, count, around, numbers}

-- the outcome: the transactions in an order, or the transactions along a closed walk
pub data Found : Type 0 where
  ordered : List ℕ → Found
  circular : List ℕ → Found

module _ {A : Type 0} where
  -- the list without the first element that passes the test
  abbrev pub remove : (A → Bool) → List A → List A
  remove p [] = []
  remove p (x ∷ l) = cond (p x) l (x ∷ remove p l)

  -- the part of the list that stands before the first element that passes the test
  abbrev pub until : (A → Bool) → List A → List A
  until p [] = []
  until p (x ∷ l) = cond (p x) [] (x ∷ until p l)

-- the outcome for all that are left, from the transaction that is placed and the outcome for the others
abbrev pub put : ℕ → Found → Found
put j (ordered order) = ordered (j ∷ order)
put j (circular walk) = circular walk

module _ (before : ℕ → ℕ → Bool) where
  -- i is a predecessor of j: there is a dependency from i to j, and they differ
  abbrev pub precedes : ℕ → ℕ → Bool
  precedes i j = before i j && not (eqb i j)

  -- the lowest of the unplaced transactions that has no unplaced predecessor
  abbrev pub free : List ℕ → Option ℕ
  free unplaced = first (λ j. not (any (λ i. precedes i j) unplaced)) unplaced

  -- the lowest unplaced predecessor of j
  abbrev pub predecessor : List ℕ → ℕ → Option ℕ
  predecessor unplaced j = first (λ i. precedes i j) unplaced

  -- step from predecessor to predecessor, at most n times, until one repeats, and cut the path there;
  -- j was reached last, and `path` holds the others, the latest first
  unfoldable pub back : List ℕ → ℕ → ℕ → List ℕ → List ℕ
  back unplaced zero j path = []
  back unplaced (suc n) j path =
      elim (predecessor unplaced j) [
        | none ↦ []
        | some i ↦ elim (any (eqb i) (j ∷ path)) [
          | true ↦ i ∷ until (eqb i) (j ∷ path)
          | false ↦ back unplaced n i (j ∷ path)
        ]
      ]

  -- no unplaced transaction can be taken: either none is unplaced or there is a closed walk among them
  unfoldable pub stuck : List ℕ → Found
  stuck [] = ordered []
  stuck (j ∷ l) = circular (back (j ∷ l) (suc (length l)) j [])

  -- place the unplaced transactions one by one, at most n of them
  unfoldable pub place : ℕ → List ℕ → Found
  place zero unplaced = ordered []
  place (suc n) unplaced =
      elim (free unplaced) [
        | none ↦ stuck unplaced
        | some j ↦ put j (place n (remove (eqb j) unplaced))
      ]

  -- all transactions below n: always the lowest that has no unplaced predecessor comes next
  unfoldable pub search : ℕ → Found
  search n = place n (numbers n)

-- an order of the transactions below n, each exactly once and nothing else, in which every dependency points forward
pub record InOrder (before : ℕ → ℕ → Bool) (n : ℕ) (order : List ℕ) : Type 0 where
  pub each_once_lem : (i : ℕ) → count (eqb i) order ≡ cond (ltb i n) 1 0
  pub forward : (i j : ℕ) → i < n → j < n → (i ≡ j → ⊥) → before i j ≡ true →
      (a b : ℕ) × (a < b) × (get_elem? order a ≡ some i) × (get_elem? order b ≡ some j)

-- a closed walk along dependencies between different transactions below n
pub record ClosedWalk (before : ℕ → ℕ → Bool) (n : ℕ) (walk : List ℕ) : Type 0 where
  pub not_empty : walk ≡ [] → ⊥
  pub linked : all (λ pair. before pair.0 pair.1 && not (eqb pair.0 pair.1)) (around walk) ≡ true
  pub below : all (λ i. ltb i n) walk ≡ true
