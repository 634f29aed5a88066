-- Words for places, whatever a word says of its statement: `Word` says that a number is a statement's own word, `mark` gives a statement's mark.
use Rattle.std.specs.Prelude.{cond, ◌≡◌}
use mathlib.Core.List.{List, [], ◌∷◌, ◌++◌}
use Prim.Native.Nat.{ℕ, ◌≤◌}
use Rattle.std.specs.Int.Bits.{bit_or}
use Rattle.spec_graph.specs.Program.{Statement}
use Rattle.spec_graph.specs.Unfolding.{Around, Occurrence}
use Rattle.spec_graph.specs.Edge.{leads}
use Rattle.unfold_laws.specs.WordCode.{packed}

-- the marks of the occurrences before a path that lead to it
unfoldable pub shown : (Statement → ℕ) → List Occurrence → List Around → ℕ
shown mark [] path = 0
shown mark (p ∷ before) path = bit_or (cond (leads p.path path) (mark p.statement) 0) (shown mark before path)

module _ (Word : Statement → ℕ → Type 0) (mark : Statement → ℕ) where
  -- a place's word: the statement's own, and with it what was seen before this part of the unfolding and in it
  pub record PlaceWord (seen : ℕ) (before : List Occurrence) (o : Occurrence) (word : ℕ) : Type 0 where
    pub own : ℕ
    pub fits : Word o.statement own
    pub whole : word ≡ packed own (bit_or seen (shown mark before o.path))

  unfoldable pub PlaceWords : ℕ → List Occurrence → List Occurrence → List ℕ → Type 0
  PlaceWords seen before [] [] = Unit {0}
  PlaceWords seen before [] (w ∷ words) = ⊥
  PlaceWords seen before (o ∷ places) [] = ⊥
  PlaceWords seen before (o ∷ places) (w ∷ words) = PlaceWord seen before o w × PlaceWords seen (before ++ (o ∷ [])) places words

-- the path stands in an item of its run after the first i, or in none
unfoldable pub Later : ℕ → List Around → Type 0
Later i [] = Unit {0}
Later i (a ∷ path) = i ≤ a.item
