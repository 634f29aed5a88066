-- For two places of an execution there is an unfolding of its run that holds both.
use Rattle.std.specs.Prelude.{true, ◌≡◌, refl, ℕ, ◌<◌, length}
use mathlib.Core.List.{[], ◌∷◌, Memᴰ}
use Rattle.std.proofs.Math.Option.{some}
use Rattle.std.proofs.Common.{arith}
use Rattle.std.proofs.Math.ListN.{get_elem?}
use Rattle.spec_graph.specs.Program.{Run}
use Rattle.spec_graph.specs.Unfolding.{Execution, Occurrence, occurrences, unfoldings}
use Rattle.spec_graph.specs.Edge.{leads}
use Rattle.soundness.specs.folding.Thinning.{source, source_rises, source_inside, source_statement, source_leads, drawn_source}
use Rattle.soundness.specs.folding.Thinned.{Thinned, thin}

-- an unfolding, and for each of its places a place of the execution `e`: the order and the statements are kept, a parent bound to
-- a child is bound to it in the execution, and x and y are among the places
pub record Folded {r : Run} (e : Execution r) (x y : ℕ) : Type 0 where
  pub folded : Execution r
  pub member : Memᴰ folded (unfoldings r)
  pub to : ℕ → ℕ
  pub rising : (i j : ℕ) → i < j → j < length (occurrences folded 0) → to i < to j
  pub inside : (i : ℕ) → i < length (occurrences folded 0) → to i < length (occurrences e 0)
  pub keeps : (i : ℕ) (o o' : Occurrence) → get_elem? (occurrences folded 0) i ≡ some o → get_elem? (occurrences e 0) (to i) ≡ some o'
      → o.statement ≡ o'.statement
  pub binding : (i j : ℕ) (o p o' p' : Occurrence)
      → get_elem? (occurrences folded 0) i ≡ some o → get_elem? (occurrences folded 0) j ≡ some p
      → get_elem? (occurrences e 0) (to i) ≡ some o' → get_elem? (occurrences e 0) (to j) ≡ some p'
      → leads o.path p.path ≡ true → leads o'.path p'.path ≡ true
  pub at_x : (i : ℕ) × (i < length (occurrences folded 0)) × (to i ≡ x)
  pub at_y : (i : ℕ) × (i < length (occurrences folded 0)) × (to i ≡ y)

-- of each loop the turns that hold x or y are enough
pub fold : {r : Run} (e : Execution r) (x y : ℕ) → x < length (occurrences e 0) → y < length (occurrences e 0) → Folded e x y
fold e x y hx hy =
    let kept : Thinned e (x ∷ y ∷ []) = thin e (x ∷ y ∷ []) (omega arith) in
    let t = kept.thinning in
    record {
      folded = kept.folded;
      member = kept.member;
      to = source t;
      rising = source_rises t;
      inside = source_inside t;
      keeps = source_statement t;
      binding = source_leads t;
      at_x = drawn_source t x (kept.drawn x (Memᴰ.head refl) hx);
      at_y = drawn_source t y (kept.drawn y (Memᴰ.tail (Memᴰ.head refl)) hy);
    }
