-- What is seen at places: in a block what the run around has seen; after a block nothing more than before it.
use Rattle.std.specs.Prelude.{Bool, true, false, cond, ◌||◌, ◌≡◌, length}
use mathlib.Core.List.{List, [], ◌∷◌, ◌++◌, map, append_assoc, append-nil, map-append}
use Rattle.std.proofs.Math.Path.{refl, sym, ap}
use Rattle.std.proofs.Common.{◌∙◌, arith}
use Prim.Native.Nat.{ℕ, suc}
use Rattle.std.specs.Int.Bits.{bit_or, or_zero_l, or_zero_r}
use borrow.Author.Tests.{eq-eqb, ne_eqb}
use Rattle.spec_base.specs.Basic.{has}
use Rattle.law_base.specs.SetLaws.{has_equal, has_bit_or}
use Rattle.spec_graph.specs.Program.{Statement}
use Rattle.spec_graph.specs.Unfolding.{Around, Occurrence, inside}
use Rattle.spec_graph.specs.Edge.{leads}
use Rattle.unfold_laws.specs.WordCode.{packed}
use Rattle.unfold_laws.specs.PlaceWords.{shown, PlaceWords, Later}

pub or_assoc : (x y z : ℕ) → bit_or (bit_or x y) z ≡ bit_or x (bit_or y z)
or_assoc x y z =
    has_equal (bit_or (bit_or x y) z) (bit_or x (bit_or y z))
    (λ k. rw (has_bit_or, has_bit_or, has_bit_or, has_bit_or) (go (has x k) (has y k) (has z k)))
  where
    go : (a b c : Bool) → (a || b) || c ≡ a || (b || c)
    go true b c = refl
    go false b c = refl

abbrev pub around : ℕ → ℕ → Around
around i t = record { item = i; turn = t }

-- a path into another turn or arm, or another item
abbrev pub Apart : ℕ → ℕ → List Around → Type 0
Apart i t path = (rest : List Around) → leads (around i t ∷ rest) path ≡ false

pub apart_later : (i t : ℕ) (path : List Around) → Later (suc i) path → Apart i t path
unfolding Later leads
apart_later i t [] h rest = refl
apart_later i t (a ∷ path) h rest = rw (ne_eqb i a.item (λ (z : i ≡ a.item). omega arith))

pub apart_turn : (i t u : ℕ) (path : List Around) → (t ≡ u → ⊥) → Apart i t (around i u ∷ path)
unfolding leads
apart_turn i t u path h rest = rw (eq-eqb i i refl, ne_eqb t u h)

pub later_less : (i : ℕ) (path : List Around) → Later (suc i) path → Later i path
unfolding Later
later_less i [] h = h
later_less i (a ∷ path) h = omega arith

module _ (mark : Statement → ℕ) where
  pub shown_append : (a b : List Occurrence) (path : List Around) → shown mark (a ++ b) path ≡ bit_or (shown mark a path) (shown mark b path)
  unfolding shown
  shown_append [] b path = sym (or_zero_l (shown mark b path))
  shown_append (p ∷ a) b path =
      rw (shown_append a b path) (sym (or_assoc (cond (leads p.path path) (mark p.statement) 0) (shown mark a path) (shown mark b path)))

  pub shown_inside : (i t : ℕ) (before : List Occurrence) (path : List Around)
      → shown mark (map (inside i t) before) (around i t ∷ path) ≡ shown mark before path
  unfolding shown inside leads
  shown_inside i t [] path = refl
  shown_inside i t (p ∷ before) path = rw (eq-eqb i i refl, eq-eqb t t refl, shown_inside i t before path)

  pub shown_apart : (i t : ℕ) (before : List Occurrence) (path : List Around) → Apart i t path → shown mark (map (inside i t) before) path ≡ 0
  unfolding shown inside
  shown_apart i t [] path h = refl
  shown_apart i t (p ∷ before) path h = rw (h p.path, shown_apart i t before path h) (or_zero_l 0)

  -- nothing of a block is seen apart from it
  pub after_apart : (i t : ℕ) (before inner : List Occurrence) (path : List Around) → Apart i t path
      → shown mark (before ++ map (inside i t) inner) path ≡ shown mark before path
  after_apart i t before inner path h =
      shown_append before (map (inside i t) inner) path ∙ rw (shown_apart i t inner path h) (or_zero_r (shown mark before path))

module _ (Word : Statement → ℕ → Type 0) (mark : Statement → ℕ) where
  pub words_append : (seen : ℕ) (before xs ys : List Occurrence) (us vs : List ℕ) → PlaceWords Word mark seen before xs us
      → PlaceWords Word mark seen (before ++ xs) ys vs → PlaceWords Word mark seen before (xs ++ ys) (us ++ vs)
  unfolding PlaceWords
  words_append seen before [] ys [] vs h g = rw append-nil at g
  words_append seen before [] ys (u ∷ us) vs h g = absurd h
  words_append seen before (x ∷ xs) ys [] vs h g = absurd h
  words_append seen before (x ∷ xs) ys (u ∷ us) vs h g =
      (h.0, words_append seen (before ++ (x ∷ [])) xs ys us vs h.1 (rw append_assoc g))

  -- as many words as places
  pub words_length : (seen : ℕ) (before places : List Occurrence) (words : List ℕ) → PlaceWords Word mark seen before places words
      → length words ≡ length places
  unfolding PlaceWords
  words_length seen before [] [] h = refl
  words_length seen before [] (w ∷ words) h = absurd h
  words_length seen before (o ∷ places) [] h = absurd h
  words_length seen before (o ∷ places) (w ∷ words) h = ap suc (words_length seen (before ++ (o ∷ [])) places words h.1)

  -- one block more around places, in front of which the run around has seen `all`
  module _ (seen all i t : ℕ) (before : List Occurrence)
      (same : (path : List Around) → bit_or seen (shown mark before (around i t ∷ path)) ≡ all) where
    inside_from : (first places : List Occurrence) (words : List ℕ) → PlaceWords Word mark all first places words
        → PlaceWords Word mark seen (before ++ map (inside i t) first) (map (inside i t) places) words
    unfolding PlaceWords inside
    inside_from first [] [] h = h
    inside_from first [] (w ∷ words) h = absurd h
    inside_from first (o ∷ places) [] h = absurd h
    inside_from first (o ∷ places) (w ∷ words) h = (
      record { own = h.0.own; fits = h.0.fits; whole = h.0.whole ∙ ap (packed h.0.own) (sym seen_there) },
      rw (← further) (inside_from (first ++ (o ∷ [])) places words h.1),
    )
      where
        seen_there : bit_or seen (shown mark (before ++ map (inside i t) first) (around i t ∷ o.path)) ≡ bit_or all (shown mark first o.path)
        seen_there =
            ap (bit_or seen) (shown_append mark before (map (inside i t) first) (around i t ∷ o.path))
            ∙ rw (shown_inside mark i t first o.path, ← same o.path)
            (sym (or_assoc seen (shown mark before (around i t ∷ o.path)) (shown mark first o.path)))

        further : before ++ map (inside i t) (first ++ (o ∷ [])) ≡ (before ++ map (inside i t) first) ++ (inside i t o ∷ [])
        further = rw map-append (sym (append_assoc before (map (inside i t) first) (inside i t o ∷ [])))

    pub words_inside : (places : List Occurrence) (words : List ℕ) → PlaceWords Word mark all [] places words
        → PlaceWords Word mark seen before (map (inside i t) places) words
    words_inside places words h = rw append-nil at (inside_from [] places words h)
