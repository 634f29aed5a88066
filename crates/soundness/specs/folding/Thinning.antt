-- Thinnings: a list of occurrences drawn in order from another, with the turns around each occurrence numbered anew.
use Rattle.std.specs.Prelude.{true, ◌&&◌, List, [], ◌∷◌, ◌++◌, map, ◌≡◌, refl, eqb, length}
use Rattle.std.proofs.Math.Option.{some, some-injective, none-ne-some}
use Rattle.std.proofs.Math.Path.{sym, ap}
use Rattle.std.proofs.Common.{◌∙◌, subst, not-suc-le-zero, le_of_suc-le-suc, eqb-true, eq-eqb}
use Prim.Native.Nat.{ℕ, zero, suc, ◌-◌, ◌≤◌, ◌<◌, zero-le, suc-le-suc}
use Rattle.std.proofs.Math.Nat.{sub-zero, suc-sub-suc}
use Rattle.std.proofs.Math.ListN.{get_elem?}
use Rattle.law_base.specs.BoolLaws.{and_true, and_of}
use Rattle.spec_graph.specs.Unfolding.{Around, Occurrence, inside}
use Rattle.spec_graph.specs.Edge.{leads}

-- a renaming of paths under which a path that leads to another still does
pub record Renaming : Type 0 where
  pub rename : List Around → List Around
  pub keeps : (a b : List Around) → leads a b ≡ true → leads (rename a) (rename b) ≡ true

-- every path keeps its name
abbrev pub unchanged : Renaming
unchanged = record { rename = λ a. a; keeps = λ a b h. h }

-- for each turn of a loop, its new number and the renaming of the paths within it
abbrev pub Numbering : Type 0
Numbering = ℕ → ℕ × Renaming

-- the paths of a run renamed: for each of its items, how its turns are numbered
abbrev pub renamed : (ℕ → Numbering) → List Around → List Around
renamed T [] = []
renamed T (a ∷ rest) = record { item = a.item; turn = (T a.item a.turn).0 } ∷ (T a.item a.turn).1.rename rest

-- the same turn is renamed to the same turn
pub renamed_keeps : (T : ℕ → Numbering) (a b : List Around) → leads a b ≡ true → leads (renamed T a) (renamed T b) ≡ true
unfolding leads
renamed_keeps T [] b h = refl
renamed_keeps T (a ∷ p) [] h = h
renamed_keeps T (a ∷ p) (b ∷ q) h =
    let both = and_true (eqb a.item b.item && eqb a.turn b.turn) (leads p q) h in
    let heads = and_true (eqb a.item b.item) (eqb a.turn b.turn) both.0 in
    let items : a.item ≡ b.item = eqb-true _ _ heads.0 in
    let turns : a.turn ≡ b.turn = eqb-true _ _ heads.1 in
    let same : T a.item a.turn ≡ T b.item b.turn = cc in
    and_of (and_of heads.0 (eq-eqb _ _ (ap (λ (n : ℕ × Renaming). n.0) same)))
    (subst (λ (n : ℕ × Renaming). leads ((T a.item a.turn).1.rename p) (n.1.rename q) ≡ true) same
    ((T a.item a.turn).1.keeps p q both.1))

-- the renaming of a run
abbrev pub run_renaming : (ℕ → Numbering) → Renaming
run_renaming T = record { rename = renamed T; keeps = renamed_keeps T }

-- an occurrence with its path renamed
abbrev pub moved : Renaming → Occurrence → Occurrence
moved ρ o = record { statement = o.statement; path = ρ.rename o.path }

-- the first list is drawn from the second, in order: what an occurrence is drawn from is that occurrence with its path renamed
pub data Thinning (ρ : Renaming) : List Occurrence → List Occurrence → Type 0 where
  nothing : Thinning ρ [] []
  skip : {l m : List Occurrence} {o : Occurrence} → Thinning ρ l m → Thinning ρ l (o ∷ m)
  retain : {l m : List Occurrence} {o p : Occurrence} → p ≡ moved ρ o → Thinning ρ l m → Thinning ρ (o ∷ l) (p ∷ m)

module _ {ρ : Renaming} where
  -- the place from which a place is drawn
  unfoldable pub source : {l m : List Occurrence} → Thinning ρ l m → ℕ → ℕ
  source nothing i = i
  source (skip t) i = suc (source t i)
  source (retain q t) zero = zero
  source (retain q t) (suc i) = suc (source t i)

  -- the order of the places is kept
  pub source_rises : {l m : List Occurrence} (t : Thinning ρ l m) (i j : ℕ) → i < j → j < length l → source t i < source t j
  unfolding source
  source_rises nothing i j h k = absurd (not-suc-le-zero k)
  source_rises (skip t) i j h k = suc-le-suc (source_rises t i j h k)
  source_rises (retain q t) i zero h k = absurd (not-suc-le-zero h)
  source_rises (retain q t) zero (suc j) h k = suc-le-suc zero-le
  source_rises (retain q t) (suc i) (suc j) h k = suc-le-suc (source_rises t i j (le_of_suc-le-suc h) (le_of_suc-le-suc k))

  -- a place is drawn from a place of the second list
  pub source_inside : {l m : List Occurrence} (t : Thinning ρ l m) (i : ℕ) → i < length l → source t i < length m
  unfolding source
  source_inside nothing i h = h
  source_inside (skip t) i h = suc-le-suc (source_inside t i h)
  source_inside (retain q t) zero h = suc-le-suc zero-le
  source_inside (retain q t) (suc i) h = suc-le-suc (source_inside t i (le_of_suc-le-suc h))

  -- what stands there is the occurrence with its path renamed
  source_holds : {l m : List Occurrence} (t : Thinning ρ l m) (i : ℕ) (o p : Occurrence)
      → get_elem? l i ≡ some o → get_elem? m (source t i) ≡ some p → p ≡ moved ρ o
  unfolding source
  source_holds nothing i o p h k = absurd (none-ne-some o h)
  source_holds (skip t) i o p h k = source_holds t i o p h k
  source_holds (retain {o = a} {p = b} q t) zero o p h k =
      sym (some-injective b p k) ∙ q ∙ ap (moved ρ) (some-injective a o h)
  source_holds (retain q t) (suc i) o p h k = source_holds t i o p h k

  -- so it is of the same statement
  pub source_statement : {l m : List Occurrence} (t : Thinning ρ l m) (i : ℕ) (o p : Occurrence)
      → get_elem? l i ≡ some o → get_elem? m (source t i) ≡ some p → o.statement ≡ p.statement
  source_statement t i o p h k = sym (ap (λ (o : Occurrence). o.statement) (source_holds t i o p h k))

  -- and a path that leads to another leads to it there too
  pub source_leads : {l m : List Occurrence} (t : Thinning ρ l m) (i j : ℕ) (o p o' p' : Occurrence)
      → get_elem? l i ≡ some o → get_elem? l j ≡ some p → get_elem? m (source t i) ≡ some o' → get_elem? m (source t j) ≡ some p'
      → leads o.path p.path ≡ true → leads o'.path p'.path ≡ true
  source_leads t i j o p o' p' h k h' k' e =
      rw (source_holds t i o o' h h', source_holds t j p p' k k') (ρ.keeps o.path p.path e)

  -- a place of the second list is drawn
  abbrev pub Drawn : {l m : List Occurrence} → Thinning ρ l m → ℕ → Type 0
  Drawn nothing x = ⊥
  Drawn (skip t) zero = ⊥
  Drawn (skip t) (suc x) = Drawn t x
  Drawn (retain q t) zero = Unit {0}
  Drawn (retain q t) (suc x) = Drawn t x

  -- a place that is drawn is the source of a place
  pub drawn_source : {l m : List Occurrence} (t : Thinning ρ l m) (x : ℕ) → Drawn t x → (i : ℕ) × (i < length l) × (source t i ≡ x)
  unfolding source
  drawn_source nothing x d = absurd d
  drawn_source (skip t) zero d = absurd d
  drawn_source (skip t) (suc x) d = let s = drawn_source t x d in (s.0, s.1, ap suc s.2)
  drawn_source (retain q t) zero d = (zero, suc-le-suc zero-le, refl)
  drawn_source (retain q t) (suc x) d = let s = drawn_source t x d in (suc s.0, suc-le-suc s.1, ap suc s.2)

  -- nothing is drawn
  abbrev pub skipped : (m : List Occurrence) → Thinning ρ [] m
  skipped [] = nothing
  skipped (o ∷ m) = skip (skipped m)

  -- two thinnings, one after the other
  abbrev pub joined : {l m k n : List Occurrence} → Thinning ρ l m → Thinning ρ k n → Thinning ρ (l ++ k) (m ++ n)
  joined nothing u = u
  joined (skip t) u = skip (joined t u)
  joined (retain q t) u = retain q (joined t u)

  -- what either of two thinnings draws is drawn by both joined
  pub joined_drawn : {l m k n : List Occurrence} (t : Thinning ρ l m) (u : Thinning ρ k n) (x : ℕ)
      → (x < length m → Drawn t x) → (length m ≤ x → Drawn u (x - length m)) → Drawn (joined t u) x
  joined_drawn nothing u x f g = rw sub-zero at (g zero-le)
  joined_drawn (skip t) u zero f g = f (suc-le-suc zero-le)
  joined_drawn (skip t) u (suc x) f g =
      joined_drawn t u x (λ h. f (suc-le-suc h)) (λ h. rw suc-sub-suc at (g (suc-le-suc h)))
  joined_drawn (retain q t) u zero f g = tt
  joined_drawn (retain q t) u (suc x) f g =
      joined_drawn t u x (λ h. f (suc-le-suc h)) (λ h. rw suc-sub-suc at (g (suc-le-suc h)))

-- a thinning in a turn of a loop, or in an arm of a branch, is one of the run around it, where the turn's new number is t'
module _ (T : ℕ → Numbering) (i t t' : ℕ) (ρ : Renaming) (named : T i t ≡ (t', ρ)) where
  -- renamed in the turn is renamed in the run
  pub moved_inside : (o p : Occurrence) → p ≡ moved ρ o → inside i t' p ≡ moved (run_renaming T) (inside i t o)
  unfolding inside
  moved_inside o p q = ap (inside i t') q ∙ ap (λ (n : ℕ × Renaming). inside i n.0 (moved n.1 o)) (sym named)

  -- each occurrence with the block around it
  abbrev pub enclosed : {l m : List Occurrence} → Thinning ρ l m → Thinning (run_renaming T) (map (inside i t) l) (map (inside i t') m)
  enclosed nothing = nothing
  enclosed (skip u) = skip (enclosed u)
  enclosed (retain {o} {p} q u) = retain (moved_inside o p q) (enclosed u)

  -- it draws the same places
  pub enclosed_drawn : {l m : List Occurrence} (u : Thinning ρ l m) (x : ℕ) → Drawn u x → Drawn (enclosed u) x
  enclosed_drawn nothing x d = d
  enclosed_drawn (skip u) zero d = d
  enclosed_drawn (skip u) (suc x) d = enclosed_drawn u x d
  enclosed_drawn (retain q u) zero d = d
  enclosed_drawn (retain q u) (suc x) d = enclosed_drawn u x d
