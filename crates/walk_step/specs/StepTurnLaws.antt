-- What the code does with two rows, with one row after the other, and that the last of it is the least step of the table.
use Rattle.std.specs.Prelude.{◌≡◌, Bool, List, [], ◌∷◌, map, ◌⊎◌, leb, ltb, get_or}
use Rattle.std.proofs.Math.Path.{refl, sym, ap, ap₂}
use Rattle.std.proofs.Common.{◌∙◌, inl, inr, le_antisymm, add-zero, zero-add, suc-add, add-suc, add-one}
use Rattle.std.proofs.Math.Bool.{true, false, cond}
use Prim.Native.Nat.{ℕ, zero, suc, ◌+◌, ◌*◌, ◌≤◌, ◌<◌, min}
use native.Mathlib.Omega.{arith}
use borrow.Author.Tests.{eq-eqb, ne_eqb, ltb-true, lt-ltb, le-ltb, lt-leb, le-leb}
use Rattle.spec_base.specs.Basic.{numbers, numbers_from, meets}
use Rattle.law_base.specs.BoolLaws.{decide, and_true, and_right}
use Rattle.spec_graph.specs.Graph.{Flow}
use Rattle.edge_kinds.specs.Kinds.{kind_facts, loose_bit}
use Rattle.edge_kinds.specs.KindLaws.{told, answer}
use Rattle.place_row.specs.declared.Row.{Row}
use Rattle.place_row.specs.RowTable.{row_at, row_count, row_forward, row_back, table_rows}
use Rattle.pick_laws.specs.Completing.{least_below}
use Rattle.step_word.specs.StepWord.{step_word}
use Rattle.step_word.specs.StepWordLaws.{word_small, forward_first, word_leaves}
use Rattle.walk_step.specs.LeastStep.{opens_to, forward_counts, back_counts, flow_counts, flow_step, counted_step, has_word, pair_step}
use Rattle.walk_step.specs.LeastStep.{leaves_from, step_from, least, least_step}
use Rattle.walk_step.specs.StepTurns.{row_least, from_row, least_rows}

-- ---- two rows

-- a row for which a word has room has a small node and a small place
pub word_room : (q : Row) {b : Bool} → b ≡ has_word q → b ≡ true → (q.node < 64) × (q.place < 1024)
unfolding has_word
word_room q e t = let h = and_true _ _ (sym e ∙ t) in (ltb-true _ _ h.0, ltb-true _ _ h.1)

module _ (p q : Row) {b : Bool} (has : b ≡ meets (kind_facts p.kind) loose_bit) where
  -- W4: the table of kinds tells whether the left row is loose
  pub opens_loose : b ≡ true → 1024 ≡ opens_to p q
  unfolding opens_to
  opens_loose t = rw (answer (told p.kind).loosens has t) refl

  pub opens_place : b ≡ false → q.place ≡ opens_to p q
  unfolding opens_to
  opens_place t = rw (answer (told p.kind).loosens has t) refl

-- an edge that does not open as far as is needed does not count, and else counts where it stands
pub forward_shut : (p q : Row) (need : ℕ) {o : ℕ} → o ≡ opens_to p q → o < need → false ≡ forward_counts need p q
unfolding forward_counts
forward_shut p q need e h = rw (lt-leb need (opens_to p q) (rw e at h)) refl

pub forward_open : (p q : Row) (need : ℕ) {o : ℕ} {b : Bool} → o ≡ opens_to p q → need ≤ o → b ≡ row_forward p q → b ≡ forward_counts need p q
unfolding forward_counts
forward_open p q need e h s = rw (le-leb need (opens_to p q) (rw e at h)) s

-- a back edge that does not leave below the limit does not count, and else counts where it stands
pub back_late : (p q : Row) (limit : ℕ) → limit ≤ p.place → false ≡ back_counts limit p q
unfolding back_counts
back_late p q limit h = rw (le-ltb p.place limit h) refl

pub back_early : (p q : Row) (limit : ℕ) {b : Bool} → p.place < limit → b ≡ row_back p q → b ≡ back_counts limit p q
unfolding back_counts
back_early p q limit h s = rw (lt-ltb p.place limit h) s

module _ (need limit : ℕ) (p q : Row) where
  -- a step that counts, and one that does not
  flow_step_lem : (flow : Flow) → flow_counts need limit flow p q ≡ true → flow_step need limit flow p q ≡ step_word p.place q.place flow q.node
  unfolding flow_step
  flow_step_lem flow t = rw t refl

  flow_none : (flow : Flow) → flow_counts need limit flow p q ≡ false → flow_step need limit flow p q ≡ 134217728
  unfolding flow_step
  flow_none flow t = rw t refl

  -- none is less than the forward one
  flow_least : (flow : Flow) → step_word p.place q.place Flow.forward q.node ≤ flow_step need limit flow p q
  flow_least flow = go (decide (flow_counts need limit flow p q))
    where
      go : (flow_counts need limit flow p q ≡ true) ⊎ (flow_counts need limit flow p q ≡ false)
          → step_word p.place q.place Flow.forward q.node ≤ flow_step need limit flow p q
      go (inl t) = rw (flow_step_lem flow t) (forward_first p.place q.place flow q.node)
      go (inr t) = let e = flow_none flow t in let h = word_small p.place q.place Flow.forward q.node in omega arith

  pub counted_least : step_word p.place q.place Flow.forward q.node ≤ counted_step need limit p q
  unfolding counted_step
  counted_least = let a = flow_least Flow.forward in let b = flow_least Flow.back in omega arith

  module _ {f : Bool} (forward : f ≡ forward_counts need p q) where
    pub counted_forward : {r : ℕ} → f ≡ true → r ≡ step_word p.place q.place Flow.forward q.node → r ≡ counted_step need limit p q
    unfolding counted_step
    counted_forward t e = let a = flow_step_lem Flow.forward (sym forward ∙ t) in let b = flow_least Flow.back in omega arith

    module _ {b : Bool} (back : b ≡ back_counts limit p q) (no : f ≡ false) where
      pub counted_back : {r : ℕ} → b ≡ true → r ≡ step_word p.place q.place Flow.back q.node → r ≡ counted_step need limit p q
      unfolding counted_step
      counted_back t e =
          let a = flow_none Flow.forward (sym forward ∙ no) in
          let d = flow_step_lem Flow.back (sym back ∙ t) in
          let h = word_small p.place q.place Flow.back q.node in
          omega arith

      pub counted_none : b ≡ false → 134217728 ≡ counted_step need limit p q
      unfolding counted_step
      counted_none t = let a = flow_none Flow.forward (sym forward ∙ no) in let d = flow_none Flow.back (sym back ∙ t) in omega arith

-- between rows of two relations no step counts
pub counted_apart : (need limit : ℕ) (p q : Row) → (p.relation ≡ q.relation → ⊥) → 134217728 ≡ counted_step need limit p q
unfolding forward_counts back_counts row_forward row_back
counted_apart need limit p q apart =
    counted_none need limit p q (sym (and_right (leb need (opens_to p q)) forward)) (sym (and_right (ltb p.place limit) back)) refl refl
  where
    forward : row_forward p q ≡ false
    forward = simp (ne_eqb p.relation q.relation apart)

    back : row_back p q ≡ false
    back = simp (ne_eqb p.relation q.relation apart)

-- what counts into a row for which a word has room
module _ (needs limits : List ℕ) (p q : Row) {b : Bool} (room : b ≡ has_word q) where
  pair_room : b ≡ true → pair_step needs limits p q ≡ counted_step (get_or needs q.node 0) (get_or limits q.node 0) p q
  unfolding pair_step
  pair_room t = rw (sym room ∙ t) refl

  module _ (best : ℕ) (t : b ≡ true) where
    counted_asked : {need limit s : ℕ} → need ≡ get_or needs q.node 0 → limit ≡ get_or limits q.node 0 → s ≡ counted_step need limit p q
        → s ≡ pair_step needs limits p q
    counted_asked a b e = e ∙ ap₂ (λ (n m : ℕ). counted_step n m p q) a b ∙ sym (pair_room t)

    pub better_found : {need limit s : ℕ} → need ≡ get_or needs q.node 0 → limit ≡ get_or limits q.node 0 → s ≡ counted_step need limit p q
        → s < best → s ≡ min best (pair_step needs limits p q)
    better_found a b e h = let d = counted_asked a b e in omega arith

    pub better_not : {need limit s : ℕ} → need ≡ get_or needs q.node 0 → limit ≡ get_or limits q.node 0 → s ≡ counted_step need limit p q
        → best ≤ s → best ≡ min best (pair_step needs limits p q)
    better_not a b e h = let d = counted_asked a b e in omega arith

    -- nothing is less than the forward step
    pub better_late : {w : ℕ} → w ≡ step_word p.place q.place Flow.forward q.node → best ≤ w → best ≡ min best (pair_step needs limits p q)
    better_late e h =
        let d = pair_room t in
        let l = counted_least (get_or needs q.node 0) (get_or limits q.node 0) p q in
        omega arith

  -- and into one for which it has none
  pub better_none : (best : ℕ) → best ≤ 134217728 → b ≡ false → best ≡ min best (pair_step needs limits p q)
  unfolding pair_step
  better_none best h t = let d : pair_step needs limits p q ≡ 134217728 = rw (sym room ∙ t) refl in omega arith

-- ---- one row after the other

module _ (table needs limits : List ℕ) (p : Row) where
  pub row_first : (best : ℕ) → best ≡ row_least table 0 needs limits p best
  unfolding row_least least_below
  row_first best = refl

  pub row_turn : (j best : ℕ) {q : Row} {l r : ℕ} → q ≡ row_at table j → l ≡ row_least table j needs limits p best
      → r ≡ min l (pair_step needs limits p q) → r ≡ row_least table (j + 1) needs limits p best
  unfolding row_least least_below
  row_turn j best same h e = rw (add-one j) (e ∙ ap₂ min h (ap (pair_step needs limits p) same))

  pub row_read : (best : ℕ) {n j r : ℕ} → j ≤ n → n ≤ j → r ≡ row_least table j needs limits p best → r ≡ row_least table n needs limits p best
  row_read best h l e = e ∙ ap (λ (k : ℕ). row_least table k needs limits p best) (le_antisymm h l)

  -- no step leaves below the row's place
  pair_leaves : (q : Row) → p.place < 1024 → p.place * 131072 ≤ pair_step needs limits p q
  unfolding pair_step
  pair_leaves q h = go (has_word q)
    where
      go : (b : Bool) → p.place * 131072 ≤ cond b (counted_step (get_or needs q.node 0) (get_or limits q.node 0) p q) 134217728
      go true =
          let l = counted_least (get_or needs q.node 0) (get_or limits q.node 0) p q in
          let w = word_leaves p.place q.place Flow.forward q.node h in
          omega arith
      go false = omega arith

  row_late : (n best : ℕ) → p.place < 1024 → best ≤ p.place * 131072 → row_least table n needs limits p best ≡ best
  unfolding row_least least_below
  row_late zero best h l = refl
  row_late (suc n) best h l = let e = row_late n best h l in let w = pair_leaves (row_at table n) h in omega arith

  row_most : (n best : ℕ) → row_least table n needs limits p best ≤ best
  unfolding row_least least_below
  row_most zero best = omega arith
  row_most (suc n) best = let h = row_most n best in omega arith

  module _ (n x best : ℕ) where
    -- a row of another node, and one at a place for which a word has no room
    pub from_other : (p.node ≡ x → ⊥) → best ≡ from_row table n x needs limits p best
    unfolding from_row leaves_from
    from_other h = rw (ne_eqb p.node x h) refl

    pub from_past : p.node ≡ x → 1024 ≤ p.place → best ≡ from_row table n x needs limits p best
    unfolding from_row leaves_from
    from_past e h = rw (eq-eqb p.node x e, le-ltb p.place 1024 h) refl

    from_here : p.node ≡ x → p.place < 1024 → from_row table n x needs limits p best ≡ row_least table n needs limits p best
    unfolding from_row leaves_from
    from_here e h = rw (eq-eqb p.node x e, lt-ltb p.place 1024 h) refl

    pub from_late : p.node ≡ x → p.place < 1024 → best ≤ p.place * 131072 → best ≡ from_row table n x needs limits p best
    from_late e h l = sym (from_here e h ∙ row_late n best h l)

    pub from_row_lem : {r : ℕ} → p.node ≡ x → p.place < 1024 → r ≡ row_least table n needs limits p best → r ≡ from_row table n x needs limits p best
    from_row_lem e h l = l ∙ sym (from_here e h)

    pub from_most : {r : ℕ} → r ≡ from_row table n x needs limits p best → r ≤ best
    unfolding from_row
    from_most e = rw e (go (leaves_from x p))
      where
        go : (b : Bool) → cond b (row_least table n needs limits p best) best ≤ best
        go true = row_most n best
        go false = omega arith

module _ (table : List ℕ) (n x : ℕ) (needs limits : List ℕ) where
  pub rows_first : 134217728 ≡ least_rows table n x needs limits 0
  unfolding least_rows
  rows_first = refl

  pub rows_turn : (i : ℕ) {p : Row} {best r : ℕ} → p ≡ row_at table i → best ≡ least_rows table n x needs limits i
      → r ≡ from_row table n x needs limits p best → r ≡ least_rows table n x needs limits (i + 1)
  unfolding least_rows
  rows_turn i same h e = rw (add-one i) (e ∙ ap₂ (from_row table n x needs limits) same h)

-- ---- the least of all

-- the least of one number more
least_from : {A : Type 0} (f : A → ℕ) (most : ℕ) (g : ℕ → A) (a n : ℕ)
    → least f most (map g (numbers_from a (suc n))) ≡ min (least f most (map g (numbers_from a n))) (f (g (a + n)))
unfolding least
least_from f most g a zero = ap (λ (k : ℕ). min (f (g k)) most) (sym (add-zero a)) ∙ omega arith
least_from f most g a (suc n) =
    let h = least_from f most g (suc a) n in
    let e = ap (λ (k : ℕ). f (g k)) (suc-add a n ∙ sym (add-suc a n)) in
    omega arith

least_below_lem : {A : Type 0} (f : A → ℕ) (most : ℕ) (g : ℕ → A) (n : ℕ) → least f most (map g (numbers n)) ≡ least_below (λ i. f (g i)) most n
unfolding least least_below
least_below_lem f most g zero = refl
least_below_lem f most g (suc n) =
    least_from f most g 0 n ∙ ap₂ min (least_below_lem f most g n) (ap (λ (k : ℕ). f (g k)) (zero-add n))

-- what is at most a lesser number
below_less : (f : ℕ → ℕ) (best most : ℕ) → best ≤ most → (n : ℕ) → least_below f best n ≡ min best (least_below f most n)
unfolding least_below
below_less f best most h zero = omega arith
below_less f best most h (suc n) = let e = below_less f best most h n in omega arith

-- nothing is less
least_none : {A : Type 0} (most : ℕ) (l : List A) → least (λ (x : A). most) most l ≡ most
unfolding least
least_none most [] = refl
least_none most (x ∷ l) = let e = least_none most l in omega arith

module _ (table : List ℕ) (n x : ℕ) (needs limits : List ℕ) where
  -- a row gives the least of its steps
  from_least : (p : Row) (best : ℕ) → best ≤ 134217728
      → from_row table n x needs limits p best ≡ min best (least (step_from needs limits x p) 134217728 (map (row_at table) (numbers n)))
  unfolding from_row step_from row_least
  from_least p best h = go (leaves_from x p)
    where
      go : (b : Bool) → cond b (least_below (λ j. pair_step needs limits p (row_at table j)) best n) best
          ≡ min best (least (λ q. cond b (pair_step needs limits p q) 134217728) 134217728 (map (row_at table) (numbers n)))
      go true =
          below_less (λ j. pair_step needs limits p (row_at table j)) best 134217728 h n
          ∙ ap (min best) (sym (least_below_lem (pair_step needs limits p) 134217728 (row_at table) n))
      go false = let e = least_none 134217728 (map (row_at table) (numbers n)) in omega arith

  rows_least : (i : ℕ) → least_rows table n x needs limits i
      ≡ least_below (λ k. least (step_from needs limits x (row_at table k)) 134217728 (map (row_at table) (numbers n))) 134217728 i
  unfolding least_rows least_below
  rows_least zero = refl
  rows_least (suc i) =
      let e = rows_least i in
      from_least (row_at table i) (least_rows table n x needs limits i) (rows_small i)
      ∙ ap (λ (b : ℕ). min b (least (step_from needs limits x (row_at table i)) 134217728 (map (row_at table) (numbers n)))) e
    where
      rows_small : (k : ℕ) → least_rows table n x needs limits k ≤ 134217728
      rows_small zero = omega arith
      rows_small (suc k) =
          let h = from_most table needs limits (row_at table k) n x (least_rows table n x needs limits k) refl in
          let l = rows_small k in
          omega arith

  -- what is promised: all rows with all rows
  pub all_least : (i : ℕ) {best : ℕ} → n ≡ row_count table → i ≤ n → n ≤ i → best ≡ least_rows table n x needs limits i
      → best ≡ least_step table x needs limits
  unfolding least_step table_rows
  all_least i rows most least' h =
      h ∙ ap (least_rows table n x needs limits) (le_antisymm most least') ∙ rows_least n
      ∙ sym (least_below_lem (λ p. least (step_from needs limits x p) 134217728 (map (row_at table) (numbers n))) 134217728 (row_at table) n)
      ∙ ap (λ (k : ℕ). least (λ p. least (step_from needs limits x p) 134217728 (map (row_at table) (numbers k))) 134217728
      (map (row_at table) (numbers k))) rows

-- the first word of a row is its node
pub other_first : (table : List ℕ) (i x : ℕ) {y : ℕ} → y ≡ get_or table (i * 8) 0 → (y ≡ x → ⊥) → (row_at table i).node ≡ x → ⊥
unfolding row_at
other_first table i x e h same = h (e ∙ same)
