-- The least step is that of two rows, and no two rows have a lesser one that counts.
use Rattle.std.specs.Prelude.{◌≡◌, refl, Bool, true, false, cond, ◌⊎◌, eqb, ltb, leb, get_or}
use Rattle.std.proofs.Common.{ap, ap₂, ◌∙◌, inl, inr, arith, eqb-true, eq-eqb, ltb-true, lt-ltb, leb-true, le-leb, leb-false}
use mathlib.Core.List.{List, [], ◌∷◌, Memᴰ}
use Prim.Native.Nat.{ℕ, ◌≤◌, ◌<◌, min}
use Rattle.law_base.specs.BoolLaws.{decide, and_true, and_of}
use Rattle.spec_graph.specs.Graph.{Flow}
use Rattle.spec_graph.specs.Edge.{loosens}
use Rattle.place_row.specs.declared.Row.{Row}
use Rattle.place_row.specs.RowTable.{row_stands, table_rows}
use Rattle.step_word.specs.StepWord.{step_word}
use Rattle.walk_step.specs.LeastStep.{opens_to, forward_counts, back_counts, flow_counts, Counts, flow_step, counted_step, has_word, pair_step}
use Rattle.walk_step.specs.LeastStep.{leaves_from, step_from, least, least_step}

-- ---- the least

-- a least number below the most is some element's
least_some : {A : Type 0} (f : A → ℕ) (most : ℕ) (l : List A) → least f most l < most → (x : A) × Memᴰ x l × (least f most l ≡ f x)
unfolding least
least_some f most [] h = absurd (omega arith)
least_some {A} f most (x ∷ l) h = go (decide (leb (f x) (least f most l))) (least_some f most l)
  where
    go : (leb (f x) (least f most l) ≡ true) ⊎ (leb (f x) (least f most l) ≡ false)
        → (least f most l < most → (y : A) × Memᴰ y l × (least f most l ≡ f y))
        → (y : A) × Memᴰ y (x ∷ l) × (min (f x) (least f most l) ≡ f y)
    go (inl e) rest = let le = leb-true (f x) (least f most l) e in (x, Memᴰ.head refl, omega arith)
    go (inr e) rest =
        let lt = leb-false (f x) (least f most l) e in
        let (y, m, q) = rest (omega arith) in
        (y, Memᴰ.tail m, omega arith)

-- and no element has a lesser one
least_most : {A : Type 0} {x : A} (f : A → ℕ) (most : ℕ) {l : List A} → Memᴰ x l → least f most l ≤ f x
unfolding least
least_most {x = x} f most (Memᴰ.head {x = y} {xs = xs} e) = let h = ap f e in omega arith
least_most {x = x} f most (Memᴰ.tail {x = y} {xs = xs} m) = let h = least_most f most m in omega arith

-- ---- steps between rows

-- a test that counts is passed where the edge stands and the numbers count
flow_counts_lem : (need limit : ℕ) (flow : Flow) (p q : Row) → flow_counts need limit flow p q ≡ true
    → (row_stands flow p q ≡ true) × Counts need limit flow (loosens p.kind) p.place q.place
unfolding forward_counts back_counts opens_to
flow_counts_lem need limit Flow.forward p q h = let b = and_true _ _ h in (b.1, leb-true need _ b.0)
flow_counts_lem need limit Flow.back p q h = let b = and_true _ _ h in (b.1, ltb-true p.place limit b.0)

counts_flow : (need limit : ℕ) (flow : Flow) (p q : Row) → row_stands flow p q ≡ true
    → Counts need limit flow (loosens p.kind) p.place q.place → flow_counts need limit flow p q ≡ true
unfolding forward_counts back_counts opens_to
counts_flow need limit Flow.forward p q s c = and_of (le-leb need _ c) s
counts_flow need limit Flow.back p q s c = and_of (lt-ltb p.place limit c) s

-- what counts does so by any other names
pub counts_same : (flow : Flow) {need limit i j need' limit' i' j' : ℕ} {loose loose' : Bool}
    → need ≡ need' → limit ≡ limit' → loose ≡ loose' → i ≡ i' → j ≡ j' → Counts need limit flow loose i j → Counts need' limit' flow loose' i' j'
counts_same Flow.forward n l b e f c = let d = ap₂ (λ (x : Bool) (y : ℕ). cond x 1024 y) b f in omega arith
counts_same Flow.back n l b e f c = omega arith

-- a step that counts from a row of node x, with this word
pub record RowStep (rows : List Row) (x : ℕ) (needs limits : List ℕ) (word : ℕ) : Type 0 where
  pub p : Row
  pub q : Row
  pub flow : Flow
  pub left : Memᴰ p rows
  pub right : Memᴰ q rows
  pub leaves : p.node ≡ x
  pub leaves_small : p.place < 1024
  pub enters_small : q.place < 1024
  pub into_small : q.node < 64
  pub stands : row_stands flow p q ≡ true
  pub counts : Counts (get_or needs q.node 0) (get_or limits q.node 0) flow (loosens p.kind) p.place q.place
  pub same : word ≡ step_word p.place q.place flow q.node

-- a word that is that of a flow's step, or of none
flow_word_lem : (need limit : ℕ) (flow : Flow) (p q : Row) → flow_step need limit flow p q < 134217728
    → (flow_counts need limit flow p q ≡ true) × (flow_step need limit flow p q ≡ step_word p.place q.place flow q.node)
unfolding flow_step
flow_word_lem need limit flow p q h = go (flow_counts need limit flow p q) h
  where
    go : (b : Bool) → cond b (step_word p.place q.place flow q.node) 134217728 < 134217728
        → (b ≡ true) × (cond b (step_word p.place q.place flow q.node) 134217728 ≡ step_word p.place q.place flow q.node)
    go true l = (refl, refl)
    go false l = absurd (omega arith)

counted_word : (need limit : ℕ) (p q : Row) → counted_step need limit p q < 134217728
    → (flow : Flow) × (flow_counts need limit flow p q ≡ true) × (counted_step need limit p q ≡ step_word p.place q.place flow q.node)
unfolding counted_step
counted_word need limit p q h = go (decide (leb f b))
  where
    f : ℕ
    f = flow_step need limit Flow.forward p q

    b : ℕ
    b = flow_step need limit Flow.back p q

    go : (leb f b ≡ true) ⊎ (leb f b ≡ false)
        → (flow : Flow) × (flow_counts need limit flow p q ≡ true) × (min f b ≡ step_word p.place q.place flow q.node)
    go (inl e) =
        let l = leb-true f b e in
        let w = flow_word_lem need limit Flow.forward p q (omega arith) in
        (Flow.forward, w.0, omega (arith, w.1))
    go (inr e) =
        let l = leb-false f b e in
        let w = flow_word_lem need limit Flow.back p q (omega arith) in
        (Flow.back, w.0, omega (arith, w.1))

module _ (x : ℕ) (needs limits : List ℕ) where
  -- what two rows give
  pair_word : (rows : List Row) (p q : Row) (word : ℕ) → Memᴰ p rows → Memᴰ q rows → word ≡ step_from needs limits x p q → word < 134217728
      → RowStep rows x needs limits word
  unfolding step_from pair_step leaves_from has_word
  pair_word rows p q word m n e h = go (decide (leaves_from x p)) (decide (has_word q))
    where
      counted : ℕ
      counted = counted_step (get_or needs q.node 0) (get_or limits q.node 0) p q

      go : (leaves_from x p ≡ true) ⊎ (leaves_from x p ≡ false) → (has_word q ≡ true) ⊎ (has_word q ≡ false) → RowStep rows x needs limits word
      go (inr a) b = let d = e ∙ ap (λ (t : Bool). cond t (pair_step needs limits p q) 134217728) a in absurd (omega arith)
      go (inl a) (inr b) =
          let d = e ∙ ap (λ (t : Bool). cond t (pair_step needs limits p q) 134217728) a ∙ ap (λ (t : Bool). cond t counted 134217728) b in
          absurd (omega arith)
      go (inl a) (inl b) =
          let d : word ≡ counted
          = e ∙ ap (λ (t : Bool). cond t (pair_step needs limits p q) 134217728) a ∙ ap (λ (t : Bool). cond t counted 134217728) b in
          let w = counted_word (get_or needs q.node 0) (get_or limits q.node 0) p q (omega arith) in
          let c = flow_counts_lem (get_or needs q.node 0) (get_or limits q.node 0) w.0 p q w.1 in
          let l = and_true (eqb p.node x) (ltb p.place 1024) a in
          let r = and_true (ltb q.node 64) (ltb q.place 1024) b in
          record {
            p = p;
            q = q;
            flow = w.0;
            left = m;
            right = n;
            leaves = eqb-true p.node x l.0;
            leaves_small = ltb-true p.place 1024 l.1;
            enters_small = ltb-true q.place 1024 r.1;
            into_small = ltb-true q.node 64 r.0;
            stands = c.0;
            counts = c.1;
            same = d ∙ w.2;
          }

  module _ (table : List ℕ) where
    -- a least word below that of no step is that of a step
    pub least_found : least_step table x needs limits < 134217728 → RowStep (table_rows table) x needs limits (least_step table x needs limits)
    unfolding least_step
    least_found h =
        let rows = table_rows table in
        let outer = least_some (λ p. least (step_from needs limits x p) 134217728 rows) 134217728 rows h in
        let e = outer.2 in
        let inner = least_some (step_from needs limits x outer.0) 134217728 rows (omega arith) in
        pair_word rows outer.0 inner.0 (least_step table x needs limits) outer.1 inner.1 (e ∙ inner.2) h

    -- no step that counts has a lesser word
    pub least_least : {word : ℕ} → RowStep (table_rows table) x needs limits word → least_step table x needs limits ≤ word
    unfolding least_step step_from pair_step counted_step flow_step leaves_from has_word
    least_least {word} s = rw s.same (omega (arith, outer, inner, pair))
      where
        rows : List Row
        rows = table_rows table

        word' : ℕ
        word' = step_word s.p.place s.q.place s.flow s.q.node

        outer : least_step table x needs limits ≤ least (step_from needs limits x s.p) 134217728 rows
        outer = least_most (λ p. least (step_from needs limits x p) 134217728 rows) 134217728 s.left

        inner : least (step_from needs limits x s.p) 134217728 rows ≤ step_from needs limits x s.p s.q
        inner = least_most (step_from needs limits x s.p) 134217728 s.right

        flows : (flow : Flow) → flow_counts (get_or needs s.q.node 0) (get_or limits s.q.node 0) flow s.p s.q ≡ true
            → counted_step (get_or needs s.q.node 0) (get_or limits s.q.node 0) s.p s.q
            ≤ step_word s.p.place s.q.place flow s.q.node
        flows Flow.forward t = rw t (omega arith)
        flows Flow.back t = rw t (omega arith)

        pair : step_from needs limits x s.p s.q ≤ word'
        pair =
            rw (
              and_of (eq-eqb s.p.node x s.leaves) (lt-ltb s.p.place 1024 s.leaves_small),
              and_of (lt-ltb s.q.node 64 s.into_small) (lt-ltb s.q.place 1024 s.enters_small),
            ) (flows s.flow
            (counts_flow (get_or needs s.q.node 0) (get_or limits s.q.node 0) s.flow s.p s.q s.stands s.counts))
