-- The tables picked from the rows of nodes stand for all edges of their summary graph.
use Rattle.std.specs.Prelude.{◌≡◌, refl, Bool, true, false, ◌&&◌, ◌⊎◌, eqb, ltb, leb, length}
use Rattle.std.proofs.Math.Path.{sym, ap, ap₂}
use Rattle.std.proofs.Common.{◌∙◌}
use Rattle.std.proofs.Math.Bool.{cond}
use Rattle.std.proofs.Math.Logic.{inl, inr}
use mathlib.Core.List.Memᴰ
use mathlib.Core.List.{List, [], ◌∷◌, Memᴰ}
use Prim.Native.Nat.{ℕ, ◌+◌, ◌*◌, ◌/◌, ◌%◌, ◌≤◌, ◌<◌, max}
use native.Mathlib.Omega.{arith}
use Rattle.std.proofs.Math.ListN.{get_or-eq_default}
use borrow.Author.Tests.{eqb-true, eq-eqb, lt-ltb, ltb-true, ltb-false, leb-true, leb-false}
use Rattle.law_base.specs.BoolLaws.{decide, and_true, and_of}
use Rattle.law_base.specs.ListLaws.{map_member}
use Rattle.spec_text.specs.declared.Line.{Line}
use Rattle.spec_graph.specs.Graph.{Flow, Graph}
use Rattle.spec_graph.specs.Unfolding.{Node}
use Rattle.spec_graph.specs.Edge.{Place, at, loosens, forward, back, stands, both_pass, loosens_at, places_of, place_at, graph_of}
use Rattle.law_walk.specs.Reach.{regular, both_pass_lem}
use Rattle.spec_report.specs.State.{statements_in}
use Rattle.node_laws.specs.GivenNodes.{LawfulNode}
use Rattle.place_row.specs.declared.Row.{Row}
use Rattle.place_row.specs.RowTable.{row_of, rows_of, row_stands}
use Rattle.place_row.specs.RowTableLaws.{place_lawful, place_keys_lem}
use Rattle.place_row.proofs.EdgeRows.{forward_rows, back_rows}
use Rattle.edge_word.specs.Coding.{forward_word, back_word, entry}
use Rattle.edge_word.specs.Greatest.{GreatestWords, Small}
use Rattle.walk_pick.specs.Picks.{row_forward_word, row_back_word, greatest, stands_in, word_for, between, words_between}
use Rattle.walk_pick.specs.PickStepLaws.{words_entry, words_length}
use Rattle.verdict_laws.specs.Places.{place_found, found_place, places_few}

-- ---- the greatest

-- the greatest number is 0 or some element's
greatest_some : {A : Type 0} (f : A → ℕ) (l : List A) → (greatest f l ≡ 0) ⊎ ((x : A) × Memᴰ x l × (greatest f l ≡ f x))
unfolding greatest
greatest_some f [] = inl refl
greatest_some {A} f (x ∷ l) = go (greatest_some f l) (decide (leb (greatest f l) (f x)))
  where
    go : (greatest f l ≡ 0) ⊎ ((y : A) × Memᴰ y l × (greatest f l ≡ f y))
        → (leb (greatest f l) (f x) ≡ true) ⊎ (leb (greatest f l) (f x) ≡ false)
        → (max (f x) (greatest f l) ≡ 0) ⊎ ((y : A) × Memᴰ y (x ∷ l) × (max (f x) (greatest f l) ≡ f y))
    go rest (inl e) = let h = leb-true (greatest f l) (f x) e in inr (x, Memᴰ.head refl, omega arith)
    go (inl z) (inr e) = let h = leb-false (greatest f l) (f x) e in absurd (omega arith)
    go (inr (y, m, q)) (inr e) = let h = leb-false (greatest f l) (f x) e in inr (y, Memᴰ.tail m, omega arith)

-- and no element has a greater one
greatest_most : {A : Type 0} (f : A → ℕ) {x : A} {l : List A} → Memᴰ x l → f x ≤ greatest f l
unfolding greatest
greatest_most f {x = x} (Memᴰ.head {x = y} {xs = xs} e) = let h = ap f e in omega arith
greatest_most f {x = x} (Memᴰ.tail {x = y} {xs = xs} m) = let h = greatest_most f m in omega arith

-- ---- words between rows of places

module _ (test : Row → Row → Bool) (code : Row → Row → ℕ) where
  abbrev word : Row → Row → ℕ
  word p q = cond (test p q) (code p q) 0

  -- two rows of the nodes u and v between which the word stands
  record From (rows : List Row) (u v x : ℕ) : Type 0 where
    pub p : Row
    pub q : Row
    pub left : Memᴰ p rows
    pub right : Memᴰ q rows
    pub leaves : p.node ≡ u
    pub enters : q.node ≡ v
    pub passes : test p q ≡ true
    pub same : x ≡ code p q

  -- a word that is not 0 is the word between two rows
  word_from : (rows : List Row) (u v x : ℕ) (p q : Row) → Memᴰ p rows → Memᴰ q rows → x ≡ word_for word u v p q → (x ≡ 0) ⊎ From rows u v x
  unfolding word_for stands_in
  word_from rows u v x p q m n e = go (decide (stands_in u p && stands_in v q)) (decide (test p q))
    where
      go : (stands_in u p && stands_in v q ≡ true) ⊎ (stands_in u p && stands_in v q ≡ false) → (test p q ≡ true) ⊎ (test p q ≡ false)
          → (x ≡ 0) ⊎ From rows u v x
      go (inr d) t = inl (e ∙ ap (λ (b : Bool). cond b (word p q) 0) d)
      go (inl d) (inr t) = inl (e ∙ ap (λ (b : Bool). cond b (word p q) 0) d ∙ ap (λ (b : Bool). cond b (code p q) 0) t)
      go (inl d) (inl t) =
          let both = and_true (stands_in u p) (stands_in v q) d in
          inr (record {
            p = p;
            q = q;
            left = m;
            right = n;
            leaves = eqb-true p.node u (and_true (eqb p.node u) (ltb p.place 1024) both.0).0;
            enters = eqb-true q.node v (and_true (eqb q.node v) (ltb q.place 1024) both.1).0;
            passes = t;
            same = e ∙ ap (λ (b : Bool). cond b (word p q) 0) d ∙ ap (λ (b : Bool). cond b (code p q) 0) t;
          })

  between_from : (rows : List Row) (u v : ℕ) → (between word rows u v ≡ 0) ⊎ From rows u v (between word rows u v)
  unfolding between
  between_from rows u v = outer (greatest_some (λ p. greatest (word_for word u v p) rows) rows)
    where
      x : ℕ
      x = greatest (λ p. greatest (word_for word u v p) rows) rows

      inner : (p : Row) → Memᴰ p rows → x ≡ greatest (word_for word u v p) rows
          → (greatest (word_for word u v p) rows ≡ 0)
          ⊎ ((q : Row) × Memᴰ q rows × (greatest (word_for word u v p) rows ≡ word_for word u v p q))
          → (x ≡ 0) ⊎ From rows u v x
      inner p m e (inl z) = inl (e ∙ z)
      inner p m e (inr (q, n, d)) = word_from rows u v x p q m n (e ∙ d)

      outer : (x ≡ 0) ⊎ ((p : Row) × Memᴰ p rows × (x ≡ greatest (word_for word u v p) rows)) → (x ≡ 0) ⊎ From rows u v x
      outer (inl z) = inl z
      outer (inr (p, m, e)) = inner p m e (greatest_some (word_for word u v p) rows)

  -- no two rows have a greater word
  between_most : (rows : List Row) (p q : Row) → Memᴰ p rows → Memᴰ q rows → test p q ≡ true → p.place < 1024 → q.place < 1024
      → code p q ≤ between word rows p.node q.node
  unfolding between word_for stands_in
  between_most rows p q m n t i j =
      let here : word_for word p.node q.node p q ≡ code p q
      = ap (λ (b : Bool). cond b (word p q) 0)
      (and_of (and_of (eq-eqb p.node p.node refl) (lt-ltb p.place 1024 i))
      (and_of (eq-eqb q.node q.node refl) (lt-ltb q.place 1024 j)))
      ∙ ap (λ (b : Bool). cond b (code p q) 0) t in
      let inner = greatest_most (word_for word p.node q.node p) n in
      let outer = greatest_most (λ r. greatest (word_for word p.node q.node r) rows) m in
      omega arith

-- the entry for two nodes
entry_between : (word : Row → Row → ℕ) (limit : ℕ) (rows : List Row) (u v : ℕ) → u < limit → v < 64
    → entry (words_between word limit rows) u v ≡ between word rows u v
entry_between word limit rows u v h k =
    let left : (u * 64 + v) / 64 ≡ u = omega arith in
    let right : (u * 64 + v) % 64 ≡ v = omega arith in
    words_entry word limit rows (u * 64 + v) (omega arith) ∙ ap₂ (between word rows) left right

-- there is none past the nodes of the table
entry_past : (word : Row → Row → ℕ) (limit : ℕ) (rows : List Row) (u v : ℕ) → limit ≤ u → entry (words_between word limit rows) u v ≡ 0
entry_past word limit rows u v h =
    let size = words_length word limit rows in
    get_or-eq_default (words_between word limit rows) 0 (omega arith)

-- ---- the summary graph

module _ (nodes : List Node) where
  -- two places between which an edge stands
  pub record Ends (flow : Flow) (u i v j : ℕ) : Type 0 where
    pub s : Place
    pub t : Place
    pub left : Memᴰ s (places_of 0 nodes)
    pub right : Memᴰ t (places_of 0 nodes)
    pub leaves : s.number ≡ u
    pub leaves_at : s.place ≡ i
    pub enters : t.number ≡ v
    pub enters_at : t.place ≡ j
    pub edge : stands flow s t ≡ true

  pub edge_ends : (flow : Flow) (u i v j : ℕ) → (graph_of nodes).edge u i v j flow ≡ true → Ends flow u i v j
  unfolding graph_of
  edge_ends flow u i v j h =
      let b = both_pass_lem (stands flow) (place_at nodes u i) (place_at nodes v j) h in
      let l = found_place nodes u i b.2 in
      let r = found_place nodes v j b.3 in
      record {
        s = b.0;
        t = b.1;
        left = l.0;
        right = r.0;
        leaves = l.1;
        leaves_at = l.2;
        enters = r.1;
        enters_at = r.2;
        edge = sym (ap₂ (both_pass (stands flow)) b.2 b.3) ∙ h;
      }

  -- an edge leaves one of the nodes
  edge_inside : (flow : Flow) (u i v j : ℕ) → (graph_of nodes).edge u i v j flow ≡ true → u < length nodes
  unfolding graph_of
  edge_inside flow u i v j h = ((regular nodes).in_nodes u i v j flow h).0

  -- an edge between listed places is an edge of the graph
  pub ends_edge : (flow : Flow) (s t : Place) → Memᴰ s (places_of 0 nodes) → Memᴰ t (places_of 0 nodes)
      → (graph_of nodes).edge s.number s.place t.number t.place flow ≡ stands flow s t
  unfolding graph_of
  ends_edge flow s t l r = ap₂ (both_pass (stands flow)) (place_found nodes s l) (place_found nodes t r)

  pub place_loose : (s : Place) → Memᴰ s (places_of 0 nodes) → (graph_of nodes).loose s.number s.place ≡ loosens (at s).kind
  unfolding graph_of
  place_loose s l = ap loosens_at (place_found nodes s l)

  -- an edge leaves a loose place where its statement is loose
  pub ends_loose : (flow : Flow) (u i v j : ℕ) (e : Ends flow u i v j) → (graph_of nodes).loose u i ≡ loosens (at e.s).kind
  ends_loose flow u i v j e = sym (ap₂ (graph_of nodes).loose e.leaves e.leaves_at) ∙ place_loose e.s e.left

  module _ (few : length nodes ≤ 64) (statements : statements_in nodes ≤ 512) where
    -- at most 64 nodes with 512 statements
    pub small_graph : Small (graph_of nodes)
    unfolding graph_of
    small_graph m i n j flow h =
        let inside = (regular nodes).in_nodes m i n j flow h in
        let p = places_few nodes m in
        let q = places_few nodes n in
        (omega (arith, inside.0), omega (arith, inside.1), omega (arith, inside.2), omega (arith, inside.3))

    module _ (lines : List Line) (lawful : (n : Node) → Memᴰ n nodes → LawfulNode lines n) where
      -- E1, E2: the edges of a flow between rows are those between their places
      pub stands_rows : (flow : Flow) (s t : Place) → Memᴰ s (places_of 0 nodes) → Memᴰ t (places_of 0 nodes)
          → stands flow s t ≡ row_stands flow (row_of s) (row_of t)
      stands_rows Flow.forward s t l r = forward_rows lines s t (place_lawful lines nodes lawful l) (place_lawful lines nodes lawful r)
      stands_rows Flow.back s t l r =
          back_rows lines s t (place_lawful lines nodes lawful l) (place_lawful lines nodes lawful r) (place_keys_lem lines nodes lawful l)

      -- the word of an edge, by its places
      module _ (flow : Flow) (code : Row → Row → ℕ) where
        abbrev flow_word : Row → Row → ℕ
        flow_word p q = cond (row_stands flow p q) (code p q) 0

        -- each entry is 0 or the word of an edge
        entry_from : (u v : ℕ) → u < 64 → v < 64
            → (entry (words_between flow_word (length nodes) (rows_of nodes)) u v ≡ 0)
            ⊎ ((s : Place) × (t : Place) × (s.number ≡ u) × (t.number ≡ v) × Memᴰ s (places_of 0 nodes)
            × ((graph_of nodes).edge s.number s.place t.number t.place flow ≡ true)
            × (entry (words_between flow_word (length nodes) (rows_of nodes)) u v ≡ code (row_of s) (row_of t)))
        unfolding rows_of row_of
        entry_from u v h k = go (decide (ltb u (length nodes))) (between_from (row_stands flow) code (rows_of nodes) u v)
          where
            go : (ltb u (length nodes) ≡ true) ⊎ (ltb u (length nodes) ≡ false)
                → (between flow_word (rows_of nodes) u v ≡ 0)
                ⊎ From (row_stands flow) code (rows_of nodes) u v (between flow_word (rows_of nodes) u v)
                → (entry (words_between flow_word (length nodes) (rows_of nodes)) u v ≡ 0)
                ⊎ ((s : Place) × (t : Place) × (s.number ≡ u) × (t.number ≡ v) × Memᴰ s (places_of 0 nodes)
                × ((graph_of nodes).edge s.number s.place t.number t.place flow ≡ true)
                × (entry (words_between flow_word (length nodes) (rows_of nodes)) u v ≡ code (row_of s) (row_of t)))
            go (inr past) some = inl (entry_past flow_word (length nodes) (rows_of nodes) u v (ltb-false u (length nodes) past))
            go (inl low) (inl z) =
                inl (entry_between flow_word (length nodes) (rows_of nodes) u v (ltb-true u (length nodes) low) k ∙ z)
            go (inl low) (inr f) =
                let here = entry_between flow_word (length nodes) (rows_of nodes) u v (ltb-true u (length nodes) low) k in
                let a = map_member row_of (places_of 0 nodes) f.left in
                let b = map_member row_of (places_of 0 nodes) f.right in
                inr (
                  a.0,
                  b.0,
                  ap (λ (p : Row). p.node) a.2 ∙ f.leaves,
                  ap (λ (p : Row). p.node) b.2 ∙ f.enters,
                  a.1,
                  ends_edge flow a.0 b.0 a.1 b.1 ∙ stands_rows flow a.0 b.0 a.1 b.1
                      ∙ ap₂ (row_stands flow) a.2 b.2 ∙ f.passes,
                  here ∙ f.same ∙ sym (ap₂ code a.2 b.2),
                )

        -- no edge has a greater word
        entry_most : (u i v j : ℕ) → (graph_of nodes).edge u i v j flow ≡ true
            → (s : Place) × (t : Place) × (s.number ≡ u) × (s.place ≡ i) × (t.place ≡ j) × Memᴰ s (places_of 0 nodes)
            × (code (row_of s) (row_of t) ≤ entry (words_between flow_word (length nodes) (rows_of nodes)) u v)
        unfolding rows_of row_of
        entry_most u i v j h =
            let e = edge_ends flow u i v j h in
            let small = small_graph u i v j flow h in
            let most = between_most (row_stands flow) code (rows_of nodes) (row_of e.s) (row_of e.t)
            (Memᴰ.map row_of e.left) (Memᴰ.map row_of e.right) (sym (stands_rows flow e.s e.t e.left e.right) ∙ e.edge)
            (let q = e.leaves_at in omega (arith, small.2)) (let q = e.enters_at in omega (arith, small.3)) in
            let there : between flow_word (rows_of nodes) e.s.number e.t.number
            ≡ entry (words_between flow_word (length nodes) (rows_of nodes)) u v
            = ap₂ (between flow_word (rows_of nodes)) e.leaves e.enters
            ∙ sym (entry_between flow_word (length nodes) (rows_of nodes) u v (edge_inside flow u i v j h) small.1) in
            (e.s, e.t, e.leaves, e.leaves_at, e.enters_at, e.left, rw there at most)

      -- the tables picked from the rows of the nodes stand for all edges
      pub rows_greatest : GreatestWords (graph_of nodes)
          (words_between row_forward_word (length nodes) (rows_of nodes)) (words_between row_back_word (length nodes) (rows_of nodes))
      unfolding row_forward_word row_back_word row_of
      rows_greatest = record { forward_from = a_from; forward_most = a_most; back_from = b_from; back_most = b_most }
        where
          forwards : List ℕ
          forwards = words_between row_forward_word (length nodes) (rows_of nodes)

          backs : List ℕ
          backs = words_between row_back_word (length nodes) (rows_of nodes)

          forward_code : Row → Row → ℕ
          forward_code p q = forward_word (loosens p.kind) p.place q.place

          back_code : Row → Row → ℕ
          back_code p q = back_word p.place q.place

          g : Graph
          g = graph_of nodes

          a_from : (u v : ℕ) → u < 64 → v < 64 → (entry forwards u v ≡ 0)
              ⊎ ((i : ℕ) × (j : ℕ) × (g.edge u i v j Flow.forward ≡ true) × (entry forwards u v ≡ forward_word (g.loose u i) i j))
          a_from u v h k = go (entry_from Flow.forward forward_code u v h k)
            where
              go : (entry forwards u v ≡ 0)
                  ⊎ ((s : Place) × (t : Place) × (s.number ≡ u) × (t.number ≡ v) × Memᴰ s (places_of 0 nodes)
                  × (g.edge s.number s.place t.number t.place Flow.forward ≡ true)
                  × (entry forwards u v ≡ forward_code (row_of s) (row_of t)))
                  → (entry forwards u v ≡ 0)
                  ⊎ ((i : ℕ) × (j : ℕ) × (g.edge u i v j Flow.forward ≡ true) × (entry forwards u v ≡ forward_word (g.loose u i) i j))
              go (inl z) = inl z
              go (inr (s, t, l, r, m, e, same)) =
                  inr (
                    s.place,
                    t.place,
                    sym (ap₂ (λ (a b : ℕ). g.edge a s.place b t.place Flow.forward) l r) ∙ e,
                    same ∙ ap (λ (b : Bool). forward_word b s.place t.place) (sym (place_loose s m) ∙ ap (λ (a : ℕ). g.loose a s.place) l),
                  )

          a_most : (u i v j : ℕ) → g.edge u i v j Flow.forward ≡ true → forward_word (g.loose u i) i j ≤ entry forwards u v
          a_most u i v j h =
              let e = entry_most Flow.forward forward_code u i v j h in
              let loose : loosens (at e.0).kind ≡ g.loose u i = sym (place_loose e.0 e.5) ∙ ap₂ g.loose e.2 e.3 in
              let same : forward_code (row_of e.0) (row_of e.1) ≡ forward_word (g.loose u i) i j
              = ap (λ (b : Bool). forward_word b e.0.place e.1.place) loose ∙ ap₂ (forward_word (g.loose u i)) e.3 e.4 in
              rw same at e.6

          b_from : (v w : ℕ) → v < 64 → w < 64 → (entry backs v w ≡ 0)
              ⊎ ((k : ℕ) × (l : ℕ) × (g.edge v k w l Flow.back ≡ true) × (entry backs v w ≡ back_word k l))
          b_from v w h k = go (entry_from Flow.back back_code v w h k)
            where
              go : (entry backs v w ≡ 0)
                  ⊎ ((s : Place) × (t : Place) × (s.number ≡ v) × (t.number ≡ w) × Memᴰ s (places_of 0 nodes)
                  × (g.edge s.number s.place t.number t.place Flow.back ≡ true) × (entry backs v w ≡ back_code (row_of s) (row_of t)))
                  → (entry backs v w ≡ 0)
                  ⊎ ((k : ℕ) × (l : ℕ) × (g.edge v k w l Flow.back ≡ true) × (entry backs v w ≡ back_word k l))
              go (inl z) = inl z
              go (inr (s, t, l, r, m, e, same)) =
                  inr (s.place, t.place, sym (ap₂ (λ (a b : ℕ). g.edge a s.place b t.place Flow.back) l r) ∙ e, same)

          b_most : (v k w l : ℕ) → g.edge v k w l Flow.back ≡ true → back_word k l ≤ entry backs v w
          b_most v k w l h =
              let e = entry_most Flow.back back_code v k w l h in
              let same : back_code (row_of e.0) (row_of e.1) ≡ back_word k l = ap₂ back_word e.3 e.4 in
              rw same at e.6
