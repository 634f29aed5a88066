-- A part of a graph on any choice of its nodes: its walks, its closed walks and its dangerous walks are exactly those of the whole that stay in the
-- chosen nodes, renumbered in order, and its first dangerous walk is the first of those. So part of a graph without dangerous walks has none.
use Rattle.std.specs.Prelude.{Bool, ◌&&◌, ◌⊎◌, ◌↔◌, ◌≡◌, ℕ, ◌≤◌, ◌<◌, eqb, ltb}
use Rattle.std.proofs.Math.Bool.{true}
use mathlib.Core.List.{List, [], ◌∷◌, flat_map, Memᴰ}
use Rattle.std.proofs.Common.{inl, inr, ◌∙◌, arith, ltb-true, lt-ltb, eqb-true, eq-eqb}
use Rattle.std.proofs.Math.Path.{refl, sym, ap, ap₂}
use Rattle.std.proofs.Math.Decide.{dec_lt}
use Rattle.std.proofs.Math.ListN.{length-map}
use Rattle.spec_base.specs.Basic.{all, pairs_to, around}
use Rattle.law_base.specs.BoolLaws.{same_test, and_true}
use Rattle.law_base.specs.ListLaws.{all_true, all_of, all_same, all_map, map_member, pairs_to_member, pairs_to_next}
use Rattle.spec_graph.specs.Graph.{Flow, Graph}
use Rattle.spec_graph.specs.Walk.{Step, is_edge, is_dangerous, DangerousWalk, step_numbers, smaller, comes_before, FirstWalk}
use Rattle.law_walk.specs.AllNodes.{walk_nodes}
use Rattle.law_walk.specs.Before.{walk_numbers}
use Rattle.law_walk.specs.ClosedWalks.{pairs_to_map}
use Rattle.law_walk.specs.Parts.{renumber, renumbered, Embedding, Below, Stays, embedding_keeps, none_carried, only, only_walks}
use Rattle.law_walk.specs.Parts.{steps_back, edges_same, edges_below_lem, walk_same, walk_below, part_walks, walk_back, renumbered_apart}
use Rattle.law_walk.specs.Reach.{Regular}

-- ---- the part and what it has of the whole

-- g is the part of h on the chosen nodes, in order: f gives the number in h of each node of g
pub record PartOf (g h : Graph) (chosen : ℕ → Bool) (f : ℕ → ℕ) : Type 0 where
  -- the same edges with their flows between these nodes, and the same loose places
  pub embedded : Embedding g h f
  -- as many places
  pub same_places : (m : ℕ) → m < g.size → h.places (f m) ≡ g.places m
  -- the nodes in their order
  pub rising : (m n : ℕ) → m < n → n < g.size → f m < f n
  -- chosen nodes and no others
  pub chosen_only : (m : ℕ) → m < g.size → (f m < h.size) × (chosen (f m) ≡ true)
  -- and each of them
  pub chosen_all : (n : ℕ) → n < h.size → chosen n ≡ true → (m : ℕ) × (m < g.size) × (f m ≡ n)

-- a walk: each step is an edge into the node of the next, and the last into the node of `end`
abbrev pub is_walk : Graph → Step → List Step → Bool
is_walk g end walk = all (is_edge g) (pairs_to end walk)

-- a closed walk: the last step is an edge into the node of the first
abbrev pub is_closed_walk : Graph → List Step → Bool
is_closed_walk g walk = all (is_edge g) (around walk)

-- each node of the walk is a node of the graph, and chosen
abbrev pub StaysIn : Graph → (ℕ → Bool) → List Step → Type 0
StaysIn h chosen walk = (s : Step) → Memᴰ s walk → (s.node < h.size) × (chosen s.node ≡ true)

module _ {g h : Graph} {chosen : ℕ → Bool} {f : ℕ → ℕ} (part : PartOf g h chosen f) where
  -- ---- edges of the part, in the whole

  -- the edges of the part are those of the whole between its nodes
  pub part_edges : (m i n j : ℕ) (flow : Flow)
      → (g.edge m i n j flow ≡ true) ↔ ((m < g.size) × (n < g.size) × (h.edge (f m) i (f n) j flow ≡ true))
  part_edges m i n j flow = (
    λ e. let b = part.embedded.in_nodes m i n j flow e in (b.0, b.1, part.embedded.same_edges m i n j flow b.0 b.1 ∙ e),
    λ t. sym (part.embedded.same_edges m i n j flow t.0 t.1) ∙ t.2,
  )

  -- and each edge of the whole between chosen nodes is one of them
  pub edge_back : (m i n j : ℕ) (flow : Flow) → m < h.size → chosen m ≡ true → n < h.size → chosen n ≡ true → h.edge m i n j flow ≡ true
      → (k : ℕ) × (l : ℕ) × (f k ≡ m) × (f l ≡ n) × (g.edge k i l j flow ≡ true)
  edge_back m i n j flow hm cm hn cn e =
      let a = part.chosen_all m hm cm in
      let b = part.chosen_all n hn cn in
      (a.0, b.0, a.2, b.2, (part_edges a.0 i b.0 j flow).1 (a.1, b.1, rw (a.2, b.2) e))

  -- ---- walks of the part, in the whole

  -- a walk of the whole that stays in the chosen nodes is over nodes that f gives
  stays : (walk : List Step) → StaysIn h chosen walk → Stays g.size f walk
  stays walk inside s m = let b = inside s m in part.chosen_all s.node b.0 b.1

  -- and a walk over the part's nodes, renumbered, stays in the chosen nodes
  pub renumbered_stays : (walk : List Step) → Below g.size walk → StaysIn h chosen (renumbered f walk)
  unfolding renumber
  renumbered_stays walk below s m =
      let t = map_member (renumber f) walk m in
      let b = part.chosen_only t.0.node (below t.0 t.1) in
      rw (ap (λ (x : Step). x.node) t.2) at b

  -- two nodes of the part are two in the whole
  nodes_apart : (m n : ℕ) → m < g.size → n < g.size → f m ≡ f n → m ≡ n
  nodes_apart m n hm hn e = go (dec_lt m n) (dec_lt n m)
    where
      go : Dec (m < n) → Dec (n < m) → m ≡ n
      go (yes l) d = let r = part.rising m n l hn in absurd (omega arith)
      go (no l) (yes k) = let r = part.rising n m k hm in absurd (omega arith)
      go (no l) (no k) = omega arith

  -- so two walks of the part are two in the whole
  pub part_unique : (v w : List Step) → Below g.size v → Below g.size w → renumbered f v ≡ renumbered f w → v ≡ w
  part_unique v w bv bw e = renumbered_apart f g.size nodes_apart v w bv bw e

  -- the walks of the part to a node of it are the walks on its nodes that are walks of the whole
  pub part_walk : (end : Step) (walk : List Step) → end.node < g.size
      → (is_walk g end walk ≡ true) ↔ (Below g.size walk × (is_walk h (renumber f end) (renumbered f walk) ≡ true))
  unfolding is_edge renumber
  part_walk end walk last = (λ w. let below = over w in (below, same below ∙ w), λ t. sym (same t.0) ∙ t.1)
    where
      over : is_walk g end walk ≡ true → Below g.size walk
      over w s m =
          let n = pairs_to_next end walk m in
          (part.embedded.in_nodes s.node s.leaves n.0.node s.enters s.flow (all_true (is_edge g) w n.1)).0

      ends : Below g.size walk → {q : Step} → Memᴰ q walk ⊎ (q ≡ end) → q.node < g.size
      ends below {q} (inl m) = below q m
      ends below (inr e) = rw e last

      same : Below g.size walk → is_walk h (renumber f end) (renumbered f walk) ≡ is_walk g end walk
      same below =
          ap (all (is_edge h)) (pairs_to_map (renumber f) end walk)
          ∙ all_map (is_edge h) (λ q. (renumber f q.0, renumber f q.1)) (pairs_to end walk)
          ∙ all_same _ (is_edge g) (pairs_to end walk)
          (λ q m.
          let b = pairs_to_member end walk m in
          part.embedded.same_edges q.0.node q.0.leaves q.1.node q.0.enters q.0.flow (below q.0 b.0) (ends below b.1))

  -- and each walk of the whole that stays in the chosen nodes is one of them, renumbered
  pub walk_in_part : (end : Step) (walk : List Step) → StaysIn h chosen (end ∷ walk) → is_walk h end walk ≡ true
      → (last : Step) × (in_part : List Step) × (renumber f last ≡ end) × (renumbered f in_part ≡ walk) × (is_walk g last in_part ≡ true)
  unfolding renumber
  walk_in_part end walk inside w =
      let k = stays (end ∷ walk) inside end (Memᴰ.head refl) in
      let t = steps_back g.size f walk (stays walk (λ s m. inside s (Memᴰ.tail m))) in
      let last : Step = record { node = k.0; leaves = end.leaves; enters = end.enters; flow = end.flow } in
      let back : renumber f last ≡ end = ap (λ (n : ℕ). record { node = n; leaves = end.leaves; enters = end.enters; flow = end.flow }) k.2 in
      (last, t.0, back, t.1, (part_walk last t.0 k.1).1 (t.2, ap₂ (is_walk h) back t.1 ∙ w))

  -- the closed walks of the part are the walks on its nodes that are closed in the whole
  pub part_closed : (walk : List Step)
      → (is_closed_walk g walk ≡ true) ↔ (Below g.size walk × (is_closed_walk h (renumbered f walk) ≡ true))
  part_closed walk = (
    λ c. let below = edges_below_lem part.embedded walk c in (below, edges_same part.embedded walk below ∙ c),
    λ t. sym (edges_same part.embedded walk t.0) ∙ t.1,
  )

  -- and each closed walk of the whole that stays in the chosen nodes is one of them, renumbered
  pub closed_back : (walk : List Step) → StaysIn h chosen walk → is_closed_walk h walk ≡ true
      → (in_part : List Step) × (renumbered f in_part ≡ walk) × (is_closed_walk g in_part ≡ true)
  closed_back walk inside c =
      let t = steps_back g.size f walk (stays walk inside) in
      (t.0, t.1, (part_closed t.0).1 (t.2, ap (is_closed_walk h) t.1 ∙ c))

  -- the dangerous walks of the part are the walks on its nodes that are dangerous in the whole
  pub part_dangerous : (walk : List Step)
      → (is_dangerous g walk ≡ true) ↔ (Below g.size walk × (is_dangerous h (renumbered f walk) ≡ true))
  part_dangerous walk = part_walks part.embedded walk

  -- and each dangerous walk of the whole that stays in the chosen nodes is one of them, renumbered
  pub dangerous_back : (walk : List Step) → StaysIn h chosen walk → is_dangerous h walk ≡ true
      → (in_part : List Step) × (renumbered f in_part ≡ walk) × (is_dangerous g in_part ≡ true)
  dangerous_back walk inside d = walk_back part.embedded walk (stays walk inside) d

  -- part of a graph without dangerous walks has none
  pub part_robust : (DangerousWalk h → ⊥) → DangerousWalk g → ⊥
  part_robust = none_carried (embedding_keeps part.embedded)

  -- ---- the order of walks

  -- a node that is not after another is not after it in the whole
  not_less : (m n : ℕ) → m ≤ n → n < g.size → f m ≤ f n
  not_less m n l hn = go (dec_lt m n)
    where
      go : Dec (m < n) → f m ≤ f n
      go (yes k) = let r = part.rising m n k hn in omega arith
      go (no k) = let e : m ≡ n = omega arith in omega (arith, ap f e)

  -- so nodes of the part compare as they do in the whole
  less_same : (m n : ℕ) → m < g.size → n < g.size → ltb (f m) (f n) ≡ ltb m n
  less_same m n hm hn =
      same_test (ltb (f m) (f n)) (ltb m n) (λ l. go (ltb-true (f m) (f n) l) (dec_lt m n))
      (λ l. lt-ltb (f m) (f n) (part.rising m n (ltb-true m n l) hn))
    where
      go : f m < f n → Dec (m < n) → ltb m n ≡ true
      go less (yes l) = lt-ltb m n l
      go less (no l) = let r = not_less n m (omega arith) hm in absurd (omega arith)

  equal_same : (m n : ℕ) → m < g.size → n < g.size → eqb (f m) (f n) ≡ eqb m n
  equal_same m n hm hn =
      same_test (eqb (f m) (f n)) (eqb m n) (λ e. eq-eqb m n (nodes_apart m n hm hn (eqb-true (f m) (f n) e)))
      (λ e. eq-eqb (f m) (f n) (ap f (eqb-true m n e)))

  -- so do the numbers of its walks
  smaller_same : (a b : List Step) → Below g.size a → Below g.size b
      → smaller (walk_numbers (renumbered f a)) (walk_numbers (renumbered f b)) ≡ smaller (walk_numbers a) (walk_numbers b)
  unfolding flat_map step_numbers smaller renumber
  smaller_same [] b ba bb = refl
  smaller_same (x ∷ a) [] ba bb = refl
  smaller_same (x ∷ a) (y ∷ b) ba bb =
      let hx = ba x (Memᴰ.head refl) in
      let hy = bb y (Memᴰ.head refl) in
      let rest = smaller_same a b (λ s m. ba s (Memᴰ.tail m)) (λ s m. bb s (Memᴰ.tail m)) in
      rw (less_same x.node y.node hx hy, equal_same x.node y.node hx hy, rest) refl

  -- a walk of the part comes before another exactly if it does in the whole
  pub before_same : (a b : List Step) → Below g.size a → Below g.size b → comes_before (renumbered f a) (renumbered f b) ≡ comes_before a b
  unfolding comes_before
  before_same a b ba bb = rw (length-map a (renumber f), length-map b (renumber f), smaller_same a b ba bb) refl

  -- ---- walks of the part, in the whole without the edges of other nodes

  -- a walk on the part's nodes is dangerous exactly if, renumbered, it is in the whole with the edges between chosen nodes alone
  only_same : (walk : List Step) → Below g.size walk → is_dangerous (only chosen h) (renumbered f walk) ≡ is_dangerous g walk
  only_same walk below =
      only_walks chosen h (renumbered f walk)
      ∙ ap₂ ◌&&◌ (all_of _ (renumbered f walk) (λ s m. (renumbered_stays walk below s m).1)) (walk_same part.embedded walk below)

  module _ (regular : Regular h) where
    -- each dangerous walk of that graph is one of the part, renumbered
    only_back : (walk : List Step) → is_dangerous (only chosen h) walk ≡ true
        → (in_part : List Step) × (renumbered f in_part ≡ walk) × (is_dangerous g in_part ≡ true)
    only_back walk d =
        let a = and_true (all (λ s. chosen s.node) walk) (is_dangerous h walk) (sym (only_walks chosen h walk) ∙ d) in
        dangerous_back walk (λ s m. (walk_nodes regular walk a.1 s m, all_true (λ s. chosen s.node) a.0 m)) a.1

    -- so the part has a dangerous walk exactly if that graph has
    pub part_danger : DangerousWalk g ↔ DangerousWalk (only chosen h)
    part_danger = (
      λ t. (renumbered f t.0, only_same t.0 (walk_below part.embedded t.0 t.1) ∙ t.1),
      λ t. let b = only_back t.0 t.1 in (b.0, b.2),
    )

    -- and the first dangerous walk of the part is, renumbered, the first of that graph
    pub part_first : (walk : List Step) → Below g.size walk → FirstWalk g walk ↔ FirstWalk (only chosen h) (renumbered f walk)
    part_first walk below = (
      λ t. record {
        dangerous = only_same walk below ∙ t.dangerous;
        first = λ other d.
            let b = only_back other d in
            ap (λ (v : List Step). comes_before v (renumbered f walk)) (sym b.1)
            ∙ before_same b.0 walk (walk_below part.embedded b.0 b.2) below
            ∙ t.first b.0 b.2;
      },
      λ t. record {
        dangerous = sym (only_same walk below) ∙ t.dangerous;
        first = λ other d.
            let inside = walk_below part.embedded other d in
            sym (before_same other walk inside below) ∙ t.first (renumbered f other) (only_same other inside ∙ d);
      },
    )

    -- where that graph has a first dangerous walk, it is the first of the part, renumbered
    pub first_back : (walk : List Step) → FirstWalk (only chosen h) walk
        → (in_part : List Step) × (renumbered f in_part ≡ walk) × FirstWalk g in_part
    first_back walk t =
        let b = only_back walk t.dangerous in
        (b.0, b.1, (part_first b.0 (walk_below part.embedded b.0 b.2)).1 (rw b.1 t))

-- a choice that agrees on the nodes of the whole makes the same part
pub part_agree : {g h : Graph} {chosen other : ℕ → Bool} {f : ℕ → ℕ} → PartOf g h chosen f → ((n : ℕ) → n < h.size → other n ≡ chosen n)
    → PartOf g h other f
part_agree {f = f} part agree =
    record {
      embedded = part.embedded;
      same_places = part.same_places;
      rising = part.rising;
      chosen_only = λ m h. let b = part.chosen_only m h in (b.0, agree (f m) b.0 ∙ b.1);
      chosen_all = λ n h c. part.chosen_all n h (sym (agree n h) ∙ c);
    }

-- of two parts of one graph, where each node chosen for the second is chosen for the first, and the first has no dangerous walk, the second has none
pub part_fewer : {g g' h : Graph} {chosen chosen' : ℕ → Bool} {f f' : ℕ → ℕ} → PartOf g h chosen f → PartOf g' h chosen' f'
    → ((n : ℕ) → n < h.size → chosen' n ≡ true → chosen n ≡ true) → (DangerousWalk g → ⊥) → DangerousWalk g' → ⊥
part_fewer {f'} larger fewer implies none (walk, d) =
    let t = (part_dangerous fewer walk).0 d in
    let inside = renumbered_stays fewer walk t.0 in
    let b = dangerous_back larger (renumbered f' walk) (λ s m. let k = inside s m in (k.0, implies s.node k.0 k.1)) t.1 in
    none (b.0, b.2)
