-- Dangerous walks of a graph and of its parts: a map of nodes that keeps edges and loose places carries them over, and the walks of
-- an induced part are exactly the walks of the whole that stay in it, renumbered.
use Rattle.std.proofs.Math.Bool.{Bool, ◌&&◌}
use Rattle.std.specs.Prelude.{true, not, ◌||◌, ◌⊎◌, ◌↔◌, ◌≡◌, refl, ℕ, ◌<◌}
use mathlib.Core.List.{List, [], ◌∷◌, map, head_d, tail, Memᴰ}
use mathlib.Core.List.Memᴰ
use Rattle.std.proofs.Common.{inl, inr, sym, ◌∙◌, arith}
use Rattle.std.proofs.Math.Path.{ap, ap₂}
use Rattle.std.proofs.Math.Dec.{ltb}
use Rattle.spec_base.specs.Basic.{any, all, around}
use Rattle.law_base.specs.BoolLaws.{same_test, and_true, and_of, or_true, or_left, or_right}
use Rattle.law_base.specs.ListLaws.{any_true, any_of, any_same, any_map, all_true, all_of, all_same, all_map, map_member}
use Rattle.law_base.specs.ListLaws.{around_member, around_next}
use Rattle.spec_graph.specs.Graph.{Flow, Graph, is_back}
use Rattle.spec_graph.specs.Walk.{Step, is_edge, dangerous_pair, is_dangerous, DangerousWalk}
use Rattle.law_walk.specs.ClosedWalks.{around_map}
use Rattle.law_walk.specs.Reach.{Regular}

-- ---- renumbering

-- the step between the same places, from the node that f gives
unfoldable pub renumber : (ℕ → ℕ) → Step → Step
renumber f s = record { node = f s.node; leaves = s.leaves; enters = s.enters; flow = s.flow }

-- the walk with each node renumbered
abbrev pub renumbered : (ℕ → ℕ) → List Step → List Step
renumbered f walk = map (renumber f) walk

-- both steps of a pair renumbered
abbrev renumber_both : (ℕ → ℕ) → Step × Step → Step × Step
renumber_both f q = (renumber f q.0, renumber f q.1)

-- a test of all pairs of a renumbered walk is one of the walk's pairs
all_renumbered : (f : ℕ → ℕ) (p : Step × Step → Bool) (walk : List Step)
    → all p (around (renumbered f walk)) ≡ all (λ q. p (renumber_both f q)) (around walk)
all_renumbered f p walk = ap (all p) (around_map (renumber f) walk) ∙ all_map p (renumber_both f) (around walk)

-- so is a test of some pair
any_renumbered : (f : ℕ → ℕ) (p : Step × Step → Bool) (walk : List Step)
    → any p (around (renumbered f walk)) ≡ any (λ q. p (renumber_both f q)) (around walk)
any_renumbered f p walk = ap (any p) (around_map (renumber f) walk) ∙ any_map p (renumber_both f) (around walk)

-- the flows stay
flows_renumbered : (f : ℕ → ℕ) (walk : List Step)
    → any (λ s. not (is_back s.flow)) (renumbered f walk) ≡ any (λ s. not (is_back s.flow)) walk
unfolding renumber
flows_renumbered f walk = any_map (λ s. not (is_back s.flow)) (renumber f) walk

-- the three parts of a dangerous walk
pub record Dangerous (g : Graph) (walk : List Step) : Type 0 where
  pub edges : all (is_edge g) (around walk) ≡ true
  pub pair : any (dangerous_pair g) (around walk) ≡ true
  pub forward : any (λ s. not (is_back s.flow)) walk ≡ true

-- a dangerous walk has them
pub dangerous_parts : {g : Graph} (walk : List Step) → is_dangerous g walk ≡ true → Dangerous g walk
unfolding is_dangerous
dangerous_parts {g} walk h =
    let a = and_true _ _ h in
    let b = and_true (all (is_edge g) (around walk)) (any (dangerous_pair g) (around walk)) a.0 in
    record { edges = b.0; pair = b.1; forward = a.1 }

-- and a walk that has them is dangerous
pub dangerous_of : {g : Graph} {walk : List Step} → Dangerous g walk → is_dangerous g walk ≡ true
unfolding is_dangerous
dangerous_of d = and_of (and_of d.edges d.pair) d.forward

-- ---- a homomorphism carries dangerous walks over

-- Each edge of g is an edge of h between the nodes that f gives, at the same places and with the same flow, and where an edge leaves a
-- loose place, the place is loose in h too. Two nodes may become one, and h may have more nodes, edges and loose places.
pub record Homomorphism (g h : Graph) (f : ℕ → ℕ) : Type 0 where
  pub keeps_edges : (m i n j : ℕ) (flow : Flow) → g.edge m i n j flow ≡ true → h.edge (f m) i (f n) j flow ≡ true
  pub keeps_loose : (m i n j : ℕ) (flow : Flow) → g.edge m i n j flow ≡ true → g.loose m i ≡ true → h.loose (f m) i ≡ true

module _ {g h : Graph} {f : ℕ → ℕ} (keeps : Homomorphism g h f) where
  -- an edge stays an edge
  edge_carried : (q : Step × Step) → is_edge g q ≡ true → is_edge h (renumber_both f q) ≡ true
  unfolding is_edge renumber
  edge_carried q e = keeps.keeps_edges q.0.node q.0.leaves q.1.node q.0.enters q.0.flow e

  -- a dangerous pair stays dangerous
  pair_carried : (q : Step × Step) → is_edge g q ≡ true → dangerous_pair g q ≡ true → dangerous_pair h (renumber_both f q) ≡ true
  unfolding is_edge dangerous_pair renumber
  pair_carried q e d =
      let a = and_true (is_back q.1.flow) (first || g.loose q.0.node q.0.leaves) d in
      and_of {a = is_back q.1.flow} a.0 (go (or_true first (g.loose q.0.node q.0.leaves) a.1))
    where
      first : Bool
      first = is_back q.0.flow || ltb q.1.leaves q.0.enters

      go : (first ≡ true) ⊎ (g.loose q.0.node q.0.leaves ≡ true) → first || h.loose (f q.0.node) q.0.leaves ≡ true
      go (inl x) = or_left _ x
      go (inr x) = or_right first (keeps.keeps_loose q.0.node q.0.leaves q.1.node q.0.enters q.0.flow e x)

  -- a dangerous walk of g, renumbered, is one of h
  pub walk_carried : (walk : List Step) → is_dangerous g walk ≡ true → is_dangerous h (renumbered f walk) ≡ true
  walk_carried walk d =
      let parts = dangerous_parts walk d in
      let pair = any_true (dangerous_pair g) (around walk) parts.pair in
      dangerous_of (record {
        edges = all_renumbered f (is_edge h) walk ∙ all_of _ (around walk) (λ q m. edge_carried q (all_true (is_edge g) parts.edges m));
        pair =
            any_renumbered f (dangerous_pair h) walk
            ∙ any_of _ pair.1 (pair_carried pair.0 (all_true (is_edge g) parts.edges pair.1) pair.2);
        forward = flows_renumbered f walk ∙ parts.forward;
      })

  -- where h has no dangerous walk, g has none
  pub none_carried : (DangerousWalk h → ⊥) → DangerousWalk g → ⊥
  none_carried none (walk, d) = none (renumbered f walk, walk_carried walk d)

-- ---- an induced part: its walks are the whole's that stay in it

-- g is the part of h on the nodes that f gives: with all edges between them and their loose places, and no others
pub record Embedding (g h : Graph) (f : ℕ → ℕ) : Type 0 where
  pub in_nodes : (m i n j : ℕ) (flow : Flow) → g.edge m i n j flow ≡ true → (m < g.size) × (n < g.size)
  pub same_edges : (m i n j : ℕ) (flow : Flow) → m < g.size → n < g.size → h.edge (f m) i (f n) j flow ≡ g.edge m i n j flow
  pub same_loose : (m i : ℕ) → m < g.size → h.loose (f m) i ≡ g.loose m i

-- each node of the walk is one of the first nodes
abbrev pub Below : ℕ → List Step → Type 0
Below size walk = (s : Step) → Memᴰ s walk → s.node < size

-- a closed walk goes over nodes of a graph whose edges leave its nodes
pub edges_over : (g : Graph) → ((m i n j : ℕ) (flow : Flow) → g.edge m i n j flow ≡ true → m < g.size)
    → (walk : List Step) → all (is_edge g) (around walk) ≡ true → Below g.size walk
unfolding is_edge
edges_over g leave walk edges s m =
    let n = around_next walk m in
    leave s.node s.leaves n.0.node s.enters s.flow (all_true (is_edge g) edges n.1)

-- each node of the walk is one that f gives
abbrev pub Stays : (size : ℕ) (f : ℕ → ℕ) → List Step → Type 0
Stays size f walk = (s : Step) → Memᴰ s walk → (k : ℕ) × (k < size) × (f k ≡ s.node)

-- a walk over nodes that f gives is a walk over the first nodes, renumbered
pub steps_back : (size : ℕ) (f : ℕ → ℕ) (walk : List Step) → Stays size f walk
    → (in_part : List Step) × (renumbered f in_part ≡ walk) × Below size in_part
unfolding renumber
steps_back size f [] stays = ([], refl, λ s m. absurd (Memᴰ.not-nil m))
steps_back size f (s ∷ walk) stays =
    let k = stays s (Memᴰ.head refl) in
    let t = steps_back size f walk (λ x m. stays x (Memᴰ.tail m)) in
    let first : Step = record { node = k.0; leaves = s.leaves; enters = s.enters; flow = s.flow } in
    (first ∷ t.0, ap₂ ◌∷◌ (step_back k.0 k.2) t.1, below_cons first t.0 k.1 t.2)
  where
    step_back : (k : ℕ) → f k ≡ s.node → renumber f (record { node = k; leaves = s.leaves; enters = s.enters; flow = s.flow }) ≡ s
    step_back k e = ap (λ (n : ℕ). record { node = n; leaves = s.leaves; enters = s.enters; flow = s.flow }) e

    below_cons : (s : Step) (l : List Step) → s.node < size → Below size l → Below size (s ∷ l)
    below_cons s l h b x m = go (Memᴰ.cases_cons m)
      where
        go : (x ≡ s) ⊎ Memᴰ x l → x.node < size
        go (inl e) = rw e h
        go (inr n) = b x n

module _ {g h : Graph} {f : ℕ → ℕ} (part : Embedding g h f) where
  -- an embedding is a homomorphism
  pub embedding_keeps : Homomorphism g h f
  embedding_keeps =
      record {
        keeps_edges = λ m i n j flow e. let b = part.in_nodes m i n j flow e in part.same_edges m i n j flow b.0 b.1 ∙ e;
        keeps_loose = λ m i n j flow e l. part.same_loose m i (part.in_nodes m i n j flow e).0 ∙ l;
      }

  -- a walk on the part's nodes is closed exactly if, renumbered, it is in the whole
  pub edges_same : (walk : List Step) → Below g.size walk → all (is_edge h) (around (renumbered f walk)) ≡ all (is_edge g) (around walk)
  unfolding is_edge renumber
  edges_same walk below = all_renumbered f (is_edge h) walk ∙ all_same _ (is_edge g) (around walk) edge
    where
      edge : (q : Step × Step) → Memᴰ q (around walk) → is_edge h (renumber_both f q) ≡ is_edge g q
      edge q m =
          let b = around_member walk m in
          part.same_edges q.0.node q.0.leaves q.1.node q.0.enters q.0.flow (below q.0 b.0) (below q.1 b.1)

  -- and it is dangerous exactly if, renumbered, it is in the whole
  pub walk_same : (walk : List Step) → Below g.size walk → is_dangerous h (renumbered f walk) ≡ is_dangerous g walk
  unfolding is_dangerous dangerous_pair renumber
  walk_same walk below =
      ap₂ ◌&&◌
      (ap₂ ◌&&◌ (edges_same walk below)
      (any_renumbered f (dangerous_pair h) walk ∙ any_same _ (dangerous_pair g) (around walk) pair))
      (flows_renumbered f walk)
    where
      pair : (q : Step × Step) → Memᴰ q (around walk) → dangerous_pair h (renumber_both f q) ≡ dangerous_pair g q
      pair q m =
          ap (λ (b : Bool). is_back q.1.flow && (is_back q.0.flow || ltb q.1.leaves q.0.enters || b))
          (part.same_loose q.0.node q.0.leaves (below q.0 (around_member walk m).0))

  -- a closed walk of the part goes over its nodes
  pub edges_below_lem : (walk : List Step) → all (is_edge g) (around walk) ≡ true → Below g.size walk
  edges_below_lem = edges_over g (λ m i n j flow e. (part.in_nodes m i n j flow e).0)

  -- so does a dangerous one
  pub walk_below : (walk : List Step) → is_dangerous g walk ≡ true → Below g.size walk
  walk_below walk d = edges_below_lem walk (dangerous_parts walk d).edges

  -- the dangerous walks of the part are the walks on its nodes that are dangerous in the whole
  pub part_walks : (walk : List Step) → (is_dangerous g walk ≡ true) ↔ (Below g.size walk × (is_dangerous h (renumbered f walk) ≡ true))
  part_walks walk =
      (λ d. (walk_below walk d, walk_same walk (walk_below walk d) ∙ d), λ t. sym (walk_same walk t.0) ∙ t.1)

  -- and each dangerous walk of the whole that stays in the part is one of them, renumbered
  pub walk_back : (walk : List Step) → Stays g.size f walk → is_dangerous h walk ≡ true
      → (in_part : List Step) × (renumbered f in_part ≡ walk) × (is_dangerous g in_part ≡ true)
  walk_back walk stays d =
      let t = steps_back g.size f walk stays in
      (t.0, t.1, sym (walk_same t.0 t.2) ∙ ap (is_dangerous h) t.1 ∙ d)

  -- where the whole has no dangerous walk that stays in the part, the part has none, and the other way round
  pub none_in_part : (DangerousWalk g → ⊥) ↔ ((walk : List Step) → Stays g.size f walk → is_dangerous h walk ≡ true → ⊥)
  unfolding renumber
  none_in_part = (
    λ none walk stays d. let t = walk_back walk stays d in none (t.0, t.2),
    λ none t. none (renumbered f t.0) (stayed t.0 (walk_below t.0 t.1)) (walk_carried embedding_keeps t.0 t.1),
  )
    where
      stayed : (walk : List Step) → Below g.size walk → Stays g.size f (renumbered f walk)
      stayed walk below s m =
          let t = map_member (renumber f) walk m in (t.0.node, below t.0 t.1, ap (λ (x : Step). x.node) t.2)

-- a map that keeps nodes apart keeps walks apart, so the two sorts of walk are one to one
pub renumbered_apart : (f : ℕ → ℕ) (size : ℕ) → ((m n : ℕ) → m < size → n < size → f m ≡ f n → m ≡ n)
    → (v w : List Step) → Below size v → Below size w → renumbered f v ≡ renumbered f w → v ≡ w
unfolding renumber head_d
renumbered_apart f size apart [] [] bv bw e = refl
renumbered_apart f size apart [] (y ∷ w) bv bw e = let z : ◌≡◌ {A = ℕ} 0 1 = cc in absurd (omega arith)
renumbered_apart f size apart (x ∷ v) [] bv bw e = let z : ◌≡◌ {A = ℕ} 0 1 = cc in absurd (omega arith)
renumbered_apart f size apart (x ∷ v) (y ∷ w) bv bw e =
    ap₂ ◌∷◌ (step (ap (λ (l : List Step). head_d l x) e))
    (renumbered_apart f size apart v w (λ s m. bv s (Memᴰ.tail m)) (λ s m. bw s (Memᴰ.tail m)) (ap tail e))
  where
    step : renumber f x ≡ renumber f y → x ≡ y
    step h =
        let node = apart x.node y.node (bv x (Memᴰ.head refl)) (bw y (Memᴰ.head refl)) (ap (λ (s : Step). s.node) h) in
        let leaves : x.leaves ≡ y.leaves = ap (λ (s : Step). s.leaves) h in
        let enters : x.enters ≡ y.enters = ap (λ (s : Step). s.enters) h in
        let flow : x.flow ≡ y.flow = ap (λ (s : Step). s.flow) h in
        rw (node, leaves, enters, flow) refl

-- ---- the part in the whole's numbering

-- the graph with the edges between chosen nodes alone; of the nodes in a word, `has word` chooses
unfoldable pub only : (ℕ → Bool) → Graph → Graph
only chosen g =
    record {
      size = g.size;
      places = g.places;
      edge = λ m i n j flow. chosen m && chosen n && g.edge m i n j flow;
      loose = g.loose;
    }

-- an edge of it is between chosen nodes
pub only_edge : (chosen : ℕ → Bool) (g : Graph) (m i n j : ℕ) (flow : Flow) → (only chosen g).edge m i n j flow ≡ true
    → (chosen m ≡ true) × (chosen n ≡ true) × (g.edge m i n j flow ≡ true)
unfolding only
only_edge chosen g m i n j flow h =
    let a = and_true (chosen m && chosen n) (g.edge m i n j flow) h in
    let b = and_true (chosen m) (chosen n) a.0 in (b.0, b.1, a.1)

-- it is regular where the graph is
pub only_regular : (chosen : ℕ → Bool) {g : Graph} → Regular g → Regular (only chosen g)
unfolding only
only_regular chosen {g} r =
    record {
      in_nodes = λ m i n j flow h. r.in_nodes m i n j flow (only_edge chosen g m i n j flow h).2;
      twin = λ m i n j h.
          let e = only_edge chosen g m i n j Flow.back h in
          and_of {a = chosen m && chosen n} (and_of e.0 e.1) (r.twin m i n j e.2);
      back_loose = λ m i n j h. r.back_loose m i n j (only_edge chosen g m i n j Flow.back h).2;
    }

-- its dangerous walks are exactly the graph's that stay in the chosen nodes
pub only_walks : (chosen : ℕ → Bool) (g : Graph) (walk : List Step)
    → is_dangerous (only chosen g) walk ≡ all (λ s. chosen s.node) walk && is_dangerous g walk
unfolding only is_edge dangerous_pair
only_walks chosen g walk = same_test _ _ into back
  where
    Chosen : Step × Step → Type 0
    Chosen q = (chosen q.0.node ≡ true) × (chosen q.1.node ≡ true) × (is_edge g q ≡ true)

    chosen_edge : (q : Step × Step) → is_edge (only chosen g) q ≡ true → Chosen q
    chosen_edge q e = only_edge chosen g q.0.node q.0.leaves q.1.node q.0.enters q.0.flow e

    into : is_dangerous (only chosen g) walk ≡ true → all (λ s. chosen s.node) walk && is_dangerous g walk ≡ true
    into h =
        let parts = dangerous_parts walk h in
        let edge : (q : Step × Step) → Memᴰ q (around walk) → Chosen q =
        λ q m. chosen_edge q (all_true (is_edge (only chosen g)) parts.edges m) in
        and_of (all_of _ walk (λ s m. let n = around_next walk m in (edge (s, n.0) n.1).0))
        (dangerous_of
        (record { edges = all_of (is_edge g) (around walk) (λ q m. (edge q m).2); pair = parts.pair; forward = parts.forward }))

    back : all (λ s. chosen s.node) walk && is_dangerous g walk ≡ true → is_dangerous (only chosen g) walk ≡ true
    back h =
        let a = and_true (all (λ s. chosen s.node) walk) (is_dangerous g walk) h in
        let parts = dangerous_parts walk a.1 in
        dangerous_of
        (record {
          edges = all_of (is_edge (only chosen g)) (around walk)
              (λ q m.
              let b = around_member walk m in
              and_of {a = chosen q.0.node && chosen q.1.node}
              (and_of (all_true (λ s. chosen s.node) a.0 b.0) (all_true (λ s. chosen s.node) a.0 b.1))
              (all_true (is_edge g) parts.edges m));
          pair = parts.pair;
          forward = parts.forward;
        })
