-- The edge records of a part: those of the whole between its nodes, in their order and alike in every field (places, flow, letter, shared
-- attributes), the nodes renumbered.
use Rattle.std.specs.Prelude.{Bool, true, false, ◌&&◌, ◌≡◌}
use Rattle.std.proofs.Math.Bool.{cond}
use mathlib.Core.List.{List, [], ◌∷◌, ◌++◌, map, flat_map, map-append}
use Rattle.std.proofs.Math.Option.{some}
use Rattle.std.proofs.Math.Path.{refl, sym, ap, ap₂}
use Rattle.std.proofs.Common.{subst, ◌∙◌, add-zero, zero-add, arith}
use Prim.Native.Nat.{ℕ, zero, suc, ◌+◌, ◌<◌}
use Rattle.std.proofs.Math.ListN.{length, get_or, get_elem?}
use Rattle.spec_base.specs.Basic.{keep, numbers_from}
use Rattle.law_base.specs.ListLaws.{keep_yes, keep_no, keep_append}
use Rattle.law_base.specs.FlatLaws.{flat_map_same, flat_map_none, flat_map_keep, keep_flat_map}
use Rattle.spec_graph.specs.Graph.{Flow}
use Rattle.spec_graph.specs.Unfolding.{Node, Occurrence}
use Rattle.spec_graph.specs.Edge.{Place, Edge, forward, back, places_from, places_of, edge_of, edges_between, edges_of}
use Rattle.law_walk.specs.NodeParts.{Alike, stands_alike, nodes_at, nodes_at_cons}
use Rattle.law_part.specs.KeptNodes.{chosen_nodes, number_of_chosen, kept_from, kept_number, is_kept}

-- the record of the edge between the same places, with the flow, letter and shared attributes that it has, of the nodes that f gives
unfoldable pub renumbered_edge : (ℕ → ℕ) → Edge → Edge
renumbered_edge f e =
    record {
      node = f e.node;
      leaves = e.leaves;
      into = f e.into;
      enters = e.enters;
      flow = e.flow;
      letter = e.letter;
      sharing = e.sharing;
      lowest = e.lowest;
    }

-- ---- lists element by element

-- two lists of one length whose elements go together one by one
abbrev Matched : {A B : Type 0} → (A → B → Type 0) → List A → List B → Type 0
Matched R [] [] = Unit {0}
Matched R [] (y ∷ r) = ⊥
Matched R (x ∷ l) [] = ⊥
Matched R (x ∷ l) (y ∷ r) = R x y × Matched R l r

module _ {A B : Type 0} (R : A → B → Type 0) where
  matched_append : (l l' : List A) (r r' : List B) → Matched R l r → Matched R l' r' → Matched R (l ++ l') (r ++ r')
  matched_append [] l' [] r' m n = n
  matched_append [] l' (y ∷ r) r' m n = absurd m
  matched_append (x ∷ l) l' [] r' m n = absurd m
  matched_append (x ∷ l) l' (y ∷ r) r' m n = (m.0, matched_append l l' r r' m.1 n)

  -- what each gives agrees, so what all give agrees
  matched_flat : {C D : Type 0} (g : C → D) (f : A → List C) (h : B → List D) (l : List A) (r : List B) → Matched R l r
      → ((x : A) (y : B) → R x y → map g (f x) ≡ h y) → map g (flat_map f l) ≡ flat_map h r
  unfolding flat_map
  matched_flat g f h [] [] m same = refl
  matched_flat g f h [] (y ∷ r) m same = absurd m
  matched_flat g f h (x ∷ l) [] m same = absurd m
  matched_flat g f h (x ∷ l) (y ∷ r) m same =
      map-append g (f x) (flat_map f l) ∙ ap₂ ◌++◌ (same x y m.0) (matched_flat g f h l r m.1 same)

-- ---- places

-- a place of the part and the place of the whole that it is: alike, and f gives the node's number
record SamePlace (f : ℕ → ℕ) (s t : Place) : Type 0 where
  alike : Alike s t
  number : f s.number ≡ t.number

-- the record of an edge between two places of the part, renumbered, is that between the places of the whole
same_record : (f : ℕ → ℕ) (s s' t t' : Place) → SamePlace f s s' → SamePlace f t t' → (flow : Flow)
    → renumbered_edge f (edge_of flow s t) ≡ edge_of flow s' t'
unfolding renumbered_edge edge_of
same_record f s s' t t' a b flow =
    rw (a.number, b.number, a.alike.occurrence, b.alike.occurrence, a.alike.place, b.alike.place) refl

-- the same edges stand between them, so the records are the same
same_between : (f : ℕ → ℕ) (s s' t t' : Place) → SamePlace f s s' → SamePlace f t t'
    → map (renumbered_edge f) (edges_between s t) ≡ edges_between s' t'
unfolding edges_between
same_between f s s' t t' a b =
    map-append (renumbered_edge f) (cond (forward s t) (edge_of Flow.forward s t ∷ []) []) (cond (back s t) (edge_of Flow.back s t ∷ []) [])
    ∙ ap₂ ◌++◌
    (one Flow.forward (forward s t) (forward s' t') (stands_alike Flow.forward a.alike b.alike))
    (one Flow.back (back s t) (back s' t') (stands_alike Flow.back a.alike b.alike))
  where
    one : (flow : Flow) (p q : Bool) → p ≡ q
        → map (renumbered_edge f) (cond p (edge_of flow s t ∷ []) []) ≡ cond q (edge_of flow s' t' ∷ []) []
    one flow p true e = rw e (ap (λ (x : Edge). x ∷ []) (same_record f s s' t t' a b flow))
    one flow p false e = rw e refl

-- the places of one node, in part and whole
same_from : (f : ℕ → ℕ) (k m : ℕ) (a b : Node) (i : ℕ) (rest : List Occurrence) → f k ≡ m → a.links ≡ b.links → a.places ≡ b.places
    → Matched (SamePlace f) (places_from k a i rest) (places_from m b i rest)
unfolding places_from
same_from f k m a b i [] e links places = tt
same_from f k m a b i (o ∷ rest) e links places = (
  record { alike = record { occurrence = refl; place = refl; links = links; places = places }; number = e },
  same_from f k m a b (suc i) rest e links places,
)

same_node : (f : ℕ → ℕ) (k m : ℕ) (a b : Node) → f k ≡ m → a.links ≡ b.links → a.places ≡ b.places
    → Matched (SamePlace f) (places_from k a 0 a.places) (places_from m b 0 b.places)
same_node f k m a b e links places =
    subst (λ (rest : List Occurrence). Matched (SamePlace f) (places_from k a 0 rest) (places_from m b 0 b.places)) (sym places)
    (same_from f k m a b 0 b.places e links places)

-- a test of node numbers keeps all places of a node or none
keep_from : (c : ℕ → Bool) (b : Bool) (m : ℕ) (n : Node) (i : ℕ) (rest : List Occurrence) → c m ≡ b
    → keep (λ s. c s.number) (places_from m n i rest) ≡ cond b (places_from m n i rest) []
unfolding places_from
keep_from c true m n i [] e = refl
keep_from c false m n i [] e = refl
keep_from c true m n i (o ∷ rest) e =
    rw e (ap (λ (r : List Place). record { number = m; node = n; place = i; occurrence = o } ∷ r) (keep_from c true m n (suc i) rest e))
keep_from c false m n i (o ∷ rest) e = rw e (keep_from c false m n (suc i) rest e)

-- the records between two places are all between chosen nodes, or none is
between_chosen : (c : ℕ → Bool) (s t : Place)
    → keep (λ e. c e.node && c e.into) (edges_between s t) ≡ cond (c s.number && c t.number) (edges_between s t) []
unfolding edges_between edge_of
between_chosen c s t = go (c s.number && c t.number) refl (forward s t) (back s t)
  where
    Between : Bool → Bool → List Edge
    Between p q = cond p (edge_of Flow.forward s t ∷ []) [] ++ cond q (edge_of Flow.back s t ∷ []) []

    go : (b : Bool) → c s.number && c t.number ≡ b → (p q : Bool)
        → keep (λ e. c e.node && c e.into) (Between p q) ≡ cond b (Between p q) []
    go true e true true = rw e refl
    go true e true false = rw e refl
    go true e false true = rw e refl
    go true e false false = refl
    go false e true true = rw e refl
    go false e true false = rw e refl
    go false e false true = rw e refl
    go false e false false = refl

-- the records of all edges between chosen nodes are those of the places of chosen nodes
edges_chosen : (c : ℕ → Bool) (places : List Place)
    → keep (λ e. c e.node && c e.into) (flat_map (λ s. flat_map (λ t. edges_between s t) places) places)
    ≡ flat_map (λ s. flat_map (λ t. edges_between s t) (keep (λ t. c t.number) places)) (keep (λ s. c s.number) places)
edges_chosen c places =
    keep_flat_map chosen (λ s. flat_map (λ t. edges_between s t) places) places
    ∙ flat_map_same _ (λ s. cond (c s.number) (flat_map (λ t. edges_between s t) kept) []) places (λ s m. one s)
    ∙ flat_map_keep (λ s. c s.number) (λ s. flat_map (λ t. edges_between s t) kept) places
  where
    chosen : Edge → Bool
    chosen e = c e.node && c e.into

    kept : List Place
    kept = keep (λ t. c t.number) places

    one : (s : Place) → keep chosen (flat_map (λ t. edges_between s t) places) ≡ cond (c s.number) (flat_map (λ t. edges_between s t) kept) []
    one s =
        keep_flat_map chosen (λ t. edges_between s t) places
        ∙ flat_map_same _ (λ t. cond (c s.number && c t.number) (edges_between s t) []) places (λ t m. between_chosen c s t)
        ∙ go (c s.number)
      where
        go : (b : Bool) → flat_map (λ t. cond (b && c t.number) (edges_between s t) []) places ≡ cond b (flat_map (λ t. edges_between s t) kept) []
        go true = flat_map_keep (λ t. c t.number) (λ t. edges_between s t) places
        go false = flat_map_none _ places (λ t m. refl)

module _ {A : Type 0} (test : A → Bool) (whole part : A → Node)
    (same : (x : A) → ((part x).links ≡ (whole x).links) × ((part x).places ≡ (whole x).places)) where
  -- the places of the kept nodes are the whole's places of kept nodes, where k nodes were kept of m and f and c go on as from there
  same_places_lem : (f : ℕ → ℕ) (c : ℕ → Bool) (k m : ℕ) (l : List A)
      → ((i : ℕ) → f (k + i) ≡ get_or (kept_from test m l) i 0) → ((i : ℕ) → i < length l → c (m + i) ≡ is_kept test l i)
      → Matched (SamePlace f) (places_of k (map part (keep test l))) (keep (λ s. c s.number) (places_of m (map whole l)))
  unfolding places_of kept_from
  same_places_lem f c k m [] numbers chosen = tt
  same_places_lem f c k m (x ∷ l) numbers chosen = go (test x) refl (λ k numbers chosen. same_places_lem f c k (suc m) l numbers chosen)
    where
      Again : Type 0
      Again = (k : ℕ) → ((i : ℕ) → f (k + i) ≡ get_or (kept_from test (suc m) l) i 0) → ((i : ℕ) → i < length l → c (suc m + i) ≡ is_kept test l i)
          → Matched (SamePlace f) (places_of k (map part (keep test l))) (keep (λ s. c s.number) (places_of (suc m) (map whole l)))

      Goal : List A → Type 0
      Goal kept =
          Matched (SamePlace f) (places_of k (map part kept))
          (keep (λ s. c s.number) (places_from m (whole x) 0 (whole x).places ++ places_of (suc m) (map whole l)))

      here : c m ≡ test x
      here = ap c (sym (add-zero m)) ∙ chosen 0 (omega arith)

      later : (i : ℕ) → i < length l → c (suc m + i) ≡ is_kept test l i
      later i h = ap c (omega arith) ∙ chosen (suc i) (omega arith)

      split : (b : Bool) → c m ≡ b
          → keep (λ s. c s.number) (places_from m (whole x) 0 (whole x).places ++ places_of (suc m) (map whole l))
          ≡ cond b (places_from m (whole x) 0 (whole x).places) [] ++ keep (λ s. c s.number) (places_of (suc m) (map whole l))
      split b e =
          keep_append (λ s. c s.number) (places_from m (whole x) 0 (whole x).places) (places_of (suc m) (map whole l))
          ∙ ap (λ (r : List Place). r ++ keep (λ s. c s.number) (places_of (suc m) (map whole l))) (keep_from c b m (whole x) 0 (whole x).places e)

      go : (b : Bool) → test x ≡ b → Again → Goal (keep test (x ∷ l))
      go true e again =
          let first : f k ≡ m = ap f (sym (add-zero k)) ∙ (rw e at (numbers 0)) in
          rw (keep_yes test x l e, split true (here ∙ e))
          (matched_append (SamePlace f) (places_from k (part x) 0 (part x).places) (places_of (suc k) (map part (keep test l)))
          (places_from m (whole x) 0 (whole x).places) (keep (λ s. c s.number) (places_of (suc m) (map whole l)))
          (same_node f k m (part x) (whole x) first (same x).0 (same x).1)
          (again (suc k) (λ i. ap f (omega arith) ∙ (rw e at (numbers (suc i)))) later))
      go false e again =
          rw (keep_no test x l e, split false (here ∙ e))
          (again k (λ i. rw e at (numbers i)) later)

  -- where f and c tell the numbers of the kept elements, the records of the kept nodes, renumbered, are the whole's between nodes that c chooses
  same_edges : (f : ℕ → ℕ) (c : ℕ → Bool) (l : List A)
      → ((i : ℕ) → f (0 + i) ≡ get_or (kept_from test 0 l) i 0) → ((i : ℕ) → i < length l → c (0 + i) ≡ is_kept test l i)
      → map (renumbered_edge f) (edges_of (map part (keep test l))) ≡ keep (λ e. c e.node && c e.into) (edges_of (map whole l))
  unfolding edges_of
  same_edges f c l numbers chosen =
      let together = same_places_lem f c 0 0 l numbers chosen in
      matched_flat (SamePlace f) (renumbered_edge f) _ _ _ _ together
      (λ s s' a. matched_flat (SamePlace f) (renumbered_edge f) _ _ _ _ together (λ t t' b. same_between f s s' t t' a b))
      ∙ sym (edges_chosen c (places_of 0 (map whole l)))

  -- E5, E6: the edge records of the kept nodes, renumbered, are those of the whole between kept nodes, in the same order
  pub kept_edges : (l : List A)
      → map (renumbered_edge (kept_number test l)) (edges_of (map part (keep test l)))
      ≡ keep (λ e. is_kept test l e.node && is_kept test l e.into) (edges_of (map whole l))
  kept_edges l =
      same_edges (kept_number test l) (is_kept test l) l
      (λ i. ap (kept_number test l) (zero-add i)) (λ i h. ap (is_kept test l) (zero-add i))

-- ---- nodes chosen by their numbers

-- nodes with their numbers, the first having number k
numbered : ℕ → List Node → List (ℕ × Node)
numbered k [] = []
numbered k (n ∷ nodes) = (k, n) ∷ numbered (suc k) nodes

-- without the numbers they are the nodes
numbered_nodes : (k : ℕ) (nodes : List Node) → map (λ x. x.1) (numbered k nodes) ≡ nodes
unfolding numbered
numbered_nodes k [] = refl
numbered_nodes k (n ∷ nodes) = ap {B = List Node} (λ r. n ∷ r) (numbered_nodes (suc k) nodes)

module _ (chosen : ℕ → Bool) where
  -- the number decides
  abbrev by_number : ℕ × Node → Bool
  by_number x = chosen x.0

  -- the numbers kept are the chosen ones
  numbers_kept : (k : ℕ) (nodes : List Node) → kept_from by_number k (numbered k nodes) ≡ keep chosen (numbers_from k (length nodes))
  unfolding numbered kept_from
  numbers_kept k [] = refl
  numbers_kept k (n ∷ nodes) = ap (λ (r : List ℕ). cond (chosen k) (k ∷ r) r) (numbers_kept (suc k) nodes)

  -- a node is kept exactly if its number is chosen
  number_kept : (k i : ℕ) (nodes : List Node) → i < length (numbered k nodes) → chosen (k + i) ≡ is_kept by_number (numbered k nodes) i
  unfolding numbered
  number_kept k i [] h = absurd (omega arith)
  number_kept k zero (n ∷ nodes) h = ap chosen (add-zero k)
  number_kept k (suc i) (n ∷ nodes) h = ap chosen (omega arith) ∙ number_kept (suc k) i nodes (omega arith)

  -- the chosen nodes are those kept, where the nodes stand in the whole from number k on
  nodes_kept : (whole : List Node) (k : ℕ) (nodes : List Node) → ((i : ℕ) → get_elem? whole (k + i) ≡ get_elem? nodes i)
      → nodes_at whole (keep chosen (numbers_from k (length nodes))) ≡ map (λ x. x.1) (keep by_number (numbered k nodes))
  unfolding numbered nodes_at
  nodes_kept whole k [] at = refl
  nodes_kept whole k (n ∷ nodes) at =
      go (chosen k) refl (nodes_kept whole (suc k) nodes (λ i. ap (get_elem? whole) (omega arith) ∙ at (suc i)))
    where
      rest : List ℕ
      rest = numbers_from (suc k) (length nodes)

      here : get_elem? whole k ≡ some n
      here = ap (get_elem? whole) (sym (add-zero k)) ∙ at 0

      go : (b : Bool) → chosen k ≡ b → nodes_at whole (keep chosen rest) ≡ map (λ x. x.1) (keep by_number (numbered (suc k) nodes))
          → nodes_at whole (keep chosen (k ∷ rest)) ≡ map (λ x. x.1) (keep by_number ((k, n) ∷ numbered (suc k) nodes))
      go true e again =
          rw (keep_yes chosen k rest e, keep_yes by_number (k, n) (numbered (suc k) nodes) e)
          (nodes_at_cons whole k (keep chosen rest) here ∙ ap {B = List Node} (λ r. n ∷ r) again)
      go false e again = rw (keep_no chosen k rest e, keep_no by_number (k, n) (numbered (suc k) nodes) e) again

  -- E5, E6: for any choice of nodes, the edge records of the chosen nodes, renumbered, are those of the whole between chosen nodes, in the same order
  pub chosen_edges_lem : (nodes : List Node)
      → map (renumbered_edge (number_of_chosen chosen nodes)) (edges_of (chosen_nodes chosen nodes))
      ≡ keep (λ e. chosen e.node && chosen e.into) (edges_of nodes)
  chosen_edges_lem nodes =
      ap (λ (part : List Node). map (renumbered_edge (number_of_chosen chosen nodes)) (edges_of part))
      (nodes_kept nodes 0 nodes (λ i. ap (get_elem? nodes) (zero-add i)))
      ∙ same_edges by_number (λ x. x.1) (λ x. x.1) (λ x. (refl, refl)) (number_of_chosen chosen nodes) chosen (numbered 0 nodes)
      (λ i. ap (number_of_chosen chosen nodes) (zero-add i) ∙ ap (λ (l : List ℕ). get_or l i 0) (sym (numbers_kept 0 nodes)))
      (λ i h. number_kept 0 i nodes h)
      ∙ ap (λ (whole : List Node). keep (λ e. chosen e.node && chosen e.into) (edges_of whole)) (numbered_nodes 0 nodes)
