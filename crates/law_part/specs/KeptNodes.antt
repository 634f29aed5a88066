-- Parts of a summary graph: the graph of the nodes that are kept, in their order, is the part of the graph of all on their numbers.
use Rattle.std.specs.Prelude.{Bool, cond, ◌≡◌, get_or}
use Rattle.std.proofs.Math.Bool.{true, false}
use mathlib.Core.List.{List, [], ◌∷◌, map, Memᴰ}
use Rattle.std.proofs.Math.Option.{Option, none, some}
use Rattle.std.proofs.Math.Path.{refl}
use Rattle.std.proofs.Common.{sym, ap, ◌∙◌, zero-add, suc-add, add-suc, arith}
use Prim.Native.Nat.{ℕ, zero, suc, ◌+◌, ◌<◌}
use Rattle.std.proofs.Math.Nat.{add-zero}
use Rattle.std.proofs.Math.ListN.{length, get_elem?}
use Rattle.std.proofs.lemmas.List.{length-map}
use Rattle.spec_base.specs.Basic.{keep, numbers_from, numbers}
use Rattle.law_base.specs.ListLaws.{keep_yes, keep_no, keep_member, member_keep, numbers_member, member_numbers}
use Rattle.law_base.specs.ListLaws.{get_elem?_found, get_elem?_map_some, get_elem?_of_map}
use Rattle.spec_graph.specs.Unfolding.{Node}
use Rattle.spec_graph.specs.Edge.{graph_of}
use Rattle.spec_graph.specs.Walk.{DangerousWalk}
use Rattle.law_walk.specs.NodeParts.{StandsAt, nodes_embedded, nodes_at, chosen_number, chosen_stands, chosen_length, chosen_member, chosen_found}
use Rattle.law_walk.specs.NodeParts.{kept_increase}
use Rattle.law_part.specs.PartWalks.{PartOf, part_robust}

-- ---- nodes chosen by their numbers

-- the places of a node that is found
places_found : (nodes : List Node) (m : ℕ) {n : Node} → get_elem? nodes m ≡ some n → (graph_of nodes).places m ≡ length n.places
unfolding graph_of
places_found nodes m e = ap (λ (o : Option Node). elim o as (λ x. ℕ) [ none ↦ 0 | some n ↦ length n.places ]) e

-- a node of the part has as many places as the node of the whole at its number
places_stand : (part whole : List Node) (f : ℕ → ℕ) → StandsAt part whole f → (m : ℕ) → m < length part
    → (graph_of whole).places (f m) ≡ (graph_of part).places m
places_stand part whole f stand m h =
    let a = get_elem?_found part m h in
    let b = stand m a.0 a.1 in
    places_found whole (f m) b.1 ∙ ap length (sym b.3) ∙ sym (places_found part m a.1)

-- nodes that stand at the chosen numbers, as many as are chosen, make the part on these numbers
stands_part : (chosen : ℕ → Bool) (part whole : List Node) (at : List ℕ) → at ≡ keep chosen (numbers (length whole)) → length part ≡ length at
    → StandsAt part whole (chosen_number at) → PartOf (graph_of part) (graph_of whole) chosen (chosen_number at)
unfolding graph_of
stands_part chosen part whole at e many stand =
    record {
      embedded = nodes_embedded part whole (chosen_number at) stand;
      same_places = places_stand part whole (chosen_number at) stand;
      rising = λ m n l h.
          let few = ap length e in rw e (kept_increase chosen 0 (length whole) m n l (omega arith));
      chosen_only = λ m h.
          let t = keep_member chosen (numbers (length whole)) (rw e at (chosen_member at m (omega arith))) in
          rw e (numbers_member (length whole) t.0, t.1);
      chosen_all = λ n h c.
          let t = chosen_found {n = n} {chosen = at} (rw e (member_keep chosen (member_numbers (length whole) n h) c)) in
          (t.0, (let below = t.1 in omega arith), t.2);
    }

-- the nodes with chosen numbers, in order
abbrev pub chosen_nodes : (ℕ → Bool) → List Node → List Node
chosen_nodes chosen nodes = nodes_at nodes (keep chosen (numbers (length nodes)))

-- the number among all nodes of the node with this number among the chosen
abbrev pub number_of_chosen : (ℕ → Bool) → List Node → ℕ → ℕ
number_of_chosen chosen nodes k = get_or (keep chosen (numbers (length nodes))) k 0

-- for any choice of nodes, the graph of the chosen nodes is the part of the graph on them
pub chosen_part : (chosen : ℕ → Bool) (nodes : List Node)
    → PartOf (graph_of (chosen_nodes chosen nodes)) (graph_of nodes) chosen (number_of_chosen chosen nodes)
chosen_part chosen nodes =
    stands_part chosen (chosen_nodes chosen nodes) nodes at refl (chosen_length nodes at below) (chosen_stands nodes at below)
  where
    at : List ℕ
    at = keep chosen (numbers (length nodes))

    below : (c : ℕ) → Memᴰ c at → c < length nodes
    below c m = numbers_member (length nodes) (keep_member chosen (numbers (length nodes)) m).0

-- ---- nodes made of the elements that pass a test

-- the numbers of the elements that pass the test, the first element having number k
unfoldable pub kept_from : {A : Type 0} → (A → Bool) → ℕ → List A → List ℕ
kept_from test k [] = []
kept_from test k (x ∷ l) = cond (test x) (k ∷ kept_from test (suc k) l) (kept_from test (suc k) l)

-- the number in the list of the element with this number among those that pass
abbrev pub kept_number : {A : Type 0} → (A → Bool) → List A → ℕ → ℕ
kept_number test l k = get_or (kept_from test 0 l) k 0

-- the element with this number is there and passes
abbrev pub is_kept : {A : Type 0} → (A → Bool) → List A → ℕ → Bool
is_kept test l m = elim (get_elem? l m) [ none ↦ false | some x ↦ test x ]

module _ {A : Type 0} (test : A → Bool) where
  -- the numbers of a list whose first element passes, or does not
  kept_yes : (k : ℕ) (x : A) (l : List A) → test x ≡ true → kept_from test k (x ∷ l) ≡ k ∷ kept_from test (suc k) l
  unfolding kept_from
  kept_yes k x l e = rw e refl

  kept_no : (k : ℕ) (x : A) (l : List A) → test x ≡ false → kept_from test k (x ∷ l) ≡ kept_from test (suc k) l
  unfolding kept_from
  kept_no k x l e = rw e refl

  -- they are the numbers of the list that are kept, if the test of a number is that of its element
  kept_keep : (p : ℕ → Bool) (k : ℕ) (l : List A) → ((n : ℕ) (x : A) → get_elem? l n ≡ some x → p (k + n) ≡ test x)
      → kept_from test k l ≡ keep p (numbers_from k (length l))
  unfolding kept_from
  kept_keep p k [] same = refl
  kept_keep p k (x ∷ l) same =
      let e : p k ≡ test x = rw add-zero at (same 0 x refl) in
      rw (e, kept_keep p (suc k) l (λ n y h. rw (suc-add, ← add-suc) (same (suc n) y h))) refl

  -- as many as elements pass
  kept_length : (k : ℕ) (l : List A) → length (kept_from test k l) ≡ length (keep test l)
  unfolding kept_from
  kept_length k [] = refl
  kept_length k (x ∷ l) = go (test x) refl (kept_length (suc k) l)
    where
      go : (b : Bool) → test x ≡ b → length (kept_from test (suc k) l) ≡ length (keep test l)
          → length (kept_from test k (x ∷ l)) ≡ length (keep test (x ∷ l))
      go true e rest = rw (kept_yes k x l e, keep_yes test x l e) (ap suc rest)
      go false e rest = rw (kept_no k x l e, keep_no test x l e) rest

  -- and an element that passes stands in the list at its number
  kept_at_lem : (k : ℕ) (l : List A) (m : ℕ) {x : A} → get_elem? (keep test l) m ≡ some x
      → (n : ℕ) × (get_or (kept_from test k l) m 0 ≡ k + n) × (get_elem? l n ≡ some x)
  kept_at_lem k [] m h = let z : ◌≡◌ {A = ℕ} 0 1 = cc in absurd (omega arith)
  kept_at_lem k (y ∷ l) m {x} h = go (test y) refl m h (λ m h. kept_at_lem (suc k) l m h)
    where
      Found : ℕ → List A → ℕ → Type 0
      Found k l at = (n : ℕ) × (at ≡ k + n) × (get_elem? l n ≡ some x)

      later : (at : ℕ) → Found (suc k) l at → Found k (y ∷ l) at
      later at (n, e, g) = (suc n, omega arith, g)

      go : (b : Bool) → test y ≡ b → (m : ℕ) → get_elem? (keep test (y ∷ l)) m ≡ some x
          → ((m : ℕ) → get_elem? (keep test l) m ≡ some x → Found (suc k) l (get_or (kept_from test (suc k) l) m 0))
          → Found k (y ∷ l) (get_or (kept_from test k (y ∷ l)) m 0)
      go true e zero h rest = rw (kept_yes k y l e) (0, omega arith, rw (keep_yes test y l e) at h)
      go true e (suc m) h rest = rw (kept_yes k y l e) (later _ (rest m (rw (keep_yes test y l e) at h)))
      go false e m h rest = rw (kept_no k y l e) (later _ (rest m (rw (keep_no test y l e) at h)))

  -- the numbers of the elements that pass are the numbers of the list that are kept
  kept_numbers : (l : List A) → kept_from test 0 l ≡ keep (is_kept test l) (numbers (length l))
  kept_numbers l =
      kept_keep (is_kept test l) 0 l
      (λ n x h. rw zero-add (ap (λ (o : Option A). elim o as (λ y. Bool) [ none ↦ false | some y ↦ test y ]) h))

  module _ (whole part : A → Node) (same : (x : A) → ((part x).links ≡ (whole x).links) × ((part x).places ≡ (whole x).places)) where
    -- the nodes of the elements that pass stand at the numbers of these elements
    kept_stands : (l : List A) → StandsAt (map part (keep test l)) (map whole l) (kept_number test l)
    kept_stands l m a h =
        let x = get_elem?_of_map part (keep test l) m h in
        let n = kept_at_lem 0 l m x.1 in (
          whole x.0,
          rw (n.1, zero-add) (get_elem?_map_some whole l n.0 n.2),
          ap (λ (y : Node). y.links) (sym x.2) ∙ (same x.0).0,
          ap (λ (y : Node). y.places) (sym x.2) ∙ (same x.0).1,
        )

    -- the graph of the elements that pass is the part of the graph of all on their numbers
    pub kept_part : (l : List A) → PartOf (graph_of (map part (keep test l))) (graph_of (map whole l)) (is_kept test l) (kept_number test l)
    kept_part l =
        stands_part (is_kept test l) (map part (keep test l)) (map whole l) (kept_from test 0 l)
        (kept_numbers l ∙ ap (λ (n : ℕ). keep (is_kept test l) (numbers n)) (sym (length-map l whole)))
        (length-map (keep test l) part ∙ sym (kept_length 0 l)) (kept_stands l)

    -- so where the graph of all has no dangerous walk, that of the elements that pass has none
    pub kept_robust : (l : List A) → (DangerousWalk (graph_of (map whole l)) → ⊥) → DangerousWalk (graph_of (map part (keep test l))) → ⊥
    kept_robust l = part_robust (kept_part l)
