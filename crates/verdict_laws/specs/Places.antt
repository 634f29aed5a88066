-- The places of nodes, listed and by their numbers: the same places.
use Rattle.std.specs.Prelude.{◌≡◌, refl, ℕ, zero, suc, ◌+◌, ◌≤◌}
use Rattle.std.proofs.Common.{sym, ap, subst, ◌∙◌, ⊎_elim, zero-le, add-zero, suc-add, add-suc, zero-add, arith}
use mathlib.Core.List.{List, [], ◌∷◌, Memᴰ}
use mathlib.Core.List.Memᴰ
use Rattle.std.proofs.Math.Option.{Option, none, some, none-ne-some}
use Rattle.std.proofs.Math.ListN.{get_elem?}
use Rattle.law_base.specs.ListLaws.{some_injective}
use Rattle.spec_graph.specs.Unfolding.{Node, Occurrence}
use Rattle.spec_graph.specs.Edge.{Place, places_from, places_of, place_at, graph_of}
use Rattle.spec_report.specs.State.{statements_in}

-- the place stands in its node, and its node among the nodes
pub record StandsIn (nodes : List Node) (m : ℕ) (s : Place) : Type 0 where
  pub node : get_elem? nodes m ≡ some s.node
  pub occurrence : get_elem? s.node.places s.place ≡ some s.occurrence

-- a place of a node that is listed from place i on
record Listed (m : ℕ) (n : Node) (i : ℕ) (l : List Occurrence) (s : Place) : Type 0 where
  pub number : s.number ≡ m
  pub node : s.node ≡ n
  pub later : ℕ
  pub place : s.place ≡ i + later
  pub occurrence : get_elem? l later ≡ some s.occurrence

places_from_listed : (m : ℕ) (n : Node) (i : ℕ) (l : List Occurrence) {s : Place} → Memᴰ s (places_from m n i l) → Listed m n i l s
unfolding places_from
places_from_listed m n i [] h = absurd (Memᴰ.not-nil h)
places_from_listed m n i (o ∷ l) {s} h =
    ⊎_elim
    (λ e. record {
      number = ap (λ (x : Place). x.number) e;
      node = ap (λ (x : Place). x.node) e;
      later = 0;
      place = ap (λ (x : Place). x.place) e ∙ sym (add-zero i);
      occurrence = ap (λ (x : Place). some x.occurrence) (sym e);
    })
    (λ r. let t = places_from_listed m n (suc i) l {s = s} r in record {
      number = t.number;
      node = t.node;
      later = suc t.later;
      place = t.place ∙ suc-add i t.later ∙ sym (add-suc i t.later);
      occurrence = t.occurrence;
    })
    (Memᴰ.cases_cons h)

listed_places_from : (m : ℕ) (n : Node) (i : ℕ) (l : List Occurrence) (j : ℕ) (o : Occurrence) → get_elem? l j ≡ some o
    → Memᴰ (record { number = m; node = n; place = i + j; occurrence = o }) (places_from m n i l)
unfolding places_from
listed_places_from m n i [] j o h = absurd (none-ne-some o h)
listed_places_from m n i (x ∷ l) zero o h =
    Memᴰ.head (λ k. record { number = m; node = n; place = add-zero i k; occurrence = some_injective (sym h) k })
listed_places_from m n i (x ∷ l) (suc j) o h =
    Memᴰ.tail
    (subst (λ (k : ℕ). Memᴰ (record { number = m; node = n; place = k; occurrence = o }) (places_from m n (suc i) l))
    (suc-add i j ∙ sym (add-suc i j)) (listed_places_from m n (suc i) l j o h))

-- a place listed among those of the nodes from number k on
places_of_stands : (k : ℕ) (nodes : List Node) {s : Place} → Memᴰ s (places_of k nodes)
    → (m : ℕ) × (s.number ≡ k + m) × StandsIn nodes m s
unfolding places_of
places_of_stands k [] h = absurd (Memᴰ.not-nil h)
places_of_stands k (n ∷ nodes) {s} h =
    ⊎_elim
    (λ f.
    let t = places_from_listed k n 0 n.places {s = s} f in (
      0,
      t.number ∙ sym (add-zero k),
      record {
        node = ap (λ (x : Node). some x) (sym t.node);
        occurrence =
            ap (λ (x : Node). get_elem? x.places s.place) t.node ∙ ap (get_elem? n.places) (t.place ∙ zero-add t.later)
            ∙ t.occurrence;
      },
    ))
    (λ r.
    let t = places_of_stands (suc k) nodes {s = s} r in (
      suc t.0,
      t.1 ∙ suc-add k t.0 ∙ sym (add-suc k t.0),
      record { node = t.2.node; occurrence = t.2.occurrence },
    ))
    (Memᴰ.append_cases (places_from k n 0 n.places) h)

stands_places_of : (k : ℕ) (nodes : List Node) (m i : ℕ) (n : Node) (o : Occurrence) → get_elem? nodes m ≡ some n → get_elem? n.places i ≡ some o
    → Memᴰ (record { number = k + m; node = n; place = i; occurrence = o }) (places_of k nodes)
unfolding places_of
stands_places_of k [] m i n o h e = absurd (none-ne-some n h)
stands_places_of k (x ∷ nodes) zero i n o h e =
    let same : x ≡ n = some_injective h in
    Memᴰ.append_left (places_of (suc k) nodes)
    (subst (λ (s : Place). Memᴰ s (places_from k x 0 x.places))
    (λ z. record { number = sym (add-zero k) z; node = same z; place = zero-add i z; occurrence = o })
    (listed_places_from k x 0 x.places i o (ap (λ (y : Node). get_elem? y.places i) same ∙ e)))
stands_places_of k (x ∷ nodes) (suc m) i n o h e =
    Memᴰ.append_right (places_from k x 0 x.places)
    (subst (λ (j : ℕ). Memᴰ (record { number = j; node = n; place = i; occurrence = o }) (places_of (suc k) nodes))
    (suc-add k m ∙ sym (add-suc k m)) (stands_places_of (suc k) nodes m i n o h e))

-- N2: a place of the list is found by its numbers
pub place_found : (nodes : List Node) (s : Place) → Memᴰ s (places_of 0 nodes) → place_at nodes s.number s.place ≡ some s
unfolding place_at
place_found nodes s h =
    let t = places_of_stands 0 nodes h in
    let number = t.1 ∙ zero-add t.0 in
    let there = ap (get_elem? nodes) number ∙ t.2.node in
    rw (there, place_at) (rw t.2.occurrence refl)

-- N2: and one that is found by its numbers is in the list
pub found_place : (nodes : List Node) (m i : ℕ) {s : Place} → place_at nodes m i ≡ some s
    → Memᴰ s (places_of 0 nodes) × (s.number ≡ m) × (s.place ≡ i)
unfolding place_at
found_place nodes m i {s} h = node (get_elem? nodes m) refl h
  where
    found : (n : Node) → get_elem? nodes m ≡ some n → (o : Option Occurrence) → get_elem? n.places i ≡ o
        → ◌≡◌ {A = Option Place}
        (elim o [ none ↦ none | some x ↦ some (record { number = m; node = n; place = i; occurrence = x }) ])
        (some s)
        → Memᴰ s (places_of 0 nodes) × (s.number ≡ m) × (s.place ≡ i)
    found n e none d q = absurd (none-ne-some s q)
    found n e (some x) d q =
        let same = some_injective q in (
          subst (λ (y : Place). Memᴰ y (places_of 0 nodes))
              ((λ z. record { number = zero-add m z; node = n; place = i; occurrence = x }) ∙ same) (stands_places_of 0 nodes m i n x e d),
          ap (λ (y : Place). y.number) (sym same),
          ap (λ (y : Place). y.place) (sym same),
        )

    node : (o : Option Node) → get_elem? nodes m ≡ o
        → ◌≡◌ {A = Option Place}
        (elim o [
          | none ↦ none
          | some n ↦
              elim (get_elem? n.places i) [ none ↦ none | some x ↦ some (record { number = m; node = n; place = i; occurrence = x }) ]
        ])
        (some s)
        → Memᴰ s (places_of 0 nodes) × (s.number ≡ m) × (s.place ≡ i)
    node none e q = absurd (none-ne-some s q)
    node (some n) e q = found n e (get_elem? n.places i) refl q

-- a node has no more places than all nodes together
pub places_few : (nodes : List Node) (m : ℕ) → (graph_of nodes).places m ≤ statements_in nodes
unfolding graph_of statements_in
places_few [] m = zero-le
places_few (n ∷ nodes) zero = omega arith
places_few (n ∷ nodes) (suc m) = let h = places_few nodes m in omega arith
