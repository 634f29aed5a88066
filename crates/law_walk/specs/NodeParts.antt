-- Parts of a summary graph: the graph of some of the nodes is an induced part of the graph of all. So its dangerous walks are those of
-- the whole that stay in these nodes, renumbered (`part-walks`, `walk-back`, `none-in-part` of Parts).
use Rattle.std.specs.Prelude.{Bool, true, false, ◌&&◌, ◌≡◌, refl, ℕ, zero, suc, ◌<◌, length, get_or}
use mathlib.Core.List.{List, [], ◌∷◌, Memᴰ}
use Rattle.std.proofs.Math.Option.{Option, none, some}
use Rattle.std.proofs.Common.{sym, ap, ap₂, ◌∙◌, suc-le-suc, arith}
use Rattle.std.proofs.Math.ListN.{get_elem?}
use Rattle.spec_base.specs.Basic.{any, keep, numbers_from}
use Rattle.law_base.specs.ListLaws.{any_same, get_elem?_found, some_injective, keep_yes, keep_no, keep_member, numbers_from_member}
use Rattle.spec_graph.specs.Graph.{Flow}
use Rattle.spec_graph.specs.Unfolding.{Node, Occurrence}
use Rattle.spec_graph.specs.Edge.{Place, at, has_parent}
use Rattle.spec_graph.specs.Edge.{guarded_near, guarded_far, shielded, forward, back, stands, both_pass}
use Rattle.spec_graph.specs.Edge.{loosens_at, place_at, graph_of}
use Rattle.spec_graph.specs.Walk.{Step}
use Rattle.law_walk.specs.Reach.{regular}
use Rattle.law_walk.specs.Parts.{Embedding, Stays}

-- ---- edges do not look at the numbers of nodes and programs

-- two places alike but for the numbers of their nodes and programs
pub record Alike (s t : Place) : Type 0 where
  pub occurrence : s.occurrence ≡ t.occurrence
  pub place : s.place ≡ t.place
  pub links : s.node.links ≡ t.node.links
  pub places : s.node.places ≡ t.node.places

-- they have parents that shield by the same keys, near and far
near_alike : (key : ℕ) {s t : Place} → Alike s t → guarded_near key s ≡ guarded_near key t
unfolding guarded_near has_parent
near_alike key a = rw (a.occurrence, a.place, a.links, a.places) refl

far_alike : (key : ℕ) {s t : Place} → Alike s t → guarded_far key s ≡ guarded_far key t
unfolding guarded_far has_parent
far_alike key a = rw (a.occurrence, a.links, a.places) refl

-- so the same pairs are shielded
shielded_alike : {s s' t t' : Place} → Alike s s' → Alike t t' → shielded s t ≡ shielded s' t'
unfolding shielded
shielded_alike {s} {s'} {t} {t'} a b =
    any_same _ (λ l. guarded_near l.key s' && guarded_far l.key t') s.node.links
    (λ l m. ap₂ ◌&&◌ (near_alike l.key a) (far_alike l.key b))
    ∙ ap (any (λ l. guarded_near l.key s' && guarded_far l.key t')) a.links

-- and the same edges stand
pub stands_alike : (flow : Flow) {s s' t t' : Place} → Alike s s' → Alike t t' → stands flow s t ≡ stands flow s' t'
unfolding forward back
stands_alike Flow.forward a b = rw (a.occurrence, b.occurrence) refl
stands_alike Flow.back a b = rw (shielded_alike a b, a.occurrence, b.occurrence) refl

-- no place at all, or two that are alike
AlikeAt : Option Place → Option Place → Type 0
AlikeAt none none = Unit
AlikeAt none (some t) = ⊥
AlikeAt (some s) none = ⊥
AlikeAt (some s) (some t) = Alike s t

-- the same edges stand between places that may be missing
both_alike : (flow : Flow) (s s' t t' : Option Place) → AlikeAt s s' → AlikeAt t t'
    → both_pass (stands flow) s t ≡ both_pass (stands flow) s' t'
unfolding AlikeAt
both_alike flow none none t t' a b = refl
both_alike flow none (some s') t t' a b = absurd a
both_alike flow (some s) none t t' a b = absurd a
both_alike flow (some s) (some s') none none a b = refl
both_alike flow (some s) (some s') none (some t') a b = absurd b
both_alike flow (some s) (some s') (some t) none a b = absurd b
both_alike flow (some s) (some s') (some t) (some t') a b = stands_alike flow a b

-- and the same places are loose
loose_alike : (s s' : Option Place) → AlikeAt s s' → loosens_at s ≡ loosens_at s'
unfolding AlikeAt
loose_alike none none a = refl
loose_alike none (some s') a = absurd a
loose_alike (some s) none a = absurd a
loose_alike (some s) (some s') a = rw a.occurrence refl

-- ---- the graph of some of the nodes

-- each node of the first list stands in the second at the number that f gives, with the same links and places
abbrev pub StandsAt : List Node → List Node → (ℕ → ℕ) → Type 0
StandsAt part whole f = (m : ℕ) (a : Node) → get_elem? part m ≡ some a
    → (b : Node) × (get_elem? whole (f m) ≡ some b) × (a.links ≡ b.links) × (a.places ≡ b.places)

-- the place with this number of a node, where there is one
abbrev placed : Node → ℕ → ℕ → Option Occurrence → Option Place
placed n m i o = elim o [ none ↦ none | some x ↦ some (record { number = m; node = n; place = i; occurrence = x }) ]

-- what a node that is found has at this place
place_at_node : (nodes : List Node) (m i : ℕ) {n : Node} → get_elem? nodes m ≡ some n → place_at nodes m i ≡ placed n m i (get_elem? n.places i)
unfolding place_at
place_at_node nodes m i e =
    ap (λ (o : Option Node). elim o as (λ x. Option Place) [ none ↦ none | some n ↦ placed n m i (get_elem? n.places i) ]) e

-- a place of the part is alike to the place of the whole at the node's number
place_alike : (part whole : List Node) (f : ℕ → ℕ) → StandsAt part whole f → (m i : ℕ) → m < length part
    → AlikeAt (place_at whole (f m) i) (place_at part m i)
unfolding AlikeAt
place_alike part whole f stand m i below =
    let a = get_elem?_found part m below in
    let b = stand m a.0 a.1 in
    let here = place_at_node part m i a.1 ∙ ap (λ (l : List Occurrence). placed a.0 m i (get_elem? l i)) b.3 in
    rw (here, place_at_node whole (f m) i b.1) (go a.0 b.0 b.2 b.3 (get_elem? b.0.places i))
  where
    go : (a b : Node) → a.links ≡ b.links → a.places ≡ b.places → (o : Option Occurrence) → AlikeAt (placed b (f m) i o) (placed a m i o)
    go a b links places none = tt
    go a b links places (some x) = record { occurrence = refl; place = refl; links = sym links; places = sym places }

-- the graph of the nodes of the first list is the part of the graph of the second on their numbers
pub nodes_embedded : (part whole : List Node) (f : ℕ → ℕ) → StandsAt part whole f → Embedding (graph_of part) (graph_of whole) f
unfolding graph_of
nodes_embedded part whole f stand =
    record {
      in_nodes = λ m i n j flow h. let b = (regular part).in_nodes m i n j flow h in (b.0, b.1);
      same_edges = λ m i n j flow hm hn.
          both_alike flow (place_at whole (f m) i) (place_at part m i) (place_at whole (f n) j) (place_at part n j)
          (place_alike part whole f stand m i hm) (place_alike part whole f stand n j hn);
      same_loose = λ m i hm. loose_alike (place_at whole (f m) i) (place_at part m i) (place_alike part whole f stand m i hm);
    }

-- ---- nodes chosen by their numbers

-- the nodes with these numbers
unfoldable pub nodes_at : List Node → List ℕ → List Node
nodes_at nodes [] = []
nodes_at nodes (c ∷ chosen) = elim (get_elem? nodes c) [ none ↦ nodes_at nodes chosen | some n ↦ n ∷ nodes_at nodes chosen ]

-- a number with a node gives that node first
pub nodes_at_cons : (nodes : List Node) (c : ℕ) (chosen : List ℕ) {n : Node} → get_elem? nodes c ≡ some n
    → nodes_at nodes (c ∷ chosen) ≡ n ∷ nodes_at nodes chosen
unfolding nodes_at
nodes_at_cons nodes c chosen e =
    ap (λ (o : Option Node). elim o as (λ x. List Node) [ none ↦ nodes_at nodes chosen | some n ↦ n ∷ nodes_at nodes chosen ]) e

-- the number in the whole of the node with this number among the chosen
abbrev pub chosen_number : List ℕ → ℕ → ℕ
chosen_number chosen k = get_or chosen k 0

-- a chosen node stands in the whole at its number
pub chosen_stands : (nodes : List Node) (chosen : List ℕ) → ((c : ℕ) → Memᴰ c chosen → c < length nodes)
    → StandsAt (nodes_at nodes chosen) nodes (chosen_number chosen)
unfolding nodes_at
chosen_stands nodes [] below m a e = let z : ◌≡◌ {A = ℕ} 0 1 = cc in absurd (omega arith)
chosen_stands nodes (c ∷ chosen) below m a e =
    let n = get_elem?_found nodes c (below c (Memᴰ.head refl)) in
    go n.0 n.1 m (rw (nodes_at_cons nodes c chosen n.1) at e) (λ k q. chosen_stands nodes chosen (λ x i. below x (Memᴰ.tail i)) k a q)
  where
    Found : ℕ → Type 0
    Found k = (b : Node) × (get_elem? nodes k ≡ some b) × (a.links ≡ b.links) × (a.places ≡ b.places)

    go : (n : Node) → get_elem? nodes c ≡ some n → (m : ℕ) → get_elem? (n ∷ nodes_at nodes chosen) m ≡ some a
        → ((k : ℕ) → get_elem? (nodes_at nodes chosen) k ≡ some a → Found (chosen_number chosen k)) → Found (chosen_number (c ∷ chosen) m)
    go n h zero q rest =
        let same = some_injective q in (n, h, sym (ap (λ (x : Node). x.links) same), sym (ap (λ (x : Node). x.places) same))
    go n h (suc k) q rest = rest k q

-- there are as many as numbers were chosen
pub chosen_length : (nodes : List Node) (chosen : List ℕ) → ((c : ℕ) → Memᴰ c chosen → c < length nodes)
    → length (nodes_at nodes chosen) ≡ length chosen
unfolding nodes_at
chosen_length nodes [] below = refl
chosen_length nodes (c ∷ chosen) below =
    let n = get_elem?_found nodes c (below c (Memᴰ.head refl)) in
    ap length (nodes_at_cons nodes c chosen n.1) ∙ ap suc (chosen_length nodes chosen (λ x i. below x (Memᴰ.tail i)))

-- the graph of the chosen nodes is the part of the graph on their numbers
pub chosen_embedded : (nodes : List Node) (chosen : List ℕ) → ((c : ℕ) → Memᴰ c chosen → c < length nodes)
    → Embedding (graph_of (nodes_at nodes chosen)) (graph_of nodes) (chosen_number chosen)
chosen_embedded nodes chosen below =
    nodes_embedded (nodes_at nodes chosen) nodes (chosen_number chosen) (chosen_stands nodes chosen below)

-- the number of a chosen node is one of the chosen
pub chosen_member : (chosen : List ℕ) (k : ℕ) → k < length chosen → Memᴰ (chosen_number chosen k) chosen
chosen_member [] k h = absurd (omega arith)
chosen_member (c ∷ chosen) zero h = Memᴰ.head refl
chosen_member (c ∷ chosen) (suc k) h = Memᴰ.tail (chosen_member chosen k (omega arith))

-- and each of the chosen is that of a chosen node
pub chosen_found : {n : ℕ} {chosen : List ℕ} → Memᴰ n chosen → (k : ℕ) × (k < length chosen) × (chosen_number chosen k ≡ n)
chosen_found (Memᴰ.head e) = (0, omega arith, sym e)
chosen_found (Memᴰ.tail i) = let t = chosen_found i in (suc t.0, suc-le-suc t.1, t.2)

-- a walk stays in the part if each of its nodes is chosen
pub stays_chosen : (chosen : List ℕ) (walk : List Step) → ((s : Step) → Memᴰ s walk → Memᴰ s.node chosen)
    → Stays (length chosen) (chosen_number chosen) walk
stays_chosen chosen walk inside s m = chosen_found (inside s m)

-- numbers kept of those below n stand in increasing order, so nodes keep their order
pub kept_increase : (p : ℕ → Bool) (a n k l : ℕ) → k < l → l < length (keep p (numbers_from a n))
    → chosen_number (keep p (numbers_from a n)) k < chosen_number (keep p (numbers_from a n)) l
kept_increase p a zero k l h below = absurd (omega arith)
kept_increase p a (suc n) k l h below = go (p a) refl k l h below (λ k l h b. kept_increase p (suc a) n k l h b)
  where
    rest : List ℕ
    rest = keep p (numbers_from (suc a) n)

    Increases : List ℕ → Type 0
    Increases x = (k l : ℕ) → k < l → l < length x → chosen_number x k < chosen_number x l

    above : (l : ℕ) → l < length rest → a < chosen_number rest l
    above l b = (numbers_from_member (suc a) n (keep_member p (numbers_from (suc a) n) (chosen_member rest l b)).0).0

    cons : Increases rest → Increases (a ∷ rest)
    cons inc zero zero h b = absurd (omega arith)
    cons inc zero (suc l) h b = above l (omega arith)
    cons inc (suc k) zero h b = absurd (omega arith)
    cons inc (suc k) (suc l) h b = inc k l (omega arith) (omega arith)

    go : (b : Bool) → p a ≡ b → (k l : ℕ) → k < l → l < length (keep p (a ∷ numbers_from (suc a) n)) → Increases rest
        → chosen_number (keep p (a ∷ numbers_from (suc a) n)) k < chosen_number (keep p (a ∷ numbers_from (suc a) n)) l
    go true e k l h b inc =
        rw (keep_yes p a (numbers_from (suc a) n) e) (cons inc k l h (rw (keep_yes p a (numbers_from (suc a) n) e) at b))
    go false e k l h b inc =
        rw (keep_no p a (numbers_from (suc a) n) e) (inc k l h (rw (keep_no p a (numbers_from (suc a) n) e) at b))
