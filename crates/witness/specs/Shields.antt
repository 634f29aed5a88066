-- The summary graph with the shield left open: the graph of Req 02's shield and, but for the shield alone, the graphs of two others that
-- differ from it on one side each. So a witness can say of a workload what another shield would make of it.
use Rattle.std.specs.Prelude.{Bool, true, not, ◌&&◌, ◌||◌, List, ◌⊎◌, ◌≡◌, refl, length}
use Rattle.std.proofs.lemmas.Bool.{false≢true}
use Rattle.std.proofs.Common.{inl, inr}
use Rattle.std.proofs.Math.Option.{Option, none, some}
use Rattle.std.proofs.Math.ListN.{get_elem?}
use Rattle.spec_base.specs.Basic.{any}
use Rattle.law_base.specs.BoolLaws.{and_true, and_of, or_true, or_left, or_right}
use Rattle.spec_graph.specs.Graph.{Flow, Graph}
use Rattle.spec_graph.specs.Unfolding.{Node}
use Rattle.spec_graph.specs.Edge.{Place, at, holds, has_tests, selects, loosens, same_relation, guarded_near, guarded_far, shielded, forward, back}
use Rattle.spec_graph.specs.Edge.{stands, both_pass, loosens_at, place_at, graph_of}
use Rattle.spec_graph.specs.Edge.Letter.{A, B, C, D, E}
use Rattle.spec_graph.specs.Walk.{is_edge, dangerous_pair, is_dangerous}
use Rattle.law_kinds.specs.EveryKind.{kind_implies}
use Rattle.law_walk.specs.Reach.{Regular, regular}
use Rattle.cases.specs.Computed.{all_pass}

-- ---- the shields

-- the shield before Req 02: on both sides the parent stands before the child
unfoldable pub both_near : Place → Place → Bool
both_near s t = any (λ l. guarded_near l.key s && guarded_near l.key t) s.node.links

-- on both sides the parent stands anywhere
unfoldable pub both_far : Place → Place → Bool
both_far s t = any (λ l. guarded_far l.key s && guarded_far l.key t) s.node.links

-- ---- the graph

-- E2 with this shield
unfoldable pub back_by : (Place → Place → Bool) → Place → Place → Bool
back_by shield s t =
    same_relation (at s) (at t)
    && (holds E (at s) (at t) || selects (at s).kind && holds D (at s) (at t) && not (shield s t))

abbrev pub stands_by : (Place → Place → Bool) → Flow → Place → Place → Bool
stands_by shield Flow.forward s t = forward s t
stands_by shield Flow.back s t = back_by shield s t

-- the summary graph of the nodes with this shield
unfoldable pub graph_by : (Place → Place → Bool) → List Node → Graph
graph_by shield nodes =
    record {
      size = length nodes;
      places = λ m. elim (get_elem? nodes m) [ none ↦ 0 | some n ↦ length n.places ];
      edge = λ m i n j flow. both_pass (stands_by shield flow) (place_at nodes m i) (place_at nodes n j);
      loose = λ m i. loosens_at (place_at nodes m i);
    }

-- with the shield as it is it is the summary graph: each edge of it is by definition one of the other
pub same_graph : (nodes : List Node) → graph_by shielded nodes ≡ graph_of nodes
unfolding graph_by graph_of back_by back
same_graph nodes =
    λ x.
    record {
      size = length nodes;
      places = λ m. elim (get_elem? nodes m) [ none ↦ 0 | some n ↦ length n.places ];
      edge = λ m i n j flow. both_pass (λ s t. same flow s t x) (place_at nodes m i) (place_at nodes n j);
      loose = λ m i. loosens_at (place_at nodes m i);
    }
  where
    same : (flow : Flow) (s t : Place) → stands_by shielded flow s t ≡ stands flow s t
    same Flow.forward s t = refl
    same Flow.back s t = refl

-- ---- the computed test decides it too

-- a back edge has a forward twin, and it leaves a loose place: it is of letter E, or of letter D from a select
back_facts : (shield : Place → Place → Bool) (s t : Place) → back_by shield s t ≡ true
    → (forward s t ≡ true) × (loosens (at s).kind ≡ true)
unfolding back_by forward holds
back_facts shield s t h =
    let a = and_true (same_relation (at s) (at t)) (holds E (at s) (at t) || unshielded) h in
    let b = go (or_true (holds E (at s) (at t)) unshielded a.1) in (and_of a.0 b.0, b.1)
  where
    earlier : Bool
    earlier = holds A (at s) (at t) || holds B (at s) (at t) || holds C (at s) (at t)

    unshielded : Bool
    unshielded = selects (at s).kind && holds D (at s) (at t) && not (shield s t)

    go : (holds E (at s) (at t) ≡ true) ⊎ (unshielded ≡ true)
        → (earlier || holds D (at s) (at t) || holds E (at s) (at t) ≡ true) × (loosens (at s).kind ≡ true)
    go (inl e) =
        (or_right (earlier || holds D (at s) (at t)) e, kind_implies has_tests loosens refl (at s).kind (and_true _ _ e).0)
    go (inr e) =
        let d = and_true (selects (at s).kind) (holds D (at s) (at t)) (and_true _ (not (shield s t)) e).0 in
        (or_left (holds E (at s) (at t)) (or_right earlier d.1), kind_implies selects loosens refl (at s).kind d.0)

-- the same of places that may be missing: where one is missing no edge stands
both_facts : (shield : Place → Place → Bool) (s t : Option Place) → both_pass (back_by shield) s t ≡ true
    → (both_pass forward s t ≡ true) × (loosens_at s ≡ true)
both_facts shield none t h = absurd (false≢true h)
both_facts shield (some s) none h = absurd (false≢true h)
both_facts shield (some s) (some t) h = back_facts shield s t h

-- with any shield the graph is regular: its forward edges are those of the summary graph, and each back edge has a forward twin
pub regular_by : (shield : Place → Place → Bool) (nodes : List Node) → Regular (graph_by shield nodes)
unfolding graph_by graph_of
regular_by shield nodes =
    record {
      in_nodes = λ m i n j flow h. (regular nodes).in_nodes m i n j Flow.forward (twin flow (place_at nodes m i) (place_at nodes n j) h);
      twin = λ m i n j h. twin Flow.back (place_at nodes m i) (place_at nodes n j) h;
      back_loose = λ m i n j h. (both_facts shield (place_at nodes m i) (place_at nodes n j) h).1;
    }
  where
    twin : (flow : Flow) (s t : Option Place) → both_pass (stands_by shield flow) s t ≡ true → both_pass forward s t ≡ true
    twin Flow.forward s t h = h
    twin Flow.back s t h = (both_facts shield s t h).0

-- opens what these graphs and the walks in them compute with
unfoldable pub open_shields : Bool
unfolding all_pass both_near both_far back_by graph_by is_edge dangerous_pair is_dangerous
open_shields = true
