-- Edges between places that are found by their numbers, and the dangerous walks that they make.
use Rattle.std.specs.Prelude.{true, ◌||◌, List, ◌≡◌, ℕ, ltb}
use Rattle.std.proofs.Math.Option.{Option, none, some, none-ne-some}
use Rattle.std.proofs.Math.Path.{refl}
use Rattle.std.proofs.Math.ListN.{get_elem?}
use Rattle.std.proofs.Common.{eqb-true, eq-eqb}
use Rattle.law_base.specs.BoolLaws.{and_of, or_left, or_right}
use Rattle.law_base.specs.ListLaws.{some_injective, get_elem?_member}
use Rattle.spec_text.specs.declared.Workload.{Workload}
use Rattle.spec_text.specs.Value.{Given, lines_of}
use Rattle.spec_graph.specs.Graph.{Flow}
use Rattle.spec_graph.specs.Program.{Statement}
use Rattle.spec_graph.specs.Unfolding.{Node, Occurrence, nodes_of}
use Rattle.spec_graph.specs.Edge.{Place, at, has_tests, holds, same_relation, forward, back, stands, place_at, graph_of}
use Rattle.spec_graph.specs.Edge.Letter.{A, B}
use Rattle.spec_graph.specs.Walk.{is_edge, dangerous_pair, DangerousWalk}
use Rattle.law_walk.specs.Reach.{Reachable, regular, walk_iff_return}
use Rattle.law_walk.specs.Reach.Reachable.{here, along}
use Rattle.node_laws.specs.GivenNodes.{LawfulStatement, given_places}
use Rattle.law_database.specs.Disturbs.{disturbs}

-- ---- relations

-- the relation of one is that of the other
pub relation_same : (p q : Statement) → same_relation p q ≡ true → p.relation ≡ q.relation
unfolding same_relation
relation_same p q h = eqb-true p.relation q.relation h

pub same_relation_lem : (p q : Statement) → p.relation ≡ q.relation → same_relation p q ≡ true
unfolding same_relation
same_relation_lem p q e = eq-eqb p.relation q.relation e

-- ---- letters make edges

module _ (s t : Place) (over : same_relation (at s) (at t) ≡ true) where
  pub forward_by_A : holds A (at s) (at t) ≡ true → forward s t ≡ true
  unfolding forward
  forward_by_A h = and_of over (or_left _ (or_left _ (or_left _ (or_left _ h))))

  pub forward_by_B : holds B (at s) (at t) ≡ true → forward s t ≡ true
  unfolding forward
  forward_by_B h = and_of over (or_left _ (or_left _ (or_left _ (or_right (holds A (at s) (at t)) h))))

  -- C: the first disturbs the second
  pub forward_disturbing : has_tests (at t).kind ≡ true → disturbs (at s) (at t) ≡ true → forward s t ≡ true
  unfolding forward holds
  forward_disturbing tests h =
      and_of over (or_left _ (or_left _ (or_right (holds A (at s) (at t) || holds B (at s) (at t)) (and_of tests h))))

  -- E: the second disturbs the first
  pub back_disturbed : has_tests (at s).kind ≡ true → disturbs (at t) (at s) ≡ true → back s t ≡ true
  unfolding back holds
  back_disturbed tests h = and_of over (or_left _ (and_of tests h))

-- ---- places that are found

module _ (nodes : List Node) where
  -- an edge that stands between them is one of the graph
  pub edge_between : (flow : Flow) (m i n j : ℕ) {s t : Place} → place_at nodes m i ≡ some s → place_at nodes n j ≡ some t
      → stands flow s t ≡ true → (graph_of nodes).edge m i n j flow ≡ true
  unfolding graph_of
  edge_between flow m i n j at_s at_t h = rw (at_s, at_t) h

  -- a forward edge from u into v, a back edge from v into w that makes it dangerous, and a way from w to u
  pub danger_closed : (u i v j k w l : ℕ) → (graph_of nodes).edge u i v j Flow.forward ≡ true → (graph_of nodes).edge v k w l Flow.back ≡ true
      → ltb k j || (graph_of nodes).loose u i ≡ true → Reachable (graph_of nodes) w u → DangerousWalk (graph_of nodes)
  unfolding is_edge dangerous_pair
  danger_closed u i v j k w l first second dangerous way =
      (walk_iff_return (graph_of nodes) (regular nodes)).1
      (record {
        e = record { node = u; leaves = i; enters = j; flow = Flow.forward };
        c = record { node = v; leaves = k; enters = l; flow = Flow.back };
        into = w;
        first = first;
        second = second;
        dangerous = dangerous;
        returns = way;
      })

  -- a back edge from a node into the same node: after its forward twin, which leaves the same loose place, it is dangerous
  pub own_back : (m i j : ℕ) → (graph_of nodes).edge m i m j Flow.back ≡ true → DangerousWalk (graph_of nodes)
  own_back m i j h =
      danger_closed m i m j i m j ((regular nodes).twin m i m j h) h (or_right (ltb i j) ((regular nodes).back_loose m i m j h)) (here refl)

  -- a back edge, and a forward one that comes back from the place entered into a later place than the one left
  pub later_return : (m i k n j : ℕ) → (graph_of nodes).edge m i n j Flow.back ≡ true → (graph_of nodes).edge n j m k Flow.forward ≡ true
      → ltb i k ≡ true → DangerousWalk (graph_of nodes)
  later_return m i k n j out into later = danger_closed n j m k i n j into out (or_left _ later) (here refl)

  -- a back edge, a forward one that comes back, and a forward one from the place left to itself, which is loose
  pub loose_return : (m i n j : ℕ) → (graph_of nodes).edge m i n j Flow.back ≡ true → (graph_of nodes).edge n j m i Flow.forward ≡ true
      → (graph_of nodes).edge m i m i Flow.forward ≡ true → DangerousWalk (graph_of nodes)
  loose_return m i n j out into own =
      danger_closed m i m i i n j own out (or_right (ltb i i) ((regular nodes).back_loose m i n j out)) (along j m i Flow.forward into (here refl))

  -- the node and the occurrence of a place are there
  pub place_there : (m i : ℕ) {s : Place} → place_at nodes m i ≡ some s
      → (get_elem? nodes m ≡ some s.node) × (get_elem? s.node.places i ≡ some s.occurrence)
  unfolding place_at
  place_there m i {s} h = node (get_elem? nodes m) refl h
    where
      Goal : Type 0
      Goal = (get_elem? nodes m ≡ some s.node) × (get_elem? s.node.places i ≡ some s.occurrence)

      found : (n : Node) → get_elem? nodes m ≡ some n → (o : Option Occurrence) → get_elem? n.places i ≡ o
          → ◌≡◌ {A = Option Place}
          (elim o [ none ↦ none | some x ↦ some (record { number = m; node = n; place = i; occurrence = x }) ])
          (some s)
          → Goal
      found n e none d q = absurd (none-ne-some s q)
      found n e (some x) d q = let same = some_injective q in rw (← same) (e, d)

      node : (o : Option Node) → get_elem? nodes m ≡ o
          → ◌≡◌ {A = Option Place}
          (elim o [
            | none ↦ none
            | some n ↦
                elim (get_elem? n.places i) [ none ↦ none | some x ↦ some (record { number = m; node = n; place = i; occurrence = x }) ]
          ])
          (some s)
          → Goal
      node none e q = absurd (none-ne-some s q)
      node (some n) e q = found n e (get_elem? n.places i) refl q

-- T9: the statement of a place of a given workload has the sets that its kind allows
pub place_lawful : {w : Workload} → Given w → (m i : ℕ) {s : Place} → place_at (nodes_of (lines_of w)) m i ≡ some s
    → LawfulStatement (lines_of w) (at s)
place_lawful {w} given m i {s} found =
    let there = place_there (nodes_of (lines_of w)) m i found in
    (given_places given s.node (get_elem?_member _ m there.0)).places s.occurrence (get_elem?_member _ i there.1)
