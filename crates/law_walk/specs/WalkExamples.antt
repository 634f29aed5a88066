-- Small graphs and workloads on which the test of reach and danger is computed.
use Rattle.std.specs.Prelude.{Bool, true, false, not, ◌&&◌, ◌≡◌, refl, ℕ, eqb}
use mathlib.Core.List.{List, [], ◌∷◌, flat_map}
use Rattle.std.proofs.Common.{arith}
use Rattle.spec_base.specs.Basic.{any}
use Rattle.law_base.specs.BoolLaws.{true_false}
use Rattle.spec_text.specs.declared.Line.{Line}
use Rattle.spec_text.specs.declared.LineKind.{LineKind}
use Rattle.spec_text.specs.declared.LineKind.TheVariants.{Rl, Pr, St}
use Rattle.spec_text.specs.declared.StatementKind.TheVariants.{Is, Ks, Ps, Ku}
use Rattle.spec_graph.specs.Graph.{Flow, Graph}
use Rattle.spec_graph.specs.Program.{statement_of, in_front_of, run_of, programs_of, links_of}
use Rattle.spec_graph.specs.Unfolding.{inside, occurrences, pairs, unfoldings, nodes_of_program, nodes_from, nodes_of}
use Rattle.spec_graph.specs.Edge.{W, R, T, holds, same_relation, leads, binds}
use Rattle.spec_graph.specs.Edge.{has_parent, guarded_near, guarded_far, shielded, forward, back, place_at, graph_of}
use Rattle.law_walk.specs.ClosedWalks.{Hop, Fits}
use Rattle.law_walk.specs.Reach.{leaves_for, joins, joined_to, grow, reached_from, opens, closes_at, danger_test}

-- an edge of a small graph: the node and place left, the node and place entered, whether it is back
record Arrow : Type 0 where
  node : ℕ
  leaves : ℕ
  into : ℕ
  enters : ℕ
  is_back : Bool

abbrev arrow : ℕ → ℕ → ℕ → ℕ → Bool → Arrow
arrow m i n j b = record { node = m; leaves = i; into = n; enters = j; is_back = b }

-- the graph of three nodes with three places each that has these edges; the places with number 0 are loose
abbrev small : List Arrow → Graph
small arrows =
    record {
      size = 3;
      places = λ m. 3;
      edge = λ m i n j flow.
          any
          (λ a. eqb a.node m && eqb a.leaves i && eqb a.into n && eqb a.enters j
          && elim flow [ Flow.forward ↦ true | Flow.back ↦ a.is_back ])
          arrows;
      loose = λ m i. eqb i 0;
    }

test : List Arrow → Bool
unfolding leaves_for joins joined_to grow reached_from opens closes_at danger_test
test arrows = danger_test (small arrows)

-- the way from node 2 back to node 0, and on to node 1
probe_reached : reached_from (small (arrow 0 1 1 1 false ∷ arrow 1 0 2 0 true ∷ arrow 2 1 0 0 false ∷ [])) 2 ≡ 1 ∷ 0 ∷ 2 ∷ []
unfolding leaves_for joins joined_to grow reached_from
probe_reached = refl

-- no way leads out of node 2
probe_end : reached_from (small (arrow 0 1 1 1 false ∷ arrow 1 0 2 0 true ∷ [])) 2 ≡ 2 ∷ []
unfolding leaves_for joins joined_to grow reached_from
probe_end = refl

-- the back edge leaves node 1 at an earlier place than the edge before enters it
probe_earlier : test (arrow 0 1 1 1 false ∷ arrow 1 0 2 0 true ∷ arrow 2 1 0 0 false ∷ []) ≡ true
unfolding test
probe_earlier = refl

-- at the same place it does not, and the edge before leaves no loose place
probe_same : test (arrow 0 1 1 1 false ∷ arrow 1 1 2 0 true ∷ arrow 2 1 0 0 false ∷ []) ≡ false
unfolding test
probe_same = refl

-- the edge before leaves a loose place
probe_loose : test (arrow 0 0 1 1 false ∷ arrow 1 1 2 0 true ∷ arrow 2 1 0 0 false ∷ []) ≡ true
unfolding test
probe_loose = refl

-- a dangerous pair with no way back
probe_open : test (arrow 0 0 1 1 false ∷ arrow 1 0 2 0 true ∷ []) ≡ false
unfolding test
probe_open = refl

-- a node with a back edge into itself
probe_self : test (arrow 2 0 2 1 true ∷ []) ≡ true
unfolding test
probe_self = refl

-- no back edge
probe_forward : test (arrow 0 0 1 1 false ∷ arrow 1 0 2 1 false ∷ arrow 2 0 0 1 false ∷ []) ≡ false
unfolding test
probe_forward = refl

-- write skew: each of two transactions reads at place 0 what the other writes at place 1
abbrev skewed : Graph
skewed = small (arrow 0 0 1 1 true ∷ arrow 1 0 0 1 true ∷ [])

abbrev skew_one : Hop
skew_one = record { node = 0; leaves = 0; enters = 1; commit = 5; left = 1; entered = 3 }

abbrev skew_two : Hop
skew_two = record { node = 1; leaves = 0; enters = 1; commit = 6; left = 2; entered = 4 }

-- the dependency of the first on the second, a forward one
probe_one : Fits skewed skew_one skew_two
probe_one =
    record {
      differ = omega arith;
      is_forward = λ h. refl;
      is_back = λ h. refl;
      firm = λ h. absurd (true_false refl h);
      early = omega arith;
      after = omega arith;
    }

-- the dependency of the second on the first, a back one
probe_two : Fits skewed skew_two skew_one
probe_two =
    record {
      differ = omega arith;
      is_forward = λ h. refl;
      is_back = λ h. refl;
      firm = λ h. absurd (true_false refl h);
      early = omega arith;
      after = omega arith;
    }

abbrev line : LineKind → ℕ → ℕ → ℕ → ℕ → ℕ → ℕ → Line
line k a b c r w t = record { kind = k; id = a; rel = b; to = c; reads = r; writes = w; tests = t }

robust : List Line → Bool
unfolding statement_of in_front_of run_of links_of programs_of inside occurrences pairs flat_map unfoldings nodes_of_program nodes_from nodes_of
    W R T holds same_relation leads binds has_parent guarded_near guarded_far shielded forward back place_at graph_of
    leaves_for joins joined_to grow reached_from opens closes_at danger_test
robust lines = not (danger_test (graph_of (nodes_of lines)))

-- three programs of three statements
abbrev three : List Line
three =
    line Rl 0 0 0 3 0 0
    ∷ line Rl 1 0 0 3 0 0
    ∷ line Rl 2 0 0 3 0 0
    ∷ line Pr 0 0 0 0 0 0
    ∷ line (St Ks) 0 0 0 2 0 0
    ∷ line (St Ks) 1 1 0 2 0 0
    ∷ line (St Ku) 2 2 0 2 2 0
    ∷ line Pr 1 0 0 0 0 0
    ∷ line (St Ks) 0 1 0 2 0 0
    ∷ line (St Ku) 1 0 0 2 2 0
    ∷ line (St Ps) 2 2 0 2 0 2
    ∷ line Pr 2 0 0 0 0 0
    ∷ line (St Ku) 0 0 0 2 2 0
    ∷ line (St Ku) 1 1 0 2 2 0
    ∷ line (St Is) 2 2 0 0 3 0
    ∷ []

probe_three : robust three ≡ false
unfolding robust
probe_three = refl

-- two programs that update in place: every edge is forward
probe_robust : robust (line Rl 0 0 0 3 0 0 ∷ line Pr 0 0 0 0 0 0 ∷ line (St Ku) 0 0 0 2 2 0 ∷ line Pr 1 0 0 0 0 0 ∷ line (St Ku) 0 0 0 2 2 0 ∷ [])
    ≡ true
unfolding robust
probe_robust = refl
