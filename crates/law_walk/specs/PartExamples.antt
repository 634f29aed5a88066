-- A small workload and parts of its graph, on which the laws of parts are used.
use Rattle.std.specs.Prelude.{Bool, true, false, not, ◌⊎◌, ◌≡◌, refl, ℕ, ◌<◌, eqb, length}
use mathlib.Core.List.Memᴰ
use mathlib.Core.List.{List, [], ◌∷◌, flat_map, Memᴰ}
use Rattle.std.proofs.Common.{inl, inr, ◌∙◌, arith}
use Rattle.spec_text.specs.declared.Line.{Line}
use Rattle.spec_text.specs.declared.LineKind.{LineKind}
use Rattle.spec_text.specs.declared.LineKind.TheVariants.{Rl, Pr, St}
use Rattle.spec_text.specs.declared.StatementKind.TheVariants.{Ks, Ku}
use Rattle.spec_graph.specs.Graph.{Flow}
use Rattle.spec_graph.specs.Program.{statement_of, in_front_of, run_of, programs_of, links_of}
use Rattle.spec_graph.specs.Unfolding.{Node, inside, occurrences, pairs, unfoldings, nodes_of_program, nodes_from, nodes_of}
use Rattle.spec_graph.specs.Edge.{W, R, T, holds, same_relation, leads, binds}
use Rattle.spec_graph.specs.Edge.{has_parent, guarded_near, guarded_far, shielded, forward, back, place_at, graph_of}
use Rattle.spec_graph.specs.Walk.{Step, is_edge, dangerous_pair, is_dangerous, DangerousWalk}
use Rattle.law_walk.specs.Reach.{leaves_for, joins, joined_to, grow, reached_from, opens, closes_at, danger_test, regular, danger_none}
use Rattle.law_walk.specs.Parts.{renumber, renumbered, only, only_regular, only_walks, embedding_keeps, walk_carried, none_in_part}
use Rattle.law_walk.specs.NodeParts.{nodes_at, chosen_number, chosen_embedded, stays_chosen}

abbrev line : LineKind → ℕ → ℕ → ℕ → ℕ → Line
line k a b r w = record { kind = k; id = a; rel = b; to = 0; reads = r; writes = w; tests = 0 }

-- program 0 reads two relations, program 1 writes the first of them, program 2 writes both
lines : List Line
lines =
    line Rl 0 0 3 0
    ∷ line Rl 1 0 3 0
    ∷ line Pr 0 0 0 0
    ∷ line (St Ks) 0 0 2 0
    ∷ line (St Ks) 1 1 2 0
    ∷ line Pr 1 0 0 0
    ∷ line (St Ku) 0 0 2 2
    ∷ line Pr 2 0 0 0
    ∷ line (St Ku) 0 0 2 2
    ∷ line (St Ku) 1 1 2 2
    ∷ []

nodes : List Node
unfolding lines statement_of in_front_of run_of links_of programs_of inside occurrences pairs flat_map unfoldings nodes_of_program nodes_from nodes_of
nodes = nodes_of lines

abbrev step : ℕ → ℕ → ℕ → Flow → Step
step node leaves enters flow = record { node = node; leaves = leaves; enters = enters; flow = flow }

-- each number of a list of at most three is that of a node
below : (a b c : ℕ) → a < 3 → b < 3 → c < 3 → (k : ℕ) → Memᴰ k (a ∷ b ∷ c ∷ []) → k < length nodes
unfolding nodes
below a b c ha hb hc k m = first (Memᴰ.cases_cons m)
  where
    third : (k ≡ c) ⊎ Memᴰ k [] → k < 3
    third (inl e) = rw e hc
    third (inr n) = absurd (Memᴰ.not-nil n)

    second : (k ≡ b) ⊎ Memᴰ k (c ∷ []) → k < 3
    second (inl e) = rw e hb
    second (inr n) = third (Memᴰ.cases_cons n)

    first : (k ≡ a) ⊎ Memᴰ k (b ∷ c ∷ []) → k < 3
    first (inl e) = rw e ha
    first (inr n) = second (Memᴰ.cases_cons n)

-- in the part of node 0, node 0 once more and node 2, a walk twice around: the two copies of node 0 become one
abbrev chosen : List ℕ
chosen = 0 ∷ 0 ∷ 2 ∷ []

abbrev in_part : List Step
in_part =
    step 2 1 1 Flow.forward ∷ step 0 0 0 Flow.back ∷ step 2 1 1 Flow.forward ∷ step 1 0 0 Flow.back ∷ []

part_dangerous : is_dangerous (graph_of (nodes_at nodes chosen)) in_part ≡ true
unfolding nodes nodes_at W R T holds same_relation leads binds has_parent guarded_near guarded_far shielded forward back place_at graph_of is_edge
    dangerous_pair is_dangerous
part_dangerous = refl

-- the walk in the numbers of the whole
part_renumbered : renumbered (chosen_number chosen) in_part
    ≡ step 2 1 1 Flow.forward ∷ step 0 0 0 Flow.back ∷ step 2 1 1 Flow.forward ∷ step 0 0 0 Flow.back ∷ []
unfolding renumber
part_renumbered = refl

-- which is dangerous there, by the law
whole_dangerous : is_dangerous (graph_of nodes) (renumbered (chosen_number chosen) in_part) ≡ true
whole_dangerous =
    walk_carried (embedding_keeps (chosen_embedded nodes chosen (below 0 0 2 (omega arith) (omega arith) (omega arith)))) in_part part_dangerous

-- the nodes 1 and 2 have no dangerous walk, so no walk of the whole, however long, that stays in them is dangerous
abbrev updating : List ℕ
updating = 1 ∷ 2 ∷ 2 ∷ []

updating_robust : danger_test (graph_of (nodes_at nodes updating)) ≡ false
unfolding nodes nodes_at W R T holds same_relation leads binds has_parent guarded_near guarded_far shielded forward back place_at graph_of
    leaves_for joins joined_to grow reached_from opens closes_at danger_test
updating_robust = refl

none_updating : (walk : List Step) → ((s : Step) → Memᴰ s walk → Memᴰ s.node updating)
    → is_dangerous (graph_of nodes) walk ≡ true → ⊥
unfolding nodes nodes_at graph_of
none_updating walk inside =
    (none_in_part (chosen_embedded nodes updating (below 1 2 2 (omega arith) (omega arith) (omega arith)))).0
    (danger_none (graph_of (nodes_at nodes updating)) (regular (nodes_at nodes updating)) updating_robust)
    walk (stays_chosen updating walk inside)

-- the same in the numbers of the whole: with node 0 the walk stands, without it none of its edges does
only_zero_two : is_dangerous (only (λ m. not (eqb m 1)) (graph_of nodes)) (renumbered (chosen_number chosen) in_part) ≡ true
unfolding renumber
only_zero_two = only_walks (λ m. not (eqb m 1)) (graph_of nodes) (renumbered (chosen_number chosen) in_part) ∙ whole_dangerous

only_updating : is_dangerous (only (λ m. not (eqb m 0)) (graph_of nodes)) (renumbered (chosen_number chosen) in_part) ≡ false
unfolding renumber
only_updating = only_walks (λ m. not (eqb m 0)) (graph_of nodes) (renumbered (chosen_number chosen) in_part)

only_updating_robust : DangerousWalk (only (λ m. not (eqb m 0)) (graph_of nodes)) → ⊥
unfolding nodes W R T holds same_relation leads binds has_parent guarded_near guarded_far shielded forward back place_at graph_of only
    leaves_for joins joined_to grow reached_from opens closes_at danger_test
only_updating_robust = danger_none (only (λ m. not (eqb m 0)) (graph_of nodes)) (only_regular (λ m. not (eqb m 0)) (regular nodes)) refl
