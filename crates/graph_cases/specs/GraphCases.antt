-- More small workloads that pin each rule of unfoldings (U) and walks (W): those that no edit needs.
use Rattle.std.specs.Prelude.{Bool, true, false, cond, not, ◌&&◌, ◌||◌, ◌≡◌, refl, ℕ, eqb, ltb, replicate}
use Rattle.std.proofs.lemmas.Bool.{false≢true}
use mathlib.Core.List.{List, [], ◌∷◌, ◌++◌, map, flat_map}
use Rattle.std.proofs.Math.Option.{none, some}
use Rattle.spec_base.specs.Basic.{numbers}
use Rattle.spec_text.specs.declared.Line.{Line}
use Rattle.spec_text.specs.declared.LineKind.TheVariants.{St}
use Rattle.spec_text.specs.declared.StatementKind.TheVariants.{Pu}
use Rattle.spec_graph.specs.Graph.{Flow, is_back}
use Rattle.spec_graph.specs.Program.{statement_of, run_of, programs_of}
use Rattle.spec_graph.specs.Program.Run.{done}
use Rattle.spec_graph.specs.Unfolding.{Around, nodes_of}
use Rattle.spec_graph.specs.Unfolding.ItemExecution.{turns}
use Rattle.spec_graph.specs.Unfolding.Turns.{turn}
use Rattle.spec_graph.specs.Edge.{Edge, leads, place_at}
use Rattle.spec_graph.specs.Walk.{Step, is_edge, is_dangerous, DangerousWalk}
use Rattle.spec_graph.specs.ExampleText.{line, rl, fk, pr, ks, ku, kl, lo, br, el, en, li, step}
use Rattle.spec_graph.specs.ExampleText.{nodes, ids, edges, graph, dangerous, sizes, twice, select_first}
use Rattle.spec_graph.specs.GraphExamples.{one, updates, threefold, roundabout}

-- ---- T5, T6: statements, links and programs of lines

-- T5: the values of a statement, of a link
T5_statement : statement_of Pu (line (St Pu) 1 2 3 4 5 6) ≡ record { kind = Pu; id = 1; relation = 2; reads = 4; writes = 5; tests = 6 }
unfolding statement_of
T5_statement = refl

T5_links : map
    (λ p. p.links)
    (programs_of (fk 0 0 0 ∷ pr 0 ∷ lo ∷ ks 0 0 1 ∷ en ∷ br ∷ el ∷ en ∷ li 5 6 7 ∷ li 8 9 10 ∷ pr 1 ∷ pr 2 ∷ rl 0 1 ∷ fk 0 0 0 ∷ li 1 2 3 ∷ []))
    ≡ (record { key = 5; child = 6; parent = 7 } ∷ record { key = 8; child = 9; parent = 10 } ∷ [])
    ∷ []
    ∷ (record { key = 1; child = 2; parent = 3 } ∷ [])
    ∷ []
unfolding nodes
T5_links = refl

-- T8: a line that ends a run stays in the rest after it, and so does what the number does not reach
T8_ends : let ends = rl 0 1 ∷ fk 0 0 0 ∷ pr 0 ∷ el ∷ en ∷ li 0 0 0 ∷ [] in
    (map (λ l. run_of 3 (l ∷ ks 0 0 1 ∷ [])) ends ≡ map (λ l. record { run = done; rest = l ∷ ks 0 0 1 ∷ [] }) ends)
    × (run_of 0 (ks 0 0 1 ∷ []) ≡ record { run = done; rest = ks 0 0 1 ∷ [] })
unfolding nodes
T8_ends = (refl, refl)

-- T8, T12: a run of as many lines as a program may have, and blocks as deep as they may stand
T8_long : ids (replicate 64 (ks 7 0 1)) ≡ replicate 64 7 ∷ []
unfolding ids
T8_long = refl

T8_deep : ids (replicate 8 br ++ (ks 7 0 1 ∷ flat_map (λ n. el ∷ en ∷ ks 8 0 1 ∷ []) (numbers 8)))
    ≡ (7 ∷ replicate 8 8) ∷ map (λ n. replicate n 8) (8 ∷ 7 ∷ 6 ∷ 5 ∷ 4 ∷ 3 ∷ 2 ∷ 1 ∷ [])
unfolding ids flat_map
T8_deep = refl

-- ---- U: unfoldings

-- U2: each turn is unfolded on its own; two turns are a run of the body twice, the first turn's choice slowest
U2_branch_in_loop : ids (lo ∷ br ∷ ks 0 0 1 ∷ el ∷ ks 1 0 1 ∷ en ∷ en ∷ [])
    ≡ []
    ∷ (0 ∷ [])
    ∷ (1 ∷ [])
    ∷ (0 ∷ 0 ∷ [])
    ∷ (0 ∷ 1 ∷ [])
    ∷ (1 ∷ 0 ∷ [])
    ∷ (1 ∷ 1 ∷ [])
    ∷ []
unfolding ids
U2_branch_in_loop = refl

-- U1, U2: a loop in an arm, and a branch in the other
U1_loop_in_branch : ids (br ∷ lo ∷ ks 0 0 1 ∷ en ∷ el ∷ br ∷ ks 1 0 1 ∷ el ∷ ks 2 0 1 ∷ en ∷ ks 3 0 1 ∷ en ∷ [])
    ≡ [] ∷ (0 ∷ []) ∷ (0 ∷ 0 ∷ []) ∷ (1 ∷ 3 ∷ []) ∷ (2 ∷ 3 ∷ []) ∷ []
unfolding ids
U1_loop_in_branch = refl

-- U2, U4: a loop in a loop; equal and empty unfoldings are kept
U2_loop_in_loop : ids (lo ∷ lo ∷ ks 0 0 1 ∷ en ∷ en ∷ [])
    ≡ []
    ∷ []
    ∷ (0 ∷ [])
    ∷ (0 ∷ 0 ∷ [])
    ∷ []
    ∷ (0 ∷ [])
    ∷ (0 ∷ 0 ∷ [])
    ∷ (0 ∷ [])
    ∷ (0 ∷ 0 ∷ [])
    ∷ (0 ∷ 0 ∷ 0 ∷ [])
    ∷ (0 ∷ 0 ∷ [])
    ∷ (0 ∷ 0 ∷ 0 ∷ [])
    ∷ (0 ∷ 0 ∷ 0 ∷ 0 ∷ [])
    ∷ []
unfolding ids
U2_loop_in_loop = refl

-- U3: in a run the leftmost choice changes slowest
U3_branch_then_loop : ids (br ∷ ks 0 0 1 ∷ el ∷ en ∷ lo ∷ ks 1 0 1 ∷ en ∷ [])
    ≡ (0 ∷ []) ∷ (0 ∷ 1 ∷ []) ∷ (0 ∷ 1 ∷ 1 ∷ []) ∷ [] ∷ (1 ∷ []) ∷ (1 ∷ 1 ∷ []) ∷ []
unfolding ids
U3_branch_then_loop = refl

-- where the occurrences stand: of each place of each node the items and the turns or arms around it, outermost first
paths : List Line → List (List (List (ℕ × ℕ)))
unfolding nodes
paths body = map (λ n. map (λ o. map (λ a. (a.item, a.turn)) o.path) n.places) (nodes_of (rl 0 1 ∷ pr 0 ∷ body))

-- E4: a loop around a branch, as the second and third items of their runs: no turn, one, two
E4_paths : paths (ks 0 0 1 ∷ lo ∷ ks 1 0 1 ∷ ks 2 0 1 ∷ br ∷ ks 3 0 1 ∷ el ∷ ks 4 0 1 ∷ en ∷ en ∷ [])
    ≡ let one : ℕ → ℕ → List (List (ℕ × ℕ)) = λ turn arm. ((1, turn) ∷ []) ∷ ((1, turn) ∷ []) ∷ ((1, turn) ∷ (2, arm) ∷ []) ∷ [] in
    map
    (λ turns. [] ∷ turns)
    ([] ∷ one 0 0 ∷ one 0 1 ∷ (one 0 0 ++ one 1 0) ∷ (one 0 0 ++ one 1 1) ∷ (one 0 1 ++ one 1 0) ∷ (one 0 1 ++ one 1 1) ∷ [])
unfolding paths
E4_paths = refl

-- E4: a branch in each arm of a branch, as the second item and as the third
E4_paths_in_arms
    : paths (ks 0 0 1 ∷ br ∷ ks 1 0 1 ∷ br ∷ ks 2 0 1 ∷ el ∷ en ∷ el ∷ ks 3 0 1 ∷ ks 4 0 1 ∷ br ∷ el ∷ ks 5 0 1 ∷ en ∷ en ∷ [])
    ≡ ([] ∷ ((1, 0) ∷ []) ∷ ((1, 0) ∷ (1, 0) ∷ []) ∷ [])
    ∷ ([] ∷ ((1, 0) ∷ []) ∷ [])
    ∷ ([] ∷ ((1, 1) ∷ []) ∷ ((1, 1) ∷ []) ∷ [])
    ∷ ([] ∷ ((1, 1) ∷ []) ∷ ((1, 1) ∷ []) ∷ ((1, 1) ∷ (2, 1) ∷ []) ∷ [])
    ∷ []
unfolding paths
E4_paths_in_arms = refl

-- E4: the paths that go on to this one: its first parts, with the same items and turns
E4_leads : let at : ℕ → ℕ → Around = λ item turn. record { item = item; turn = turn } in
    map
    (λ path. leads path (at 1 2 ∷ at 3 4 ∷ []))
    ([] ∷ (at 1 2 ∷ []) ∷ (at 1 2 ∷ at 3 4 ∷ []) ∷ (at 1 2 ∷ at 3 4 ∷ at 0 0 ∷ []) ∷ (at 0 2 ∷ []) ∷ (at 1 0 ∷ []) ∷ (at 1 2 ∷ at 0 4 ∷ [])
    ∷ (at 1 2 ∷ at 3 0 ∷ []) ∷ [])
    ≡ true ∷ true ∷ true ∷ false ∷ false ∷ false ∷ false ∷ false ∷ []
unfolding leads
E4_leads = refl

-- N2: nodes and places count from 0
N2_sizes : sizes (rl 0 1 ∷ pr 0 ∷ lo ∷ ks 0 0 1 ∷ en ∷ pr 1 ∷ pr 2 ∷ ks 0 0 1 ∷ ks 1 0 1 ∷ ks 2 0 1 ∷ [])
    ≡ (5, 0 ∷ 1 ∷ 2 ∷ 0 ∷ 3 ∷ [])
unfolding sizes
N2_sizes = refl

-- N2: past the last node and the last place there is nothing
N2_past : ((graph twice).places 2 ≡ 0) × ((graph twice).loose 2 0 ≡ false) × (map ((graph twice).loose 1) (1 ∷ 2 ∷ []) ≡ true ∷ false ∷ [])
unfolding graph
N2_past = (refl, refl, refl)

-- N2: the place with this number of the node with this number
N2_place : ◌≡◌ {A = ℕ × ℕ × ℕ} (elim (place_at (nodes_of twice) 1 0) [ none ↦ (9, 9, 9) | some s ↦ (s.number, s.place, s.node.program) ]) (1, 0, 1)
unfolding graph
N2_place = refl

-- ---- W: the dangerous walk

-- W1, W2, W4: the walk for `ps` twice, c leaving at an earlier place than e enters
W4_earlier : dangerous twice (step 0 1 1 Flow.forward ∷ step 1 0 1 Flow.back ∷ []) ≡ true
unfolding dangerous
W4_earlier = refl

-- W4: the read before the parent, linked
W4_select_first : dangerous select_first (step 0 0 1 Flow.forward ∷ step 1 0 1 Flow.back ∷ []) ≡ true
unfolding dangerous
W4_select_first = refl

-- W1: a node may be left at any place and come again
W1_again : dangerous twice (step 0 1 0 Flow.forward ∷ step 1 1 1 Flow.back ∷ step 0 1 1 Flow.forward ∷ step 1 0 1 Flow.back ∷ []) ≡ true
unfolding dangerous
W1_again = refl

-- W1: edges from a node to itself make a walk: two runs of one program
W1_itself : dangerous (rl 0 1 ∷ pr 0 ∷ ks 0 0 1 ∷ ku 1 0 0 1 ∷ []) (step 0 1 1 Flow.forward ∷ step 0 0 1 Flow.back ∷ []) ≡ true
unfolding dangerous
W1_itself = refl

-- W4: c leaves later than e enters, and e leaves a ku
W4_later : dangerous twice (step 0 1 0 Flow.forward ∷ step 1 1 1 Flow.back ∷ []) ≡ false
unfolding dangerous
W4_later = refl

-- W2: c is not back
W2_forward : dangerous twice (step 0 1 1 Flow.forward ∷ step 1 0 1 Flow.forward ∷ []) ≡ false
unfolding dangerous
W2_forward = refl

-- W4: e is back
W4_back : dangerous updates (step 0 0 0 Flow.back ∷ step 0 0 0 Flow.back ∷ step 0 0 0 Flow.forward ∷ []) ≡ true
unfolding dangerous
W4_back = refl

-- W1: a step that is no edge: no letter holds, or the flow is the other, or no such place is left or entered
W1_no_edge : (dangerous twice (step 0 0 1 Flow.forward ∷ step 1 0 1 Flow.back ∷ []) ≡ false)
    × (dangerous twice (step 0 1 1 Flow.back ∷ step 1 0 1 Flow.forward ∷ []) ≡ false)
    × (dangerous twice (step 0 2 1 Flow.forward ∷ step 1 0 1 Flow.back ∷ []) ≡ false)
    × (dangerous twice (step 0 1 2 Flow.forward ∷ step 1 0 1 Flow.back ∷ []) ≡ false)
unfolding dangerous
W1_no_edge = (refl, refl, refl, refl)

-- W1: no step, no walk
W1_empty : dangerous twice [] ≡ false
unfolding dangerous
W1_empty = refl

-- there is a dangerous walk in the graph of `twice`, and none where there is no edge
walk_exists : DangerousWalk (graph twice)
unfolding dangerous
walk_exists = (step 0 1 1 Flow.forward ∷ step 1 0 1 Flow.back ∷ [], W4_earlier)

walk_needs_edges : DangerousWalk (record { size = 2; places = λ m. 9; edge = λ m i n j flow. false; loose = λ m i. true }) → ⊥
unfolding is_dangerous is_edge
walk_needs_edges ([], h) = false≢true h
walk_needs_edges (x ∷ [], h) = false≢true h
walk_needs_edges (x ∷ y ∷ l, h) = false≢true h

-- W4 over a graph with every edge between two nodes, where no kind makes a pair dangerous: e is back, or c leaves earlier than e enters
every_edge : List Step → Bool
unfolding dangerous
every_edge walk = is_dangerous (record { size = 2; places = λ m. 9; edge = λ m i n j flow. not (eqb m n); loose = λ m i. false }) walk

W4_every_edge
    : map
    every_edge
    ((step 0 0 0 Flow.back ∷ step 1 0 0 Flow.back ∷ step 0 0 0 Flow.forward ∷ step 1 0 0 Flow.forward ∷ [])
    ∷ (step 0 0 3 Flow.forward ∷ step 1 2 0 Flow.back ∷ [])
    ∷ (step 0 0 2 Flow.forward ∷ step 1 2 0 Flow.back ∷ [])
    ∷ (step 0 4 2 Flow.forward ∷ step 1 3 0 Flow.back ∷ [])
    ∷ (step 0 0 3 Flow.forward ∷ step 1 2 4 Flow.forward ∷ [])
    ∷ (step 0 0 1 Flow.forward ∷ step 1 2 1 Flow.back ∷ [])
    ∷ (step 0 0 3 Flow.forward ∷ step 1 2 0 Flow.back ∷ step 0 0 0 Flow.forward ∷ [])
    ∷ [])
    ≡ true ∷ true ∷ false ∷ false ∷ false ∷ false ∷ false ∷ []
unfolding every_edge
W4_every_edge = refl

-- ---- Req 03: a lock, and the kinds of the dangerous pair

-- Both are closed walks of edges, and what makes the difference is the kind that the first edge leaves: it would make either dangerous, and
-- where no kind does, neither is
W4_lock_kinds :
    map
    (λ loose. map
    (λ look. let g = graph (threefold look) in
    is_dangerous (record { size = g.size; places = g.places; edge = g.edge; loose = λ m i. loose }) roundabout)
    (ks 1 1 1 ∷ kl 1 1 1 ∷ []))
    (true ∷ false ∷ [])
    ≡ (true ∷ true ∷ []) ∷ (false ∷ false ∷ []) ∷ []
unfolding graph
W4_lock_kinds = refl

-- the pairs of an edge and a back edge out of the node that it enters that pass this test; as node and place left and entered
pairs : List Line → (Edge → Edge → Bool) → List (List (ℕ × ℕ × ℕ × ℕ))
unfolding edges
pairs lines test =
    flat_map
    (λ e. flat_map
    (λ c. cond
    (eqb e.into c.node && is_back c.flow && test e c)
    (map (λ s. (s.node, s.leaves, s.into, s.enters)) (e ∷ c ∷ []) ∷ [])
    [])
    (edges lines))
    (edges lines)

-- W4, Req 03: by flow or places no pair of these workloads is dangerous, so that no walk would be if the kinds did not count; by its kind one is,
-- with ks, and none with kl
W4_lock_pairs :
    map {B = List (List (ℕ × ℕ × ℕ × ℕ)) × List (List (ℕ × ℕ × ℕ × ℕ))}
    (λ look. let lines = threefold look in
    (pairs lines (λ e c. is_back e.flow || ltb c.leaves e.enters), pairs lines (λ e c. (graph lines).loose e.node e.leaves)))
    (ks 1 1 1 ∷ kl 1 1 1 ∷ [])
    ≡ ([], ((0, 1, 1, 0) ∷ (1, 1, 2, 0) ∷ []) ∷ []) ∷ ([], []) ∷ []
unfolding pairs graph
W4_lock_pairs = refl
