-- Small workloads that pin the rules of unfoldings (U) and walks (W): those that the edits need. The others stand in graph_cases.
use Rattle.std.specs.Prelude.{true, false, List, [], ◌∷◌, map, ◌≡◌, refl, ℕ}
use Rattle.spec_text.specs.declared.Line.{Line}
use Rattle.spec_text.specs.declared.StatementKind.TheVariants.{Ks}
use Rattle.spec_graph.specs.Graph.{Flow}
use Rattle.spec_graph.specs.Program.{Run, statement_of}
use Rattle.spec_graph.specs.Program.Run.{done, next}
use Rattle.spec_graph.specs.Program.Item.{statement, loop, branch}
use Rattle.spec_graph.specs.Unfolding.{occurrences}
use Rattle.spec_graph.specs.Unfolding.Execution.{end, step as then}
use Rattle.spec_graph.specs.Unfolding.ItemExecution.{perform, turns, arm_one, arm_two}
use Rattle.spec_graph.specs.Unfolding.Turns.{stop, turn}
use Rattle.spec_graph.specs.Walk.{Step}
use Rattle.spec_graph.specs.ExampleText.{rl, fk, pr, is, ks, ps, ku, pu, kd, pd, kl, lo, br, el, en, li, step}
use Rattle.spec_graph.specs.ExampleText.{nodes, ids, dangerous, base, twice}

-- ---- H1: executions

abbrev pub one : ℕ → Run
one i = next (statement (statement_of Ks (ks i 0 1))) done

-- H1: a loop turns any number of times, here three times, and takes either arm of a branch afresh in each turn
H1_three_turns : map (λ o. o.statement.id)
    (occurrences {r = next (loop (next (branch (one 0) (one 1)) done)) done}
    (then (turns (turn (then (arm_two (then perform end)) end)
    (turn (then (arm_one (then perform end)) end) (turn (then (arm_two (then perform end)) end) stop)))) end)
    0)
    ≡ 1 ∷ 0 ∷ 1 ∷ []
unfolding nodes
H1_three_turns = refl

-- ---- U: unfoldings

-- U1: a branch gives its first arm's unfoldings, then its second's
U1_branch : ids (ks 0 0 1 ∷ br ∷ ks 1 0 1 ∷ el ∷ ks 2 0 1 ∷ ks 3 0 1 ∷ en ∷ ks 4 0 1 ∷ [])
    ≡ (0 ∷ 1 ∷ 4 ∷ []) ∷ (0 ∷ 2 ∷ 3 ∷ 4 ∷ []) ∷ []
unfolding ids
U1_branch = refl

-- U2: a loop gives no turn, then one, then two
U2_loop : ids (lo ∷ ks 0 0 1 ∷ ks 1 0 1 ∷ en ∷ ks 2 0 1 ∷ [])
    ≡ (2 ∷ []) ∷ (0 ∷ 1 ∷ 2 ∷ []) ∷ (0 ∷ 1 ∷ 0 ∷ 1 ∷ 2 ∷ []) ∷ []
unfolding ids
U2_loop = refl

-- U3: in a run the leftmost choice changes slowest
U3_two_branches : ids (br ∷ ks 0 0 1 ∷ el ∷ ks 1 0 1 ∷ en ∷ br ∷ ks 2 0 1 ∷ el ∷ ks 3 0 1 ∷ en ∷ [])
    ≡ (0 ∷ 2 ∷ []) ∷ (0 ∷ 3 ∷ []) ∷ (1 ∷ 2 ∷ []) ∷ (1 ∷ 3 ∷ []) ∷ []
unfolding ids
U3_two_branches = refl

-- U4: programs go in order; equal and empty unfoldings are kept
U4_programs : nodes (rl 0 1 ∷ pr 0 ∷ lo ∷ en ∷ pr 1 ∷ pr 2 ∷ br ∷ ks 0 0 1 ∷ el ∷ ks 1 0 1 ∷ en ∷ pr 3 ∷ br ∷ el ∷ en ∷ ks 0 0 1 ∷ [])
    ≡ (0, [])
    ∷ (0, [])
    ∷ (0, [])
    ∷ (1, [])
    ∷ (2, 0 ∷ [])
    ∷ (2, 1 ∷ [])
    ∷ (3, 0 ∷ [])
    ∷ (3, 0 ∷ [])
    ∷ []
unfolding nodes
U4_programs = refl

-- ---- W: the dangerous walk

-- W2: after the last step comes the first
W2_last_to_first : dangerous twice (step 1 0 1 Flow.back ∷ step 0 1 1 Flow.forward ∷ []) ≡ true
unfolding dangerous
W2_last_to_first = refl

-- W4: equal places are not earlier
W4_equal : dangerous base (step 0 1 0 Flow.forward ∷ step 1 0 1 Flow.back ∷ []) ≡ false
unfolding dangerous
W4_equal = refl

-- W3: no forward edge
abbrev pub updates : List Line
updates = rl 0 1 ∷ pr 0 ∷ pu 0 0 1 1 1 ∷ []

W3_no_forward : dangerous updates (step 0 0 0 Flow.back ∷ step 0 0 0 Flow.back ∷ []) ≡ false
unfolding dangerous
W3_no_forward = refl

-- W1: the walk does not close: its last edge enters place 1 of node 2, and node 0 has no such edge to itself
W1_open : dangerous
    (rl 0 3 ∷ rl 1 3 ∷ pr 0 ∷ ku 0 0 2 2 ∷ ku 1 1 0 2 ∷ pr 1 ∷ ps 0 1 2 2 ∷ ps 1 1 2 2 ∷ pr 2 ∷ ks 0 1 1 ∷ ks 1 0 2 ∷ [])
    (step 0 1 1 Flow.forward ∷ step 1 0 1 Flow.back ∷ step 0 0 1 Flow.forward ∷ [])
    ≡ false
unfolding dangerous
W1_open = refl

-- a program that ends with this statement, and one that the statement has an edge to, in front of a back edge to the first
abbrev leaving : Line → List Line
leaving last = rl 0 1 ∷ rl 1 1 ∷ pr 0 ∷ is 0 1 1 ∷ last ∷ pr 1 ∷ pu 0 0 1 1 1 ∷ ps 1 1 1 1 ∷ []

-- W4, Req 03: where c leaves later than e enters, the kinds ks, ps, pu and pd that e leaves make the pair dangerous, and kl does not;
-- for the kinds is ks ps ku pu kd pd kl in turn
W4_kinds : map
    (λ last. dangerous (leaving last) (step 0 1 0 Flow.forward ∷ step 1 1 0 Flow.back ∷ []))
    (is 1 0 1 ∷ ks 1 0 1 ∷ ps 1 0 1 1 ∷ ku 1 0 1 1 ∷ pu 1 0 1 1 1 ∷ kd 1 0 1 ∷ pd 1 0 1 1 ∷ kl 1 0 1 ∷ [])
    ≡ false ∷ true ∷ true ∷ false ∷ true ∷ false ∷ true ∷ false ∷ []
unfolding dangerous
W4_kinds = refl

-- ---- Req 03: a lock, and the kinds of the dangerous pair

-- Parent rows 0, their children 1, and rows 2 and 3 by themselves. Program 0 locks a parent, looks at a child in this way and updates row 3;
-- program 1 updates a child, selects row 2 and locks the child's parent last; program 2 updates both rows.
abbrev pub threefold : Line → List Line
threefold look =
    rl 0 1 ∷ rl 1 1 ∷ rl 2 1 ∷ rl 3 1 ∷ fk 0 1 0
    ∷ pr 0 ∷ kl 0 0 1 ∷ look ∷ ku 2 3 0 1 ∷ li 0 1 0
    ∷ pr 1 ∷ ku 0 1 0 1 ∷ ks 1 2 1 ∷ kl 2 0 1 ∷ li 0 0 2
    ∷ pr 2 ∷ ku 0 2 0 1 ∷ ku 1 3 0 1 ∷ []

-- Program 0 sees the child before program 1 updates it, program 1 sees row 2 before program 2 updates it, and program 2 updates row 3 before
-- program 0 does. Selects allow it: the locks only make program 1 wait with its own until program 0 has committed.
abbrev pub roundabout : List Step
roundabout = step 0 1 0 Flow.forward ∷ step 1 1 0 Flow.back ∷ step 2 1 2 Flow.forward ∷ []

-- W4, Req 03: with ks the walk is dangerous, with kl it is not
W4_lock : (dangerous (threefold (ks 1 1 1)) roundabout ≡ true) × (dangerous (threefold (kl 1 1 1)) roundabout ≡ false)
unfolding dangerous
W4_lock = (refl, refl)
