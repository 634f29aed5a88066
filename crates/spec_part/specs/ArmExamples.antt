-- Small workloads that pin what is taken out with an arm (Req 06).
use Rattle.std.specs.Prelude.{true, false, ◌≡◌, refl, ℕ, length, replicate}
use mathlib.Core.List.{List, [], ◌∷◌, ◌++◌, map, flat_map}
use Rattle.spec_text.specs.declared.Line.{Line}
use Rattle.spec_text.specs.declared.StatementKind.TheVariants.{Ks}
use Rattle.spec_text.specs.Reading.{same_block, loop, first_arm, second_arm}
use Rattle.spec_graph.specs.Graph.{Flow}
use Rattle.spec_graph.specs.Program.{Run, statement_of, run_lines, item_lines, programs_of}
use Rattle.spec_graph.specs.Program.Run.{done, next}
use Rattle.spec_graph.specs.Program.Item.{statement, loop as loop_of, branch}
use Rattle.spec_graph.specs.Walk.{is_dangerous}
use Rattle.spec_graph.specs.ExampleText.{rl, pr, ks, ps, lo, br, el, en, li, step, station, nodes, dangerous}
use Rattle.spec_part.specs.Arm.{Arm, takes, node_of, unfoldings_from, takes_arm, nodes_without, graph_without}

-- ---- the arms, and what is left without them

-- a statement of this number
abbrev select : ℕ → Line
select id = ks id 0 1

-- the arm of this program whose branch opens at this place
abbrev arm_at : ℕ → ℕ → ℕ → Arm
arm_at part program place = record { program = program; block = record { place = place; part = part } }

-- the first arm and the second arm of the branch of a workload's one program that opens at this place
abbrev one : ℕ → Arm
one place = arm_at first_arm 0 place

abbrev two : ℕ → Arm
two place = arm_at second_arm 0 place

-- the nodes that are left: of each the program's number and the ids of the statements; whoever unfolds this can compute arms
unfoldable left : List Arm → List Line → List (ℕ × List ℕ)
unfolding nodes same_block run_lines takes node_of unfoldings_from takes_arm nodes_without
left arms lines = map (λ n. (n.program, map (λ o. o.statement.id) n.places)) (nodes_without arms lines)

-- the ids of the statements of each node that is left, for a workload of one program with these lines
unfoldable ids_left : List Arm → List Line → List (List ℕ)
unfolding left
ids_left arms body = map (λ n. map (λ o. o.statement.id) n.places) (nodes_without arms (rl 0 1 ∷ pr 0 ∷ body))

-- ---- T8: the lines of runs

-- a run of a statement
abbrev single : ℕ → Run
single id = next (statement (statement_of Ks (select id))) done

-- a statement stands on one line, a loop on two more than its run, a branch on three more than its arms; a run on those of its items
T8_lines : let s = statement (statement_of Ks (select 0)) in
    (run_lines done ≡ 0)
    × (item_lines s ≡ 1)
    × (item_lines (loop_of done) ≡ 2)
    × (item_lines (loop_of (next s (single 1))) ≡ 4)
    × (item_lines (branch done done) ≡ 3)
    × (item_lines (branch (next s (single 1)) (single 2)) ≡ 6)
    × (run_lines (next s (next (loop_of (single 1)) (next (branch (next (loop_of done) done) (single 2)) (single 3)))) ≡ 11)
unfolding run_lines
T8_lines = (refl, refl, refl, refl, refl, refl, refl)

-- ---- a branch

-- a branch at place 1
abbrev plain : List Line
plain = select 0 ∷ br ∷ select 1 ∷ el ∷ select 2 ∷ select 3 ∷ en ∷ select 4 ∷ []

-- no arm out, its first arm out, its second, both one after the other
Req06_branch : map
    (λ arms. ids_left arms plain)
    ([] ∷ (one 1 ∷ []) ∷ (two 1 ∷ []) ∷ (one 1 ∷ two 1 ∷ []) ∷ (two 1 ∷ one 1 ∷ []) ∷ [])
    ≡ ((0 ∷ 1 ∷ 4 ∷ []) ∷ (0 ∷ 2 ∷ 3 ∷ 4 ∷ []) ∷ [])
    ∷ ((0 ∷ 2 ∷ 3 ∷ 4 ∷ []) ∷ [])
    ∷ ((0 ∷ 1 ∷ 4 ∷ []) ∷ [])
    ∷ []
    ∷ []
    ∷ []
unfolding ids_left
Req06_branch = refl

-- an arm without a statement is an arm: what takes it goes
Req06_empty_arm : (ids_left (one 0 ∷ []) (br ∷ el ∷ select 0 ∷ en ∷ []) ≡ (0 ∷ []) ∷ [])
    × (ids_left (two 0 ∷ []) (br ∷ el ∷ select 0 ∷ en ∷ []) ≡ [] ∷ [])
    × (ids_left (two 1 ∷ []) (select 0 ∷ br ∷ select 1 ∷ el ∷ en ∷ []) ≡ (0 ∷ 1 ∷ []) ∷ [])
unfolding ids_left
Req06_empty_arm = (refl, refl, refl)

-- two arms without a statement, the first with a branch of two more: of the three unfoldings, which no statement tells apart, each arm takes its own
Req06_empty_arms : map
    (λ arms. ids_left arms (br ∷ br ∷ el ∷ en ∷ el ∷ en ∷ []))
    ([] ∷ (one 0 ∷ []) ∷ (two 0 ∷ []) ∷ (one 1 ∷ []) ∷ (two 1 ∷ []) ∷ (one 0 ∷ two 0 ∷ []) ∷ (one 1 ∷ two 1 ∷ []) ∷ (one 1 ∷ two 0 ∷ []) ∷ [])
    ≡ map (λ n. replicate n []) (3 ∷ 1 ∷ 2 ∷ 2 ∷ 2 ∷ 0 ∷ 1 ∷ 1 ∷ [])
unfolding ids_left
Req06_empty_arms = refl

-- ---- nested branches

-- a branch at place 0 with one in its first arm at place 2 and one in its second arm at place 8
abbrev nested : List Line
nested =
    br ∷ select 0 ∷ br ∷ select 1 ∷ el ∷ select 2 ∷ en ∷ el ∷ br ∷ select 3 ∷ el ∷ select 4 ∷ en ∷ en ∷ []

-- an inner arm goes alone, the outer arms take the inner branches with them, and an inner branch without its arms leaves nothing of the outer arm
Req06_nested : map
    (λ arms. ids_left arms nested)
    ([] ∷ (one 2 ∷ []) ∷ (two 2 ∷ []) ∷ (one 8 ∷ []) ∷ (two 8 ∷ []) ∷ (one 0 ∷ []) ∷ (two 0 ∷ []) ∷ (one 2 ∷ two 2 ∷ []) ∷ [])
    ≡ let a = 0 ∷ 1 ∷ [] in
    let b = 0 ∷ 2 ∷ [] in
    let c = 3 ∷ [] in
    let d = 4 ∷ [] in
    (a ∷ b ∷ c ∷ d ∷ [])
    ∷ (b ∷ c ∷ d ∷ [])
    ∷ (a ∷ c ∷ d ∷ [])
    ∷ (a ∷ b ∷ d ∷ [])
    ∷ (a ∷ b ∷ c ∷ [])
    ∷ (c ∷ d ∷ [])
    ∷ (a ∷ b ∷ [])
    ∷ (c ∷ d ∷ [])
    ∷ []
unfolding ids_left
Req06_nested = refl

-- arms of two branches one after the other: what takes either goes
Req06_arms_of_two : (ids_left (one 2 ∷ two 8 ∷ []) nested ≡ (0 ∷ 2 ∷ []) ∷ (3 ∷ []) ∷ [])
    × (ids_left (one 0 ∷ one 2 ∷ []) nested ≡ (3 ∷ []) ∷ (4 ∷ []) ∷ [])
    × (ids_left (two 0 ∷ one 2 ∷ []) nested ≡ (0 ∷ 2 ∷ []) ∷ [])
unfolding ids_left
Req06_arms_of_two = (refl, refl, refl)

-- ---- what stands before a branch counts

-- a branch at place 9 after a statement, a loop and a branch at place 4
abbrev later : List Line
later =
    select 0 ∷ lo ∷ select 1 ∷ en ∷ br ∷ select 2 ∷ el ∷ select 3 ∷ en ∷ br ∷ select 4 ∷ el ∷ select 5 ∷ en ∷ []

-- T8: the runs that are read off lines stand on these lines
T8_lines_read : map (λ p. run_lines p.body) (programs_of (rl 0 1 ∷ pr 0 ∷ nested ++ (pr 1 ∷ later) ++ (li 0 0 0 ∷ pr 2 ∷ plain)))
    ≡ length nested ∷ length later ∷ length plain ∷ []
unfolding nodes run_lines
T8_lines_read = refl

-- each turn of the loop with each choice
abbrev choices : List (List ℕ) → List (List ℕ)
choices ends = flat_map (λ turns. map (λ end. 0 ∷ turns ++ end) ends) ([] ∷ (1 ∷ []) ∷ (1 ∷ 1 ∷ []) ∷ [])

-- the branch that the place names and no other
Req06_later : map (λ arm. ids_left (arm ∷ []) later) (one 4 ∷ two 4 ∷ one 9 ∷ two 9 ∷ [])
    ≡ choices ((3 ∷ 4 ∷ []) ∷ (3 ∷ 5 ∷ []) ∷ [])
    ∷ choices ((2 ∷ 4 ∷ []) ∷ (2 ∷ 5 ∷ []) ∷ [])
    ∷ choices ((2 ∷ 5 ∷ []) ∷ (3 ∷ 5 ∷ []) ∷ [])
    ∷ choices ((2 ∷ 4 ∷ []) ∷ (3 ∷ 4 ∷ []) ∷ [])
    ∷ []
unfolding ids_left
Req06_later = refl

-- ---- a branch within a loop

-- a loop of a branch at place 1
abbrev turning : List Line
turning = lo ∷ br ∷ select 0 ∷ el ∷ select 1 ∷ en ∷ en ∷ []

-- of the seven unfoldings each that takes the arm in one turn goes, in two turns with one of each arm as well; without both arms the one with no
-- turn is left
Req06_turns : map (λ arms. ids_left arms turning) ([] ∷ (one 1 ∷ []) ∷ (two 1 ∷ []) ∷ (one 1 ∷ two 1 ∷ []) ∷ [])
    ≡ ([] ∷ (0 ∷ []) ∷ (1 ∷ []) ∷ (0 ∷ 0 ∷ []) ∷ (0 ∷ 1 ∷ []) ∷ (1 ∷ 0 ∷ []) ∷ (1 ∷ 1 ∷ []) ∷ [])
    ∷ ([] ∷ (1 ∷ []) ∷ (1 ∷ 1 ∷ []) ∷ [])
    ∷ ([] ∷ (0 ∷ []) ∷ (0 ∷ 0 ∷ []) ∷ [])
    ∷ ([] ∷ [])
    ∷ []
unfolding ids_left
Req06_turns = refl

-- the same where no statement tells: three of seven, and the one with no turn
Req06_empty_turns : map (λ arms. ids_left arms (lo ∷ br ∷ el ∷ en ∷ en ∷ [])) ([] ∷ (one 1 ∷ []) ∷ (two 1 ∷ []) ∷ (two 1 ∷ one 1 ∷ []) ∷ [])
    ≡ map (λ n. replicate n []) (7 ∷ 3 ∷ 3 ∷ 1 ∷ [])
unfolding ids_left
Req06_empty_turns = refl

-- a loop within the first arm: no turn, one, two go with it
Req06_loop_in_arm : map (λ arm. ids_left (arm ∷ []) (br ∷ lo ∷ select 0 ∷ en ∷ el ∷ select 1 ∷ en ∷ [])) (one 0 ∷ two 0 ∷ [])
    ≡ ((1 ∷ []) ∷ []) ∷ ([] ∷ (0 ∷ []) ∷ (0 ∷ 0 ∷ []) ∷ []) ∷ []
unfolding ids_left
Req06_loop_in_arm = refl

-- a branch at place 4 within a loop within the second arm of a branch
Req06_branch_in_loop_in_arm : map
    (λ arm. ids_left (arm ∷ []) (br ∷ select 0 ∷ el ∷ lo ∷ br ∷ select 1 ∷ el ∷ select 2 ∷ en ∷ en ∷ en ∷ []))
    (one 4 ∷ two 4 ∷ one 0 ∷ two 0 ∷ [])
    ≡ ((0 ∷ []) ∷ [] ∷ (2 ∷ []) ∷ (2 ∷ 2 ∷ []) ∷ [])
    ∷ ((0 ∷ []) ∷ [] ∷ (1 ∷ []) ∷ (1 ∷ 1 ∷ []) ∷ [])
    ∷ ([] ∷ (1 ∷ []) ∷ (2 ∷ []) ∷ (1 ∷ 1 ∷ []) ∷ (1 ∷ 2 ∷ []) ∷ (2 ∷ 1 ∷ []) ∷ (2 ∷ 2 ∷ []) ∷ [])
    ∷ ((0 ∷ []) ∷ [])
    ∷ []
unfolding ids_left
Req06_branch_in_loop_in_arm = refl

-- a branch at place 2 within the first arm of a branch within a loop: one turn that takes the inner arm is enough, and the outer arm takes both
Req06_branch_in_arm_in_loop : map
    (λ arm. ids_left (arm ∷ []) (lo ∷ br ∷ br ∷ select 0 ∷ el ∷ select 1 ∷ en ∷ el ∷ select 2 ∷ en ∷ en ∷ []))
    (one 2 ∷ one 1 ∷ two 1 ∷ [])
    ≡ ([] ∷ (1 ∷ []) ∷ (2 ∷ []) ∷ (1 ∷ 1 ∷ []) ∷ (1 ∷ 2 ∷ []) ∷ (2 ∷ 1 ∷ []) ∷ (2 ∷ 2 ∷ []) ∷ [])
    ∷ ([] ∷ (2 ∷ []) ∷ (2 ∷ 2 ∷ []) ∷ [])
    ∷ ([] ∷ (0 ∷ []) ∷ (1 ∷ []) ∷ (0 ∷ 0 ∷ []) ∷ (0 ∷ 1 ∷ []) ∷ (1 ∷ 0 ∷ []) ∷ (1 ∷ 1 ∷ []) ∷ [])
    ∷ []
unfolding ids_left
Req06_branch_in_arm_in_loop = refl

-- a branch at place 2 within a loop within a loop: the arm taken in one turn of one turn is enough, and thirteen without it are left, of which
-- three have no turn of the inner loop at all
Req06_loop_in_loop : ids_left (one 2 ∷ []) (lo ∷ lo ∷ br ∷ select 0 ∷ el ∷ select 1 ∷ en ∷ en ∷ en ∷ [])
    ≡ map (λ n. replicate n 1) (0 ∷ 0 ∷ 1 ∷ 2 ∷ 0 ∷ 1 ∷ 2 ∷ 1 ∷ 2 ∷ 3 ∷ 2 ∷ 3 ∷ 4 ∷ [])
unfolding ids_left
Req06_loop_in_loop = refl

-- ---- programs

-- three programs with the same branch
abbrev threefold : List Line
threefold =
    let own = br ∷ select 0 ∷ el ∷ select 1 ∷ en ∷ [] in
    (rl 0 1 ∷ pr 0 ∷ own) ++ (pr 1 ∷ own) ++ (pr 2 ∷ own)

-- the arm is of its program: equal branches of others stay, and programs keep their numbers, also after one of which nothing is left
Req06_program : (left (arm_at first_arm 1 0 ∷ []) threefold ≡ (0, 0 ∷ []) ∷ (0, 1 ∷ []) ∷ (1, 1 ∷ []) ∷ (2, 0 ∷ []) ∷ (2, 1 ∷ []) ∷ [])
    × (left (arm_at second_arm 0 0 ∷ []) threefold ≡ (0, 0 ∷ []) ∷ (1, 0 ∷ []) ∷ (1, 1 ∷ []) ∷ (2, 0 ∷ []) ∷ (2, 1 ∷ []) ∷ [])
    × (left (arm_at first_arm 1 0 ∷ arm_at second_arm 1 0 ∷ arm_at second_arm 2 0 ∷ []) threefold ≡ (0, 0 ∷ []) ∷ (0, 1 ∷ []) ∷ (2, 0 ∷ []) ∷ [])
unfolding left
Req06_program = (refl, refl, refl)

-- what names no arm takes out nothing: the line of a statement, of a loop, of an `el`, of an `en`, none at all, a loop's part, no part, no program
Req06_no_arm : let both : ℕ → List Arm = λ place. one place ∷ two place ∷ [] in
    ids_left
    (flat_map both (0 ∷ 1 ∷ 2 ∷ 3 ∷ 5 ∷ 6 ∷ 7 ∷ 8 ∷ 9 ∷ [])
    ++ (arm_at loop 0 4 ∷ arm_at loop 0 1 ∷ arm_at 3 0 4 ∷ arm_at first_arm 1 4 ∷ arm_at second_arm 1 4 ∷ []))
    (select 0 ∷ lo ∷ select 1 ∷ en ∷ br ∷ select 2 ∷ el ∷ select 3 ∷ en ∷ [])
    ≡ choices ((2 ∷ []) ∷ (3 ∷ []) ∷ [])
unfolding ids_left
Req06_no_arm = refl

-- ---- the nodes and the graph

-- a node that is left keeps its program's links, and its occurrences where they stand: in no turn, one, two of a loop in the second arm
Req06_node : ◌≡◌ {A = List (List (ℕ × ℕ × ℕ) × List (List (ℕ × ℕ)))}
    (map
    (λ n. (map (λ l. (l.key, l.child, l.parent)) n.links, map (λ o. map (λ a. (a.item, a.turn)) o.path) n.places))
    (nodes_without (one 0 ∷ []) (rl 0 1 ∷ pr 0 ∷ br ∷ select 0 ∷ el ∷ lo ∷ select 1 ∷ en ∷ en ∷ select 2 ∷ li 5 1 2 ∷ [])))
    (map
    (λ paths. ((5, 1, 2) ∷ [], paths))
    (([] ∷ [])
    ∷ (((0, 1) ∷ (0, 0) ∷ []) ∷ [] ∷ [])
    ∷ (((0, 1) ∷ (0, 0) ∷ []) ∷ ((0, 1) ∷ (0, 1) ∷ []) ∷ [] ∷ [])
    ∷ []))
unfolding left
Req06_node = refl

-- `ps` twice in an arm, once in the other: node 1 and node 2
abbrev twice_in_arm : List Line
twice_in_arm = station (br ∷ ps 0 1 2 2 ∷ ps 1 1 2 2 ∷ el ∷ ps 2 1 2 2 ∷ en ∷ [])

-- without the first arm the graph has the two other nodes, and the walk for `ps` twice is none of it; without the second arm it stays
Req06_graph : let walk = step 0 1 1 Flow.forward ∷ step 1 0 1 Flow.back ∷ [] in
    let without : ℕ → ℕ × List ℕ = λ part. let g = graph_without (arm_at part 1 0 ∷ []) twice_in_arm in (g.size, map g.places (0 ∷ 1 ∷ 2 ∷ [])) in
    (without first_arm ≡ (2, 2 ∷ 1 ∷ 0 ∷ []))
    × (without second_arm ≡ (2, 2 ∷ 2 ∷ 0 ∷ []))
    × (dangerous twice_in_arm walk ≡ true)
    × (is_dangerous (graph_without (arm_at first_arm 1 0 ∷ []) twice_in_arm) walk ≡ false)
    × (is_dangerous (graph_without (arm_at second_arm 1 0 ∷ []) twice_in_arm) walk ≡ true)
unfolding left dangerous graph_without
Req06_graph = (refl, refl, refl, refl, refl)
