-- The laws of parts on the station of the examples: every part of a robust text is robust, as the laws say and as is computed; a danger of two
-- programs is one of no smaller group; and it goes with the arm that it stands in. The main laws are used here, so that a premise which
-- nobody meets is noticed.
use Rattle.std.specs.Prelude.{Bool, true, false, ◌&&◌, ◌⊎◌, ◌≡◌, refl, ℕ, zero, suc, ◌<◌, eqb, length}
use mathlib.Core.List.Memᴰ
use mathlib.Core.List.{List, [], ◌∷◌, map, Memᴰ}
use Rattle.std.proofs.Common.{inl, inr, sym, ap, ◌∙◌, arith}
use Prim.Native.String.{String}
use Rattle.std.proofs.lemmas.List.{length-map}
use Rattle.spec_base.specs.Basic.{keep, count, has}
use Rattle.law_base.specs.SetLaws.{has_empty, has_ones, within_has}
use Rattle.spec_text.specs.declared.Line.{Line}
use Rattle.spec_text.specs.declared.Workload.{Workload}
use Rattle.spec_text.specs.Text.{line_with}
use Rattle.spec_text.specs.Quoted.{text, read_bytes}
use Rattle.spec_text.specs.Reading.{sort, is_program, same_block, first_arm, second_arm, read}
use Rattle.spec_text.specs.Reading.Outcome.{accepted}
use Rattle.spec_text.specs.Value.{Given, lines_of, value_of}
use Rattle.law_text.specs.ValueLaws.{value_given}
use Rattle.spec_graph.specs.Graph.{Flow, Graph}
use Rattle.spec_graph.specs.Program.{run_lines, programs_of}
use Rattle.spec_graph.specs.ExampleText.{ps, br, el, en, station, base, twice, graph, step}
use Rattle.spec_graph.specs.Unfolding.{nodes_of}
use Rattle.spec_graph.specs.Edge.{edges_of, graph_of}
use Rattle.spec_graph.specs.Walk.{Step, is_dangerous, DangerousWalk, FirstWalk}
use Rattle.law_walk.specs.FirstWalks.{is_first, first_tested}
use Rattle.law_walk.specs.Parts.{renumber, renumbered, only, only_regular}
use Rattle.law_walk.specs.Reach.{leaves_for, joins, joined_to, grow, reached_from, opens, closes_at, danger_test, regular, danger_none}
use Rattle.spec_schedule.specs.Schedule.{Schedule}
use Rattle.spec_schedule.specs.Serial.{Serialisable}
use Rattle.spec_report.specs.State.{statements_in, is_too_many, counts_of, summary_graph, Robust}
use Rattle.spec_report.specs.Report.{robust_report, Report}
use Rattle.spec_part.specs.Group.{chosen_from, until_program, program_lines, joined_from, part_lines, part_of}
use Rattle.spec_part.specs.Arm.{Unfolding, Arm, takes, node_of, unfoldings_from, takes_arm, nodes_without, graph_without}
use Rattle.law_part.specs.PartWalks.{PartOf, is_walk, is_closed_walk, closed_back, dangerous_back, walk_in_part, first_back, part_robust}
use Rattle.law_part.specs.KeptNodes.{chosen_nodes, number_of_chosen, chosen_part, kept_from, kept_number}
use Rattle.law_part.specs.PartEdges.{renumbered_edge, chosen_edges_lem}
use Rattle.law_part.specs.PartLines.{part_bits}
use Rattle.law_part.specs.PartGiven.{part_whole}
use Rattle.law_part.specs.PartNodes.{rank}
use Rattle.law_part.specs.PartsOfParts.{part_of_part}
use Rattle.law_part.specs.Groups.{group_part, robust_part, part_reported, part_serial, fewer_robust, empty_robust}
use Rattle.law_part.specs.Arms.{avoids, without_after, arm_edges, arms_robust, arm_robust}

-- the base text of the examples
abbrev base_text : List String
base_text =
    "kind id rel to reads writes tests"
    ∷ "rl 0 - - 3 - -" ∷ "rl 1 - - 3 - -" ∷ "fk 0 1 0 - - -"
    ∷ "pr 0 - - - - -" ∷ "ku 0 0 - 2 2 -" ∷ "ku 1 1 - 0 2 -" ∷ "li 0 1 0 - - -"
    ∷ "pr 1 - - - - -" ∷ "ps 0 1 - 2 - 2" ∷ []

base_read : read (text base_text) ≡ accepted base
unfolding read_bytes text
base_read = refl

-- ---- every group of a robust workload is robust

-- whoever unfolds this can compute the graph of the value that lines give, and whether it is dangerous
unfoldable dangerous : Graph → Bool
unfolding graph leaves_for joins joined_to grow reached_from opens closes_at danger_test summary_graph is_too_many statements_in lines_of value_of sort is_program
dangerous g = danger_test g

-- the base text's value
abbrev value : Workload
value = value_of base

base_given : Given value
base_given = value_given (text base_text) base_read

base_robust : Robust (lines_of value)
unfolding dangerous
base_robust = danger_none (summary_graph base) (regular (nodes_of base)) refl

base_few : is_too_many (lines_of value) ≡ false
unfolding dangerous
base_few = refl

-- the laws, used: whatever the group, the part is robust, some text has it and is reported robust, and its schedules have serial orders
base_parts : (group : ℕ) → Robust (lines_of (part_of group value))
base_parts group = (robust_part group base_given base_few).robust base_robust

base_reported : (group : ℕ) → (text : List ℕ) × (read text ≡ accepted (lines_of (part_of group value)))
    × Report text (robust_report (counts_of (lines_of (part_of group value))))
base_reported group = part_reported group base_given base_few base_robust

base_serial : (group : ℕ) (s : Schedule (lines_of (part_of group value))) → Serialisable s
base_serial group = part_serial group base_given base_robust

-- the part of program 1 has one node with one place, as that program has
second_nodes : length (nodes_of (lines_of (part_of 2 value))) ≡ 1
unfolding dangerous
second_nodes = ap length (robust_part 2 base_given base_few).nodes

second_places : (summary_graph (lines_of (part_of 2 value))).places 0 ≡ 1
unfolding dangerous kept_from
second_places = sym ((group_part 2 base_given).same_places 0 (omega (arith, second_nodes)))

-- the bits of the two programs
two_programs : count is_program (lines_of value) ≡ 2
unfolding dangerous
two_programs = refl

both : (k : ℕ) → k < count is_program (lines_of value) → has 3 k ≡ true
both zero h = refl
both (suc zero) h = refl
both (suc (suc k)) h = absurd (omega (arith, two_programs))

-- both programs are the workload itself, further bits count for nothing, no program is robust, and one program is, since both are
both_whole : part_of 3 value ≡ value
both_whole = part_whole 3 base_given both

further_bits : part_lines 3 (lines_of value) ≡ part_lines 0xffff (lines_of value)
further_bits = part_bits 3 0xffff (lines_of value) (λ k h. both k h ∙ sym (has_ones 16 k (omega (arith, two_programs))))

none_robust : Robust (lines_of (part_of 0 value))
none_robust = empty_robust 0 value (λ k h. has_empty k)

one_robust : Robust (lines_of (part_of 1 value))
one_robust = fewer_robust 1 3 base_given (λ k below h. within_has 1 3 k refl h) (base_parts 3)

-- the part of program 1, of which program 0 is taken, is the same part
second_again : part_of 1 (part_of 2 value) ≡ part_of 2 value
unfolding rank
second_again = part_of_part 1 2 2 value joint
  where
    joint : (k : ℕ) → k < count is_program (lines_of value) → has 2 k ≡ has 2 k && has 1 (rank 2 k)
    joint zero h = refl
    joint (suc zero) h = refl
    joint (suc (suc k)) h = absurd (omega (arith, two_programs))

-- ---- any choice of nodes

-- node 0 alone
abbrev first : ℕ → Bool
first m = eqb m 0

first_robust : DangerousWalk (graph_of (chosen_nodes first (nodes_of base))) → ⊥
unfolding dangerous
first_robust = part_robust (chosen_part first (nodes_of base)) base_robust

-- of the five edges two stand between two runs of program 0
first_edges : length (edges_of (chosen_nodes first (nodes_of base))) ≡ 2
unfolding dangerous
first_edges =
    sym (length-map (edges_of (chosen_nodes first (nodes_of base))) (renumbered_edge (number_of_chosen first (nodes_of base))))
    ∙ ap length (chosen_edges_lem first (nodes_of base))

-- the dangerous walk of `ps` twice, in the part on all nodes
abbrev there : Step
there = step 0 1 1 Flow.forward

abbrev back : Step
back = step 1 0 1 Flow.back

abbrev every_node : ℕ → Bool
every_node m = true

-- a node's number in the whole
abbrev number_in : ℕ → ℕ
number_in = number_of_chosen every_node (nodes_of twice)

abbrev part_graph : Graph
part_graph = graph_of (chosen_nodes every_node (nodes_of twice))

twice_part : PartOf part_graph (graph_of (nodes_of twice)) every_node number_in
twice_part = chosen_part every_node (nodes_of twice)

stays : (s : Step) → Memᴰ s (there ∷ back ∷ []) → (s.node < (graph_of (nodes_of twice)).size) × (true ≡ true)
unfolding dangerous
stays s m = go (Memᴰ.cases_cons m)
  where
    last : (s ≡ back) ⊎ Memᴰ s [] → s.node < 2
    last (inl e) = omega (arith, ap (λ (x : Step). x.node) e)
    last (inr n) = absurd (Memᴰ.not-nil n)

    go : (s ≡ there) ⊎ Memᴰ s (back ∷ []) → (s.node < 2) × (true ≡ true)
    go (inl e) = (omega (arith, ap (λ (x : Step). x.node) e), refl)
    go (inr n) = (last (Memᴰ.cases_cons n), refl)

-- it is one of the part: closed, dangerous, and its second step as a walk that is not closed
closed_in_part : (in_part : List Step) × (renumbered number_in in_part ≡ there ∷ back ∷ [])
    × (is_closed_walk part_graph in_part ≡ true)
unfolding dangerous
closed_in_part = closed_back twice_part (there ∷ back ∷ []) stays refl

dangerous_in_part : (in_part : List Step) × (renumbered number_in in_part ≡ there ∷ back ∷ [])
    × (is_dangerous part_graph in_part ≡ true)
unfolding dangerous
dangerous_in_part = dangerous_back twice_part (there ∷ back ∷ []) stays refl

step_in_part : (last : Step) × (in_part : List Step) × (renumber number_in last ≡ there)
    × (renumbered number_in in_part ≡ back ∷ [])
    × (is_walk part_graph last in_part ≡ true)
unfolding dangerous
step_in_part = walk_in_part twice_part there (back ∷ []) stays refl

-- and it is the first of the part, since no dangerous walk of the whole comes before it
first_in_part : (in_part : List Step) × (renumbered number_in in_part ≡ there ∷ back ∷ []) × FirstWalk part_graph in_part
unfolding dangerous is_first only
first_in_part =
    first_back twice_part (regular (nodes_of twice)) (there ∷ back ∷ [])
    (first_tested (only_regular every_node (regular (nodes_of twice))) (there ∷ back ∷ []) refl)

-- ---- a danger of two programs

-- whether each group of the workload is dangerous
unfoldable dangers : List Line → List ℕ → List Bool
unfolding dangerous summary_graph sort is_program line_with chosen_from until_program program_lines joined_from part_lines
dangers lines groups = map (λ group. danger_test (summary_graph (part_lines group lines))) groups

-- as computed: no group of the base text; of `ps` twice the two programs together, as often as further bits say it, and no smaller group
computed_parts : (dangers base (0 ∷ 1 ∷ 2 ∷ 3 ∷ 7 ∷ []) ≡ false ∷ false ∷ false ∷ false ∷ false ∷ [])
    × (dangers twice (0 ∷ 1 ∷ 2 ∷ 3 ∷ 7 ∷ []) ≡ false ∷ false ∷ false ∷ true ∷ true ∷ [])
unfolding dangers
computed_parts = (refl, refl)

-- ---- a danger in an arm

-- `ps` twice in the first arm of a branch at the first line of program 1, once in the second
abbrev armed : List Line
armed = station (br ∷ ps 0 1 2 2 ∷ ps 1 1 2 2 ∷ el ∷ ps 2 1 2 2 ∷ en ∷ [])

abbrev arm : ℕ → Arm
arm part = record { program = 1; block = record { place = 0; part = part } }

-- the danger goes with the first arm and not with the second
computed_arms : map (λ arms. danger_test (graph_without arms armed))
    ([] ∷ (arm first_arm ∷ []) ∷ (arm second_arm ∷ []) ∷ (arm first_arm ∷ arm second_arm ∷ []) ∷ [])
    ≡ true ∷ false ∷ true ∷ false ∷ []
unfolding dangerous same_block run_lines takes node_of unfoldings_from takes_arm nodes_without graph_without
computed_arms = refl

-- a robust workload with a branch: whatever arms are taken out, one after the other, it stays robust
abbrev branching : List Line
branching = station (br ∷ ps 0 1 2 2 ∷ el ∷ en ∷ [])

branching_robust : Robust branching
unfolding dangerous
branching_robust = danger_none (summary_graph branching) (regular (nodes_of branching)) refl

one_out : DangerousWalk (graph_without (arm first_arm ∷ []) branching) → ⊥
one_out = arms_robust (arm first_arm ∷ []) branching branching_robust

both_out : DangerousWalk (graph_without (arm second_arm ∷ arm first_arm ∷ []) branching) → ⊥
both_out = arm_robust (arm second_arm) (arm first_arm ∷ []) branching one_out

-- the second arm taken out of what the first leaves is both taken out
one_after_the_other : (l : List Unfolding)
    → keep (avoids (arm second_arm ∷ [])) (keep (avoids (arm first_arm ∷ [])) l) ≡ keep (avoids (arm first_arm ∷ arm second_arm ∷ [])) l
one_after_the_other = without_after (arm first_arm ∷ []) (arm second_arm ∷ [])

-- without the arm that has the predicate read the two edges of program 0 with itself are left
edges_left : length (edges_of (nodes_without (arm first_arm ∷ []) branching)) ≡ 2
unfolding dangerous same_block run_lines takes node_of unfoldings_from takes_arm
edges_left =
    let all = unfoldings_from 0 (programs_of branching) in
    let out = arm first_arm ∷ [] in
    sym (length-map (edges_of (nodes_without out branching)) (renumbered_edge (kept_number (avoids out) all))) ∙ ap length (arm_edges out branching)
