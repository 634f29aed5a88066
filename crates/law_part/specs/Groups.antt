-- Part of a robust station is robust (Req 06): the part of a workload that some text gives, for any choice of its programs. Its graph is
-- the part of the whole's graph on the nodes of the chosen programs, so that the laws of PartWalks say exactly which walks it has.
use Rattle.std.specs.Prelude.{Bool, true, false, ◌&&◌, ◌↔◌, ◌≡◌, refl, ℕ, ◌<◌, length}
use Rattle.std.proofs.lemmas.Bool.{false≢true}
use mathlib.Core.List.{List, [], ◌∷◌, map, map-id, Memᴰ}
use Rattle.std.proofs.Math.Option.{Option, none, some}
use Rattle.std.proofs.Common.{sym, ◌∙◌, arith}
use Rattle.std.proofs.Math.Path.{ap, subst}
use Rattle.std.proofs.Math.ListN.{get_elem?}
use Rattle.std.proofs.lemmas.List.{length-map}
use Rattle.spec_base.specs.Basic.{any, keep, count, has}
use Rattle.law_base.specs.BoolLaws.{true_false, or_false}
use Rattle.law_base.specs.ListLaws.{get_elem?_lt, get_elem?_member}
use Rattle.spec_text.specs.declared.Line.{Line}
use Rattle.spec_text.specs.declared.Workload.{Workload}
use Rattle.spec_text.specs.Reading.{is_program, read}
use Rattle.spec_text.specs.Reading.Outcome.{accepted}
use Rattle.spec_text.specs.Value.{Given, lines_of}
use Rattle.law_text.specs.ReadingLaws.{read_taken, read_closed}
use Rattle.law_text.specs.ValueLaws.{given_read}
use Rattle.spec_graph.specs.Program.{Program, programs_of}
use Rattle.spec_graph.specs.Unfolding.{Node, nodes_from, nodes_of}
use Rattle.spec_graph.specs.Edge.{edges_of, graph_of}
use Rattle.spec_graph.specs.Walk.{Step, is_dangerous, DangerousWalk, FirstWalk}
use Rattle.law_walk.specs.AllNodes.{walk_nodes}
use Rattle.law_walk.specs.Parts.{Below, renumbered, only}
use Rattle.law_walk.specs.Reach.{regular}
use Rattle.spec_schedule.specs.Schedule.{Schedule}
use Rattle.spec_schedule.specs.Serial.{Serialisable}
use Rattle.soundness.specs.Theorem.{demand_3}
use Rattle.spec_report.specs.State.{summary_graph, is_too_many, counts_of, Danger, Robust}
use Rattle.spec_report.specs.Report.{robust_report, Report}
use Rattle.node_laws.specs.FromLinks.{node_program}
use Rattle.node_laws.specs.LineCases.{program_kind, programs_later}
use Rattle.spec_part.specs.Group.{chosen_from, until_program, program_lines, part_lines, part_of}
use Rattle.law_part.specs.PartWalks.{PartOf, part_danger, part_robust, part_first, first_back, part_fewer}
use Rattle.law_part.specs.KeptNodes.{kept_number, is_kept, kept_part}
use Rattle.law_part.specs.PartEdges.{renumbered_edge, kept_edges}
use Rattle.law_part.specs.PartPrograms.{program_on, programs_on, part_programs}
use Rattle.law_part.specs.PartNodes as Nodes
use Rattle.law_part.specs.PartNodes.{node_in_part}
use Rattle.law_part.specs.PartLines.{programs_counted, until_none, part_none}
use Rattle.law_part.specs.PartGiven.{part_lines_lem, part_given}

-- the node is one of a chosen program
abbrev pub of_group : ℕ → Node → Bool
of_group group n = has group n.program

-- the node with this number in the whole is one of a chosen program
abbrev pub in_group : ℕ → List Line → ℕ → Bool
in_group group lines m = is_kept (of_group group) (nodes_of lines) m

-- the number in the whole of the node with this number in the part
abbrev pub in_whole : ℕ → List Line → ℕ → ℕ
in_whole group lines k = kept_number (of_group group) (nodes_of lines) k

-- Req 06: the chosen programs of a given workload
given_programs : (group : ℕ) {w : Workload} → Given w → programs_of (part_lines group (lines_of w)) ≡ chosen_from group 0 (programs_of (lines_of w))
given_programs group {w} g =
    part_programs group (lines_of w) (read_taken g.text (lines_of w) (given_read g)) (read_closed g.text (lines_of w) (given_read g))

module _ (group : ℕ) {w : Workload} (g : Given w) where
  -- the lines of the whole and of the part
  abbrev whole : List Line
  whole = lines_of w

  abbrev part : List Line
  part = lines_of (part_of group w)

  -- the part's nodes are the chosen ones, in order, renumbered
  pub group_nodes : nodes_of part ≡ map (node_in_part group) (keep (of_group group) (nodes_of whole))
  group_nodes = ap nodes_of (part_lines_lem group w) ∙ Nodes.part_nodes group whole (given_programs group g)

  -- they are not too many where the whole's are not
  pub group_few : is_too_many whole ≡ false → is_too_many part ≡ false
  group_few few = ap is_too_many (part_lines_lem group w) ∙ Nodes.part_few group whole (given_programs group g) few

  -- the graph of the part is the part of the graph on the nodes of the chosen programs, renumbered in order
  pub group_part : PartOf (summary_graph part) (summary_graph whole) (in_group group whole) (in_whole group whole)
  unfolding summary_graph node_in_part
  group_part =
      let nodes = nodes_of whole in
      let chosen = map (node_in_part group) (keep (of_group group) nodes) in
      let kept = kept_part (of_group group) (λ n. n) (node_in_part group) (λ n. (refl, refl)) nodes in
      subst (λ (p : List Node). PartOf (graph_of p) (graph_of nodes) (in_group group whole) (in_whole group whole)) (sym group_nodes)
      (subst (λ (l : List Node). PartOf (graph_of chosen) (graph_of l) (in_group group whole) (in_whole group whole)) (map-id nodes) kept)

  -- the part's edge records, renumbered, are the whole's between nodes of chosen programs
  pub group_edges : map (renumbered_edge (in_whole group whole)) (edges_of (nodes_of part))
      ≡ keep (λ e. in_group group whole e.node && in_group group whole e.into) (edges_of (nodes_of whole))
  unfolding node_in_part
  group_edges =
      let nodes = nodes_of whole in
      ap (λ (p : List Node). map (renumbered_edge (in_whole group whole)) (edges_of p)) group_nodes
      ∙ kept_edges (of_group group) (λ n. n) (node_in_part group) (λ n. (refl, refl)) nodes
      ∙ ap (λ (l : List Node). keep (λ e. in_group group whole e.node && in_group group whole e.into) (edges_of l)) (map-id nodes)

  -- Req 07, Req 13: the part has a dangerous walk exactly if the whole has one that stays in the group's programs, so one graph answers for all
  -- groups
  pub group_danger : Danger part ↔ DangerousWalk (only (in_group group whole) (summary_graph whole))
  unfolding summary_graph
  group_danger = part_danger group_part (regular (nodes_of whole))

  -- Req 09: the first walk of the part is, in the whole's numbers, the first of the whole that stays in the group's programs
  pub group_first : (walk : List Step) → Below (summary_graph part).size walk
      → FirstWalk (summary_graph part) walk ↔ FirstWalk (only (in_group group whole) (summary_graph whole)) (renumbered (in_whole group whole) walk)
  unfolding summary_graph
  group_first = part_first group_part (regular (nodes_of whole))

  -- and each first walk of the whole that stays there is one of these
  pub first_in_group : (walk : List Step) → FirstWalk (only (in_group group whole) (summary_graph whole)) walk
      → (in_part : List Step) × (renumbered (in_whole group whole) in_part ≡ walk) × FirstWalk (summary_graph part) in_part
  unfolding summary_graph
  first_in_group = first_back group_part (regular (nodes_of whole))

  -- Req 06: robust in the whole gives robust in the part
  pub group_robust : Robust whole → Robust part
  group_robust = part_robust group_part

-- Req 06: what the value of a part is: one that some text gives, with no more unfoldings and statements than are allowed, whose nodes are the chosen
-- ones, in order, their programs renumbered; and robust where the whole is
pub record RobustPart (group : ℕ) (w : Workload) : Type 0 where
  pub given : Given (part_of group w)
  pub few : is_too_many (lines_of (part_of group w)) ≡ false
  pub nodes : nodes_of (lines_of (part_of group w)) ≡ map (node_in_part group) (keep (of_group group) (nodes_of (lines_of w)))
  pub robust : Robust (lines_of w) → Robust (lines_of (part_of group w))

-- Req 06: so it is for every value that some text gives with at most 64 unfoldings and 512 statements, and every choice of programs
pub robust_part : (group : ℕ) {w : Workload} → Given w → is_too_many (lines_of w) ≡ false → RobustPart group w
robust_part group g few =
    record { given = part_given group g; few = group_few group g few; nodes = group_nodes group g; robust = group_robust group g }

-- Req 06: so the word for the part is robust: some text has it, and its report says so
pub part_reported : (group : ℕ) {w : Workload} → Given w → is_too_many (lines_of w) ≡ false → Robust (lines_of w)
    → (text : List ℕ) × (read text ≡ accepted (lines_of (part_of group w))) × Report text (robust_report (counts_of (lines_of (part_of group w))))
part_reported group {w} g few robust =
    let p = robust_part group g few in
    let is_read = given_read p.given in
    (p.given.text, is_read, Report.robust (lines_of (part_of group w)) is_read p.few (p.robust robust))

-- demand 3 for a part: every schedule of some programs of a robust station has its serial order
pub part_serial : (group : ℕ) {w : Workload} → Given w → Robust (lines_of w) → (s : Schedule (lines_of (part_of group w))) → Serialisable s
part_serial group {w} g robust = demand_3 (part_of group w) (part_given group g) (group_robust group g robust)

-- ---- smaller groups

-- a node of a given workload is one of a program of it
node_known : {w : Workload} → Given w → (n : Node) → Memᴰ n (nodes_of (lines_of w)) → n.program < count is_program (lines_of w)
unfolding nodes_of
node_known {w} g n m =
    let t = node_program 0 (programs_of (lines_of w)) n m in
    let taken = read_taken g.text (lines_of w) (given_read g) in
    let closed = read_closed g.text (lines_of w) (given_read g) in
    let many : length (programs_of (lines_of w)) ≡ count is_program (lines_of w) =
    ap length (programs_on (lines_of w) taken closed) ∙ length-map (program_lines (lines_of w)) program_on ∙ programs_counted (lines_of w) in
    omega (arith, t.number, get_elem?_lt (programs_of (lines_of w)) t.index t.there)

-- Req 07, Req 09: a smaller group of a robust group is robust
pub fewer_robust : (group larger : ℕ) {w : Workload} → Given w
    → ((k : ℕ) → k < count is_program (lines_of w) → has group k ≡ true → has larger k ≡ true)
    → Robust (lines_of (part_of larger w)) → Robust (lines_of (part_of group w))
unfolding summary_graph graph_of
fewer_robust group larger {w} g inside =
    part_fewer (group_part larger g) (group_part group g) (λ m below. wider m (get_elem? (nodes_of (lines_of w)) m) refl)
  where
    wider : (m : ℕ) (o : Option Node) → get_elem? (nodes_of (lines_of w)) m ≡ o
        → elim o [ none ↦ false | some n ↦ of_group group n ] ≡ true → elim o [ none ↦ false | some n ↦ of_group larger n ] ≡ true
    wider m none e h = h
    wider m (some n) e h = inside n.program (node_known g n (get_elem?_member (nodes_of (lines_of w)) m e)) h

-- lines without a `pr` have no program
no_programs : (lines : List Line) → any is_program lines ≡ false → programs_of lines ≡ []
unfolding programs_of
no_programs [] h = refl
no_programs (l ∷ lines) h =
    let both = or_false (is_program l) (any is_program lines) h in
    programs_later l lines (λ e. true_false (program_kind l e) both.0) ∙ no_programs lines both.1

-- a graph without nodes has no dangerous walk, for such a walk has a step
no_walk : DangerousWalk (graph_of []) → ⊥
unfolding graph_of is_dangerous
no_walk ([], d) = false≢true d
no_walk (s ∷ walk, d) = let below : s.node < 0 = walk_nodes (regular []) (s ∷ walk) d s (Memᴰ.head refl) in omega arith

-- Req 06: the group of no program is robust, for its part has no node
pub empty_robust : (group : ℕ) (w : Workload) → ((k : ℕ) → k < count is_program (lines_of w) → has group k ≡ false)
    → Robust (lines_of (part_of group w))
unfolding summary_graph nodes_of nodes_from
empty_robust group w nobody walk =
    let none = until_program (lines_of w) in
    let programs : programs_of (lines_of (part_of group w)) ≡ [] =
    ap programs_of (part_lines_lem group w ∙ part_none group (lines_of w) nobody) ∙ no_programs none (until_none (lines_of w)) in
    no_walk (subst (λ (p : List Program). DangerousWalk (graph_of (nodes_from 0 p))) programs walk)
