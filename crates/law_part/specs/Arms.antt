-- The graph without arms (Req 06): it is part of the summary graph, so it is robust where that is, whatever arms are taken out one
-- after the other. And what an arm is to statements: who does not take it performs none of its statements, who takes it performs its own.
use Rattle.std.specs.Prelude.{Bool, true, false, not, ◌&&◌, ◌||◌, ◌⊎◌, ◌↔◌, ◌≡◌, refl, ℕ, suc, ◌+◌, ◌≤◌, ◌<◌, eqb}
use Rattle.std.proofs.lemmas.Bool.{false≢true}
use mathlib.Core.List.Memᴰ
use mathlib.Core.List.{List, [], ◌∷◌, ◌++◌, map, head_d, tail, Memᴰ}
use Rattle.std.proofs.Common.{inl, inr, ⊎_elim, sym, ap, ◌∙◌, arith, eqb-true, eq-eqb}
use Rattle.spec_base.specs.Basic.{any, keep}
use Rattle.law_base.specs.BoolLaws.{true_false, false_of, same_test, and_true, and_false, or_true, or_false, or_of, not_true, not_of_false}
use Rattle.law_base.specs.ListLaws.{any_false, any_none, any_append, keep_member, keep_keep, keep_both, keep_same, keep_all, map_member}
use Rattle.spec_text.specs.declared.Line.{Line}
use Rattle.spec_text.specs.Reading as R
use Rattle.spec_text.specs.Reading.{Block, same_block, first_arm, second_arm}
use Rattle.spec_graph.specs.Program.{Item, Run, run_lines, item_lines, programs_of}
use Rattle.spec_graph.specs.Program.Item.{loop}
use Rattle.spec_graph.specs.Unfolding.{Execution, ItemExecution, Turns, Occurrence, inside, occurrences, item_occurrences, turn_occurrences}
use Rattle.spec_graph.specs.Unfolding.{nodes_of}
use Rattle.spec_graph.specs.Unfolding.Execution.{end, step}
use Rattle.spec_graph.specs.Unfolding.ItemExecution.{perform, turns, arm_one, arm_two}
use Rattle.spec_graph.specs.Unfolding.Turns.{stop, turn}
use Rattle.spec_graph.specs.Edge.{edges_of}
use Rattle.spec_graph.specs.Walk.{DangerousWalk}
use Rattle.spec_report.specs.State.{summary_graph, Robust}
use Rattle.node_laws.specs.Sites.{Site, within, sites, item_sites, run_ranged, item_ranged, run_plain}
use Rattle.spec_part.specs.Arm.{takes, item_takes, turns_take, Unfolding, node_of, unfoldings_from, Arm, takes_arm, nodes_without, graph_without}
use Rattle.law_part.specs.PartWalks.{PartOf, part_robust}
use Rattle.law_part.specs.PartEdges.{renumbered_edge, kept_edges}
use Rattle.law_part.specs.KeptNodes.{is_kept, kept_number, kept_part, kept_robust}
use Rattle.law_part.specs.PartNodes.{unfoldings_nodes}

-- ---- the nodes that are left

-- Req 06: an unfolding that takes none of these arms
abbrev pub avoids : List Arm → Unfolding → Bool
avoids arms u = not (any (λ arm. takes_arm arm u) arms)

-- who avoids all of more arms avoids all of fewer
avoids_fewer : (arms more : List Arm) → ((arm : Arm) → Memᴰ arm arms → Memᴰ arm more) → (u : Unfolding)
    → avoids more u ≡ true → avoids arms u ≡ true
avoids_fewer arms more covered u h =
    not_of_false (any_none _ arms (λ arm m. any_false (λ arm. takes_arm arm u) {l = more} (not_true _ h) (covered arm m)))

-- without no arm all nodes are left
pub without_none : (lines : List Line) → nodes_without [] lines ≡ nodes_of lines
unfolding nodes_without nodes_of
without_none lines =
    ap (map node_of) (keep_all (λ u. true) (unfoldings_from 0 (programs_of lines)) (λ u m. refl)) ∙ unfoldings_nodes 0 (programs_of lines)

-- arms one after the other: of the unfoldings that the first arms leave, those that the others leave are those that all together leave
pub without_after : (arms more : List Arm) (l : List Unfolding)
    → keep (avoids more) (keep (avoids arms) l) ≡ keep (avoids (arms ++ more)) l
without_after arms more l =
    keep_both (avoids arms) (avoids more) l ∙ keep_same _ (avoids (arms ++ more)) l (λ u m. both u)
  where
    neither : (a b : Bool) → not a && not b ≡ not (a || b)
    neither true b = refl
    neither false b = refl

    both : (u : Unfolding) → avoids arms u && avoids more u ≡ avoids (arms ++ more) u
    both u =
        neither (any (λ arm. takes_arm arm u) arms) (any (λ arm. takes_arm arm u) more)
        ∙ ap not (sym (any_append (λ arm. takes_arm arm u) arms more))

-- their order and how often each is taken out do not matter
pub without_same : (arms more : List Arm) → ((arm : Arm) → Memᴰ arm arms ↔ Memᴰ arm more) → (lines : List Line)
    → nodes_without arms lines ≡ nodes_without more lines
unfolding nodes_without
without_same arms more same lines =
    ap (map node_of)
    (keep_same (avoids arms) (avoids more) (unfoldings_from 0 (programs_of lines))
    (λ u m.
    same_test (avoids arms u) (avoids more u) (avoids_fewer more arms (λ arm n. (same arm).1 n) u)
    (avoids_fewer arms more (λ arm n. (same arm).0 n) u)))

-- ---- the graph of them

-- the graph without arms is part of the summary graph: all of its edges between the unfoldings that take none of them
pub arm_part : (arms : List Arm) (lines : List Line)
    → PartOf (graph_without arms lines) (summary_graph lines) (is_kept (avoids arms) (unfoldings_from 0 (programs_of lines)))
    (kept_number (avoids arms) (unfoldings_from 0 (programs_of lines)))
unfolding graph_without nodes_without summary_graph nodes_of
arm_part arms lines =
    rw (← unfoldings_nodes 0 (programs_of lines))
    (kept_part (avoids arms) node_of node_of (λ u. (refl, refl)) (unfoldings_from 0 (programs_of lines)))

-- E5, E6: its edge records, renumbered, are those of the summary graph between these unfoldings, in the same order
pub arm_edges : (arms : List Arm) (lines : List Line) → let all = unfoldings_from 0 (programs_of lines) in
    map (renumbered_edge (kept_number (avoids arms) all)) (edges_of (nodes_without arms lines))
    ≡ keep (λ e. is_kept (avoids arms) all e.node && is_kept (avoids arms) all e.into) (edges_of (nodes_of lines))
unfolding nodes_without nodes_of
arm_edges arms lines =
    rw (← unfoldings_nodes 0 (programs_of lines))
    (kept_edges (avoids arms) node_of node_of (λ u. (refl, refl)) (unfoldings_from 0 (programs_of lines)))

-- robust before, robust after
pub arms_robust : (arms : List Arm) (lines : List Line) → Robust lines → DangerousWalk (graph_without arms lines) → ⊥
arms_robust arms lines = part_robust (arm_part arms lines)

-- robust after some arms, robust after more
pub more_robust : (arms more : List Arm) → ((arm : Arm) → Memᴰ arm arms → Memᴰ arm more) → (lines : List Line)
    → (DangerousWalk (graph_without arms lines) → ⊥) → DangerousWalk (graph_without more lines) → ⊥
unfolding graph_without nodes_without
more_robust arms more covered lines none =
    let all = unfoldings_from 0 (programs_of lines) in
    rw (keep_keep (avoids arms) (avoids more) all (λ u m h. avoids_fewer arms more covered u h)) at
    (kept_robust (avoids more) node_of node_of (λ u. (refl, refl)) (keep (avoids arms) all) none)

-- robust before one arm is taken out, robust after
pub arm_robust : (arm : Arm) (arms : List Arm) (lines : List Line) → (DangerousWalk (graph_without arms lines) → ⊥)
    → DangerousWalk (graph_without (arm ∷ arms) lines) → ⊥
arm_robust arm arms = more_robust arms (arm ∷ arms) (λ other m. Memᴰ.tail m)

-- ---- an arm that is taken stands on lines of the run

-- blocks that are the same are opened by the same line, and are the same part
same_parts : (a b : Block) → same_block a b ≡ true → (a.place ≡ b.place) × (a.part ≡ b.part)
unfolding same_block
same_parts a b h =
    let t = and_true (eqb a.place b.place) (eqb a.part b.part) h in
    (eqb-true a.place b.place t.0, eqb-true a.part b.part t.1)

-- an execution takes arms of its own run alone
mutual
  unfolding takes run_lines

  takes_ranged : {r : Run} (e : Execution r) (at : ℕ) (arm : Block) → takes e at arm ≡ true → (at ≤ arm.place) × (arm.place < at + run_lines r)
  takes_ranged end at arm h = absurd (false≢true h)
  takes_ranged (step {x} {r} y e) at arm h =
      ⊎_elim
      (λ k. let t = item_takes_ranged y at arm k in (t.0, omega arith))
      (λ k. let t = takes_ranged e (at + item_lines x) arm k in (omega arith, omega arith))
      (or_true (item_takes y at arm) (takes e (at + item_lines x) arm) h)

  item_takes_ranged : {x : Item} (e : ItemExecution x) (at : ℕ) (arm : Block) → item_takes e at arm ≡ true
      → (at ≤ arm.place) × (arm.place < at + item_lines x)
  item_takes_ranged perform at arm h = absurd (false≢true h)
  item_takes_ranged (turns ts) at arm h = let t = turns_take_ranged ts (at + 1) arm h in (omega arith, omega arith)
  item_takes_ranged (arm_one {a} {b} e) at arm h =
      let one : Block = record { place = at; part = first_arm } in
      ⊎_elim
      (λ k. let t = (same_parts arm one k).0 in (omega arith, omega arith))
      (λ k. let t = takes_ranged e (at + 1) arm k in (omega arith, omega arith))
      (or_true (same_block arm one) (takes e (at + 1) arm) h)
  item_takes_ranged (arm_two {a} {b} e) at arm h =
      let two : Block = record { place = at; part = second_arm } in
      ⊎_elim
      (λ k. let t = (same_parts arm two k).0 in (omega arith, omega arith))
      (λ k. let t = takes_ranged e (at + run_lines a + 2) arm k in (omega arith, omega arith))
      (or_true (same_block arm two) (takes e (at + run_lines a + 2) arm) h)

  turns_take_ranged : {r : Run} (ts : Turns r) (at : ℕ) (arm : Block) → turns_take ts at arm ≡ true
      → (at ≤ arm.place) × (arm.place < at + run_lines r)
  turns_take_ranged stop at arm h = absurd (false≢true h)
  turns_take_ranged (turn e ts) at arm h =
      ⊎_elim (λ k. takes_ranged e at arm k) (λ k. turns_take_ranged ts at arm k) (or_true (takes e at arm) (turns_take ts at arm) h)

-- ---- who does not take an arm performs none of its statements

-- an occurrence has a site outside the arm
abbrev Outside : Block → List Site → Occurrence → Type 0
Outside arm from o =
    (s : Site) × Memᴰ s from × (s.statement ≡ o.statement) × (any (λ b. same_block arm b) s.blocks ≡ false)

-- more sites
outside_wider : (arm : Block) (from wider : List Site) (o : Occurrence) → ((s : Site) → Memᴰ s from → Memᴰ s wider)
    → Outside arm from o → Outside arm wider o
outside_wider arm from wider o f t = (t.0, f t.0 t.1, t.2, t.3)

-- one block more around the sites and around the occurrences, which is not the arm
outside_within : (arm block : Block) (from : List Site) (all : List Occurrence) (i t : ℕ) → same_block arm block ≡ false
    → ((o : Occurrence) → Memᴰ o all → Outside arm from o)
    → (o : Occurrence) → Memᴰ o (map (inside i t) all) → Outside arm (map (within block) from) o
unfolding inside within
outside_within arm block from all i t other f o m =
    let c = map_member (inside i t) all m in
    let s = f c.0 c.1 in
    (within block s.0, Memᴰ.map (within block) s.1, s.2 ∙ ap (λ (x : Occurrence). x.statement) c.2, or_of other s.3)

-- an arm is no loop's run
no_loop : (arm : Block) (place : ℕ) → (arm.part ≡ R.loop → ⊥) → same_block arm (record { place = place; part = R.loop }) ≡ false
no_loop arm place h = false_of _ (λ k. h (same_parts arm (record { place = place; part = R.loop }) k).1)

mutual
  unfolding takes sites occurrences

  -- each occurrence of an execution that does not take the arm stands at a site of the run with no block that is the arm
  pub arm_out : {r : Run} (e : Execution r) (at i : ℕ) (arm : Block) → (arm.part ≡ R.loop → ⊥) → takes e at arm ≡ false
      → (o : Occurrence) → Memᴰ o (occurrences e i)
      → (s : Site) × Memᴰ s (sites r at) × (s.statement ≡ o.statement) × (any (λ b. same_block arm b) s.blocks ≡ false)
  arm_out end at i arm branch h o m = absurd (Memᴰ.not-nil m)
  arm_out (step {x} {r} y e) at i arm branch h o m =
      let t = or_false (item_takes y at arm) (takes e (at + item_lines x) arm) h in
      ⊎_elim
      (λ n.
      outside_wider arm (item_sites x at) _ o (λ s k. Memᴰ.append_left (sites r (at + item_lines x)) k)
      (item_out y at i arm branch t.0 o n))
      (λ n.
      outside_wider arm (sites r (at + item_lines x)) _ o (λ s k. Memᴰ.append_right (item_sites x at) k)
      (arm_out e (at + item_lines x) (suc i) arm branch t.1 o n))
      (Memᴰ.append_cases (item_occurrences y i) m)

  item_out : {x : Item} (e : ItemExecution x) (at i : ℕ) (arm : Block) → (arm.part ≡ R.loop → ⊥) → item_takes e at arm ≡ false
      → (o : Occurrence) → Memᴰ o (item_occurrences e i) → Outside arm (item_sites x at) o
  item_out (perform {s}) at i arm branch h o m =
      (record { statement = s; blocks = [] }, Memᴰ.head refl, ap (λ (x : Occurrence). x.statement) (sym (Memᴰ.eq_of_singleton m)), refl)
  item_out (turns ts) at i arm branch h o m = turns_out ts at i 0 arm branch h o m
  item_out (arm_one {a} {b} e) at i arm branch h o m =
      let one : Block = record { place = at; part = first_arm } in
      let t = or_false (same_block arm one) (takes e (at + 1) arm) h in
      outside_wider arm (map (within one) (sites a (at + 1))) _ o (λ s k. Memᴰ.append_left _ k)
      (outside_within arm one (sites a (at + 1)) (occurrences e 0) i 0 t.0 (λ o n. arm_out e (at + 1) 0 arm branch t.1 o n) o m)
  item_out (arm_two {a} {b} e) at i arm branch h o m =
      let two : Block = record { place = at; part = second_arm } in
      let from = at + run_lines a + 2 in
      let t = or_false (same_block arm two) (takes e from arm) h in
      outside_wider arm (map (within two) (sites b from)) _ o (λ s k. Memᴰ.append_right (map (within _) (sites a (at + 1))) k)
      (outside_within arm two (sites b from) (occurrences e 0) i 1 t.0 (λ o n. arm_out e from 0 arm branch t.1 o n) o m)

  turns_out : {r : Run} (ts : Turns r) (at i t : ℕ) (arm : Block) → (arm.part ≡ R.loop → ⊥) → turns_take ts (at + 1) arm ≡ false
      → (o : Occurrence) → Memᴰ o (turn_occurrences ts i t) → Outside arm (item_sites (loop r) at) o
  turns_out stop at i t arm branch h o m = absurd (Memᴰ.not-nil m)
  turns_out (turn {r} e ts) at i t arm branch h o m =
      let k = or_false (takes e (at + 1) arm) (turns_take ts (at + 1) arm) h in
      ⊎_elim
      (λ n.
      outside_within arm _ (sites r (at + 1)) (occurrences e 0) i t (no_loop arm at branch)
      (λ o n. arm_out e (at + 1) 0 arm branch k.0 o n) o n)
      (λ n. turns_out ts at i (suc t) arm branch k.1 o n)
      (Memᴰ.append_cases (map (inside i t) (occurrences e 0)) m)

-- so an unfolding that is left performs no statement in an arm of its program that was taken out
pub left_out : (arms : List Arm) (l : List Unfolding) (u : Unfolding) → Memᴰ u (keep (avoids arms) l)
    → (arm : Arm) → Memᴰ arm arms → arm.program ≡ u.number → (arm.block.part ≡ R.loop → ⊥)
    → (o : Occurrence) → Memᴰ o (node_of u).places
    → (s : Site) × Memᴰ s (sites u.program.body 0) × (s.statement ≡ o.statement)
    × (any (λ b. same_block arm.block b) s.blocks ≡ false)
unfolding node_of takes_arm
left_out arms l u m arm n same branch o k =
    let none = any_false (λ arm. takes_arm arm u) {l = arms} (not_true _ (keep_member (avoids arms) l m).1) n in
    let other : takes u.execution 0 arm.block ≡ false =
    ⊎_elim
    (λ h. absurd (true_false (eq-eqb arm.program u.number same) h))
    (λ h. h)
    (and_false (eqb arm.program u.number) (takes u.execution 0 arm.block) none) in
    arm_out u.execution 0 0 arm.block branch other o k

-- ---- who takes an arm performs the statements that stand directly in it

-- the statement of the site occurs
abbrev Performed : Site → List Occurrence → Type 0
Performed s all = (o : Occurrence) × Memᴰ o all × (o.statement ≡ s.statement)

-- the arm is the innermost block
abbrev Innermost : Block → List Block → Type 0
Innermost arm blocks = (outer : List Block) × (blocks ≡ outer ++ (arm ∷ []))

-- it is one of the blocks
innermost_member : (arm : Block) (blocks : List Block) → Innermost arm blocks → Memᴰ arm blocks
innermost_member arm blocks t = rw t.1 (Memᴰ.append_right t.0 (Memᴰ.head refl))

-- of a block with blocks in it the innermost is that block itself, with none in it, or the innermost of those
innermost_cases : (arm block : Block) (blocks : List Block) → Innermost arm (block ∷ blocks)
    → ((block ≡ arm) × (blocks ≡ [])) ⊎ Innermost arm blocks
unfolding head_d
innermost_cases arm block blocks (outer, k) = go outer k
  where
    go : (outer : List Block) → block ∷ blocks ≡ outer ++ (arm ∷ []) → ((block ≡ arm) × (blocks ≡ [])) ⊎ Innermost arm blocks
    go [] k = inl (ap (λ (l : List Block). head_d l arm) k, ap tail k)
    go (b ∷ outer) k = inr (outer, ap tail k)

-- a site inside a block: the run's site that it is, and where its innermost block stands
innermost_within : (arm block : Block) (r : Run) (from : ℕ) (s : Site) → Memᴰ s (map (within block) (sites r from)) → Innermost arm s.blocks
    → (p : Site) × Memᴰ p (sites r from) × (p.statement ≡ s.statement)
    × (((block ≡ arm) × (p.blocks ≡ [])) ⊎ Innermost arm p.blocks)
unfolding within
innermost_within arm block r from s m inner =
    let t = map_member (within block) (sites r from) m in (
      t.0,
      t.1,
      ap (λ (x : Site). x.statement) t.2,
      innermost_cases arm block t.0.blocks (inner.0, ap (λ (x : Site). x.blocks) t.2 ∙ inner.1),
    )

-- the arm that is the innermost block of a site inside a block is that block or stands on the lines inside it
innermost_ranged : (arm block : Block) (r : Run) (from : ℕ) (s : Site) → Memᴰ s (map (within block) (sites r from))
    → Innermost arm s.blocks → (block ≡ arm) ⊎ ((from ≤ arm.place) × (arm.place < from + run_lines r))
innermost_ranged arm block r from s m inner =
    let t = innermost_within arm block r from s m inner in
    ⊎_elim (λ k. inl k.0) (λ k. inr (run_ranged r from t.0 t.1 arm (innermost_member arm _ k))) t.3

-- the executions of a block's run that take the arm perform its statements
abbrev Performs : {r : Run} → Execution r → ℕ → Block → Type 0
Performs {r} e from arm =
    takes e from arm ≡ true → (p : Site) → Memᴰ p (sites r from) → Innermost arm p.blocks → Performed p (occurrences e 0)

-- the block is the arm, and its plain statements occur, or the arm is taken inside it
performed_within : (arm block : Block) {r : Run} (e : Execution r) (from i t : ℕ) → block.place < from → Performs e from arm
    → (arm.place ≡ block.place) ⊎ (takes e from arm ≡ true)
    → (s : Site) → Memᴰ s (map (within block) (sites r from)) → Innermost arm s.blocks
    → Performed s (map (inside i t) (occurrences e 0))
unfolding inside
performed_within arm block {r} e from i t before again taken s m inner =
    let q = innermost_within arm block r from s m inner in
    let o : Performed q.0 (occurrences e 0) =
    ⊎_elim
    (λ k. (record { statement = q.0.statement; path = [] }, run_plain e from 0 q.0 q.1 k.1, refl))
    (λ k.
    let range = run_ranged r from q.0 q.1 arm (innermost_member arm _ k) in
    ⊎_elim (λ same. absurd (omega arith)) (λ h. again h q.0 q.1 k) taken)
    q.3 in
    (inside i t o.0, Memᴰ.map (inside i t) o.1, o.2 ∙ q.2)

-- the innermost block of a site in one arm is not taken in the other, for the arms stand on other lines
elsewhere : (arm own other : Block) (r q : Run) (from start : ℕ) → (own.part ≡ other.part → ⊥) → own.place < from → own.place < start
    → own.place ≡ other.place → (start + run_lines q ≤ from) ⊎ (from + run_lines r ≤ start)
    → (e : Execution r) → (same_block arm own ≡ true) ⊎ (takes e from arm ≡ true)
    → (s : Site) → Memᴰ s (map (within other) (sites q start)) → Innermost arm s.blocks → ⊥
elsewhere arm own other r q from start differ before first same apart e taken s m inner =
    ⊎_elim
    (λ k.
    let place = ap (λ (b : Block). b.place) k in
    let part = ap (λ (b : Block). b.part) k in
    ⊎_elim
    (λ h. differ (sym (same_parts arm own h).1 ∙ sym part))
    (λ h. let range = takes_ranged e from arm h in omega arith)
    taken)
    (λ range.
    ⊎_elim
    (λ h. let t = (same_parts arm own h).0 in omega arith)
    (λ h. let t = takes_ranged e from arm h in ⊎_elim (λ z. omega arith) (λ z. omega arith) apart)
    taken)
    (innermost_ranged arm other q start s m inner)

mutual
  unfolding takes sites occurrences run_lines

  -- an execution that takes the arm performs each statement whose innermost block is the arm
  pub arm_in : {r : Run} (e : Execution r) (at i : ℕ) (arm : Block) → takes e at arm ≡ true
      → (s : Site) → Memᴰ s (sites r at) → (outer : List Block) × (s.blocks ≡ outer ++ (arm ∷ []))
      → (o : Occurrence) × Memᴰ o (occurrences e i) × (o.statement ≡ s.statement)
  arm_in end at i arm h s m inner = absurd (false≢true h)
  arm_in (step {x} {r} y e) at i arm h s m inner =
      let taken = or_true (item_takes y at arm) (takes e (at + item_lines x) arm) h in
      let here = innermost_member arm s.blocks inner in
      ⊎_elim
      (λ n.
      let range = item_ranged x at s n arm here in
      ⊎_elim
      (λ k. let t = item_in y at i arm k s n inner in (t.0, Memᴰ.append_left (occurrences e (suc i)) t.1, t.2))
      (λ k. let t = takes_ranged e (at + item_lines x) arm k in absurd (omega arith))
      taken)
      (λ n.
      let range = run_ranged r (at + item_lines x) s n arm here in
      ⊎_elim
      (λ k. let t = item_takes_ranged y at arm k in absurd (omega arith))
      (λ k.
      let t = arm_in e (at + item_lines x) (suc i) arm k s n inner in (t.0, Memᴰ.append_right (item_occurrences y i) t.1, t.2))
      taken)
      (Memᴰ.append_cases (item_sites x at) m)

  item_in : {x : Item} (e : ItemExecution x) (at i : ℕ) (arm : Block) → item_takes e at arm ≡ true
      → (s : Site) → Memᴰ s (item_sites x at) → Innermost arm s.blocks → Performed s (item_occurrences e i)
  item_in perform at i arm h s m inner = absurd (false≢true h)
  item_in (turns ts) at i arm h s m inner = turns_in ts at i 0 arm h s m inner
  item_in (arm_one {a} {b} e) at i arm h s m inner =
      let one : Block = record { place = at; part = first_arm } in
      let two : Block = record { place = at; part = second_arm } in
      let taken = or_true (same_block arm one) (takes e (at + 1) arm) h in
      ⊎_elim
      (λ n.
      performed_within arm one e (at + 1) i 0 (omega arith) (λ h p m inner. arm_in e (at + 1) 0 arm h p m inner)
      (⊎_elim (λ k. inl (same_parts arm one k).0) (λ k. inr k) taken) s n inner)
      (λ n.
      absurd (elsewhere arm one two a b (at + 1) (at + run_lines a + 2) (λ z. omega arith) (omega arith) (omega arith) refl (inr (omega arith))
      e taken s n inner))
      (Memᴰ.append_cases (map (within one) (sites a (at + 1))) m)
  item_in (arm_two {a} {b} e) at i arm h s m inner =
      let one : Block = record { place = at; part = first_arm } in
      let two : Block = record { place = at; part = second_arm } in
      let from = at + run_lines a + 2 in
      let taken = or_true (same_block arm two) (takes e from arm) h in
      ⊎_elim
      (λ n.
      absurd (elsewhere arm two one b a from (at + 1) (λ z. omega arith) (omega arith) (omega arith) refl (inl (omega arith)) e taken s n inner))
      (λ n.
      performed_within arm two e from i 1 (omega arith) (λ h p m inner. arm_in e from 0 arm h p m inner)
      (⊎_elim (λ k. inl (same_parts arm two k).0) (λ k. inr k) taken) s n inner)
      (Memᴰ.append_cases (map (within one) (sites a (at + 1))) m)

  turns_in : {r : Run} (ts : Turns r) (at i t : ℕ) (arm : Block) → turns_take ts (at + 1) arm ≡ true
      → (s : Site) → Memᴰ s (item_sites (loop r) at) → Innermost arm s.blocks → Performed s (turn_occurrences ts i t)
  turns_in stop at i t arm h s m inner = absurd (false≢true h)
  turns_in (turn {r} e ts) at i t arm h s m inner =
      ⊎_elim
      (λ k.
      let o = performed_within arm _ e (at + 1) i t (omega arith) (λ h p m inner. arm_in e (at + 1) 0 arm h p m inner) (inr k) s m inner in
      (o.0, Memᴰ.append_left (turn_occurrences ts i (suc t)) o.1, o.2))
      (λ k. let o = turns_in ts at i (suc t) arm k s m inner in (o.0, Memᴰ.append_right (map (inside i t) (occurrences e 0)) o.1, o.2))
      (or_true (takes e (at + 1) arm) (turns_take ts (at + 1) arm) h)
