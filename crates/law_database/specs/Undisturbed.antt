-- What a robust workload keeps off its statements with a predicate (docs/MODEL.md, "A real database"): four laws of the places of its nodes.
-- Each holds since what it rules out would make a dangerous walk of two or three edges.
use Rattle.std.specs.Prelude.{Bool, true, false, cond, ◌||◌, List, ◌⊎◌, ◌≡◌, refl, ℕ, ◌<◌}
use Rattle.std.proofs.lemmas.Bool.{false≢true}
use Rattle.std.proofs.Common.{inl, inr, ◌∙◌, lt-ltb}
use Rattle.std.proofs.Math.Option.{some}
use Rattle.std.proofs.Math.Path.{sym, ap, subst}
use Rattle.spec_base.specs.Basic.{meets, within}
use Rattle.law_base.specs.BoolLaws.{true_false, false_of, and_of, or_true, or_left, or_right, not_of_false}
use Rattle.law_base.specs.SetLaws.{nonzero_has, has_meets, meets_has, meets_self, within_has}
use Rattle.spec_text.specs.declared.Line.{Line}
use Rattle.spec_text.specs.declared.StatementKind.{StatementKind}
use Rattle.spec_text.specs.declared.StatementKind.TheVariants.{Pu, Pd}
use Rattle.spec_text.specs.declared.Workload.{Workload}
use Rattle.spec_text.specs.Reading.{relation_set}
use Rattle.spec_text.specs.Value.{Given, lines_of}
use Rattle.spec_graph.specs.Graph.{Flow}
use Rattle.spec_graph.specs.Program.{Statement}
use Rattle.spec_graph.specs.Unfolding.{Node, nodes_of}
use Rattle.spec_graph.specs.Edge.{Place, at, W, R, T, has_writes, has_tests, inserts, deletes, holds, same_relation, forward, place_at}
use Rattle.spec_graph.specs.Edge.Letter.{B}
use Rattle.spec_report.specs.State.{summary_graph, Robust}
use Rattle.law_kinds.specs.EveryKind.{kind_implies}
use Rattle.law_kinds.specs.KindSets.{sets_of, Fits, Allowed, reads_within, writes_whole}
use Rattle.law_database.specs.Disturbs.{disturbs, ReadsAgain}
use Rattle.law_database.specs.PlaceEdges.{relation_same, same_relation_lem, forward_by_A, forward_by_B, forward_disturbing, back_disturbed}
use Rattle.law_database.specs.PlaceEdges.{edge_between, own_back, later_return, loose_return, place_lawful}

module _ (lines : List Line) (robust : Robust lines) where
  -- Law d, docs/MODEL.md "A real database": no statement of a node disturbs a predicate of the same node.
  -- It holds since the predicate's back edge E and its forward twin, both into the node they leave, would be a dangerous walk.
  pub predicate_undisturbed_by_its_own : (m i j : ℕ) {p t : Place} → place_at (nodes_of lines) m i ≡ some p → place_at (nodes_of lines) m j ≡ some t
      → has_tests (at p).kind ≡ true → same_relation (at p) (at t) ≡ true → disturbs (at t) (at p) ≡ false
  unfolding summary_graph
  predicate_undisturbed_by_its_own m i j {p} {t} at_p at_t tests over =
      false_of (disturbs (at t) (at p))
      (λ h. robust (own_back (nodes_of lines) m i j (edge_between (nodes_of lines) Flow.back m i m j at_p at_t (back_disturbed p t over tests h))))

  -- Law a, docs/MODEL.md "A real database": no place has a pd.
  -- It holds since a pd would disturb its own predicate.
  pub no_predicate_delete : (m i : ℕ) {s : Place} → place_at (nodes_of lines) m i ≡ some s → (at s).kind ≡ Pd → ⊥
  no_predicate_delete m i {s} found e =
      true_false (or_left (meets (W (at s)) (T (at s))) (or_right (inserts (at s).kind) (ap deletes e)))
      (predicate_undisturbed_by_its_own m i i found found (ap has_tests e) (same_relation_lem (at s) (at s) refl))

-- a statement whose writes meet something has writes
writes_there : (q : Statement) (x : ℕ) → meets (W q) x ≡ true → has_writes q.kind ≡ true
unfolding W
writes_there q x h = go (has_writes q.kind) h
  where
    go : (b : Bool) → meets (cond b q.writes 0) x ≡ true → b ≡ true
    go true m = refl
    go false m = absurd (false≢true m)

-- B: what disturbs a predicate and does not delete writes something that a later statement reads, if that reads something and all that is tested:
-- an insert writes the whole relation, any other an attribute that is tested
disturbing_reads : {full : ℕ} (p r t : Statement) → Allowed full r → Allowed full t → within (T p) (R r) ≡ true → (R r ≡ 0 → ⊥)
    → deletes t.kind ≡ false → disturbs t p ≡ true → holds B t r ≡ true
unfolding holds
disturbing_reads {full} p r t of_r of_t tested filled stays h = go (or_true (inserts t.kind || deletes t.kind) (meets (W t) (T p)) h)
  where
    letter : has_writes t.kind ≡ true → meets (W t) (R r) ≡ true → holds B t r ≡ true
    letter writes m = and_of (and_of writes (not_of_false stays)) m

    whole : inserts t.kind || deletes t.kind ≡ true → meets (W t) (R r) ≡ true
    whole e =
        let k = nonzero_has (R r) filled in
        let in_full = within_has (R r) full k.0 (reads_within of_r) k.1 in
        rw (writes_whole of_t e) (has_meets full (R r) k.0 in_full k.1)

    inserted : (inserts t.kind ≡ true) ⊎ (deletes t.kind ≡ true) → holds B t r ≡ true
    inserted (inl e) = letter (kind_implies inserts has_writes refl t.kind e) (whole (or_left (deletes t.kind) e))
    inserted (inr e) = absurd (true_false e stays)

    go : (inserts t.kind || deletes t.kind ≡ true) ⊎ (meets (W t) (T p) ≡ true) → holds B t r ≡ true
    go (inl e) = inserted (or_true (inserts t.kind) (deletes t.kind) e)
    go (inr m) =
        let k = meets_has (W t) (T p) m in
        letter (writes_there t (T p) m) (has_meets (W t) (R r) k.0 k.1 (within_has (T p) (R r) k.0 tested k.2))

module _ {w : Workload} (given : Given w) (robust : Robust (lines_of w)) where
  -- the nodes of its summary graph
  abbrev nodes : List Node
  nodes = nodes_of (lines_of w)

  -- T9: a pu writes something, so it has a forward edge to itself
  updates_itself : (m i : ℕ) {s : Place} → place_at (nodes_of (lines_of w)) m i ≡ some s → (at s).kind ≡ Pu → forward s s ≡ true
  unfolding holds
  updates_itself m i {s} found e =
      let fits = (place_lawful given m i found).sets.writes in
      let filled = (subst (λ (k : StatementKind). Fits (sets_of k).writes (relation_set (lines_of w) (at s).relation) (W (at s))) e fits).1 in
      let writes = ap has_writes e in
      forward_by_A s s (same_relation_lem (at s) (at s) refl)
      (and_of (and_of (and_of (and_of writes writes) (not_of_false (ap deletes e))) (not_of_false (ap inserts e))) (meets_self (W (at s)) filled))

  -- Law b, docs/MODEL.md "A real database": where a place has a pu, no place over its relation disturbs its predicate, itself included.
  -- It holds since the pu's forward edge A to itself, then E back to the other place and C forward from there would be a dangerous walk.
  pub predicate_update_undisturbed : (m i n j : ℕ) {s t : Place}
      → place_at (nodes_of (lines_of w)) m i ≡ some s → place_at (nodes_of (lines_of w)) n j ≡ some t
      → (at s).kind ≡ Pu → same_relation (at s) (at t) ≡ true → disturbs (at t) (at s) ≡ false
  unfolding summary_graph
  predicate_update_undisturbed m i n j {s} {t} at_s at_t e over =
      let tests = ap has_tests e in
      let other = same_relation_lem (at t) (at s) (sym (relation_same (at s) (at t) over)) in
      false_of (disturbs (at t) (at s))
      (λ h. robust (loose_return nodes m i n j
      (edge_between nodes Flow.back m i n j at_s at_t (back_disturbed s t over tests h))
      (edge_between nodes Flow.forward n j m i at_t at_s (forward_disturbing t s other tests h))
      (edge_between nodes Flow.forward m i m i at_s at_s (updates_itself m i at_s e))))

  -- Law c for any later statement that reads something: whatever disturbs the predicate deletes.
  -- It holds since B forward from the other place to the later one and E back from the predicate would be a dangerous walk.
  pub condition_read_undisturbed : (m i k n j : ℕ) {p r t : Place}
      → place_at (nodes_of (lines_of w)) m i ≡ some p → place_at (nodes_of (lines_of w)) m k ≡ some r → i < k
      → ReadsAgain (at p) (at r) → (R (at r) ≡ 0 → ⊥)
      → place_at (nodes_of (lines_of w)) n j ≡ some t → same_relation (at p) (at t) ≡ true
      → deletes (at t).kind ≡ false → disturbs (at t) (at p) ≡ false
  unfolding summary_graph
  condition_read_undisturbed m i k n j {p} {r} {t} at_p at_r later again filled at_t over stays =
      let same = sym (relation_same (at p) (at t) over) ∙ relation_same (at p) (at r) again.over in
      let of_t : Allowed (relation_set (lines_of w) (at r).relation) (at t) =
      subst (λ (n : ℕ). Allowed (relation_set (lines_of w) n) (at t)) same (place_lawful given n j at_t).sets in
      let of_r = (place_lawful given m k at_r).sets in
      false_of (disturbs (at t) (at p))
      (λ h. robust (later_return nodes m i k n j
      (edge_between nodes Flow.back m i n j at_p at_t (back_disturbed p t over again.tests h))
      (edge_between nodes Flow.forward n j m k at_t at_r
      (forward_by_B t r (same_relation_lem (at t) (at r) same) (disturbing_reads (at p) (at r) (at t) of_r of_t again.reads filled stays h)))
      (lt-ltb i k later)))
