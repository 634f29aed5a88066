-- The laws of Undisturbed for lines and executions of programs: what holds of every place holds of every statement line, and what holds of two
-- places of one node holds of any two statements that one execution performs. They stand here, so that a changed law is refused by name.
use Rattle.std.specs.Prelude.{true, false, ◌⊎◌, ◌≡◌, ℕ, ◌<◌}
use mathlib.Core.List.{Memᴰ}
use Rattle.std.proofs.Math.Option.{some}
use Rattle.std.proofs.Common.{ap}
use Rattle.std.proofs.Math.ListN.{get_elem?}
use Rattle.spec_text.specs.declared.Line.{Line}
use Rattle.spec_text.specs.declared.LineKind.TheVariants.{St}
use Rattle.spec_text.specs.declared.StatementKind.{StatementKind}
use Rattle.spec_text.specs.declared.StatementKind.TheVariants.{Ks, Pu, Pd, Kl}
use Rattle.spec_text.specs.declared.Workload.{Workload}
use Rattle.spec_text.specs.Value.{Given, lines_of}
use Rattle.spec_graph.specs.Program.{Statement, Program, statement_of, programs_of}
use Rattle.spec_graph.specs.Unfolding.{Execution, Occurrence, occurrences, nodes_of}
use Rattle.spec_graph.specs.Edge.{has_tests, deletes, same_relation}
use Rattle.spec_report.specs.State.{Robust}
use Rattle.law_database.specs.Disturbs.{disturbs, ReadsAgain}
use Rattle.law_database.specs.Undisturbed.{predicate_undisturbed_by_its_own, no_predicate_delete, predicate_update_undisturbed}
use Rattle.law_database.proofs.ConditionLocks.{condition_lock_undisturbed}
use Rattle.law_database.specs.Performed.{InOneNode, in_one_node}
use Rattle.law_database.specs.LinesPlaced.{given_placed}

module _ {w : Workload} (given : Given w) (robust : Robust (lines_of w)) where
  -- Law a of lines: no line is a pd.
  -- It holds since the line would stand at a place.
  pub no_predicate_delete_line : (l : Line) → Memᴰ l (lines_of w) → l.kind ≡ St Pd → ⊥
  unfolding statement_of
  no_predicate_delete_line l m e =
      let s = given_placed given l m Pd e in
      no_predicate_delete (lines_of w) robust s.number s.place s.found (ap (λ (q : Statement). q.kind) s.same)

  -- Law b of lines: where a line is a pu, no line over its relation is an is, a kd or a pd, nor does one write what the pu tests, itself included.
  -- It holds since both lines stand at places.
  pub predicate_update_undisturbed_line : (l : Line) → Memᴰ l (lines_of w) → l.kind ≡ St Pu
      → (x : Line) → Memᴰ x (lines_of w) → (k : StatementKind) → x.kind ≡ St k
      → same_relation (statement_of Pu l) (statement_of k x) ≡ true → disturbs (statement_of k x) (statement_of Pu l) ≡ false
  unfolding statement_of
  predicate_update_undisturbed_line l m e x n k d over =
      let s = given_placed given l m Pu e in
      let t = given_placed given x n k d in
      rw (s.same, t.same) at
      (predicate_update_undisturbed given robust s.number s.place t.number t.place s.found t.found
      (ap (λ (q : Statement). q.kind) s.same) (rw (s.same, t.same) over))

  -- what one execution of a program performs
  module _ (p : Program) (m : Memᴰ p (programs_of (lines_of w))) (e : Execution p.body) (x y : ℕ) {o o' : Occurrence}
      (at_x : get_elem? (occurrences e 0) x ≡ some o) (at_y : get_elem? (occurrences e 0) y ≡ some o') where
    placed : InOneNode (nodes_of (lines_of w)) x y o.statement o'.statement
    placed = in_one_node (lines_of w) p m e x y at_x at_y

    -- Law d of executions: no statement that an execution performs disturbs a predicate that it performs.
    -- It holds since the two stand in one node.
    pub predicate_undisturbed_by_its_execution : has_tests o.statement.kind ≡ true → same_relation o.statement o'.statement ≡ true
        → disturbs o'.statement o.statement ≡ false
    predicate_undisturbed_by_its_execution tests over =
        let s = placed in
        rw (s.is_first, s.is_second) at
        (predicate_undisturbed_by_its_own (lines_of w) robust s.number s.i s.j s.at_first s.at_second
        (rw s.is_first tests) (rw (s.is_first, s.is_second) over))

    -- Law c of executions: where an execution performs a statement with a predicate and later a kl or a ks that reads all that it tests, whatever
    -- line over the relation disturbs the predicate deletes.
    -- It holds since the two stand in one node in this order, and the line at a place.
    pub condition_lock_undisturbed_line : x < y → ReadsAgain o.statement o'.statement
        → (o'.statement.kind ≡ Kl) ⊎ (o'.statement.kind ≡ Ks)
        → (l : Line) → Memᴰ l (lines_of w) → (k : StatementKind) → l.kind ≡ St k
        → same_relation o.statement (statement_of k l) ≡ true → deletes k ≡ false → disturbs (statement_of k l) o.statement ≡ false
    unfolding statement_of
    condition_lock_undisturbed_line later again kind l n k d over stays =
        let s = placed in
        let t = given_placed given l n k d in
        rw (s.is_first, t.same) at
        (condition_lock_undisturbed given robust s.number s.i s.j t.number t.place s.at_first s.at_second (s.order later)
        (rw (s.is_first, s.is_second) again) (rw s.is_second kind) t.found (rw (s.is_first, t.same) over) (rw t.same stays))
