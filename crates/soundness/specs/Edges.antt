-- Each dependency has its edge: between nodes that stand for the two transactions a forward edge, and where the second commits first a
-- back edge; and what Read Committed says of the commits.
use Rattle.std.specs.Prelude.{Bool, true, false, not, ◌&&◌, ◌||◌, ◌≢◌, ◌≡◌, refl, ℕ, ◌≤◌, ◌<◌}
use mathlib.Core.List.{List, Memᴰ}
use Rattle.std.proofs.Math.Option.{some}
use Rattle.std.proofs.Math.Path.{sym, ap}
use Rattle.std.proofs.Common.{subst, ◌∙◌, arith, eq-eqb}
use Rattle.std.proofs.Math.ListN.{get_elem?}
use Rattle.law_base.specs.BoolLaws.{and_true, and_of, or_left, or_right, true_false, true_of, not_of_false, false_of}
use Rattle.law_base.specs.ListLaws.{any_true, get_elem?_member}
use Rattle.spec_text.specs.declared.Line.{Line}
use Rattle.spec_text.specs.declared.StatementKind.{StatementKind}
use Rattle.spec_graph.specs.Program.{Statement}
use Rattle.spec_graph.specs.Unfolding.{Occurrence, occurrences}
use Rattle.spec_graph.specs.Edge.{Letter, at, holds, same_relation, guarded_near, guarded_far, shielded}
use Rattle.spec_graph.specs.Edge.{forward, back, stands, has_tests, selects, loosens}
use Rattle.spec_graph.specs.Edge.Letter.{A, B, C, D, E}
use Rattle.spec_schedule.specs.Event.{Action, Event, is_read, is_write, is_predicate_read, is_lock}
use Rattle.spec_schedule.specs.Event.Action.{read, lock, write, insert, delete, predicate_read, commit}
use Rattle.spec_schedule.specs.Schedule.{Transaction, Performed, Schedule}
use Rattle.soundness.specs.committing.EveryAction.{actions_apart}
use Rattle.soundness.specs.committing.Rules.{CommitsAt, SameTuple}
use Rattle.soundness.specs.committing.Letters.{Dependency}
use Rattle.soundness.specs.committing.Letters.Dependency.{write_write_lem, write_read_lem, write_predicate_lem, read_write_lem, predicate_write_lem}
use Rattle.soundness.specs.committing.Commits.{write_left, update_left, lock_left, back_not_write, read_left, shield}
use Rattle.soundness.specs.committing.WriteKinds.{write_write_kinds, write_read_kinds, read_write_kinds}
use Rattle.soundness.specs.transactions.Operations.{Does, updates, reads_plainly, statement_done}
use Rattle.soundness.specs.transactions.Events.{schedule_lawful}
use Rattle.soundness.specs.transactions.Statements.{Stated, operation_of, update_next, place_order}
use Rattle.law_kinds.specs.EveryKind.{kind_implies, kinds_apart}
use Rattle.soundness.specs.EdgeLetters.{Sets, letter_A, letter_B, letter_C, letter_D, letter_E, does_plainly, does_test_what}
use Rattle.soundness.specs.Visits.{Visit, At, Spot, Guard, guard_near, guard_far, performed_occurrence}

-- what reads without lock
plain_read : (a : Action) → is_read a ≡ true → is_lock a ≡ false → a ≡ read
plain_read read h n = refl
plain_read lock h n = absurd (true_false h n)
plain_read write h n = absurd (true_false h refl)
plain_read insert h n = absurd (true_false h refl)
plain_read delete h n = absurd (true_false h refl)
plain_read predicate_read h n = absurd (true_false h refl)
plain_read commit h n = absurd (true_false h refl)

module _ {lines : List Line} (s : Schedule lines) (set : ℕ → ℕ)
    (sets : (x : Transaction) → Memᴰ x s.transactions → (j : ℕ) (o : Occurrence) → get_elem? (occurrences x.execution 0) j ≡ some o
    → Sets set o.statement) where
  -- the sets of the statement of an event
  event_sets : {i : ℕ} (v : Visit s i) (e : Event) (t : Stated s v.transaction e) → Sets set (statement_done t.performs)
  event_sets {i} v e t =
      sets v.transaction (get_elem?_member s.transactions i v.found) e.place t.performs.occurrence
      (performed_occurrence v.transaction e.place t.at).0

  -- a dependency from event b, left at a place of node v, to event a, entered at a place of node w
  module _ {i j : ℕ} (v : Visit s i) (w : Visit s j) {m n l r : ℕ} {b a : Event}
      (at_b : get_elem? s.events m ≡ some b) (at_a : get_elem? s.events n ≡ some a) (of_b : b.transaction ≡ i) (of_a : a.transaction ≡ j)
      (here_b : At s v l b) (here_a : At s w r a) (p : Spot s v l b) (q : Spot s w r a) (dependency : Dependency s.events m b n a) where
    commit_b : CommitsAt s.events b.transaction v.commit
    commit_b = subst (λ (i : ℕ). CommitsAt s.events i v.commit) (sym of_b) v.commits

    commit_a : CommitsAt s.events a.transaction w.commit
    commit_a = subst (λ (j : ℕ). CommitsAt s.events j w.commit) (sym of_a) w.commits

    abbrev P : Performed
    P = p.stated.performs

    abbrev Q : Performed
    Q = q.stated.performs

    does_b : Does P (operation_of b)
    does_b = p.stated.belongs.does

    does_a : Does Q (operation_of a)
    does_a = q.stated.belongs.does

    over : b.relation ≡ a.relation → (statement_done P).relation ≡ (statement_done Q).relation
    over e = sym p.stated.belongs.relation ∙ e ∙ q.stated.belongs.relation

    -- both statements are over one relation, and a letter holds of them
    Related : Type 0
    Related = ((statement_done P).relation ≡ (statement_done Q).relation) × (letter : Letter) × (holds letter (statement_done P) (statement_done Q) ≡ true)

    related : Dependency s.events m b n a → Related
    unfolding Related
    related (write_write_lem apart wb wa t h lt) =
        let k = write_write_kinds (schedule_lawful s) at_b at_a dependency wb wa in
        let o = over t.relation in
        (o, A, letter_A set does_b does_a o (event_sets v b p.stated) (event_sets w a q.stated) wb wa k.0 k.1 h)
    related (write_read_lem apart wb ra t h see) =
        let o = over t.relation in (
          o,
          B,
          letter_B set does_b does_a o (event_sets v b p.stated) (event_sets w a q.stated) wb ra
              (write_read_kinds (schedule_lawful s) at_b at_a dependency wb ra) h,
        )
    related (write_predicate_lem apart wb pa t see) = (over t.relation, C, letter_C does_b does_a wb pa t.changes)
    related (read_write_lem apart rb wa t h see) =
        let o = over t.relation in (
          o,
          D,
          letter_D set does_b does_a o (event_sets v b p.stated) (event_sets w a q.stated) rb wa
              (read_write_kinds (schedule_lawful s) at_b at_a dependency rb wa) h,
        )
    related (predicate_write_lem apart pb wa t see) = (over (sym t.relation), E, letter_E does_b does_a pb wa t.changes)

    any_letter : (letter : Letter) (x y : Statement) → holds letter x y ≡ true
        → holds A x y || holds B x y || holds C x y || holds D x y || holds E x y ≡ true
    any_letter A x y h = or_left (holds E x y) (or_left (holds D x y) (or_left (holds C x y) (or_left (holds B x y) h)))
    any_letter B x y h = or_left (holds E x y) (or_left (holds D x y) (or_left (holds C x y) (or_right (holds A x y) h)))
    any_letter C x y h = or_left (holds E x y) (or_left (holds D x y) (or_right (holds A x y || holds B x y) h))
    any_letter D x y h = or_left (holds E x y) (or_right (holds A x y || holds B x y || holds C x y) h)
    any_letter E x y h = or_right (holds A x y || holds B x y || holds C x y || holds D x y) h

    -- every dependency has a forward edge
    pub forward_edge_lem : forward p.spot q.spot ≡ true
    unfolding forward same_relation Related
    forward_edge_lem =
        let t = related dependency in
        let e : ((at p.spot).relation ≡ (at q.spot).relation) =
        ap (λ (s : Statement). s.relation) p.statement ∙ t.0 ∙ ap (λ (s : Statement). s.relation) (sym q.statement) in
        and_of (eq-eqb (at p.spot).relation (at q.spot).relation e)
        (any_letter t.1 (at p.spot) (at q.spot)
        (subst (λ (x : Statement). holds t.1 x (at q.spot) ≡ true) (sym p.statement)
        (subst (λ (y : Statement). holds t.1 (statement_done P) y ≡ true) (sym q.statement) t.2)))

    -- ---- the update's write stands right after its read, so such a dependency is never back
    update_commits : is_read b.action ≡ true → is_lock b.action ≡ false → updates (statement_done P).kind ≡ true → v.commit < n
    update_commits rb nl u =
        let f = p.stated.follows u (plain_read b.action rb nl) in
        let x = update_next s i v.found m b at_b of_b f.0 f.1 f.2.place in
        update_left (schedule_lawful s) at_b at_a dependency rb x (rw f.2.writes) (sym of_b)
        (record { relation = sym f.2.relation; tuple = sym f.2.tuple }) commit_b commit_a

    -- what leaves a read of no select waits for the commit: it locks, or it is of an update
    read_waits : is_read b.action ≡ true → selects (statement_done P).kind ≡ false → v.commit < n
    read_waits rb ns = go (is_lock b.action) refl
      where
        go : (l : Bool) → is_lock b.action ≡ l → v.commit < n
        go true l = lock_left (schedule_lawful s) at_b at_a dependency l commit_b commit_a
        go false l =
            update_commits rb l
            (kind_implies (λ k. reads_plainly k && not (selects k)) updates refl (statement_done P).kind
            (and_of (does_plainly does_b rb l) (not_of_false ns)))

    -- what leaves no loose place waits for the commit
    pub firm : loosens (statement_done P).kind ≡ false → v.commit < n
    firm h = go dependency
      where
        k : StatementKind
        k = (statement_done P).kind

        go : Dependency s.events m b n a → v.commit < n
        go (write_write_lem apart wb wa t x lt) = write_left (schedule_lawful s) at_b at_a dependency wb commit_b
        go (write_read_lem apart wb ra t x see) = write_left (schedule_lawful s) at_b at_a dependency wb commit_b
        go (write_predicate_lem apart wb pa t see) = write_left (schedule_lawful s) at_b at_a dependency wb commit_b
        go (read_write_lem apart rb wa t x see) =
            read_waits rb (kinds_apart (λ k. not (loosens k)) selects refl k (not_of_false h))
        go (predicate_write_lem apart pb wa t see) =
            absurd (true_false (kind_implies has_tests loosens refl k (does_test_what does_b pb).1) h)

    -- a back dependency leaves before the other commits
    pub early : w.commit < v.commit → m < w.commit
    early h = read_left (schedule_lawful s) at_b at_a dependency commit_b commit_a h

    -- ---- the shield: two parents that write or lock one tuple, both before the second commit, the near one since it stands before b, cannot be
    shield_holds : w.commit < v.commit → SameTuple b a → is_predicate_read b.action ≡ false → is_predicate_read a.action ≡ false
        → b.transaction ≢ a.transaction → shielded p.spot q.spot ≡ true → ⊥
    unfolding shielded
    shield_holds h t nb na apart sh =
        let f = any_true (λ l. guarded_near l.key p.spot && guarded_far l.key q.spot) p.spot.node.links sh in
        let both = and_true (guarded_near f.0.key p.spot) (guarded_far f.0.key q.spot) f.2 in
        let near = guard_near s v l f.0.key b p here_b nb both.0 in
        meet f.0.key near.0 near.1 (guard_far s w r f.0.key a q here_a na both.1)
      where
        meet : (key : ℕ) (g : Guard s v key b) → g.event.place < b.place → Guard s w key a → ⊥
        meet key g earlier k =
            let same : SameTuple g.event k.event =
            record {
              relation =
                  sym g.relation
                  ∙ ap (λ (r : ℕ). (s.key key (record { relation = r; number = b.tuple })).relation) t.relation
                  ∙ ap (λ (x : ℕ). (s.key key (record { relation = a.relation; number = x })).relation) t.tuple
                  ∙ k.relation;
              tuple =
                  sym g.tuple
                  ∙ ap (λ (r : ℕ). (s.key key (record { relation = r; number = b.tuple })).number) t.relation
                  ∙ ap (λ (x : ℕ). (s.key key (record { relation = a.relation; number = x })).number) t.tuple
                  ∙ k.tuple;
            } in
            shield (schedule_lawful s) g.position k.position at_b at_a dependency apart g.stands k.stands g.claims k.claims same
            (g.own ∙ sym of_b) (k.own ∙ sym of_a)
            (place_order s i v.found g.position m g.event b g.stands at_b g.own of_b earlier) commit_b commit_a h

    -- a dependency whose second transaction commits first has a back edge
    pub back_edge_lem : w.commit < v.commit → back p.spot q.spot ≡ true
    unfolding back same_relation Related
    back_edge_lem h = and_of (eq-eqb (at p.spot).relation (at q.spot).relation relation) (go dependency)
      where
        k : StatementKind
        k = (statement_done P).kind

        relation : (at p.spot).relation ≡ (at q.spot).relation
        relation =
            ap (λ (s : Statement). s.relation) p.statement ∙ (related dependency).0 ∙ ap (λ (s : Statement). s.relation) (sym q.statement)

        spots : (letter : Letter) → holds letter (statement_done P) (statement_done Q) ≡ true → holds letter (at p.spot) (at q.spot) ≡ true
        spots letter e =
            subst (λ (x : Statement). holds letter x (at q.spot) ≡ true) (sym p.statement)
            (subst (λ (y : Statement). holds letter (statement_done P) y ≡ true) (sym q.statement) e)

        late : n ≤ w.commit
        late = commit_a.last n a at_a refl

        selecting : is_read b.action ≡ true → selects k ≡ true
        selecting rb = true_of (selects k) (λ ns. let c = read_waits rb ns in omega (arith, late))

        go : Dependency s.events m b n a
            → holds E (at p.spot) (at q.spot)
            || selects (at p.spot).kind && holds D (at p.spot) (at q.spot) && not (shielded p.spot q.spot) ≡ true
        go (write_write_lem apart wb wa t x lt) = absurd (back_not_write (schedule_lawful s) at_b at_a dependency commit_b commit_a h wb)
        go (write_read_lem apart wb ra t x see) = absurd (back_not_write (schedule_lawful s) at_b at_a dependency commit_b commit_a h wb)
        go (write_predicate_lem apart wb pa t see) = absurd (back_not_write (schedule_lawful s) at_b at_a dependency commit_b commit_a h wb)
        go (read_write_lem apart rb wa t x see) =
            or_right (holds E (at p.spot) (at q.spot))
            (and_of
            (and_of (subst (λ (x : Statement). selects x.kind ≡ true) (sym p.statement) (selecting rb))
            (spots D
            (letter_D set does_b does_a (over t.relation) (event_sets v b p.stated) (event_sets w a q.stated) rb wa
            (read_write_kinds (schedule_lawful s) at_b at_a dependency rb wa) x)))
            (not_of_false
            (false_of (shielded p.spot q.spot) (shield_holds h t (actions_apart is_read is_predicate_read refl b.action rb)
            (actions_apart is_write is_predicate_read refl a.action wa) apart))))
        go (predicate_write_lem apart pb wa t see) =
            or_left (selects (at p.spot).kind && holds D (at p.spot) (at q.spot) && not (shielded p.spot q.spot))
            (spots E (letter_E does_b does_a pb wa t.changes))
