-- From a dependency of events to a letter of their statements.
use Rattle.std.specs.Prelude.{Bool, true, false, ◌||◌, ◌≢◌, ◌≡◌, refl, ℕ}
use Rattle.std.proofs.Common.{sym, ap, subst, ◌∙◌}
use Rattle.spec_base.specs.Basic.{has, meets, within}
use Rattle.law_base.specs.BoolLaws.{true_false, and_of, or_left, or_right, not_of_false}
use Rattle.law_base.specs.SetLaws.{meets_has, has_meets, within_has, meets_self}
use Rattle.spec_text.specs.declared.StatementKind.{StatementKind}
use Rattle.spec_graph.specs.Program.{Statement}
use Rattle.spec_graph.specs.Edge.{W, R, T, holds, has_reads, has_writes, has_tests, inserts, deletes}
use Rattle.spec_graph.specs.Edge.Letter.{A, B, C, D, E}
use Rattle.spec_schedule.specs.Event.{Action, is_read, is_write, is_predicate_read, is_insert, is_delete, is_lock}
use Rattle.spec_schedule.specs.Schedule.{Performed, Operation}
use Rattle.law_kinds.specs.EveryKind.{kind_implies, kinds_apart}
use Rattle.soundness.specs.transactions.Operations.{Does, does_test, does_read, does_lock, does_write, does_insert, does_delete}
use Rattle.soundness.specs.transactions.Operations.{updates, locks, reads_plainly, statement_done}

-- ---- T9: what is known of a statement's sets, given the set of each relation
pub record Sets (set : ℕ → ℕ) (s : Statement) : Type 0 where
  pub reads : within (R s) (set s.relation) ≡ true
  pub writes : within (W s) (set s.relation) ≡ true
  pub whole : inserts s.kind || deletes s.kind ≡ true → W s ≡ set s.relation
  pub filled : inserts s.kind || deletes s.kind ≡ true → set s.relation ≢ 0

-- what a write event of a statement writes: the statement's set, or everything where it inserts or deletes
pub data Writes (s : Statement) (attributes : ℕ) : Type 0 where
  some_attributes : attributes ≡ W s → Writes s attributes
  all_attributes : inserts s.kind || deletes s.kind ≡ true → Writes s attributes

-- an attribute that the event writes and that is of the relation is in the statement's set
writes_has : {set : ℕ → ℕ} {s : Statement} {attributes : ℕ} → Sets set s → Writes s attributes → (k : ℕ)
    → has attributes k ≡ true → has (set s.relation) k ≡ true → has (W s) k ≡ true
writes_has sets (some_attributes e) k h r = subst (λ (x : ℕ). has x k ≡ true) e h
writes_has sets (all_attributes i) k h r = subst (λ (x : ℕ). has x k ≡ true) (sym (sets.whole i)) r

module _ (set : ℕ → ℕ) (p q : Statement) (over : p.relation ≡ q.relation) (sp : Sets set p) (sq : Sets set q) where
  -- sets that meet as events do as statements: two writes
  pub writes_meet : (x y : ℕ) → Writes p x → Writes q y → meets x y ≡ true → meets (W p) (W q) ≡ true
  writes_meet x y wp wq h = go wp wq (meets_has x y h)
    where
      common : (k : ℕ) → has (W p) k ≡ true → has (W q) k ≡ true → meets (W p) (W q) ≡ true
      common k a b = has_meets (W p) (W q) k a b

      in_p : (k : ℕ) → has (W p) k ≡ true → has (set q.relation) k ≡ true
      in_p k a = subst (λ (r : ℕ). has (set r) k ≡ true) over (within_has (W p) (set p.relation) k sp.writes a)

      in_q : (k : ℕ) → has (W q) k ≡ true → has (set p.relation) k ≡ true
      in_q k a = subst (λ (r : ℕ). has (set r) k ≡ true) (sym over) (within_has (W q) (set q.relation) k sq.writes a)

      go : Writes p x → Writes q y → (k : ℕ) × (has x k ≡ true) × (has y k ≡ true) → meets (W p) (W q) ≡ true
      go (some_attributes e) w (k, a, b) =
          let a' : has (W p) k ≡ true = subst (λ (x : ℕ). has x k ≡ true) e a in
          common k a' (writes_has sq w k b (in_p k a'))
      go (all_attributes i) (some_attributes e) (k, a, b) =
          let b' : has (W q) k ≡ true = subst (λ (x : ℕ). has x k ≡ true) e b in
          let w : Writes p x = all_attributes i in
          common k (writes_has sp w k a (in_q k b')) b'
      go (all_attributes i) (all_attributes j) m =
          let e : W p ≡ W q = sp.whole i ∙ ap set over ∙ sym (sq.whole j) in
          subst (λ (w : ℕ). meets (W p) w ≡ true) e (meets_self (W p) (λ z. sp.filled i (sym (sp.whole i) ∙ z)))

  -- a write and a read
  pub write_meets_read : (x : ℕ) → Writes p x → meets x (R q) ≡ true → meets (W p) (R q) ≡ true
  write_meets_read x w h =
      let m = meets_has x (R q) h in
      has_meets (W p) (R q) m.0
      (writes_has sp w m.0 m.1
      (subst (λ (r : ℕ). has (set r) m.0 ≡ true) (sym over) (within_has (R q) (set q.relation) m.0 sq.reads m.2)))
      m.2

  -- a read and a write
  pub read_meets_write : (y : ℕ) → Writes q y → meets (R p) y ≡ true → meets (R p) (W q) ≡ true
  read_meets_write y w h =
      let m = meets_has (R p) y h in
      has_meets (R p) (W q) m.0 m.1
      (writes_has sq w m.0 m.2
      (subst (λ (r : ℕ). has (set r) m.0 ≡ true) over (within_has (R p) (set p.relation) m.0 sp.reads m.1)))

-- ---- what an operation's action says of its statement's kind

abbrev kind_of : Performed → StatementKind
kind_of p = (statement_done p).kind

-- an action that is not the one tested for
other : {a b : Action} (test : Action → Bool) → a ≡ b → test b ≡ false → test a ≡ true → ⊥
other test e h k = true_false (ap test (sym e) ∙ k) h

module _ {p : Performed} {o : Operation} where
  pub does_write_what : Does p o → is_write o.action ≡ true → Writes (statement_done p) o.attributes × (has_writes (kind_of p) ≡ true)
  does_write_what (does_write a u t m) w = (some_attributes t, kind_implies updates has_writes refl (kind_of p) u)
  does_write_what (does_insert a u t m) w = (all_attributes (or_left (deletes (kind_of p)) u), kind_implies inserts has_writes refl (kind_of p) u)
  does_write_what (does_delete a u t m) w = (all_attributes (or_right (inserts (kind_of p)) u), kind_implies deletes has_writes refl (kind_of p) u)
  does_write_what (does_test a u t) w = absurd (other is_write a refl w)
  does_write_what (does_read a u t m) w = absurd (other is_write a refl w)
  does_write_what (does_lock a u t m) w = absurd (other is_write a refl w)

  pub does_read_what : Does p o → is_read o.action ≡ true → (o.attributes ≡ R (statement_done p)) × (has_reads (kind_of p) ≡ true)
  does_read_what (does_read a u t m) r = (t, kind_implies reads_plainly has_reads refl (kind_of p) u)
  does_read_what (does_lock a u t m) r = (t, kind_implies locks has_reads refl (kind_of p) u)
  does_read_what (does_write a u t m) r = absurd (other is_read a refl r)
  does_read_what (does_insert a u t m) r = absurd (other is_read a refl r)
  does_read_what (does_delete a u t m) r = absurd (other is_read a refl r)
  does_read_what (does_test a u t) r = absurd (other is_read a refl r)

  -- what reads without lock is of a statement that does
  pub does_plainly : Does p o → is_read o.action ≡ true → is_lock o.action ≡ false → reads_plainly (kind_of p) ≡ true
  does_plainly (does_read a u t m) r n = u
  does_plainly (does_lock a u t m) r n = absurd (true_false (ap is_lock a) n)
  does_plainly (does_write a u t m) r n = absurd (other is_read a refl r)
  does_plainly (does_insert a u t m) r n = absurd (other is_read a refl r)
  does_plainly (does_delete a u t m) r n = absurd (other is_read a refl r)
  does_plainly (does_test a u t) r n = absurd (other is_read a refl r)

  pub does_test_what : Does p o → is_predicate_read o.action ≡ true → (o.attributes ≡ T (statement_done p)) × (has_tests (kind_of p) ≡ true)
  does_test_what (does_test a u t) r = (t, u)
  does_test_what (does_read a u t m) r = absurd (other is_predicate_read a refl r)
  does_test_what (does_lock a u t m) r = absurd (other is_predicate_read a refl r)
  does_test_what (does_write a u t m) r = absurd (other is_predicate_read a refl r)
  does_test_what (does_insert a u t m) r = absurd (other is_predicate_read a refl r)
  does_test_what (does_delete a u t m) r = absurd (other is_predicate_read a refl r)

  pub does_insert_what : Does p o → is_write o.action ≡ true → is_insert o.action ≡ inserts (kind_of p)
  does_insert_what (does_insert a u t m) w = ap is_insert a ∙ sym u
  does_insert_what (does_write a u t m) w = ap is_insert a ∙ sym (kinds_apart updates inserts refl (kind_of p) u)
  does_insert_what (does_delete a u t m) w = ap is_insert a ∙ sym (kinds_apart deletes inserts refl (kind_of p) u)
  does_insert_what (does_test a u t) w = absurd (other is_write a refl w)
  does_insert_what (does_read a u t m) w = absurd (other is_write a refl w)
  does_insert_what (does_lock a u t m) w = absurd (other is_write a refl w)

  pub does_delete_what : Does p o → is_write o.action ≡ true → is_delete o.action ≡ deletes (kind_of p)
  does_delete_what (does_delete a u t m) w = ap is_delete a ∙ sym u
  does_delete_what (does_write a u t m) w = ap is_delete a ∙ sym (kinds_apart updates deletes refl (kind_of p) u)
  does_delete_what (does_insert a u t m) w = ap is_delete a ∙ sym (kinds_apart inserts deletes refl (kind_of p) u)
  does_delete_what (does_test a u t) w = absurd (other is_write a refl w)
  does_delete_what (does_read a u t m) w = absurd (other is_write a refl w)
  does_delete_what (does_lock a u t m) w = absurd (other is_write a refl w)

  -- what a write writes where it neither inserts nor deletes
  pub does_update_what : Does p o → is_write o.action ≡ true → inserts (kind_of p) ≡ false → deletes (kind_of p) ≡ false
      → o.attributes ≡ W (statement_done p)
  does_update_what (does_write a u t m) w i d = t
  does_update_what (does_insert a u t m) w i d = absurd (true_false u i)
  does_update_what (does_delete a u t m) w i d = absurd (true_false u d)
  does_update_what (does_test a u t) w i d = absurd (other is_write a refl w)
  does_update_what (does_read a u t m) w i d = absurd (other is_write a refl w)
  does_update_what (does_lock a u t m) w i d = absurd (other is_write a refl w)

-- ---- the letters

module _ (set : ℕ → ℕ) {p q : Performed} {b a : Operation} (db : Does p b) (da : Does q a)
    (over : (statement_done p).relation ≡ (statement_done q).relation) (sp : Sets set (statement_done p)) (sq : Sets set (statement_done q)) where
  pub letter_A : is_write b.action ≡ true → is_write a.action ≡ true → is_delete b.action ≡ false → is_insert a.action ≡ false
      → meets b.attributes a.attributes ≡ true → holds A (statement_done p) (statement_done q) ≡ true
  unfolding holds
  letter_A wb wa nd ni m =
      let x = does_write_what db wb in
      let y = does_write_what da wa in
      and_of
      (and_of (and_of (and_of x.1 y.1) (not_of_false (sym (does_delete_what db wb) ∙ nd))) (not_of_false (sym (does_insert_what da wa) ∙ ni)))
      (writes_meet set (statement_done p) (statement_done q) over sp sq b.attributes a.attributes x.0 y.0 m)

  pub letter_B : is_write b.action ≡ true → is_read a.action ≡ true → is_delete b.action ≡ false
      → meets b.attributes a.attributes ≡ true → holds B (statement_done p) (statement_done q) ≡ true
  unfolding holds
  letter_B wb ra nd m =
      let x = does_write_what db wb in
      let y = does_read_what da ra in
      and_of (and_of x.1 (not_of_false (sym (does_delete_what db wb) ∙ nd)))
      (write_meets_read set (statement_done p) (statement_done q) over sp sq b.attributes x.0
      (subst (λ (y : ℕ). meets b.attributes y ≡ true) y.0 m))

  pub letter_D : is_read b.action ≡ true → is_write a.action ≡ true → is_insert a.action ≡ false
      → meets b.attributes a.attributes ≡ true → holds D (statement_done p) (statement_done q) ≡ true
  unfolding holds
  letter_D rb wa ni m =
      let x = does_read_what db rb in
      let y = does_write_what da wa in
      and_of (and_of y.1 (not_of_false (sym (does_insert_what da wa) ∙ ni)))
      (read_meets_write set (statement_done p) (statement_done q) over sp sq a.attributes y.0
      (subst (λ (x : ℕ). meets x a.attributes ≡ true) x.0 m))

-- the change of a write to what is tested, as events and as statements
module _ {p : Performed} {w : Operation} (dw : Does p w) where
  changes : is_write w.action ≡ true → (tests attributes : ℕ) → attributes ≡ tests
      → is_insert w.action || is_delete w.action || meets w.attributes attributes ≡ true
      → inserts (statement_done p).kind || deletes (statement_done p).kind || meets (W (statement_done p)) tests ≡ true
  changes ww tests attributes e h = go (inserts k) (deletes k) refl refl (rw (sym (does_insert_what dw ww), sym (does_delete_what dw ww)) h)
    where
      k : StatementKind
      k = (statement_done p).kind

      go : (i d : Bool) → inserts k ≡ i → deletes k ≡ d → i || d || meets w.attributes attributes ≡ true
          → i || d || meets (W (statement_done p)) tests ≡ true
      go true d i' d' h = refl
      go false true i' d' h = refl
      go false false i' d' h =
          subst (λ (x : ℕ). meets (W (statement_done p)) x ≡ true) e
          (subst (λ (x : ℕ). meets x attributes ≡ true) (does_update_what dw ww i' d') h)

pub letter_C : {p q : Performed} {b a : Operation} → Does p b → Does q a → is_write b.action ≡ true → is_predicate_read a.action ≡ true
    → is_insert b.action || is_delete b.action || meets b.attributes a.attributes ≡ true
    → holds C (statement_done p) (statement_done q) ≡ true
unfolding holds
letter_C {q = q} {b} {a} db da wb pa h =
    let y = does_test_what da pa in
    and_of y.1 (changes db wb (T (statement_done q)) a.attributes y.0 h)

pub letter_E : {p q : Performed} {b a : Operation} → Does p b → Does q a → is_predicate_read b.action ≡ true → is_write a.action ≡ true
    → is_insert a.action || is_delete a.action || meets a.attributes b.attributes ≡ true
    → holds E (statement_done p) (statement_done q) ≡ true
unfolding holds
letter_E {p} {b = b} {a} db da pb wa h =
    let x = does_test_what db pb in
    and_of x.1 (changes da wa (T (statement_done p)) b.attributes x.0 h)
