-- The events of a schedule: each belongs to an operation of its transaction, and they obey the rules on plain lists of events.
use Rattle.std.specs.Prelude.{true, ◌||◌, ◌⊎◌, ◌≡◌, refl, ℕ, zero, suc, ◌+◌, ◌≤◌, ◌<◌, ltb, take}
use mathlib.Core.List.{List, [], ◌∷◌}
use Rattle.std.proofs.Common.{inl, inr, ◌∙◌, add-zero, arith, ltb-true, eq-eqb}
use Rattle.std.proofs.Math.Option.{some}
use Rattle.std.proofs.Math.Path.{sym, ap, subst}
use Rattle.std.proofs.Math.Nat.{zero-add}
use Rattle.std.proofs.Math.Decide.{dec_lt}
use Rattle.std.proofs.Math.ListN.{length, get_elem?}
use Rattle.spec_base.specs.Basic.{keep}
use Rattle.law_base.specs.PositionLaws.{keep_position, position_keep}
use Rattle.law_base.specs.ListLaws.{all_true, get_elem?_lt, get_elem?_member, get_elem?_found, get_elem?_same, some_injective}
use Rattle.spec_text.specs.declared.Line.{Line}
use Rattle.spec_schedule.specs.Event.{Action, Event, by, is_insert, is_delete, is_commit}
use Rattle.spec_schedule.specs.Event.Action.{read, lock, write, insert, delete, predicate_read, commit}
use Rattle.spec_schedule.specs.Schedule.{Transaction, Performed, Operation, Schedule, every_attribute, operations, numbered, events_of, performed}
use Rattle.soundness.specs.dependency.Dependency.{Numbered, Filled, Known}
use Rattle.soundness.specs.dependency.Positions.{number_grows, one_position}
use Rattle.soundness.specs.committing.Rules.{CommitsAt, Lawful}
use Rattle.soundness.specs.transactions.Operations.{Does, does_test, does_read, does_lock, does_write, does_insert, does_delete}
use Rattle.soundness.specs.transactions.Operations.{InStatement, operation_cases, commit_at}

-- the event that an operation of a transaction makes
abbrev pub event_at : ℕ → ℕ → Operation → Event
event_at i k o =
    record
    { transaction = i; number = k; place = o.place; action = o.action; relation = o.relation; tuple = o.tuple; attributes = o.attributes }

numbered_at : (i k : ℕ) (l : List Operation) (n : ℕ) {e : Event} → get_elem? (numbered i k l) n ≡ some e
    → (o : Operation) × (get_elem? l n ≡ some o) × (e ≡ event_at i (k + n) o)
unfolding numbered
numbered_at i k [] n h = let z : ◌≡◌ {A = ℕ} 0 1 = cc in absurd (omega arith)
numbered_at i k (o ∷ l) zero h = (o, refl, sym (some_injective h) ∙ ap (λ (m : ℕ). event_at i m o) (sym (add-zero k)))
numbered_at i k (o ∷ l) (suc n) h =
    let r = numbered_at i (suc k) l n h in
    let q : suc k + n ≡ k + suc n = omega arith in
    (r.0, r.1, r.2 ∙ ap (λ (m : ℕ). event_at i m r.0) q)

at_numbered : (i k : ℕ) (l : List Operation) (n : ℕ) {o : Operation} → get_elem? l n ≡ some o
    → get_elem? (numbered i k l) n ≡ some (event_at i (k + n) o)
unfolding numbered
at_numbered i k [] n h = let z : ◌≡◌ {A = ℕ} 0 1 = cc in absurd (omega arith)
at_numbered i k (o ∷ l) zero {o = p} h =
    ap (λ (p : Operation). some (event_at i k p)) (some_injective h) ∙ ap (λ (m : ℕ). some (event_at i m p)) (sym (add-zero k))
at_numbered i k (o ∷ l) (suc n) {o = p} h =
    let q : suc k + n ≡ k + suc n = omega arith in
    at_numbered i (suc k) l n h ∙ ap (λ (m : ℕ). some (event_at i m p)) q

-- an event is made by the operation of its number
pub record Operates (x : Transaction) (e : Event) : Type 0 where
  pub operation : Operation
  pub at : get_elem? (operations x) e.number ≡ some operation
  pub made : e ≡ event_at e.transaction e.number operation

-- the operations of a statement are no commits
no_commit : {p : Performed} {o : Operation} → Does p o → o.action ≡ commit → ⊥
no_commit (does_test a h t) c = let z : ◌≡◌ {A = ℕ} 0 1 = cc in omega arith
no_commit (does_read a h t m) c = let z : ◌≡◌ {A = ℕ} 0 1 = cc in omega arith
no_commit (does_lock a h t m) c = let z : ◌≡◌ {A = ℕ} 0 1 = cc in omega arith
no_commit (does_write a h t m) c = let z : ◌≡◌ {A = ℕ} 0 1 = cc in omega arith
no_commit (does_insert a h t m) c = let z : ◌≡◌ {A = ℕ} 0 1 = cc in omega arith
no_commit (does_delete a h t m) c = let z : ◌≡◌ {A = ℕ} 0 1 = cc in omega arith

commit_action : (a : Action) → is_commit a ≡ true → a ≡ commit
commit_action commit h = refl
commit_action read h = let z : ◌≡◌ {A = ℕ} 0 1 = cc in absurd (omega arith)
commit_action lock h = let z : ◌≡◌ {A = ℕ} 0 1 = cc in absurd (omega arith)
commit_action write h = let z : ◌≡◌ {A = ℕ} 0 1 = cc in absurd (omega arith)
commit_action insert h = let z : ◌≡◌ {A = ℕ} 0 1 = cc in absurd (omega arith)
commit_action delete h = let z : ◌≡◌ {A = ℕ} 0 1 = cc in absurd (omega arith)
commit_action predicate_read h = let z : ◌≡◌ {A = ℕ} 0 1 = cc in absurd (omega arith)

-- inserts and deletes of a statement write every attribute
does_filled : {p : Performed} {o : Operation} → Does p o → is_insert o.action || is_delete o.action ≡ true → o.attributes ≡ every_attribute
does_filled (does_insert a h t m) c = t
does_filled (does_delete a h t m) c = t
does_filled {o} (does_test a h t) c =
    let q : is_insert predicate_read || is_delete predicate_read ≡ true = rw a at c in let z : ◌≡◌ {A = ℕ} 0 1 = cc in absurd (omega arith)
does_filled (does_read a h t m) c =
    let q : is_insert read || is_delete read ≡ true = rw a at c in let z : ◌≡◌ {A = ℕ} 0 1 = cc in absurd (omega arith)
does_filled (does_lock a h t m) c =
    let q : is_insert lock || is_delete lock ≡ true = rw a at c in let z : ◌≡◌ {A = ℕ} 0 1 = cc in absurd (omega arith)
does_filled (does_write a h t m) c =
    let q : is_insert write || is_delete write ≡ true = rw a at c in let z : ◌≡◌ {A = ℕ} 0 1 = cc in absurd (omega arith)

module _ {lines : List Line} (s : Schedule lines) where
  -- every event is of a transaction of the schedule
  pub schedule_known : Known (length s.transactions) s.events
  schedule_known n e h =
      ltb-true e.transaction (length s.transactions)
      (all_true (λ e. ltb e.transaction (length s.transactions)) s.known (get_elem?_member s.events n h))

  -- what an event says of its transaction
  pub record Made (n : ℕ) (e : Event) : Type 0 where
    pub transaction : Transaction
    pub found : get_elem? s.transactions e.transaction ≡ some transaction
    pub operates : Operates transaction e
    pub number : e.number ≡ length (keep (by e.transaction) (take n s.events))

  pub event_made : (n : ℕ) (e : Event) → get_elem? s.events n ≡ some e → Made n e
  unfolding events_of
  event_made n e h =
      let i = e.transaction in
      let t = get_elem?_found s.transactions i (schedule_known n e h) in
      let own = keep_position (by i) s.events n h (eq-eqb i i refl) in
      let k = length (keep (by i) (take n s.events)) in
      let r = numbered_at i 0 (operations t.0) k (subst (λ (l : List Event). get_elem? l k ≡ some e) (s.whole i t.0 t.1) own) in
      let q : e.number ≡ k = ap (λ (e : Event). e.number) r.2 ∙ zero-add k in
      record {
        transaction = t.0;
        found = t.1;
        operates = record {
          operation = r.0;
          at = subst (λ (m : ℕ). get_elem? (operations t.0) m ≡ some r.0) (sym q) r.1;
          made = r.2 ∙ ap (λ (m : ℕ). event_at i m r.0) (zero-add k ∙ sym q);
        };
        number = q;
      }

  -- every operation of a transaction is an event
  pub operation_event : (i : ℕ) {x : Transaction} → get_elem? s.transactions i ≡ some x → (k : ℕ) {o : Operation}
      → get_elem? (operations x) k ≡ some o → (n : ℕ) × (get_elem? s.events n ≡ some (event_at i k o))
  unfolding events_of
  operation_event i {x} t k {o} h =
      let e = at_numbered i 0 (operations x) k h ∙ ap (λ (m : ℕ). some (event_at i m o)) (zero-add k) in
      let r = position_keep (by i) s.events k (subst (λ (l : List Event). get_elem? l k ≡ some (event_at i k o)) (sym (s.whole i x t)) e) in
      (r.0, r.1)

  pub schedule_numbered : Numbered s.events
  schedule_numbered n e h = (event_made n e h).number

  pub schedule_filled : Filled s.events
  schedule_filled n e h c =
      let m = event_made n e h in
      let o = m.operates.operation in
      let a : e.action ≡ o.action = ap (λ (e : Event). e.action) m.operates.made in
      ap (λ (e : Event). e.attributes) m.operates.made
      ∙ go o (operation_cases m.transaction e.number m.operates.at) (subst (λ (a : Action). is_insert a || is_delete a ≡ true) a c)
    where
      go : (o : Operation) {x : Transaction} {k : ℕ}
          → InStatement x k o ⊎ ((o.action ≡ commit) × (suc k ≡ length (operations x)) × (o.place ≡ length (performed x)))
          → is_insert o.action || is_delete o.action ≡ true → o.attributes ≡ every_attribute
      go o (inl b) c = does_filled b.belongs.does c
      go o (inr b) c =
          let q : is_insert commit || is_delete commit ≡ true = rw b.0 at c in let z : ◌≡◌ {A = ℕ} 0 1 = cc in absurd (omega arith)

  pub schedule_lawful : Lawful s.start s.events
  schedule_lawful = record { obeyed = s.obeyed; numbered = schedule_numbered }

  -- an event of transaction i is made by an operation of it
  pub own_operates : (i : ℕ) {x : Transaction} → get_elem? s.transactions i ≡ some x → (n : ℕ) (e : Event) → get_elem? s.events n ≡ some e
      → e.transaction ≡ i → Operates x e
  own_operates i {x} t n e h q =
      let m = event_made n e h in
      subst (λ (x : Transaction). Operates x e)
      (get_elem?_same s.transactions i (subst (λ (i : ℕ). get_elem? s.transactions i ≡ some m.transaction) q m.found) t)
      m.operates

  -- each transaction commits once, and that is its last event
  pub schedule_commits : (i : ℕ) {x : Transaction} → get_elem? s.transactions i ≡ some x → (c : ℕ) × CommitsAt s.events i c
  schedule_commits i {x} t =
      (e.0, record { event = event_at i c.0 c.1; stands = e.1; own = refl; commits = rw c.3; last = last; only = only })
    where
      c : (k : ℕ) × (o : Operation) × (get_elem? (operations x) k ≡ some o) × (o.action ≡ commit) × (suc k ≡ length (operations x))
      c = commit_at x

      e : (n : ℕ) × (get_elem? s.events n ≡ some (event_at i c.0 c.1))
      e = operation_event i t c.0 c.2

      last : (n : ℕ) (f : Event) → get_elem? s.events n ≡ some f → f.transaction ≡ i → n ≤ e.0
      last n f h q =
          let r = own_operates i t n f h q in
          let b : f.number < length (operations x) = get_elem?_lt (operations x) f.number r.at in
          let k : suc c.0 ≡ length (operations x) = c.4 in
          elim (dec_lt e.0 n) [
            | yes lt ↦ let g : c.0 < f.number = number_grows s.events schedule_numbered e.0 n lt e.1 h (sym q) in absurd (omega arith)
            | no ge ↦ omega arith
          ]

      ends : (n : ℕ) (f : Event) → get_elem? s.events n ≡ some f → f.transaction ≡ i → is_commit f.action ≡ true
          → suc f.number ≡ length (operations x)
      ends n f h q a =
          let r = own_operates i t n f h q in
          go r.operation (operation_cases x f.number r.at) (ap (λ (e : Event). e.action) (sym r.made) ∙ commit_action f.action a)
        where
          go : (o : Operation)
              → InStatement x f.number o ⊎ ((o.action ≡ commit) × (suc f.number ≡ length (operations x)) × (o.place ≡ length (performed x)))
              → o.action ≡ commit → suc f.number ≡ length (operations x)
          go o (inl b) a = absurd (no_commit b.belongs.does a)
          go o (inr b) a = b.1

      only : (n : ℕ) (f : Event) → get_elem? s.events n ≡ some f → f.transaction ≡ i → is_commit f.action ≡ true → n ≡ e.0
      only n f h q a =
          let b = ends n f h q a in
          let k : suc c.0 ≡ length (operations x) = c.4 in
          one_position s.events schedule_numbered n e.0 h e.1 q (omega arith)
