-- The statement that an event of a schedule belongs to, and the order of the events of one transaction.
use Rattle.std.specs.Prelude.{true, false, ◌⊎◌, ◌≡◌, refl, ℕ, suc, ◌≤◌, ◌<◌, length}
use mathlib.Core.List.{List, Memᴰ}
use Rattle.std.proofs.Common.{inl, inr, sym, ap, subst, ◌∙◌, arith}
use Rattle.std.proofs.Math.Option.{some}
use Rattle.std.proofs.Math.Decide.{dec_lt}
use Rattle.std.proofs.Math.ListN.{get_elem?}
use Rattle.law_base.specs.BoolLaws.{true_false}
use Rattle.law_base.specs.ListLaws.{get_elem?_lt, get_elem?_found, get_elem?_same}
use Rattle.spec_text.specs.declared.Line.{Line}
use Rattle.spec_graph.specs.Edge.{shields}
use Rattle.spec_schedule.specs.Event.{Event, is_claim, is_commit}
use Rattle.spec_schedule.specs.Event.Action.{read, commit}
use Rattle.spec_schedule.specs.Schedule.{Transaction, Performed, Operation, Schedule, operations, performed}
use Rattle.soundness.specs.dependency.Positions.{number_grows}
use Rattle.soundness.specs.committing.Rules.{statement_together}
use Rattle.soundness.specs.transactions.Operations.{
  Belongs,
  Followed,
  InStatement,
  updates,
  statement_done,
  operation_cases,
  places_rise,
  shield_claims,
}
use Rattle.soundness.specs.transactions.Events.{Operates, event_at, own_operates, operation_event, schedule_numbered, schedule_lawful}

-- the operation of an event
abbrev pub operation_of : Event → Operation
operation_of e = record { place = e.place; action = e.action; relation = e.relation; tuple = e.tuple; attributes = e.attributes }

module _ {lines : List Line} (s : Schedule lines) where
  -- an event that is no commit, with the statement that it belongs to
  pub record Stated (x : Transaction) (e : Event) : Type 0 where
    pub performs : Performed
    pub at : get_elem? (performed x) e.place ≡ some performs
    pub belongs : Belongs performs (operation_of e)
    pub follows : updates (statement_done performs).kind ≡ true → e.action ≡ read
        → (o : Operation) × (get_elem? (operations x) (suc e.number) ≡ some o) × Followed (operation_of e) o

  pub event_stated : (i : ℕ) {x : Transaction} → get_elem? s.transactions i ≡ some x → (n : ℕ) (e : Event) → get_elem? s.events n ≡ some e
      → e.transaction ≡ i → is_commit e.action ≡ false → Stated x e
  event_stated i {x} t n e h q c = go r.operation (ap operation_of r.made) (operation_cases x e.number r.at)
    where
      r : Operates x e
      r = own_operates s i t n e h q

      go : (o : Operation) → operation_of e ≡ o
          → InStatement x e.number o ⊎ ((o.action ≡ commit) × (suc e.number ≡ length (operations x)) × (o.place ≡ length (performed x)))
          → Stated x e
      go o p (inl b) =
          record {
            performs = b.performs;
            at = subst (λ (o : Operation). get_elem? (performed x) o.place ≡ some b.performs) (sym p) b.at;
            belongs = subst (λ (o : Operation). Belongs b.performs o) (sym p) b.belongs;
            follows = λ u a.
                let f = b.follows u (ap (λ (o : Operation). o.action) (sym p) ∙ a) in
                (f.0, f.1, subst (λ (o : Operation). Followed o f.0) (sym p) f.2);
          }
      go o p (inr b) =
          let a : e.action ≡ commit = ap (λ (o : Operation). o.action) p ∙ b.0 in
          absurd (true_false (rw a) c)

  -- places never fall along a transaction
  pub places_never_fall : (i : ℕ) {x : Transaction} → get_elem? s.transactions i ≡ some x → (m n : ℕ) (e f : Event)
      → get_elem? s.events m ≡ some e → get_elem? s.events n ≡ some f → e.transaction ≡ i → f.transaction ≡ i → m < n → e.place ≤ f.place
  places_never_fall i {x} t m n e f at_e at_f p q lt =
      let re = own_operates s i t m e at_e p in
      let rf = own_operates s i t n f at_f q in
      let le = places_rise x e.number f.number (number_grows s.events (schedule_numbered s) m n lt at_e at_f (p ∙ sym q)) re.at rf.at in
      let a : e.place ≡ re.operation.place = ap (λ (e : Event). e.place) re.made in
      let b : f.place ≡ rf.operation.place = ap (λ (e : Event). e.place) rf.made in
      omega arith

  -- so an earlier place is an earlier time
  pub place_order : (i : ℕ) {x : Transaction} → get_elem? s.transactions i ≡ some x → (m n : ℕ) (e f : Event)
      → get_elem? s.events m ≡ some e → get_elem? s.events n ≡ some f → e.transaction ≡ i → f.transaction ≡ i → e.place < f.place → m < n
  place_order i t m n e f at_e at_f p q lt = go (dec_lt m n) (dec_lt n m)
    where
      go : Dec (m < n) → Dec (n < m) → m < n
      go (yes l) d = l
      go (no d) (yes l) = let le = places_never_fall i t n m f e at_f at_e q p l in absurd (omega arith)
      go (no d) (no c) =
          let k : m ≡ n = omega arith in
          let same : e ≡ f = get_elem?_same s.events m at_e (ap (get_elem? s.events) k ∙ at_f) in
          let z : e.place ≡ f.place = ap (λ (e : Event). e.place) same in
          absurd (omega arith)

  -- the write of an update stands right after its read
  pub update_next : (i : ℕ) {x : Transaction} → get_elem? s.transactions i ≡ some x → (m : ℕ) (e : Event) → get_elem? s.events m ≡ some e
      → e.transaction ≡ i → (o : Operation) → get_elem? (operations x) (suc e.number) ≡ some o → o.place ≡ e.place
      → get_elem? s.events (suc m) ≡ some (event_at i (suc e.number) o)
  update_next i {x} t m e h q o at place = go (dec_lt (suc m) next.0) (dec_lt m next.0)
    where
      next : (n : ℕ) × (get_elem? s.events n ≡ some (event_at i (suc e.number) o))
      next = operation_event s i t (suc e.number) at

      go : Dec (suc m < next.0) → Dec (m < next.0) → get_elem? s.events (suc m) ≡ some (event_at i (suc e.number) o)
      go (yes far) d =
          let g = get_elem?_found s.events (suc m) (omega (arith, get_elem?_lt s.events next.0 next.1)) in
          let same = statement_together (schedule_lawful s) m (suc m) next.0 (omega arith) far h g.1 next.1 q (sym place) in
          let up = number_grows s.events (schedule_numbered s) m (suc m) (omega arith) h g.1 (q ∙ sym same.0) in
          let down = number_grows s.events (schedule_numbered s) (suc m) next.0 far g.1 next.1 same.0 in
          absurd (omega arith)
      go (no near) (yes after) =
          let k : next.0 ≡ suc m = omega arith in
          subst (λ (n : ℕ). get_elem? s.events n ≡ some (event_at i (suc e.number) o)) k next.1
      go (no near) (no before) = go' (dec_lt next.0 m)
        where
          go' : Dec (next.0 < m) → get_elem? s.events (suc m) ≡ some (event_at i (suc e.number) o)
          go' (yes l) = let g = number_grows s.events (schedule_numbered s) next.0 m l next.1 h (sym q) in absurd (omega arith)
          go' (no l) =
              let k : next.0 ≡ m = omega arith in
              let same : event_at i (suc e.number) o ≡ e = get_elem?_same s.events m (ap (get_elem? s.events) (sym k) ∙ next.1) h in
              let z : suc e.number ≡ e.number = ap (λ (e : Event). e.number) same in
              absurd (omega arith)

  -- a statement of a kind that shields has an event that writes or locks its tuple
  pub shield_event : (i : ℕ) {x : Transaction} → get_elem? s.transactions i ≡ some x → (j : ℕ) {p : Performed} → get_elem? (performed x) j ≡ some p
      → shields (statement_done p).kind ≡ true
      → (n : ℕ) × (e : Event) × (get_elem? s.events n ≡ some e) × (e.transaction ≡ i) × (e.place ≡ j) × (is_claim e.action ≡ true)
      × (e.relation ≡ (statement_done p).relation) × Memᴰ e.tuple p.tuples
  shield_event i {x} t j h sh =
      let w = shield_claims x j h sh in
      let e = operation_event s i t w.0 w.2 in
      (e.0, event_at i w.0 w.1, e.1, refl, w.3, w.4, w.5, w.6)
