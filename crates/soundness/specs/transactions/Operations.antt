-- The operations of one transaction: which statement each belongs to and what it does, in which order they stand.
use Rattle.std.specs.Prelude.{Bool, true, false, cond, not, ◌&&◌, ◌⊎◌, ◌≡◌, ℕ, zero, suc, ◌+◌, ◌≤◌, ◌<◌, length}
use mathlib.Core.List.{List, [], ◌∷◌, ◌++◌, map, flat_map, append-nil, Memᴰ}
use Rattle.std.proofs.Common.{inl, inr, sym, ap, ◌∙◌, zero-add, arith, length-append}
use Rattle.std.proofs.Math.Option.{Option, some}
use Rattle.std.proofs.Math.Path.{refl, subst}
use Rattle.std.proofs.Math.ListN.{get_elem?}
use Rattle.law_base.specs.PositionLaws.{Chunk, position_cases, chunk_at, chunk_order, chunk_position}
use Rattle.spec_base.specs.Basic.{any, all}
use Rattle.law_base.specs.BoolLaws.{true_false}
use Rattle.law_base.specs.ListLaws.{any_true, all_true, get_elem?_lt, get_elem?_append_left, some_injective, get_elem?_middle}
use Rattle.law_base.specs.ListLaws.{get_elem?_member, member_get_elem?, get_elem?_of_map, get_elem?_map_some}
use Rattle.spec_text.specs.declared.StatementKind.{StatementKind}
use Rattle.spec_text.specs.declared.StatementKind.TheVariants.{Is, Ks, Ps, Ku, Pu, Kd, Pd, Kl}
use Rattle.spec_graph.specs.Program.{Statement}
use Rattle.spec_graph.specs.Unfolding.{Occurrence, occurrences}
use Rattle.spec_graph.specs.Edge.{W, R, T, has_tests, has_reads, has_writes, inserts, deletes, shields}
use Rattle.law_kinds.specs.EveryKind.{every_kind, kind_implies, kinds_apart}
use Rattle.spec_schedule.specs.Event.{Action, is_claim}
use Rattle.spec_schedule.specs.Event.Action.{read, lock, write, insert, delete, predicate_read, commit}
use Rattle.spec_schedule.specs.Schedule.{Transaction, Performed, Operation, chosen, performed_from, performed}
use Rattle.spec_schedule.specs.Schedule.{every_attribute, on_tuple, operations_of, operations}

-- the statements that read and write each of their tuples
abbrev pub updates : StatementKind → Bool
updates k = has_reads k && has_writes k

-- Req 03: the statements that read their tuple with lock: of those that read and do not write, the ones that shield
abbrev pub locks : StatementKind → Bool
locks k = has_reads k && not (has_writes k) && shields k

-- the statements that read without lock
abbrev pub reads_plainly : StatementKind → Bool
reads_plainly k = has_reads k && not (locks k)

abbrev pub statement_done : Performed → Statement
statement_done p = p.occurrence.statement

-- what an operation of a performed statement does
pub data Does (p : Performed) (o : Operation) : Type 0 where
  does_test : o.action ≡ predicate_read → has_tests (statement_done p).kind ≡ true → o.attributes ≡ T (statement_done p) → Does p o
  does_read : o.action ≡ read → reads_plainly (statement_done p).kind ≡ true → o.attributes ≡ R (statement_done p)
      → Memᴰ o.tuple p.tuples → Does p o
  does_lock : o.action ≡ lock → locks (statement_done p).kind ≡ true → o.attributes ≡ R (statement_done p)
      → Memᴰ o.tuple p.tuples → Does p o
  does_write : o.action ≡ write → updates (statement_done p).kind ≡ true → o.attributes ≡ W (statement_done p)
      → Memᴰ o.tuple p.tuples → Does p o
  does_insert : o.action ≡ insert → inserts (statement_done p).kind ≡ true → o.attributes ≡ every_attribute
      → Memᴰ o.tuple p.tuples → Does p o
  does_delete : o.action ≡ delete → deletes (statement_done p).kind ≡ true → o.attributes ≡ every_attribute
      → Memᴰ o.tuple p.tuples → Does p o

-- an operation of a performed statement, with its place and relation
pub record Belongs (p : Performed) (o : Operation) : Type 0 where
  pub place : o.place ≡ p.place
  pub relation : o.relation ≡ (statement_done p).relation
  pub does : Does p o

-- what a statement of each kind does to a tuple, in this order
actions_of : StatementKind → List Action
actions_of k =
    cond (reads_plainly k) (read ∷ []) []
    ++ cond (locks k) (lock ∷ []) []
    ++ cond (updates k) (write ∷ []) []
    ++ cond (inserts k) (insert ∷ []) []
    ++ cond (deletes k) (delete ∷ []) []

-- the attributes that an action of a statement is of
attributes_of : Statement → Action → ℕ
attributes_of s read = R s
attributes_of s lock = R s
attributes_of s write = W s
attributes_of s insert = every_attribute
attributes_of s delete = every_attribute
attributes_of s predicate_read = T s
attributes_of s commit = 0

-- the operation of this action of a statement on a tuple
operation_of : Performed → ℕ → Action → Operation
unfolding attributes_of
operation_of p t a =
    record { place = p.place; action = a; relation = (statement_done p).relation; tuple = t; attributes = attributes_of (statement_done p) a }

-- what a statement does to a tuple are the operations of its kind's actions
on_tuple_actions : (p : Performed) (t : ℕ) → on_tuple p t ≡ map (operation_of p t) (actions_of (statement_done p).kind)
unfolding on_tuple actions_of attributes_of operation_of
on_tuple_actions p t = go (statement_done p).kind
  where
    of_kind : StatementKind → Performed
    of_kind c =
        let s = statement_done p in
        record {
          place = p.place;
          occurrence =
              record {
                statement = record { id = s.id; kind = c; relation = s.relation; reads = s.reads; writes = s.writes; tests = s.tests };
                path = p.occurrence.path;
              };
          tuples = p.tuples;
        }

    go : (c : StatementKind) → on_tuple (of_kind c) t ≡ map (operation_of (of_kind c) t) (actions_of c)
    go Is = refl
    go Ks = refl
    go Ps = refl
    go Ku = refl
    go Pu = refl
    go Kd = refl
    go Pd = refl
    go Kl = refl

-- the kinds that have an action
done_by : Action → StatementKind → Bool
done_by read k = reads_plainly k
done_by lock k = locks k
done_by write k = updates k
done_by insert k = inserts k
done_by delete k = deletes k
done_by predicate_read k = false
done_by commit k = false

-- each action of a kind is one that the kind has
action_done : (k : StatementKind) {a : Action} → Memᴰ a (actions_of k) → done_by a k ≡ true
unfolding actions_of done_by
action_done k m = all_true (λ a. done_by a k) (every_kind (λ k. all (λ a. done_by a k) (actions_of k)) refl k) m

module _ (p : Performed) (t : ℕ) (mem : Memᴰ t p.tuples) where
  operation_does : (a : Action) → done_by a (statement_done p).kind ≡ true → Does p (operation_of p t a)
  unfolding done_by attributes_of operation_of
  operation_does read h = does_read refl h refl mem
  operation_does lock h = does_lock refl h refl mem
  operation_does write h = does_write refl h refl mem
  operation_does insert h = does_insert refl h refl mem
  operation_does delete h = does_delete refl h refl mem
  operation_does predicate_read h = absurd (true_false h refl)
  operation_does commit h = absurd (true_false h refl)

  -- each operation on a tuple belongs to its statement
  on_tuple_belongs : (k : ℕ) {o : Operation} → get_elem? (on_tuple p t) k ≡ some o → Belongs p o
  unfolding operation_of
  on_tuple_belongs k {o} h =
      let actions = actions_of (statement_done p).kind in
      let m = get_elem?_of_map (operation_of p t) actions k (ap (λ (l : List Operation). get_elem? l k) (sym (on_tuple_actions p t)) ∙ h) in
      let does = operation_does m.0 (action_done (statement_done p).kind (get_elem?_member actions k m.1)) in
      subst (Belongs p) m.2 (record { place = refl; relation = refl; does = does })

-- each operation of a statement on its tuples belongs to it
tuples_belong : (p : Performed) (ts : List ℕ) → ((t : ℕ) → Memᴰ t ts → Memᴰ t p.tuples) → (k : ℕ) {o : Operation}
    → get_elem? (flat_map (on_tuple p) ts) k ≡ some o → Belongs p o
unfolding flat_map
tuples_belong p [] in_tuples k e = let z : ◌≡◌ {A = ℕ} 0 1 = cc in absurd (omega arith)
tuples_belong p (t ∷ ts) in_tuples k {o} e =
    go (λ j. tuples_belong p ts (λ u m. in_tuples u (Memᴰ.tail m)) j) (position_cases (on_tuple p t) (flat_map (on_tuple p) ts) k e)
  where
    go : ((j : ℕ) → get_elem? (flat_map (on_tuple p) ts) j ≡ some o → Belongs p o)
        → ((k < length (on_tuple p t)) × (get_elem? (on_tuple p t) k ≡ some o))
        ⊎ ((j : ℕ) × (k ≡ length (on_tuple p t) + j) × (get_elem? (flat_map (on_tuple p) ts) j ≡ some o))
        → Belongs p o
    go rest (inl h) = on_tuple_belongs p t (in_tuples t (Memᴰ.head refl)) k h.1
    go rest (inr h) = rest h.0 h.2

-- the predicate read with which a statement that tests begins
abbrev opening : Performed → Operation
opening p = record { place = p.place; action = predicate_read; relation = (statement_done p).relation; tuple = 0; attributes = T (statement_done p) }

-- each operation of a statement belongs to it
pub operation_belongs : (p : Performed) (k : ℕ) {o : Operation} → get_elem? (operations_of p) k ≡ some o → Belongs p o
unfolding operations_of
operation_belongs p k {o} = go (has_tests (statement_done p).kind) refl k
  where
    tuples : (k : ℕ) → get_elem? (flat_map (on_tuple p) p.tuples) k ≡ some o → Belongs p o
    tuples k e = tuples_belong p p.tuples (λ t m. m) k e

    go : (c : Bool) → has_tests (statement_done p).kind ≡ c → (k : ℕ)
        → get_elem? (cond c (opening p ∷ []) [] ++ flat_map (on_tuple p) p.tuples) k ≡ some o → Belongs p o
    go true c zero e = subst (Belongs p) (some_injective e) (record { place = refl; relation = refl; does = does_test refl c refl })
    go true c (suc k) e = tuples k e
    go false c k e = tuples k e

-- the statements performed: each with its place
pub performed_at : (x : Transaction) (i : ℕ) (l : List Occurrence) (j : ℕ) {p : Performed} → get_elem? (performed_from x i l) j ≡ some p
    → (p.place ≡ i + j) × (get_elem? l j ≡ some p.occurrence)
    × (p.tuples ≡ chosen (statement_done p).kind (x.tuple p.place) (x.tuples p.place))
unfolding performed_from
performed_at x i [] j e = let z : ◌≡◌ {A = ℕ} 0 1 = cc in absurd (omega arith)
performed_at x i (o ∷ l) zero {p} e =
    let q : Performed = record { place = i; occurrence = o; tuples = chosen o.statement.kind (x.tuple i) (x.tuples i) } in
    subst
    (λ (p : Performed). (p.place ≡ i + 0) × (◌≡◌ {A = Option Occurrence} (some o) (some p.occurrence))
    × (p.tuples ≡ chosen (statement_done p).kind (x.tuple p.place) (x.tuples p.place)))
    (some_injective {x = q} e) (omega arith, refl, refl)
performed_at x i (o ∷ l) (suc j) e = let r = performed_at x (suc i) l j e in (r.0 ∙ omega arith, r.1, r.2)

-- every occurrence is performed
pub at_performed : (x : Transaction) (i : ℕ) (l : List Occurrence) (j : ℕ) {o : Occurrence} → get_elem? l j ≡ some o
    → (p : Performed) × (get_elem? (performed_from x i l) j ≡ some p) × (p.occurrence ≡ o)
unfolding performed_from
at_performed x i [] j e = let z : ◌≡◌ {A = ℕ} 0 1 = cc in absurd (omega arith)
at_performed x i (o ∷ l) zero e = (_, refl, some_injective e)
at_performed x i (o ∷ l) (suc j) e = at_performed x (suc i) l j e

-- the write that follows a read of an update
pub record Followed (o following : Operation) : Type 0 where
  pub writes : following.action ≡ write
  pub place : following.place ≡ o.place
  pub relation : following.relation ≡ o.relation
  pub tuple : following.tuple ≡ o.tuple

-- an update reads and writes
update_actions : (k : StatementKind) → updates k ≡ true → actions_of k ≡ read ∷ write ∷ []
unfolding actions_of
update_actions k u =
    rw (
      u,
      kind_implies updates reads_plainly refl k u,
      kinds_apart updates locks refl k u,
      kinds_apart updates inserts refl k u,
      kinds_apart updates deletes refl k u,
    )
    refl

-- in what an update does to a tuple the write stands after the read
update_on_tuple : (p : Performed) (t : ℕ) (k : ℕ) {o : Operation} → updates (statement_done p).kind ≡ true → get_elem? (on_tuple p t) k ≡ some o
    → o.action ≡ read → (o' : Operation) × (get_elem? (on_tuple p t) (suc k) ≡ some o') × Followed o o'
unfolding operation_of
update_on_tuple p t k {o} u =
    subst
    (λ (l : List Operation). get_elem? l k ≡ some o → o.action ≡ read → (o' : Operation) × (get_elem? l (suc k) ≡ some o') × Followed o o')
    (sym (on_tuple_actions p t ∙ ap (map (operation_of p t)) (update_actions (statement_done p).kind u))) (pair k)
  where
    pair : (k : ℕ) → get_elem? (map (operation_of p t) (read ∷ write ∷ [])) k ≡ some o → o.action ≡ read
        → (o' : Operation) × (get_elem? (map (operation_of p t) (read ∷ write ∷ [])) (suc k) ≡ some o') × Followed o o'
    pair zero e r =
        let q = some_injective e in (
          operation_of p t write,
          refl,
          record {
            writes = refl;
            place = ap (λ (o : Operation). o.place) q;
            relation = ap (λ (o : Operation). o.relation) q;
            tuple = ap (λ (o : Operation). o.tuple) q;
          },
        )
    pair (suc zero) e r =
        let q : write ≡ read = ap (λ (o : Operation). o.action) (some_injective e) ∙ r in let z : ◌≡◌ {A = ℕ} 0 1 = cc in absurd (omega arith)
    pair (suc (suc k)) e r = let z : ◌≡◌ {A = ℕ} 0 1 = cc in absurd (omega arith)

-- the same among all operations of a statement
update_follows : (p : Performed) (k : ℕ) {o : Operation} → updates (statement_done p).kind ≡ true → get_elem? (operations_of p) k ≡ some o
    → o.action ≡ read → (o' : Operation) × (get_elem? (operations_of p) (suc k) ≡ some o') × Followed o o'
unfolding operations_of
update_follows p k {o} u = go (has_tests (statement_done p).kind) k
  where
    tuples : (k : ℕ) → get_elem? (flat_map (on_tuple p) p.tuples) k ≡ some o → o.action ≡ read
        → (o' : Operation) × (get_elem? (flat_map (on_tuple p) p.tuples) (suc k) ≡ some o') × Followed o o'
    tuples k e r =
        let c = chunk_at (on_tuple p) p.tuples k e in
        let f = update_on_tuple p c.value c.inner u c.within r in
        (f.0, c.next f.0 f.1, f.2)

    go : (c : Bool) (k : ℕ) → get_elem? (cond c (opening p ∷ []) [] ++ flat_map (on_tuple p) p.tuples) k ≡ some o → o.action ≡ read
        → (o' : Operation) × (get_elem? (cond c (opening p ∷ []) [] ++ flat_map (on_tuple p) p.tuples) (suc k) ≡ some o') × Followed o o'
    go true zero e r =
        let q : predicate_read ≡ read = ap (λ (o : Operation). o.action) (some_injective e) ∙ r in
        let z : ◌≡◌ {A = ℕ} 0 1 = cc in absurd (omega arith)
    go true (suc k) e r = tuples k e r
    go false k e r = tuples k e r

-- an operation of a transaction that is not its commit, with the statement that it belongs to
pub record InStatement (x : Transaction) (k : ℕ) (o : Operation) : Type 0 where
  pub performs : Performed
  pub at : get_elem? (performed x) o.place ≡ some performs
  pub belongs : Belongs performs o
  pub follows : updates (statement_done performs).kind ≡ true → o.action ≡ read
      → (o' : Operation) × (get_elem? (operations x) (suc k) ≡ some o') × Followed o o'

abbrev committing : Transaction → Operation
committing x = record { place = length (performed x); action = commit; relation = 0; tuple = 0; attributes = 0 }

-- the operations of the statements, without the commit
abbrev acting : Transaction → List Operation
acting x = flat_map operations_of (performed x)

-- the place of a performed statement is its position
performed_place : (x : Transaction) (j : ℕ) {p : Performed} → get_elem? (performed x) j ≡ some p → p.place ≡ j
unfolding performed
performed_place x j e = (performed_at x 0 (occurrences x.execution 0) j e).0 ∙ zero-add j

in_statement : (x : Transaction) (k : ℕ) {o : Operation} → get_elem? (acting x) k ≡ some o → InStatement x k o
unfolding operations
in_statement x k {o} e =
    let c = chunk_at operations_of (performed x) k e in
    let b = operation_belongs c.value c.inner c.within in
    record {
      performs = c.value;
      at =
          subst (λ (i : ℕ). get_elem? (performed x) i ≡ some c.value) (sym (b.place ∙ performed_place x c.index c.at)) c.at;
      belongs = b;
      follows = λ u r.
          let f = update_follows c.value c.inner u c.within r in
          let n = c.next f.0 f.1 in
          (f.0, get_elem?_append_left (acting x) (committing x ∷ []) (suc k) (get_elem?_lt (acting x) (suc k) n) ∙ n, f.2);
    }

-- an operation of a transaction is of a statement, or it is the commit, which is the last
pub operation_cases : (x : Transaction) (k : ℕ) {o : Operation} → get_elem? (operations x) k ≡ some o
    → InStatement x k o ⊎ ((o.action ≡ commit) × (suc k ≡ length (operations x)) × (o.place ≡ length (performed x)))
unfolding operations
operation_cases x k {o} e = go (position_cases (acting x) (committing x ∷ []) k e)
  where
    last : (j : ℕ) → k ≡ length (acting x) + j → get_elem? (committing x ∷ []) j ≡ some o
        → (o.action ≡ commit) × (suc k ≡ length (acting x ++ (committing x ∷ []))) × (o.place ≡ length (performed x))
    last zero eq h =
        let q : o ≡ committing x = sym (some_injective h) in
        (rw q, rw (length-append (acting x) (committing x ∷ [])) (omega arith), rw q)
    last (suc j) eq h = let z : ◌≡◌ {A = ℕ} 0 1 = cc in absurd (omega arith)

    go : ((k < length (acting x)) × (get_elem? (acting x) k ≡ some o))
        ⊎ ((j : ℕ) × (k ≡ length (acting x) + j) × (get_elem? (committing x ∷ []) j ≡ some o))
        → InStatement x k o ⊎ ((o.action ≡ commit) × (suc k ≡ length (acting x ++ (committing x ∷ []))) × (o.place ≡ length (performed x)))
    go (inl h) = inl (in_statement x k h.1)
    go (inr h) = inr (last h.0 h.1 h.2)

-- the place of an operation of a statement is the statement's index
chunk_place : (x : Transaction) (k : ℕ) {o : Operation} (c : Chunk operations_of (performed x) k o) → o.place ≡ c.index
chunk_place x k c = (operation_belongs c.value c.inner c.within).place ∙ performed_place x c.index c.at

-- an operation of a statement has an earlier place than the commit
pub acting_place : (x : Transaction) (k : ℕ) {o : Operation} → get_elem? (acting x) k ≡ some o → o.place < length (performed x)
acting_place x k {o} e =
    let c = chunk_at operations_of (performed x) k e in
    subst (λ (i : ℕ). i < length (performed x)) (sym (chunk_place x k c)) (get_elem?_lt (performed x) c.index c.at)

-- places never fall along the operations
pub places_rise : (x : Transaction) (k k' : ℕ) {o o' : Operation} → k < k' → get_elem? (operations x) k ≡ some o
    → get_elem? (operations x) k' ≡ some o' → o.place ≤ o'.place
unfolding operations
places_rise x k k' {o} {o'} lt e e' = go (position_cases (acting x) (committing x ∷ []) k e) (position_cases (acting x) (committing x ∷ []) k' e')
  where
    both : (c : Chunk operations_of (performed x) k o) × (c' : Chunk operations_of (performed x) k' o') × (c.index ≤ c'.index) → o.place ≤ o'.place
    both r =
        let a : o.place ≡ r.0.index = chunk_place x k r.0 in
        let b : o'.place ≡ r.1.index = chunk_place x k' r.1 in
        let le : r.0.index ≤ r.1.index = r.2 in
        omega arith

    last : (j : ℕ) → get_elem? (committing x ∷ []) j ≡ some o' → o'.place ≡ length (performed x)
    last zero h = ap (λ (o : Operation). o.place) (sym (some_injective h))
    last (suc j) h = let z : ◌≡◌ {A = ℕ} 0 1 = cc in absurd (omega arith)

    only : (j : ℕ) {o : Operation} → get_elem? (committing x ∷ []) j ≡ some o → j ≡ 0
    only zero h = refl
    only (suc j) h = let z : ◌≡◌ {A = ℕ} 0 1 = cc in absurd (omega arith)

    go : ((k < length (acting x)) × (get_elem? (acting x) k ≡ some o))
        ⊎ ((j : ℕ) × (k ≡ length (acting x) + j) × (get_elem? (committing x ∷ []) j ≡ some o))
        → ((k' < length (acting x)) × (get_elem? (acting x) k' ≡ some o'))
        ⊎ ((j : ℕ) × (k' ≡ length (acting x) + j) × (get_elem? (committing x ∷ []) j ≡ some o'))
        → o.place ≤ o'.place
    go (inl h) (inl h') = both (chunk_order operations_of (performed x) k k' lt h.1 h'.1)
    go (inl h) (inr h') =
        let a : o.place < length (performed x) = acting_place x k h.1 in
        let b : o'.place ≡ length (performed x) = last h'.0 h'.2 in
        omega arith
    go (inr h) (inl h') = let a : k ≡ length (acting x) + h.0 = h.1 in let b : k' < length (acting x) = h'.0 in absurd (omega arith)
    go (inr h) (inr h') =
        let a : k ≡ length (acting x) + h.0 = h.1 in
        let b : k' ≡ length (acting x) + h'.0 = h'.1 in
        let c : h'.0 ≡ 0 = only h'.0 h'.2 in
        absurd (omega arith)

-- the commit stands at the end
pub commit_at : (x : Transaction)
    → (k : ℕ) × (o : Operation) × (get_elem? (operations x) k ≡ some o) × (o.action ≡ commit) × (suc k ≡ length (operations x))
unfolding operations
commit_at x = (
  length (acting x),
  committing x,
  get_elem?_middle (acting x) (committing x) [],
  refl,
  sym (length-append (acting x) (committing x ∷ []) ∙ omega arith),
)

-- the tuples of a performed statement
pub performed_tuples : (x : Transaction) (j : ℕ) {p : Performed} → get_elem? (performed x) j ≡ some p
    → p.tuples ≡ chosen (statement_done p).kind (x.tuple p.place) (x.tuples p.place)
unfolding performed
performed_tuples x j e = (performed_at x 0 (occurrences x.execution 0) j e).2

-- a statement that does not test and has one tuple does what it does to that tuple
single : (p : Performed) (t : ℕ) → has_tests (statement_done p).kind ≡ false → p.tuples ≡ t ∷ [] → operations_of p ≡ on_tuple p t
unfolding operations_of flat_map
single p t h e =
    ap (λ (c : Bool). cond c (opening p ∷ []) [] ++ flat_map (on_tuple p) p.tuples) h
    ∙ ap (λ (l : List ℕ). flat_map (on_tuple p) l) e
    ∙ append-nil (on_tuple p t)

-- a statement of a kind that shields writes or locks its tuple
module _ (p : Performed) (t : ℕ) (tuples : p.tuples ≡ t ∷ []) where
  Claims : Type 0
  Claims = (k : ℕ) × (o : Operation) × (get_elem? (operations_of p) k ≡ some o) × (is_claim o.action ≡ true) × Memᴰ o.tuple p.tuples

  -- the operation at this position of what the statement does to its tuple
  claiming : (k : ℕ) (o : Operation) → has_tests (statement_done p).kind ≡ false → get_elem? (on_tuple p t) k ≡ some o
      → is_claim o.action ≡ true → o.tuple ≡ t → Claims
  unfolding Claims
  claiming k o h e c q = (
    k,
    o,
    subst (λ (l : List Operation). get_elem? l k ≡ some o) (sym (single p t h tuples)) e,
    c,
    subst (λ (l : List ℕ). Memᴰ o.tuple l) (sym tuples) (Memᴰ.head q),
  )

  shielding : shields (statement_done p).kind ≡ true → Claims
  unfolding actions_of operation_of
  shielding h =
      let k = (statement_done p).kind in
      let a = any_true is_claim (actions_of k) (kind_implies shields (λ k. any is_claim (actions_of k)) refl k h) in
      let i = member_get_elem? a.1 in
      claiming i.0 (operation_of p t a.0) (kinds_apart shields has_tests refl k h)
      (ap (λ (l : List Operation). get_elem? l i.0) (on_tuple_actions p t) ∙ get_elem?_map_some (operation_of p t) (actions_of k) i.0 i.1)
      a.2 refl

-- a statement without a predicate has one tuple
one_tuple : (c : StatementKind) (a : ℕ) (l : List ℕ) → chosen c a l ≡ cond (has_tests c) l (a ∷ [])
one_tuple Is a l = refl
one_tuple Ks a l = refl
one_tuple Ps a l = refl
one_tuple Ku a l = refl
one_tuple Pu a l = refl
one_tuple Kd a l = refl
one_tuple Pd a l = refl
one_tuple Kl a l = refl

pub shield_claims : (x : Transaction) (j : ℕ) {p : Performed} → get_elem? (performed x) j ≡ some p → shields (statement_done p).kind ≡ true
    → (k : ℕ) × (o : Operation) × (get_elem? (operations x) k ≡ some o) × (o.place ≡ j) × (is_claim o.action ≡ true)
    × (o.relation ≡ (statement_done p).relation) × Memᴰ o.tuple p.tuples
unfolding operations Claims
shield_claims x j {p} e sh =
    let t = x.tuple p.place in
    let tuples : p.tuples ≡ t ∷ [] =
    performed_tuples x j e ∙ one_tuple (statement_done p).kind t (x.tuples p.place)
    ∙ ap (λ (b : Bool). cond b (x.tuples p.place) (t ∷ [])) (kinds_apart shields has_tests refl (statement_done p).kind sh) in
    let w = shielding p t tuples sh in
    let c = chunk_position operations_of (performed x) j w.0 e w.2 in
    let b = operation_belongs p w.0 w.2 in (
      c.0,
      w.1,
      get_elem?_append_left (acting x) (committing x ∷ []) c.0 (get_elem?_lt (acting x) c.0 c.1) ∙ c.1,
      b.place ∙ performed_place x j e,
      w.3,
      b.relation,
      w.4,
    )
