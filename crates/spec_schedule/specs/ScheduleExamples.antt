-- Small closed cases that pin the rules of the schedules (H) and of the serial run (X), each under its label: those that the edits need. The
-- others stand in schedule_cases. And the words in which they all and the witnesses are written.
use Rattle.std.specs.Prelude.{Bool, true, false, not, ◌&&◌, ◌⊎◌, ◌≡◌, refl, ℕ, zero, suc, ◌+◌, ◌%◌, eqb, length, get_or, replicate}
use mathlib.Core.List.Memᴰ
use mathlib.Core.List.{List, [], ◌∷◌, flat_map, Memᴰ, ◌++◌, map}
use Rattle.std.proofs.Common.{inl, inr, ap, sym, ◌∙◌, subst, arith, add-zero, zero-add, eq-eqb}
use Rattle.spec_text.specs.declared.Line.{Line}
use Rattle.spec_text.specs.declared.LineKind.{LineKind}
use Rattle.spec_text.specs.declared.StatementKind.{StatementKind}
use Rattle.spec_graph.specs.Program.{Statement, Program, statement_of, in_front_of, run_of, links_of, programs_of}
use Rattle.spec_graph.specs.Unfolding.{inside, occurrences}
use Rattle.spec_graph.specs.Edge.{W, R, T, leads, binds}
use Rattle.spec_schedule.specs.Event.{Action, Event, by, writes_to, claims, past_at, writes_of, committed, seen, source, existence}
use Rattle.spec_schedule.specs.Event.{visible}
use Rattle.spec_schedule.specs.Event.{inserts_first, deletes_last, meets_visible, waits, same_statement, together, obeys, all_obey, is_read}
use Rattle.spec_schedule.specs.Serial.{serial_run, state_at, SameRead, SamePredicateRead, SerialOrder}
use Rattle.spec_schedule.specs.Schedule.{Tuple, Transaction, Operation, Schedule, every_attribute}
use Rattle.spec_schedule.specs.Schedule.{performed_from, performed, on_tuple, operations_of}
use Rattle.spec_schedule.specs.Schedule.{operations, numbered, events_of, link_kept, keys_kept}
use Rattle.std.proofs.Math.Option.{some, some-ne-none, none-ne-some}
use Rattle.std.proofs.Math.ListN.{get_elem?}
use Rattle.spec_base.specs.Basic.{keep, count, all}
use Rattle.law_base.specs.ListLaws.{some_injective, all_true, get_elem?_member}
use Rattle.spec_text.specs.declared.StatementKind.TheVariants.{Ps, Ku, Kd, Kl}
use Rattle.spec_graph.specs.Program.Item.{statement, loop}
use Rattle.spec_graph.specs.Program.Run.{done, next}
use Rattle.spec_graph.specs.Unfolding.Execution.{end, step}
use Rattle.spec_graph.specs.Unfolding.ItemExecution.{perform, turns}
use Rattle.spec_graph.specs.Unfolding.Turns.{stop, turn}
use Rattle.spec_schedule.specs.Event.Action.{read, lock, write, insert, delete, predicate_read, commit}
use Rattle.law_base.specs.BoolLaws.{true_false, and_of, not_true}

-- a line of a workload: kind id rel to reads writes tests, 0 for a value that the kind does not have
abbrev pub line : LineKind → ℕ → ℕ → ℕ → ℕ → ℕ → ℕ → Line
line k i rel to r w t = record { kind = k; id = i; rel = rel; to = to; reads = r; writes = w; tests = t }

-- a statement: kind id rel reads writes tests
abbrev pub says : StatementKind → ℕ → ℕ → ℕ → ℕ → ℕ → Statement
says k i rel r w t = record { kind = k; id = i; relation = rel; reads = r; writes = w; tests = t }

-- an event: transaction number place action relation tuple attributes
abbrev pub event : ℕ → ℕ → ℕ → Action → ℕ → ℕ → ℕ → Event
event i k p action r t x = record { transaction = i; number = k; place = p; action = action; relation = r; tuple = t; attributes = x }

-- opens what a workload and its transactions compute with
unfoldable pub open_workload : Bool
unfolding statement_of in_front_of run_of links_of programs_of inside occurrences flat_map W R T leads binds
    performed_from performed on_tuple operations_of operations numbered events_of link_kept keys_kept
open_workload = true

-- opens what the rules on events and the serial run compute with
unfoldable pub open_rules : Bool
unfolding flat_map serial_run state_at writes_to claims past_at writes_of committed seen source existence visible
    inserts_first deletes_last meets_visible waits same_statement together obeys all_obey
open_rules = true

-- the transactions of a list are of programs of the workload: none, one more
pub no_program : {programs : List Program} (x : Transaction) → Memᴰ x [] → Memᴰ x.program programs
no_program x m = absurd (Memᴰ.not-nil m)

pub one_program : {programs : List Program} (y : Transaction) {l : List Transaction} → Memᴰ y.program programs
    → ((x : Transaction) → Memᴰ x l → Memᴰ x.program programs)
    → (x : Transaction) → Memᴰ x (y ∷ l) → Memᴰ x.program programs
one_program {programs} y {l} h f x m = go (Memᴰ.cases_cons m)
  where
    go : (x ≡ y) ⊎ Memᴰ x l → Memᴰ x.program programs
    go (inl e) = Memᴰ.cast (ap (λ z. z.program) e) h
    go (inr n) = f x n

-- H8: transaction by transaction, from this number on, the events that are its own, and those of the whole transaction
abbrev pub kept : List Event → ℕ → List Transaction → List (List Event)
kept events n [] = []
kept events n (x ∷ l) = keep (by n) events ∷ kept events (suc n) l

abbrev pub wanted : ℕ → List Transaction → List (List Event)
wanted n [] = []
wanted n (x ∷ l) = events_of n x ∷ wanted (suc n) l

whole_from : (events : List Event) (n : ℕ) (l : List Transaction) → kept events n l ≡ wanted n l → (i : ℕ) (x : Transaction) → get_elem? l i ≡ some x
    → keep (by (n + i)) events ≡ events_of (n + i) x
whole_from events n [] h i x e = absurd (none-ne-some x e)
whole_from events n (y ∷ l) h zero x e =
    let first : keep (by n) events ≡ events_of n y = cc in
    rw (add-zero n) (first ∙ ap (events_of n) (some_injective e))
whole_from events n (y ∷ l) h (suc i) x e =
    let k : n + suc i ≡ suc n + i = omega arith in
    let rest : kept events (suc n) l ≡ wanted (suc n) l = cc in
    rw k (whole_from events (suc n) l rest i x e)

-- where they are the same, the events of each transaction are whole
pub wholes : (events : List Event) (l : List Transaction) → kept events 0 l ≡ wanted 0 l → (i : ℕ) (x : Transaction) → get_elem? l i ≡ some x
    → keep (by i) events ≡ events_of i x
wholes events l h i x e = rw zero-add at (whole_from events 0 l h i x e)

-- a transaction of one statement of this kind on relation 5, with reads 1, writes 2 and tests 4; as a key statement it is on
-- tuple 7, as a predicate statement on tuples 8, 9 and 10
abbrev pub alone : StatementKind → Transaction
alone k =
    record {
      program = record { body = next (statement (says k 0 5 1 2 4)) done; links = [] };
      execution = step perform end;
      tuple = λ i. 7;
      tuples = λ i. 8 ∷ 9 ∷ 10 ∷ [];
    }

abbrev pub operation : ℕ → Action → ℕ → ℕ → ℕ → Operation
operation p action r t x = record { place = p; action = action; relation = r; tuple = t; attributes = x }

abbrev pub last : List Operation
last = operation 1 commit 0 0 0 ∷ []

-- H2, Req 03: kl gives one lock of one tuple, with what it reads
lock_one : operations (alone Kl) ≡ operation 0 lock 5 7 1 ∷ last
unfolding open_workload
lock_one = refl

-- H2: ku gives a read and a write of one tuple
update_one : operations (alone Ku) ≡ operation 0 read 5 7 1 ∷ operation 0 write 5 7 2 ∷ last
unfolding open_workload
update_one = refl

-- H2, H13: kd gives one delete, of all attributes
delete_one : operations (alone Kd) ≡ operation 0 delete 5 7 0xffff_ffff_ffff_ffff ∷ last
unfolding open_workload
delete_one = refl

-- H2, H12: ps gives a predicate read of the relation, then a read of each tuple
select_many : operations (alone Ps)
    ≡ operation 0 predicate_read 5 0 4 ∷ operation 0 read 5 8 1 ∷ operation 0 read 5 9 1 ∷ operation 0 read 5 10 1 ∷ last
unfolding open_workload
select_many = refl

-- H8, X7: a transaction's events are numbered in their order, and the commit is the last
numbered_events : events_of 3 (alone Ku) ≡ event 3 0 0 read 5 7 1 ∷ event 3 1 0 write 5 7 2 ∷ event 3 2 1 commit 0 0 0 ∷ []
unfolding open_workload
numbered_events = refl

-- H4: in the lists below tuple 0 of each relation starts visible, the others start unborn
abbrev pub rules : List Event → Bool
rules events = all_obey (λ r t. eqb t 0) [] events

-- one event each, in its own statement: transaction number, place too, action, tuple
abbrev pub does : ℕ → ℕ → Action → ℕ → Event
does i k action t = event i k k action 0 t 1

-- H3: a statement's operations stand together
together_broken : rules (event 0 0 0 read 0 0 1 ∷ event 1 0 0 read 0 0 1 ∷ event 0 1 0 write 0 0 1 ∷ []) ≡ false
unfolding open_rules
together_broken = refl

-- H5: a delete is a tuple's last write
nothing_after : deletes_last (does 0 0 delete 0 ∷ []) (does 0 1 write 0) ≡ false
unfolding open_rules
nothing_after = refl

-- H6: what is read is visible in the version seen
read_uncommitted : rules (does 0 0 insert 1 ∷ does 1 0 read 1 ∷ []) ≡ false
unfolding open_rules
read_uncommitted = refl

read_deleted : rules (does 0 0 delete 0 ∷ does 0 1 read 0 ∷ []) ≡ false
unfolding open_rules
read_deleted = refl

-- H6, H10, Req 03: a lock meets what a read meets: the visible start; not an unborn tuple; what was inserted by itself, or by another that has
-- committed and not before; not what was deleted by itself, or by another that has committed
lock_meets :
    map rules
    ((does 0 0 lock 0 ∷ [])
    ∷ (does 0 0 lock 1 ∷ [])
    ∷ (does 0 0 insert 1 ∷ does 0 1 lock 1 ∷ [])
    ∷ (does 0 0 insert 1 ∷ does 0 1 commit 0 ∷ does 1 0 lock 1 ∷ [])
    ∷ (does 0 0 insert 1 ∷ does 1 0 lock 1 ∷ [])
    ∷ (does 0 0 delete 0 ∷ does 0 1 lock 0 ∷ [])
    ∷ (does 0 0 delete 0 ∷ does 0 1 commit 0 ∷ does 1 0 lock 0 ∷ [])
    ∷ [])
    ≡ true ∷ false ∷ true ∷ true ∷ false ∷ false ∷ false ∷ []
unfolding open_rules
lock_meets = refl

-- H9, Req 03: the writes of a tuple, latest first; inserts and deletes are writes; reads, locks and other tuples do not count
versions : writes_of 0 1
    (does 1 3 delete 1 ∷ does 1 2 lock 1 ∷ does 1 1 write 2 ∷ does 1 0 read 1 ∷ does 0 1 write 1 ∷ event 0 1 1 write 3 1 1 ∷ does 0 0 insert 1 ∷ [])
    ≡ does 1 3 delete 1 ∷ does 0 1 write 1 ∷ does 0 0 insert 1 ∷ []
unfolding open_rules
versions = refl

-- H9, H10, Req 03: a lock makes no version: each tuple has the writes that it had, and each transaction sees of it what it saw, whoever locks
lock_no_version : (past : List Event) (i k p r t x : ℕ) (j s u : ℕ)
    → (writes_of s u (event i k p lock r t x ∷ past) ≡ writes_of s u past) × (seen (event i k p lock r t x ∷ past) j s u ≡ seen past j s u)
unfolding open_rules
lock_no_version past i k p r t x j s u = (refl, refl)

-- transaction 0 has written tuple 0 and committed, then transaction 1 has written it
abbrev pub written_twice : List Event
written_twice = does 1 0 write 0 ∷ does 0 1 commit 0 ∷ does 0 0 write 0 ∷ []

-- H10: a transaction that has written nothing sees the last committed one
sees_committed : seen written_twice 2 0 0 ≡ does 0 0 write 0 ∷ []
unfolding open_rules
sees_committed = refl

-- H11: no transaction writes a tuple between another's write of it and that one's commit
write_early : rules (does 0 0 write 0 ∷ does 1 0 write 0 ∷ []) ≡ false
unfolding open_rules
write_early = refl

-- H11, Req 03: nor writes or locks it between another's write or lock of it and that one's commit, whatever attributes the two are of and
-- whoever does so; pairs of what is done to tuple 0, of which the second may come after the first only when that one is committed
abbrev claims_of_two : List (Action × Action)
claims_of_two = (lock, lock) ∷ (lock, write) ∷ (lock, delete) ∷ (write, lock) ∷ (write, write) ∷ (write, delete) ∷ []

-- the pairs in turn, for sets that meet and sets that do not, between these events of one and of another transaction
abbrev pub by_sets : ℕ → ℕ → (Event → List Event) → List (List Bool)
by_sets i j between =
    map
    (λ x. map (λ c. let first = event i 0 0 c.0 0 0 1 in rules (first ∷ between first ++ (event j 2 2 c.1 0 0 x ∷ []))) claims_of_two)
    (1 ∷ 2 ∷ [])

lock_early : map (λ (p : ℕ × ℕ). by_sets p.0 p.1 (λ e. [])) ((0, 1) ∷ (3, 2) ∷ []) ≡ replicate 2 (replicate 2 (replicate 6 false))
unfolding open_rules
lock_early = refl

-- H4: each relation's tuples start on their own
visible_relation : visible (λ r t. eqb r 1) 1 2 [] ≡ true
unfolding open_rules
visible_relation = refl

-- ---- H7: foreign keys

-- a key into relation 0, by the last digit
abbrev pub by_ten : ℕ → Tuple → Tuple
by_ten f t = record { relation = 0; number = t.number % 10 }

-- a loop of a child on relation 1 and its parent on relation 0, run for two turns on the tuples given by place
abbrev pub both_inside : (ℕ → ℕ) → Transaction
both_inside tuples =
    record {
      program =
          record {
            body = next (loop (next (statement (says Ku 0 1 0 1 0)) (next (statement (says Ku 1 0 0 1 0)) done))) done;
            links = record { key = 0; child = 0; parent = 1 } ∷ [];
          };
      execution = step (turns (turn (step perform (step perform end)) (turn (step perform (step perform end)) stop))) end;
      tuple = tuples;
      tuples = λ i. [];
    }

-- the link binds within a turn: child 10 with parent 0, child 11 with parent 1
pub link_broken : keys_kept by_ten (both_inside (λ i. get_or (10 ∷ 0 ∷ 10 ∷ 1 ∷ []) i 0)) ≡ false
unfolding open_workload
link_broken = refl

-- ---- H8: a schedule holds all operations of transactions of the workload's programs, and nothing else

commit_after : (i k : ℕ) (l : List Operation) (o : Operation) → numbered i k (l ++ (o ∷ [])) ≡ [] → ⊥
unfolding numbered
commit_after i k [] o e = omega (arith, ap length e)
commit_after i k (p ∷ l) o e = omega (arith, ap length e)

-- each transaction has its events
none_left_out : {lines : List Line} (s : Schedule lines) → s.events ≡ [] → s.transactions ≡ []
unfolding open_workload
none_left_out s e = go s.transactions refl
  where
    go : (l : List Transaction) → s.transactions ≡ l → l ≡ []
    go [] h = refl
    go (x ∷ l) h =
        absurd
        (commit_after 0 0 (flat_map operations_of (performed x)) _
        (sym (s.whole 0 x (ap (λ m. get_elem? m 0) h)) ∙ ap (keep (by 0)) e))

-- ---- X: the serial run

-- two transactions, interleaved: transaction 0 writes tuple 0, transaction 1 inserts tuple 1
abbrev mixed : List Event
mixed = does 0 0 write 0 ∷ does 1 0 insert 1 ∷ does 0 1 commit 0 ∷ does 1 1 commit 0 ∷ []

-- X1: the transactions one after the other, each whole, operations and tuples as in the schedule
run_in_order : serial_run (1 ∷ 0 ∷ []) mixed ≡ does 1 0 insert 1 ∷ does 1 1 commit 0 ∷ does 0 0 write 0 ∷ does 0 1 commit 0 ∷ []
unfolding open_rules
run_in_order = refl

-- X2: at first the list is empty
state_first : state_at mixed 0 0 0 ≡ []
unfolding open_rules
state_first = refl

-- X6: a commit changes nothing
state_commit : state_at mixed 4 0 0 ≡ state_at mixed 2 0 0
unfolding open_rules
state_commit = refl

-- transaction 0 writes tuple 0 and commits, then transaction 1 reads it
abbrev pub read_after : List Event
read_after = does 0 0 write 0 ∷ does 0 1 commit 0 ∷ does 1 0 read 0 ∷ []

-- X4: the read takes the write, so not the start
read_other : SameRead read_after 2 (does 1 0 read 0) (λ r t. []) → ⊥
unfolding open_rules
read_other f = some-ne-none _ (f 0 refl)

-- transaction 0 inserts tuple 5 and commits, then transaction 1 reads by a predicate that tests nothing
abbrev exists_after : List Event
exists_after = event 0 0 0 insert 0 5 0xffff_ffff_ffff_ffff ∷ does 0 1 commit 0 ∷ event 1 0 0 predicate_read 0 0 0 ∷ []

-- X5: the predicate read takes existence too
exists_other : SamePredicateRead exists_after 2 (event 1 0 0 predicate_read 0 0 0) (λ r t. []) → ⊥
unfolding open_rules
exists_other f = some-ne-none _ (f.exists 5)

-- X8: an order holds each transaction, here one that only commits
order_holds_each : (s : SerialOrder 1 (does 0 0 commit 0 ∷ [])) → s.order ≡ [] → ⊥
order_holds_each s e = let z : ◌≡◌ {A = ℕ} 0 1 = subst (λ l. count (eqb 0) l ≡ 1) e (s.each_once 0) in omega arith

-- X8: once
order_holds_once : (s : SerialOrder 1 (does 0 0 commit 0 ∷ [])) → s.order ≡ 0 ∷ 0 ∷ [] → ⊥
order_holds_once s e = let z : ◌≡◌ {A = ℕ} 2 1 = subst (λ l. count (eqb 0) l ≡ 1) e (s.each_once 0) in omega arith

-- what a tuple ends with in the serial run in an order
abbrev pub final : List Event → ℕ → ℕ → List ℕ → List Event
final events r t order = state_at (serial_run order events) (length (serial_run order events)) r t

-- transaction 0 writes tuple 5 of relation 3, then transaction 1 does
abbrev overwrites : List Event
overwrites =
    event 0 0 0 write 3 5 every_attribute ∷ does 0 1 commit 0 ∷ event 1 0 0 write 3 5 every_attribute ∷ does 1 1 commit 0 ∷ []

-- X8: each attribute ends with the same last write
ends_same : (s : SerialOrder 2 overwrites) → s.order ≡ 1 ∷ 0 ∷ [] → ⊥
unfolding open_rules
ends_same s e =
    let z : some (event 1 0 0 write 3 5 every_attribute) ≡ some (event 0 0 0 write 3 5 every_attribute) =
    subst (λ l. some (event 1 0 0 write 3 5 every_attribute) ≡ source (final overwrites 3 5 l) 63) e (s.ends 3 5 63) in
    let y : ◌≡◌ {A = ℕ} 1 0 = ap (λ (d : Event). d.transaction) (some_injective z) in
    omega arith

-- X4, Req 03: transaction 0 writes tuple 5 of relation 3, and transaction 1 reads it, by a read or a lock
abbrev pub unseen : Event
unseen = event 0 0 0 write 3 5 every_attribute

abbrev pub reading : Action → Event
reading action = event 1 0 0 action 3 5 1

-- an event stands at the head of a list alone where no other has its transaction and number
pub at_head : (a : Event) (rest : List Event) → all (λ b. not (eqb b.transaction a.transaction && eqb b.number a.number)) rest ≡ true
    → (k : ℕ) → get_elem? (a ∷ rest) k ≡ some a → k ≡ 0
at_head a rest h zero e = refl
at_head a rest h (suc k) e =
    absurd
    (true_false
    (and_of (eq-eqb a.transaction a.transaction refl) (eq-eqb a.number a.number refl))
    (not_true (eqb a.transaction a.transaction && eqb a.number a.number)
    (all_true (λ b. not (eqb b.transaction a.transaction && eqb b.number a.number)) h (get_elem?_member rest k e))))

-- what transaction 0 does to tuple 5 and commits, and then transaction 1
abbrev pub two_of : Event → Event → List Event
two_of d e = d ∷ event 0 1 1 commit 0 0 0 ∷ e ∷ event 1 1 1 commit 0 0 0 ∷ []

-- the serial run with transaction 1 first
abbrev pub turned : Event → Event → List Event
turned d e = e ∷ event 1 1 1 commit 0 0 0 ∷ d ∷ event 0 1 1 commit 0 0 0 ∷ []

-- what has read a write is not served by an order in which it comes first
pub not_turned : (action : Action) → is_read action ≡ true → (s : SerialOrder 2 (two_of unseen (reading action))) → s.order ≡ 1 ∷ 0 ∷ [] → ⊥
unfolding open_rules
not_turned action r s e = go (subst
    (λ o. (k : ℕ) × (get_elem? (serial_run o (two_of unseen (reading action))) k ≡ some (reading action))
    × SameRead (two_of unseen (reading action)) 2 (reading action) (state_at (serial_run o (two_of unseen (reading action))) k))
    e (s.reads 2 (reading action) refl r))
  where
    go : (k : ℕ) × (get_elem? (turned unseen (reading action)) k ≡ some (reading action))
        × SameRead (two_of unseen (reading action)) 2 (reading action) (state_at (turned unseen (reading action)) k) → ⊥
    go (k, h, f) =
        let z : k ≡ 0 = at_head (reading action) (event 1 1 1 commit 0 0 0 ∷ unseen ∷ event 0 1 1 commit 0 0 0 ∷ []) refl k h in
        some-ne-none _
        (subst (λ j. SameRead (two_of unseen (reading action)) 2 (reading action) (state_at (turned unseen (reading action)) j)) z f 0 refl)
