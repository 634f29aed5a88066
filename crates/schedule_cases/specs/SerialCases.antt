-- More small closed cases of the serial run (X): reads and predicate reads of tuple 5 of relation 3 against states that a wrong rule would take,
-- orders that serve and that do not, and that a schedule is whole (H8).
use Rattle.std.specs.Prelude.{Bool, true, false, cond, ◌≡◌, refl, ℕ, zero, suc, eqb, ltb, length}
use Rattle.std.proofs.lemmas.Bool.{false≢true}
use mathlib.Core.List.{List, [], ◌∷◌, Memᴰ}
use Rattle.std.proofs.Math.Option.{some, some-ne-none, none-ne-some}
use Rattle.std.proofs.Common.{ap, sym, ◌∙◌, subst, zero-le, suc-le-suc, not-suc-le-zero, le_of_suc-le-suc, arith, eq-eqb, ne_eqb, ltb-true, le-ltb}
use Rattle.std.proofs.Math.ListN.{get_elem?}
use Rattle.spec_base.specs.Basic.{keep, count}
use Rattle.law_base.specs.BoolLaws.{true_false}
use Rattle.law_base.specs.ListLaws.{all_true, keep_all, some_injective}
use Rattle.law_base.specs.SetLaws.{has_below}
use Rattle.spec_text.specs.declared.Line.{Line}
use Rattle.spec_schedule.specs.Event.{Action, Event, by, is_read, is_predicate_read, past_at, writes_of, seen, source, existence}
use Rattle.spec_schedule.specs.Event.Action.{read, lock, write, insert, delete, predicate_read, commit}
use Rattle.spec_schedule.specs.Schedule.{Transaction, Schedule, every_attribute, events_of}
use Rattle.spec_schedule.specs.Serial.{serial_run, state_at, SameRead, SamePredicateRead, SerialOrder}
use Rattle.spec_schedule.specs.ScheduleExamples.{event, open_rules, unseen, reading, at_head, two_of, turned}

-- ---- X2 to X5: one read, one predicate read

-- X3: the state is kept for each tuple of each relation
state_elsewhere : state_at (event 0 0 0 write 3 5 1 ∷ event 0 1 1 write 0 5 1 ∷ event 0 2 2 write 3 0 1 ∷ event 0 3 3 write 5 3 1 ∷ []) 4 3 5
    ≡ event 0 0 0 write 3 5 1 ∷ []
unfolding open_rules
state_elsewhere = refl

-- two events of different transactions are not the same
apart : {d e : Event} → some d ≡ some e → eqb d.transaction e.transaction ≡ false → ⊥
apart {d} {e} h f = true_false (eq-eqb d.transaction e.transaction (ap (λ c. c.transaction) (some_injective h))) f

-- transaction 2 writes and commits, transaction 0 writes, transaction 1 reads, by a read or a lock
abbrev written : Event
written = event 2 0 0 write 3 5 every_attribute

abbrev read_last : Action → List Event
read_last action = written ∷ event 2 1 1 commit 0 0 0 ∷ unseen ∷ reading action ∷ []

-- X4, Req 03: it takes the committed write, also where the state has a later one of an attribute that is not read
read_committed : (action : Action) → SameRead (read_last action) 3 (reading action) (λ r t. event 4 0 0 write 3 5 2 ∷ written ∷ [])
unfolding open_rules
read_committed action zero h = refl
read_committed action (suc a) h = absurd (not-suc-le-zero (le_of_suc-le-suc (has_below 1 1 (suc a) (suc-le-suc (suc-le-suc zero-le)) h)))

-- attribute 63 alone is read
abbrev highest : ℕ
highest = 0x8000_0000_0000_0000

abbrev read_highest : Action → List Event
read_highest action = written ∷ event 2 1 1 commit 0 0 0 ∷ unseen ∷ event 1 0 0 action 3 5 highest ∷ []

-- not the latest write, nor the one that transaction 0 sees
read_latest : (action : Action) → SameRead (read_highest action) 3 (event 1 0 0 action 3 5 highest) (λ r t. unseen ∷ written ∷ []) → ⊥
unfolding open_rules
read_latest action f = apart (f 63 refl) refl

-- not the start
read_start : (action : Action) → SameRead (read_highest action) 3 (event 1 0 0 action 3 5 highest) (λ r t. []) → ⊥
unfolding open_rules
read_start action f = some-ne-none _ (f 63 refl)

-- the same with a predicate read of the relation
abbrev testing : Event
testing = event 1 0 0 predicate_read 3 0 highest

abbrev test_last : List Event
test_last = written ∷ event 2 1 1 commit 0 0 0 ∷ unseen ∷ testing ∷ []

-- X5
test_latest : SamePredicateRead test_last 3 testing (λ r t. writes_of r t (unseen ∷ written ∷ [])) → ⊥
unfolding open_rules
test_latest f = apart (f.attributes 5 63 refl) refl

test_start : SamePredicateRead test_last 3 testing (λ r t. []) → ⊥
unfolding open_rules
test_start f = some-ne-none _ (f.attributes 5 63 refl)

-- a predicate read that tests nothing takes no attribute
test_nothing : SamePredicateRead (written ∷ event 2 1 1 commit 0 0 0 ∷ []) 2 (event 1 0 0 predicate_read 3 0 0) (λ r t. [])
unfolding open_rules
test_nothing =
    record {
      attributes = λ t a h. absurd (not-suc-le-zero (has_below 0 0 a (suc-le-suc zero-le) h));
      exists = λ t. go t (eqb 5 t) refl;
    }
  where
    go : (t : ℕ) (b : Bool) → eqb 5 t ≡ b
        → existence (seen (past_at (written ∷ event 2 1 1 commit 0 0 0 ∷ []) 2) 1 3 t) ≡ existence []
    go t true e = rw e
    go t false e = rw e

-- transaction 2 inserts and commits, transaction 0 deletes, transaction 1 reads by a predicate that tests nothing
abbrev inserted : Event
inserted = event 2 0 0 insert 3 5 every_attribute

abbrev deleted : Event
deleted = event 0 0 0 delete 3 5 every_attribute

abbrev listing : Event
listing = event 1 0 0 predicate_read 3 0 0

abbrev list_last : List Event
list_last = inserted ∷ event 2 1 1 commit 0 0 0 ∷ deleted ∷ listing ∷ []

exists_latest : SamePredicateRead list_last 3 listing (λ r t. writes_of r t (deleted ∷ inserted ∷ [])) → ⊥
unfolding open_rules
exists_latest f = apart (f.exists 5) refl

exists_start : SamePredicateRead list_last 3 listing (λ r t. []) → ⊥
unfolding open_rules
exists_start f = some-ne-none _ (f.exists 5)

-- ---- X8: orders

-- nor a predicate read that has seen an insert, even where it tests nothing
abbrev born : Event
born = event 0 0 0 insert 3 5 every_attribute

predicate_reads_count : (s : SerialOrder 2 (two_of born listing)) → s.order ≡ 1 ∷ 0 ∷ [] → ⊥
unfolding open_rules
predicate_reads_count s e = go (subst
    (λ o. (k : ℕ) × (get_elem? (serial_run o (two_of born listing)) k ≡ some listing)
    × SamePredicateRead (two_of born listing) 2 listing (state_at (serial_run o (two_of born listing)) k))
    e (s.predicate_reads 2 listing refl refl))
  where
    go : (k : ℕ) × (get_elem? (turned born listing) k ≡ some listing)
        × SamePredicateRead (two_of born listing) 2 listing (state_at (turned born listing) k) → ⊥
    go (k, h, f) =
        let z : k ≡ 0 = at_head listing (event 1 1 1 commit 0 0 0 ∷ born ∷ event 0 1 1 commit 0 0 0 ∷ []) refl k h in
        some-ne-none _ ((subst (λ j. SamePredicateRead (two_of born listing) 2 listing (state_at (turned born listing) j)) z f).exists 5)

-- one transaction by itself, here with a read and a lock, is served by its own order
abbrev single : List Event
single = unseen ∷ event 0 1 1 read 3 5 1 ∷ event 0 2 2 lock 3 5 2 ∷ event 0 3 3 commit 0 0 0 ∷ []

single_serves : SerialOrder 1 single
unfolding open_rules
single_serves =
    record {
      order = 0 ∷ [];
      each_once = once;
      reads = reads;
      predicate_reads = none_such;
      ends = λ r t a. refl;
      ends_existence = λ r t. refl;
    }
  where
    once : (i : ℕ) → count (eqb i) (0 ∷ []) ≡ cond (ltb i 1) 1 0
    once zero = refl
    once (suc i) = rw (ne_eqb (suc i) 0 (λ e. omega arith), le-ltb (suc i) 1 (omega arith))

    SameAt : ℕ → Event → ℕ → Type 0
    SameAt k d a =
        source (seen (past_at single k) d.transaction d.relation d.tuple) a
        ≡ source (state_at (serial_run (0 ∷ []) single) k d.relation d.tuple) a

    reads : (n : ℕ) (e : Event) → get_elem? single n ≡ some e → is_read e.action ≡ true
        → (k : ℕ) × (get_elem? (serial_run (0 ∷ []) single) k ≡ some e) × SameRead single n e (state_at (serial_run (0 ∷ []) single) k)
    reads zero e h r = absurd (false≢true (ap (λ d. is_read d.action) (some_injective h) ∙ r))
    reads (suc zero) e h r = (1, h, λ a b. subst (λ d. SameAt 1 d a) (some_injective h) refl)
    reads (suc (suc zero)) e h r = (2, h, λ a b. subst (λ d. SameAt 2 d a) (some_injective h) refl)
    reads (suc (suc (suc zero))) e h r = absurd (false≢true (ap (λ d. is_read d.action) (some_injective h) ∙ r))
    reads (suc (suc (suc (suc n)))) e h r = absurd (none-ne-some e h)

    none_such : (n : ℕ) (e : Event) → get_elem? single n ≡ some e → is_predicate_read e.action ≡ true
        → (k : ℕ) × (get_elem? (serial_run (0 ∷ []) single) k ≡ some e) × SamePredicateRead single n e (state_at (serial_run (0 ∷ []) single) k)
    none_such zero e h r = absurd (false≢true (ap (λ d. is_predicate_read d.action) (some_injective h) ∙ r))
    none_such (suc zero) e h r = absurd (false≢true (ap (λ d. is_predicate_read d.action) (some_injective h) ∙ r))
    none_such (suc (suc zero)) e h r = absurd (false≢true (ap (λ d. is_predicate_read d.action) (some_injective h) ∙ r))
    none_such (suc (suc (suc zero))) e h r = absurd (false≢true (ap (λ d. is_predicate_read d.action) (some_injective h) ∙ r))
    none_such (suc (suc (suc (suc n)))) e h r = absurd (none-ne-some e h)

-- ---- H8: a schedule is whole

-- a schedule of one transaction is that transaction's events in their order, and nothing else
one_transaction : {lines : List Line} (s : Schedule lines) (x : Transaction) → s.transactions ≡ x ∷ [] → s.events ≡ events_of 0 x
one_transaction s x e = sym (keep_all (by 0) s.events (λ d m. first d m)) ∙ s.whole 0 x (ap (λ l. get_elem? l 0) e)
  where
    first : (d : Event) → Memᴰ d s.events → by 0 d ≡ true
    first d m =
        let l = ltb-true d.transaction (length s.transactions) (all_true (λ c. ltb c.transaction (length s.transactions)) s.known m) in
        let k : length s.transactions ≡ 1 = ap length e in
        eq-eqb d.transaction 0 (omega arith)

-- of two transactions the second one's events are whole too
second_transaction : {lines : List Line} (s : Schedule lines) (x y : Transaction) → s.transactions ≡ x ∷ y ∷ []
    → keep (by 1) s.events ≡ events_of 1 y
second_transaction s x y e = s.whole 1 y (ap (λ l. get_elem? l 1) e)
