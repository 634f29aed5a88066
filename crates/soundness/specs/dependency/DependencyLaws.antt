-- Laws of dependencies: between transactions and between their events.
use Rattle.std.specs.Prelude.{◌≡◌, refl, Bool, true, false, not, ◌&&◌, ◌||◌, ◌⊎◌, List, ℕ, ◌<◌, eqb, length}
use Rattle.std.proofs.lemmas.Bool.{false≢true, eqb-false}
use Rattle.std.proofs.Common.{inl, inr, eqb-true, eq-eqb, ne_eqb, lt-ltb}
use Rattle.std.proofs.Math.Option.{Option, none, some}
use Rattle.std.proofs.Math.ListN.{get_elem?}
use Rattle.spec_base.specs.Basic.{meets}
use Rattle.law_base.specs.BoolLaws.{and_true, and_of, or_true, or_left, or_right, not_true, not_of_false}
use Rattle.law_base.specs.ListLaws.{any_numbers, any_numbers_of, get_elem?_lt}
use Rattle.spec_schedule.specs.Event.{Event, by, is_read, is_write, is_predicate_read, is_insert, is_delete}
use Rattle.soundness.specs.dependency.Dependency.{depends, before, at_position, same_tuple, touches, sees}
use Rattle.soundness.specs.dependency.Dependency.{write_write, write_read, write_predicate, read_write, predicate_write}

-- a test of what stands at a position passes where the event there passes
pub at_position_of : (events : List Event) (n : ℕ) (test : Event → Bool) {e : Event} → get_elem? events n ≡ some e → test e ≡ true
    → at_position events n test ≡ true
at_position_of events n test {e} stands h = rw (stands, at_position) h

-- where a test of what stands at a position passes, an event stands there and passes
pub at_position_found : (events : List Event) (n : ℕ) (test : Event → Bool) → at_position events n test ≡ true
    → (e : Event) × (get_elem? events n ≡ some e) × (test e ≡ true)
at_position_found events n test h = go (get_elem? events n) refl h
  where
    go : (o : Option Event) → get_elem? events n ≡ o → elim o as (λ x. Bool) [ none ↦ false | some e ↦ test e ] ≡ true
        → (e : Event) × (get_elem? events n ≡ some e) × (test e ≡ true)
    go none stands p = absurd (false≢true p)
    go (some e) stands p = (e, stands, p)

-- a dependency between two events is one between their transactions
pub before_of : (events : List Event) (m n : ℕ) {b a : Event} → depends events m b n a ≡ true → get_elem? events m ≡ some b
    → get_elem? events n ≡ some a → before events b.transaction a.transaction ≡ true
unfolding before
before_of events m n {b} {a} h at_b at_a =
    let own : (e : Event) → by e.transaction e ≡ true = λ e. eq-eqb e.transaction e.transaction refl in
    let inner = at_position_of events n (λ x. by a.transaction x && depends events m b n x) at_a (and_of (own a) h) in
    let outer =
    at_position_of
    events
    m
    (λ y. by b.transaction y && at_position events n (λ x. by a.transaction x && depends events m y n x))
    at_b
    (and_of (own b) inner) in
    any_numbers_of _ (length events) m (get_elem?_lt events m at_b) (any_numbers_of _ (length events) n (get_elem?_lt events n at_a) outer)

-- a dependency between two transactions comes from one between two of their events
pub before_found : (events : List Event) (i j : ℕ) → before events i j ≡ true
    → (m n : ℕ) × (b a : Event) × (get_elem? events m ≡ some b) × (get_elem? events n ≡ some a) × (b.transaction ≡ i) × (a.transaction ≡ j)
    × (depends events m b n a ≡ true)
unfolding before
before_found events i j h =
    let outer = any_numbers _ (length events) h in
    let inner = any_numbers _ (length events) outer.2 in
    let m = outer.0 in
    let n = inner.0 in
    let first = at_position_found events m _ inner.2 in
    let b = first.0 in
    let one = and_true (by i b) (at_position events n (λ x. by j x && depends events m b n x)) first.2 in
    let second = at_position_found events n _ one.1 in
    let a = second.0 in
    let two = and_true (by j a) (depends events m b n a) second.2 in
    (m, n, b, a, first.1, second.1, eqb-true b.transaction i one.0, eqb-true a.transaction j two.0, two.1)

-- ---- the five letters

-- which of the five letters a dependency from b at position m to a at position n is
pub data Letter (events : List Event) (m : ℕ) (b : Event) (n : ℕ) (a : Event) : Type 0 where
  is_write_write : write_write events m b n a ≡ true → Letter events m b n a
  is_write_read : write_read events m b n a ≡ true → Letter events m b n a
  is_write_predicate : write_predicate events m b n a ≡ true → Letter events m b n a
  is_read_write : read_write events m b n a ≡ true → Letter events m b n a
  is_predicate_write : predicate_write events m b n a ≡ true → Letter events m b n a

-- a letter between different transactions is a dependency
pub letter_depends : (events : List Event) (m n : ℕ) (b a : Event) → (b.transaction ≡ a.transaction → ⊥) → Letter events m b n a
    → depends events m b n a ≡ true
unfolding depends
letter_depends events m n b a d l = and_of (not_of_false (ne_eqb b.transaction a.transaction d)) (go l)
  where
    A : Bool
    A = write_write events m b n a

    B : Bool
    B = write_read events m b n a

    C : Bool
    C = write_predicate events m b n a

    D : Bool
    D = read_write events m b n a

    E : Bool
    E = predicate_write events m b n a

    go : Letter events m b n a → A || B || C || D || E ≡ true
    go (is_write_write h) = or_left E (or_left D (or_left C (or_left B h)))
    go (is_write_read h) = or_left E (or_left D (or_left C (or_right A h)))
    go (is_write_predicate h) = or_left E (or_left D (or_right (A || B) h))
    go (is_read_write h) = or_left E (or_right (A || B || C) h)
    go (is_predicate_write h) = or_right (A || B || C || D) h

-- a dependency is a letter between different transactions
pub depends_letter : (events : List Event) (m n : ℕ) (b a : Event) → depends events m b n a ≡ true
    → (b.transaction ≡ a.transaction → ⊥) × Letter events m b n a
unfolding depends
depends_letter events m n b a h =
    let t = and_true (not (eqb b.transaction a.transaction)) (A || B || C || D || E) h in
    let d = eqb-false b.transaction a.transaction (not_true (eqb b.transaction a.transaction) t.0) in
    (d, four (or_true (A || B || C || D) E t.1))
  where
    A : Bool
    A = write_write events m b n a

    B : Bool
    B = write_read events m b n a

    C : Bool
    C = write_predicate events m b n a

    D : Bool
    D = read_write events m b n a

    E : Bool
    E = predicate_write events m b n a

    one : (A ≡ true) ⊎ (B ≡ true) → Letter events m b n a
    one (inl k) = is_write_write k
    one (inr k) = is_write_read k

    two : (A || B ≡ true) ⊎ (C ≡ true) → Letter events m b n a
    two (inl k) = one (or_true A B k)
    two (inr k) = is_write_predicate k

    three : (A || B || C ≡ true) ⊎ (D ≡ true) → Letter events m b n a
    three (inl k) = two (or_true (A || B) C k)
    three (inr k) = is_read_write k

    four : (A || B || C || D ≡ true) ⊎ (E ≡ true) → Letter events m b n a
    four (inl k) = three (or_true (A || B || C) D k)
    four (inr k) = is_predicate_write k

-- ---- each letter from its parts

-- over the same tuple
tuple_of : (b a : Event) → b.relation ≡ a.relation → b.tuple ≡ a.tuple → same_tuple b a ≡ true
unfolding same_tuple
tuple_of b a h k = and_of (eq-eqb b.relation a.relation h) (eq-eqb b.tuple a.tuple k)

-- a write changes what a predicate read of its relation takes, if it is an insert or delete or shares a tested attribute
pub touches_of : (w p : Event) → w.relation ≡ p.relation
    → is_insert w.action || is_delete w.action || meets w.attributes p.attributes ≡ true → touches w p ≡ true
unfolding touches
touches_of w p h k = and_of (eq-eqb w.relation p.relation h) k

-- A: of two writes of a tuple that share an attribute, the later depends on the earlier
pub depends_write_write : (events : List Event) (m n : ℕ) (b a : Event) → (b.transaction ≡ a.transaction → ⊥)
    → is_write b.action ≡ true → is_write a.action ≡ true → b.relation ≡ a.relation → b.tuple ≡ a.tuple
    → meets b.attributes a.attributes ≡ true → m < n → depends events m b n a ≡ true
unfolding write_write
depends_write_write events m n b a d h k r t s l =
    letter_depends events m n b a d (is_write_write (and_of (and_of (and_of (and_of h k) (tuple_of b a r t)) s) (lt-ltb m n l)))

-- B: a read depends on a write of its tuple that shares an attribute and that it sees
pub depends_write_read : (events : List Event) (m n : ℕ) (b a : Event) → (b.transaction ≡ a.transaction → ⊥)
    → is_write b.action ≡ true → is_read a.action ≡ true → b.relation ≡ a.relation → b.tuple ≡ a.tuple
    → meets b.attributes a.attributes ≡ true → sees events n a b ≡ true → depends events m b n a ≡ true
unfolding write_read
depends_write_read events m n b a d h k r t s l =
    letter_depends events m n b a d (is_write_read (and_of (and_of (and_of (and_of h k) (tuple_of b a r t)) s) l))

-- C: a predicate read depends on a write that changes what it takes and that it sees
pub depends_write_predicate : (events : List Event) (m n : ℕ) (b a : Event) → (b.transaction ≡ a.transaction → ⊥)
    → is_write b.action ≡ true → is_predicate_read a.action ≡ true → touches b a ≡ true → sees events n a b ≡ true
    → depends events m b n a ≡ true
unfolding write_predicate
depends_write_predicate events m n b a d h k s l =
    letter_depends events m n b a d (is_write_predicate (and_of (and_of (and_of h k) s) l))

-- D: a write depends on a read of its tuple that shares an attribute and does not see it
pub depends_read_write : (events : List Event) (m n : ℕ) (b a : Event) → (b.transaction ≡ a.transaction → ⊥)
    → is_read b.action ≡ true → is_write a.action ≡ true → b.relation ≡ a.relation → b.tuple ≡ a.tuple
    → meets b.attributes a.attributes ≡ true → sees events m b a ≡ false → depends events m b n a ≡ true
unfolding read_write
depends_read_write events m n b a d h k r t s l =
    letter_depends events m n b a d (is_read_write (and_of (and_of (and_of (and_of h k) (tuple_of b a r t)) s) (not_of_false l)))

-- E: a write depends on a predicate read if it changes what that takes and is not seen by it
pub depends_predicate_write : (events : List Event) (m n : ℕ) (b a : Event) → (b.transaction ≡ a.transaction → ⊥)
    → is_predicate_read b.action ≡ true → is_write a.action ≡ true → touches a b ≡ true → sees events m b a ≡ false
    → depends events m b n a ≡ true
unfolding predicate_write
depends_predicate_write events m n b a d h k s l =
    letter_depends events m n b a d (is_predicate_write (and_of (and_of (and_of h k) s) (not_of_false l)))
