-- Dependencies between the events of different transactions, computed over a plain list of events.
use Rattle.std.specs.Prelude.{Bool, true, false, not, ◌&&◌, ◌||◌, List, ◌≡◌, ℕ, ◌<◌, eqb, ltb, length, take}
use Rattle.std.proofs.Math.Option.{none, some}
use Rattle.std.proofs.Math.ListN.{get_elem?}
use Rattle.spec_base.specs.Basic.{any, keep, numbers, meets}
use Rattle.spec_schedule.specs.Event.{Event, by, is_read, is_write, is_predicate_read, is_insert, is_delete, past_at, seen}
use Rattle.spec_schedule.specs.Schedule.{every_attribute}

-- X7: the same operation of the same transaction
unfoldable pub same : Event → Event → Bool
same e f = eqb e.transaction f.transaction && eqb e.number f.number

-- both are over the same tuple
unfoldable pub same_tuple : Event → Event → Bool
same_tuple e f = eqb e.relation f.relation && eqb e.tuple f.tuple

-- the write w changes what a predicate read p of its relation takes: existence, or a tested attribute
unfoldable pub touches : Event → Event → Bool
touches w p = eqb w.relation p.relation && (is_insert w.action || is_delete w.action || meets w.attributes p.attributes)

-- the write w is at or before the version that the event at position n, of the transaction of e, sees of the tuple of w
unfoldable pub sees : List Event → ℕ → Event → Event → Bool
sees events n e w = any (same w) (seen (past_at events n) e.transaction w.relation w.tuple)

-- the five letters, from event b at position m to event a at position n
unfoldable pub write_write : List Event → ℕ → Event → ℕ → Event → Bool
write_write events m b n a =
    is_write b.action && is_write a.action && same_tuple b a && meets b.attributes a.attributes && ltb m n

unfoldable pub write_read : List Event → ℕ → Event → ℕ → Event → Bool
write_read events m b n a =
    is_write b.action && is_read a.action && same_tuple b a && meets b.attributes a.attributes && sees events n a b

unfoldable pub write_predicate : List Event → ℕ → Event → ℕ → Event → Bool
write_predicate events m b n a = is_write b.action && is_predicate_read a.action && touches b a && sees events n a b

unfoldable pub read_write : List Event → ℕ → Event → ℕ → Event → Bool
read_write events m b n a =
    is_read b.action && is_write a.action && same_tuple b a && meets b.attributes a.attributes && not (sees events m b a)

unfoldable pub predicate_write : List Event → ℕ → Event → ℕ → Event → Bool
predicate_write events m b n a = is_predicate_read b.action && is_write a.action && touches a b && not (sees events m b a)

-- a dependency from event b at position m to event a at position n
unfoldable pub depends : List Event → ℕ → Event → ℕ → Event → Bool
depends events m b n a =
    not (eqb b.transaction a.transaction)
    && (write_write events m b n a || write_read events m b n a || write_predicate events m b n a || read_write events m b n a
    || predicate_write events m b n a)

-- what stands at a position, if it passes the test
abbrev pub at_position : List Event → ℕ → (Event → Bool) → Bool
at_position events n test = elim (get_elem? events n) [ none ↦ false | some e ↦ test e ]

-- transaction j depends on transaction i
unfoldable pub before : List Event → ℕ → ℕ → Bool
before events i j =
    any
    (λ m. any
    (λ n. at_position events m (λ b. by i b && at_position events n (λ a. by j a && depends events m b n a)))
    (numbers (length events)))
    (numbers (length events))

-- each event's number is how many of its transaction's events stand before it
abbrev pub Numbered : List Event → Type 0
Numbered events = (n : ℕ) (e : Event) → get_elem? events n ≡ some e → e.number ≡ length (keep (by e.transaction) (take n events))

-- inserts and deletes write every attribute
abbrev pub Filled : List Event → Type 0
Filled events =
    (n : ℕ) (e : Event) → get_elem? events n ≡ some e → is_insert e.action || is_delete e.action ≡ true → e.attributes ≡ every_attribute

-- every event is of one of the transactions 0 to count - 1
abbrev pub Known : ℕ → List Event → Type 0
Known count events = (n : ℕ) (e : Event) → get_elem? events n ≡ some e → e.transaction < count
