-- The serial run and demand 3's conclusion (docs/MODEL.md, "The serial run"). Believed.
use Rattle.std.specs.Prelude.{true, cond, ◌≡◌, ℕ, eqb, ltb, length}
use mathlib.Core.List.{List, flat_map}
use Rattle.std.proofs.Math.Option.{some}
use Rattle.std.proofs.Math.ListN.{get_elem?}
use Rattle.spec_base.specs.Basic.{keep, count, has}
use Rattle.spec_text.specs.declared.Line.{Line}
use Rattle.spec_schedule.specs.Event.{Event, by, is_read, is_predicate_read, past_at, writes_of, seen, source, existence}
use Rattle.spec_schedule.specs.Schedule.{Schedule}

-- X1: the serial run in an order of the transactions: each one's events, whole
unfoldable pub serial_run : List ℕ → List Event → List Event
serial_run order events = flat_map (λ i. keep (by i) events) order

-- X2, X3, X6: the state before position k of a run: for each tuple the list of its writes, latest first
unfoldable pub state_at : List Event → ℕ → ℕ → ℕ → List Event
state_at run k r t = writes_of r t (past_at run k)

-- X4: the read at position n of the schedule takes each of its attributes from the same write as in the state
abbrev pub SameRead : List Event → ℕ → Event → (ℕ → ℕ → List Event) → Type 0
SameRead events n e state =
    (a : ℕ) → has e.attributes a ≡ true
    → source (seen (past_at events n) e.transaction e.relation e.tuple) a ≡ source (state e.relation e.tuple) a

-- X5: the predicate read takes, for every tuple of its relation, each tested attribute and existence from the same write
pub record SamePredicateRead (events : List Event) (n : ℕ) (e : Event) (state : ℕ → ℕ → List Event) : Type 0 where
  pub attributes : (t a : ℕ) → has e.attributes a ≡ true
      → source (seen (past_at events n) e.transaction e.relation t) a ≡ source (state e.relation t) a
  pub exists : (t : ℕ) → existence (seen (past_at events n) e.transaction e.relation t) ≡ existence (state e.relation t)

-- X8: one order that holds each transaction exactly once; in the serial run in that order each read and each predicate read takes
-- its values from the same writes as in the schedule, and each attribute of each tuple ends with the same last write.
-- An event of a schedule stands at one position k of the run: its transaction and number tell which operation it is
pub record SerialOrder (transactions : ℕ) (events : List Event) : Type 0 where
  pub order : List ℕ
  pub each_once : (i : ℕ) → count (eqb i) order ≡ cond (ltb i transactions) 1 0
  pub reads : (n : ℕ) (e : Event) → get_elem? events n ≡ some e → is_read e.action ≡ true
      → (k : ℕ) × (get_elem? (serial_run order events) k ≡ some e) × SameRead events n e (state_at (serial_run order events) k)
  pub predicate_reads : (n : ℕ) (e : Event) → get_elem? events n ≡ some e → is_predicate_read e.action ≡ true
      → (k : ℕ) × (get_elem? (serial_run order events) k ≡ some e) × SamePredicateRead events n e (state_at (serial_run order events) k)
  pub ends : (r t a : ℕ)
      → source (writes_of r t (past_at events (length events))) a
      ≡ source (state_at (serial_run order events) (length (serial_run order events)) r t) a
  pub ends_existence : (r t : ℕ)
      → existence (writes_of r t (past_at events (length events)))
      ≡ existence (state_at (serial_run order events) (length (serial_run order events)) r t)

-- demand 3 of one schedule
abbrev pub Serialisable : {lines : List Line} → Schedule lines → Type 0
Serialisable s = SerialOrder (length s.transactions) s.events
