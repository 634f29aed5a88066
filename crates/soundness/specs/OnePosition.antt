-- The serial run holds an event of a schedule at one position only: its transaction and number tell which operation it is.
-- What it is for: `SerialOrder` says of a read that it takes the same at some position k of the run where it stands; as there is no other
-- such position, it says so of the read itself.
use mathlib.Core.List.{List, Memᴰ}
use Rattle.std.specs.Prelude.{◌⊎◌, ◌≡◌, refl, true, ℕ, ◌<◌, length}
use Rattle.std.proofs.Common.{inl, inr, subst, arith}
use Rattle.std.proofs.Math.Option.{some}
use Rattle.std.proofs.Math.Decide.{dec_lt}
use Rattle.std.proofs.Math.ListN.{get_elem?}
use Rattle.spec_text.specs.declared.Line.{Line}
use Rattle.spec_schedule.specs.Event.{Event, is_read, is_predicate_read}
use Rattle.spec_schedule.specs.Schedule.{Schedule}
use Rattle.spec_schedule.specs.Serial.{serial_run, state_at, SameRead, SamePredicateRead, Serialisable}
use Rattle.soundness.specs.dependency.Ordered.{Earlier, ordered_earlier, ordered_past, position_take}
use Rattle.soundness.specs.dependency.Positions.{earlier_once}
use Rattle.soundness.specs.dependency.SerialLaw.{EachOnce, Precedes, ahead_apart, ordered_run}
use Rattle.soundness.specs.transactions.Events.{schedule_numbered}

module _ {lines : List Line} (s : Schedule lines) where
  module _ (order : List ℕ) (once : EachOnce (length s.transactions) order) where
    abbrev run : List Event
    run = serial_run order s.events

    -- no event comes before itself
    apart : {e : Event} → Precedes (Earlier order) s.events e e → ⊥
    apart (inl h) = ahead_apart (length s.transactions) order once h refl
    apart (inr h) = earlier_once s.events (schedule_numbered s) h.1 h.1

    -- so it does not stand at an earlier position too
    not_earlier : (k j : ℕ) {e : Event} → k < j → get_elem? run k ≡ some e → get_elem? run j ≡ some e → ⊥
    not_earlier k j l h g =
        apart
        (ordered_past (Precedes (Earlier order) s.events) run j (ordered_run (Earlier order) order s.events (ordered_earlier order)) g
        (position_take j run k l h))

    -- in the serial run in an order that holds each transaction once, an event stands at one position
    pub one_position_in_run : (k j : ℕ) {e : Event} → get_elem? run k ≡ some e → get_elem? run j ≡ some e → k ≡ j
    one_position_in_run k j h g = go (dec_lt k j) (dec_lt j k)
      where
        go : Dec (k < j) → Dec (j < k) → k ≡ j
        go (yes l) d = absurd (not_earlier k j l h g)
        go (no d) (yes l) = absurd (not_earlier j k l g h)
        go (no d) (no c) = omega arith

  -- a read takes the same wherever it stands in the run
  pub read_wherever : (o : Serialisable s) (n k : ℕ) {e : Event} → get_elem? s.events n ≡ some e → is_read e.action ≡ true
      → get_elem? (serial_run o.order s.events) k ≡ some e
      → SameRead s.events n e (state_at (serial_run o.order s.events) k)
  read_wherever o n k {e} h r g =
      let t = o.reads n e h r in
      subst (λ (j : ℕ). SameRead s.events n e (state_at (serial_run o.order s.events) j))
      (one_position_in_run o.order o.each_once t.0 k t.1 g) t.2

  -- and so does a predicate read
  pub predicate_read_wherever : (o : Serialisable s) (n k : ℕ) {e : Event} → get_elem? s.events n ≡ some e
      → is_predicate_read e.action ≡ true → get_elem? (serial_run o.order s.events) k ≡ some e
      → SamePredicateRead s.events n e (state_at (serial_run o.order s.events) k)
  predicate_read_wherever o n k {e} h r g =
      let t = o.predicate_reads n e h r in
      subst (λ (j : ℕ). SamePredicateRead s.events n e (state_at (serial_run o.order s.events) j))
      (one_position_in_run o.order o.each_once t.0 k t.1 g) t.2
