-- Transactions of straight programs; a schedule from its transactions and events, each rule by one computed test; and the rules with a part of
-- the ban on writing and locking let through, so that a witness can say which part refuses its events.
use Rattle.std.specs.Prelude.{Bool, true, false, not, ◌&&◌, ◌||◌, ◌≡◌, refl, ℕ, ltb, length}
use mathlib.Core.List.{List, [], ◌∷◌, map, Memᴰ}
use Rattle.std.proofs.Math.Option.{some}
use Rattle.std.proofs.Common.{ap, arith}
use Rattle.std.proofs.Math.ListN.{get_elem?}
use Rattle.spec_base.specs.Basic.{all, keep}
use Rattle.law_base.specs.ListLaws.{get_elem?_member}
use Rattle.spec_text.specs.declared.Line.{Line}
use Rattle.spec_text.specs.Value.{Given, value_of}
use Rattle.spec_report.specs.State.{Robust}
use Rattle.spec_graph.specs.Program.{Statement, Link, Run, Program, programs_of}
use Rattle.spec_graph.specs.Program.Item.{statement}
use Rattle.spec_graph.specs.Program.Run.{done, next}
use Rattle.spec_graph.specs.Unfolding.{Execution}
use Rattle.spec_graph.specs.Unfolding.Execution.{end, step}
use Rattle.spec_graph.specs.Unfolding.ItemExecution.{perform}
use Rattle.spec_schedule.specs.Event.{Event, by, is_write, is_lock, is_claim, claims, committed}
use Rattle.spec_schedule.specs.Event.{inserts_first, deletes_last, meets_visible, waits, together, obeys, all_obey}
use Rattle.spec_schedule.specs.Schedule.{Tuple, Transaction, Schedule, keys_kept, events_of}
use Rattle.spec_schedule.specs.Serial.{SerialOrder}
use Rattle.spec_schedule.specs.ScheduleExamples.{kept, wanted, wholes, no_program, one_program, open_workload}
use Rattle.witness.specs.Orders.{none_serves, none_serves_lem, open_orders}

-- ---- a transaction

-- a program of these statements in a row, and its execution
abbrev pub in_row : List Statement → Run
in_row [] = done
in_row (s ∷ l) = next (statement s) (in_row l)

abbrev pub perform_all : (l : List Statement) → Execution (in_row l)
perform_all [] = end
perform_all (s ∷ l) = step perform (perform_all l)

-- a link: key child parent
abbrev pub link : ℕ → ℕ → ℕ → Link
link key child parent = record { key = key; child = child; parent = parent }

-- a run of the program of these statements in a row with these links, each statement on tuple 0
abbrev pub in_turn : List Statement → List Link → Transaction
in_turn l links = record { program = record { body = in_row l; links = links }; execution = perform_all l; tuple = λ i. 0; tuples = λ i. [] }

-- ---- a schedule

-- each transaction is of the program with the number that stands in its place
pub of_programs_lem : (programs : List Program) (numbers : List ℕ) (l : List Transaction)
    → map (λ (x : Transaction). some x.program) l ≡ map (get_elem? programs) numbers
    → (x : Transaction) → Memᴰ x l → Memᴰ x.program programs
of_programs_lem programs numbers [] h = no_program
of_programs_lem programs [] (y ∷ l) h = let z : ◌≡◌ {A = ℕ} 0 1 = cc in absurd (omega arith)
of_programs_lem programs (n ∷ numbers) (y ∷ l) h =
    let first : get_elem? programs n ≡ some y.program = cc in
    let rest : map (λ (x : Transaction). some x.program) l ≡ map (get_elem? programs) numbers = cc in
    one_program y (get_elem?_member programs n first) (of_programs_lem programs numbers l rest)

-- what a schedule is but for the rules on its events: transactions of the workload's programs and all their events in some order
pub record Interleaving (lines : List Line) : Type 0 where
  pub transactions : List Transaction
  pub of_programs : (x : Transaction) → Memᴰ x transactions → Memᴰ x.program (programs_of lines)
  pub start : ℕ → ℕ → Bool
  pub key : ℕ → Tuple → Tuple
  pub kept : all (keys_kept key) transactions ≡ true
  pub events : List Event
  pub known : all (λ e. ltb e.transaction (length transactions)) events ≡ true
  pub whole : (i : ℕ) (x : Transaction) → get_elem? transactions i ≡ some x → keep (by i) events ≡ events_of i x

-- `numbers` are those of the transactions' programs
abbrev pub interleaving : (lines : List Line) (numbers : List ℕ) (transactions : List Transaction) (start : ℕ → ℕ → Bool)
    (key : ℕ → Tuple → Tuple) (events : List Event)
    → map (λ (x : Transaction). some x.program) transactions ≡ map (get_elem? (programs_of lines)) numbers
    → all (keys_kept key) transactions ≡ true
    → all (λ e. ltb e.transaction (length transactions)) events ≡ true
    → kept events 0 transactions ≡ wanted 0 transactions
    → Interleaving lines
interleaving lines numbers transactions start key events programs keys known whole =
    record {
      transactions = transactions;
      of_programs = of_programs_lem (programs_of lines) numbers transactions programs;
      start = start;
      key = key;
      kept = keys;
      events = events;
      known = known;
      whole = wholes events transactions whole;
    }

-- with the rules it is a schedule
abbrev pub scheduled : {lines : List Line} (x : Interleaving lines) → all_obey x.start [] x.events ≡ true → Schedule lines
scheduled x obeyed =
    record {
      transactions = x.transactions;
      of_programs = x.of_programs;
      start = x.start;
      key = x.key;
      kept = x.kept;
      events = x.events;
      known = x.known;
      whole = x.whole;
      obeyed = obeyed;
    }

-- every tuple starts visible
abbrev pub all_visible : ℕ → ℕ → Bool
all_visible r t = true

-- ---- the ban by its parts

-- the new parts of the ban: what stands behind what
abbrev pub lock_behind_lock : Event → Event → Bool
lock_behind_lock w e = is_lock w.action && is_lock e.action

abbrev pub lock_behind_write : Event → Event → Bool
lock_behind_write w e = is_write w.action && is_lock e.action

abbrev pub write_behind_lock : Event → Event → Bool
write_behind_lock w e = is_lock w.action && is_write e.action

-- H11 with these pairs let through
unfoldable pub waits_but : (Event → Event → Bool) → List Event → Event → Bool
waits_but through past e =
    not (is_claim e.action)
    || all (λ w. through w e || (by e.transaction w || committed past w.transaction)) (keep (claims e.relation e.tuple) past)

unfoldable pub obeys_but : (Event → Event → Bool) → (ℕ → ℕ → Bool) → List Event → Event → Bool
obeys_but through start past e =
    inserts_first start past e && deletes_last past e && meets_visible start past e && waits_but through past e && together past e

-- all the rules with these pairs let through
unfoldable pub all_obey_but : (Event → Event → Bool) → (ℕ → ℕ → Bool) → List Event → List Event → Bool
all_obey_but through start past [] = true
all_obey_but through start past (e ∷ rest) = obeys_but through start past e && all_obey_but through start (e ∷ past) rest

-- with none let through they are the rules
pub same_rules : (start : ℕ → ℕ → Bool) (past events : List Event) → all_obey_but (λ w e. false) start past events ≡ all_obey start past events
unfolding all_obey_but obeys_but waits_but all_obey obeys waits
same_rules start past [] = refl
same_rules start past (e ∷ rest) = ap (λ (b : Bool). obeys start past e && b) (same_rules start (e ∷ past) rest)

-- Demand 3 needs this part of the ban: the workload is given and robust, and an interleaving of it meets every rule but for pairs of this part, is
-- refused for these, and has no serial order.
pub record Needed (lines : List Line) (part : Event → Event → Bool) : Type 0 where
  pub given : Given (value_of lines)
  pub robust : Robust lines
  pub unbanned : Interleaving lines
  pub let_through : all_obey_but part unbanned.start [] unbanned.events ≡ true
  pub refused : all_obey unbanned.start [] unbanned.events ≡ false
  pub no_order : SerialOrder (length unbanned.transactions) unbanned.events → ⊥

-- by one computed test each
abbrev pub needed : {lines : List Line} {part : Event → Event → Bool} → Given (value_of lines) → Robust lines → (x : Interleaving lines)
    → all_obey_but part x.start [] x.events ≡ true
    → all_obey x.start [] x.events ≡ false
    → none_serves (length x.transactions) x.events ≡ true
    → Needed lines part
needed given robust x let_through refused none =
    record {
      given = given;
      robust = robust;
      unbanned = x;
      let_through = let_through;
      refused = refused;
      no_order = none_serves_lem (length x.transactions) x.events none;
    }

-- opens what the rules with pairs let through compute with
unfoldable pub open_parts : Bool
unfolding open_workload open_orders waits_but obeys_but all_obey_but
open_parts = true
