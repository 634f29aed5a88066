-- Req 03, a lock makes the difference: a robust workload whose stations lock a contact before they judge it, an interleaved schedule of it and its
-- serial order. With `ks` for `kl` the same programs are dangerous, and three schedules of them have no serial order. Each of the three is
-- refused once the first read is a lock; two of them by one part of the ban alone, which demand 3 therefore needs: no write behind another's lock,
-- no lock behind another's write. (No lock behind another's lock: LockedParent.)
use Rattle.std.specs.Prelude.{true, false, ◌||◌, List, [], ◌∷◌, map, ◌≡◌, refl}
use Rattle.std.proofs.Math.Option.{some}
use Rattle.spec_text.specs.declared.Line.{Line}
use Rattle.spec_text.specs.declared.LineKind.TheVariants.{Rl, Pr, St}
use Rattle.spec_text.specs.declared.StatementKind.{StatementKind}
use Rattle.spec_text.specs.declared.StatementKind.TheVariants.{Ks, Ku, Kl}
use Rattle.spec_text.specs.Value.{Given, value_of}
use Rattle.law_text.specs.Written.{written, rereads}
use Rattle.law_text.specs.ValueLaws.{value_given}
use Rattle.law_walk.specs.Reach.{danger_test}
use Rattle.spec_report.specs.State.{Danger, Robust, summary_graph}
use Rattle.law_report.specs.Reports.{robust_of, danger_of}
use Rattle.spec_schedule.specs.Event.{Action, Event, past_at, seen, source, waits}
use Rattle.spec_schedule.specs.Event.Action.{read, lock, write, commit}
use Rattle.spec_schedule.specs.Schedule.{Transaction, Schedule}
use Rattle.spec_schedule.specs.Serial.{Serialisable}
use Rattle.schedule_cases.specs.SerialTest.{serial_by_test}
use Rattle.schedule_cases.specs.Unserialisable.{both_first}
use Rattle.spec_schedule.specs.ScheduleExamples.{line, says, event, open_workload, open_rules}
use Rattle.cases.specs.Computed.{all_pass}
use Rattle.witness.specs.Joined.{demand}
use Rattle.witness.specs.Orders.{none_serves_lem, one_serves, open_orders}
use Rattle.witness.specs.Schedules.{in_turn, all_visible, interleaving, scheduled}
use Rattle.witness.specs.Schedules.{lock_behind_lock, lock_behind_write, write_behind_lock, all_obey_but, Needed, needed, open_parts}

-- relation 0 is contacts; `kl`, or another kind in its place
-- rl 0 - - 1 - -
-- pr 0 - - - - -
-- kl 0 0 - 1 - -
-- ku 1 0 - 0 1 -
-- pr 1 - - - - -
-- ku 0 0 - 0 1 -
-- pr 2 - - - - -
-- ks 0 0 - 1 - -
abbrev pub lines : StatementKind → List Line
lines k =
    line Rl 0 0 0 1 0 0
    ∷ line Pr 0 0 0 0 0 0
    ∷ line (St k) 0 0 0 1 0 0
    ∷ line (St Ku) 1 0 0 0 1 0
    ∷ line Pr 1 0 0 0 0 0
    ∷ line (St Ku) 0 0 0 0 1 0
    ∷ line Pr 2 0 0 0 0 0
    ∷ line (St Ks) 0 0 0 1 0 0
    ∷ []

-- ---- the verdicts

-- some accepted text gives the workload: what is written of its lines is read as these lines
pub given : Given (value_of (lines Kl))
unfolding rereads
given = value_given (written (lines Kl)) refl

-- no dangerous closed walk of any length: a back edge leaves the one `ks` alone, which stands first, and no edge that enters it leaves a select
tested : danger_test (summary_graph (lines Kl)) ≡ false
unfolding all_pass
tested = refl

pub robust : Robust (lines Kl)
robust = robust_of (lines Kl) tested

-- with `ks` for `kl` it is given and dangerous
pub selected_given : Given (value_of (lines Ks))
unfolding rereads
selected_given = value_given (written (lines Ks)) refl

selected_tested : danger_test (summary_graph (lines Ks)) ≡ true
unfolding all_pass
selected_tested = refl

pub selected_dangerous : Danger (lines Ks)
selected_dangerous = danger_of (lines Ks) selected_tested

-- ---- the transactions

-- locks a contact, then updates it; updates a contact; reads a contact
abbrev pub judging : StatementKind → Transaction
judging k = in_turn (says k 0 0 1 0 0 ∷ says Ku 1 0 0 1 0 ∷ []) []

abbrev pub logging : Transaction
logging = in_turn (says Ku 0 0 0 1 0 ∷ []) []

abbrev pub showing : Transaction
showing = in_turn (says Ks 0 0 1 0 0 ∷ []) []

-- ---- the schedule with locks

-- one logs the contact; then one locks it, another reads it, which no lock bans, and the first updates it; then the second lock and update
abbrev pub events : List Event
events =
    event 3 0 0 read 0 0 0
    ∷ event 3 1 0 write 0 0 1
    ∷ event 3 2 1 commit 0 0 0
    ∷ event 0 0 0 lock 0 0 1
    ∷ event 2 0 0 read 0 0 1
    ∷ event 0 1 1 read 0 0 0
    ∷ event 0 2 1 write 0 0 1
    ∷ event 0 3 2 commit 0 0 0
    ∷ event 1 0 0 lock 0 0 1
    ∷ event 1 1 1 read 0 0 0
    ∷ event 1 2 1 write 0 0 1
    ∷ event 1 3 2 commit 0 0 0
    ∷ event 2 1 1 commit 0 0 0
    ∷ []

abbrev pub stations : List Transaction
stations = judging Kl ∷ judging Kl ∷ showing ∷ logging ∷ []

pub locked : Schedule (lines Kl)
unfolding open_workload open_rules
locked = scheduled (interleaving (lines Kl) (0 ∷ 0 ∷ 2 ∷ 1 ∷ []) stations all_visible (λ f t. t) events refl refl refl refl) refl

-- the first lock waits for the commit of the one that has written, the second for that of the one that has locked
first_waits : map (λ n. waits (past_at events n) (event 0 0 0 lock 0 0 1)) (0 ∷ 2 ∷ 3 ∷ []) ≡ true ∷ false ∷ true ∷ []
unfolding open_rules
first_waits = refl

second_waits : map (λ n. waits (past_at events n) (event 1 0 0 lock 0 0 1)) (3 ∷ 4 ∷ 7 ∷ 8 ∷ []) ≡ true ∷ false ∷ false ∷ true ∷ []
unfolding open_rules
second_waits = refl

-- each lock, and the read behind the first, sees what was committed last
sees_last : source (seen (past_at events 3) 0 0 0) 0 ∷ source (seen (past_at events 4) 2 0 0) 0 ∷ source (seen (past_at events 8) 1 0 0) 0 ∷ []
    ≡ some (event 3 1 0 write 0 0 1) ∷ some (event 3 1 0 write 0 0 1) ∷ some (event 0 2 1 write 0 0 1) ∷ []
unfolding open_rules
sees_last = refl

-- the one that reads comes second, though it commits last
pub serialised : Serialisable locked
unfolding open_orders locked
serialised = serial_by_test 4 events (3 ∷ 2 ∷ 0 ∷ 1 ∷ []) refl refl

-- no other order serves
pub only_order : (s : Serialisable locked) → s.order ≡ 3 ∷ 2 ∷ 0 ∷ 1 ∷ []
unfolding open_orders locked
only_order = one_serves 4 events (3 ∷ 2 ∷ 0 ∷ 1 ∷ []) refl

-- demand 3 of this schedule: its workload is given and robust
pub serialisable : Serialisable locked
serialisable = demand (lines Kl) given robust locked

-- ---- the same programs, read and not locked

-- one reads the contact, another logs it and commits, the first updates it
abbrev pub logged_between : Action → List Event
logged_between a =
    event 0 0 0 a 0 0 1
    ∷ event 1 0 0 read 0 0 0
    ∷ event 1 1 0 write 0 0 1
    ∷ event 1 2 1 commit 0 0 0
    ∷ event 0 1 1 read 0 0 0
    ∷ event 0 2 1 write 0 0 1
    ∷ event 0 3 2 commit 0 0 0
    ∷ []

-- one logs the contact, another reads it before the first commits and updates it after
abbrev pub logged_before : Action → List Event
logged_before a =
    event 1 0 0 read 0 0 0
    ∷ event 1 1 0 write 0 0 1
    ∷ event 0 0 0 a 0 0 1
    ∷ event 1 2 1 commit 0 0 0
    ∷ event 0 1 1 read 0 0 0
    ∷ event 0 2 1 write 0 0 1
    ∷ event 0 3 2 commit 0 0 0
    ∷ []

-- with `ks` each meets every rule, and no order serves; and so where two judge and both read before either updates (`both_first`)
pub selected_two : Schedule (lines Ks)
unfolding open_workload open_rules
selected_two =
    scheduled (interleaving (lines Ks) (0 ∷ 0 ∷ []) (judging Ks ∷ judging Ks ∷ []) all_visible (λ f t. t) (both_first read) refl refl refl refl) refl

pub no_order_of_two : Serialisable selected_two → ⊥
unfolding open_orders selected_two
no_order_of_two = none_serves_lem 2 (both_first read) refl

pub selected_between : Schedule (lines Ks)
unfolding open_workload open_rules
selected_between =
    scheduled (interleaving (lines Ks) (0 ∷ 1 ∷ []) (judging Ks ∷ logging ∷ []) all_visible (λ f t. t) (logged_between read) refl refl refl refl) refl

pub no_order_between : Serialisable selected_between → ⊥
unfolding open_orders selected_between
no_order_between = none_serves_lem 2 (logged_between read) refl

pub selected_before : Schedule (lines Ks)
unfolding open_workload open_rules
selected_before =
    scheduled (interleaving (lines Ks) (0 ∷ 1 ∷ []) (judging Ks ∷ logging ∷ []) all_visible (λ f t. t) (logged_before read) refl refl refl refl) refl

pub no_order_before : Serialisable selected_before → ⊥
unfolding open_orders selected_before
no_order_before = none_serves_lem 2 (logged_before read) refl

-- ---- the same events with locks are refused

-- where two judge, two parts of the ban refuse: the second lock is behind the first, and the first update behind the second lock
pub two_refused : map (λ part. all_obey_but part all_visible [] (both_first lock))
    ((λ w e. false) ∷ lock_behind_lock ∷ lock_behind_write ∷ write_behind_lock ∷ (λ w e. lock_behind_lock w e || write_behind_lock w e) ∷ [])
    ≡ false ∷ false ∷ false ∷ false ∷ true ∷ []
unfolding open_parts
two_refused = refl

-- of `logged_between`, that a write is behind another's lock
pub no_write_behind_lock : Needed (lines Kl) write_behind_lock
unfolding open_parts
no_write_behind_lock =
    needed given robust
    (interleaving (lines Kl) (0 ∷ 1 ∷ []) (judging Kl ∷ logging ∷ []) all_visible (λ f t. t) (logged_between lock) refl refl refl refl)
    refl refl refl

-- of `logged_before`, that a lock is behind another's write
pub no_lock_behind_write : Needed (lines Kl) lock_behind_write
unfolding open_parts
no_lock_behind_write =
    needed given robust
    (interleaving (lines Kl) (0 ∷ 1 ∷ []) (judging Kl ∷ logging ∷ []) all_visible (λ f t. t) (logged_before lock) refl refl refl refl)
    refl refl refl
