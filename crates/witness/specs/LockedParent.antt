-- Req 03, a lock shields as an update does: a workload that is robust only because a `kl` is the parent on both sides of the shield, and an
-- interleaved schedule of it with its serial order. It is LateParent's with locks for the updates of the panel. With `ks` for either lock it is
-- dangerous; with `ks` for both, a schedule of it has no serial order. The same events with locks are refused by one part of the ban alone: no
-- lock behind another's lock, which demand 3 therefore needs.
use Rattle.std.specs.Prelude.{true, false, List, [], ◌∷◌, map, ◌≡◌, refl}
use Rattle.spec_text.specs.declared.Line.{Line}
use Rattle.spec_text.specs.declared.LineKind.TheVariants.{St, Li}
use Rattle.spec_text.specs.declared.StatementKind.{StatementKind}
use Rattle.spec_text.specs.declared.StatementKind.TheVariants.{Ks, Ku, Kl}
use Rattle.spec_text.specs.Value.{Given, value_of}
use Rattle.law_text.specs.Written.{written, rereads}
use Rattle.law_text.specs.ValueLaws.{value_given}
use Rattle.spec_graph.specs.Graph.Flow.{forward, back}
use Rattle.law_walk.specs.Reach.{danger_test}
use Rattle.spec_report.specs.State.{Danger, Robust, summary_graph}
use Rattle.law_report.specs.Reports.{robust_of}
use Rattle.spec_schedule.specs.Event.{Action, Event, past_at, waits}
use Rattle.spec_schedule.specs.Event.Action.{read, lock, write, commit}
use Rattle.spec_schedule.specs.Schedule.{Schedule}
use Rattle.spec_schedule.specs.Serial.{Serialisable}
use Rattle.schedule_cases.specs.SerialTest.{serial_by_test}
use Rattle.spec_schedule.specs.ScheduleExamples.{line, event, open_workload, open_rules}
use Rattle.cases.specs.Computed.{all_pass}
use Rattle.witness.specs.Joined.{demand}
use Rattle.witness.specs.LateParent.{on_panel_line, lines_shown, lines_last, panel_of, showing, logging}
use Rattle.witness.specs.Orders.{none_serves_lem, one_serves, open_orders}
use Rattle.witness.specs.Schedules.{all_visible, interleaving, scheduled, Needed, needed, lock_behind_lock, open_parts}
use Rattle.witness.specs.Shields.{open_shields}

-- kl 0 0 - 2 - - first in program 0, kl 1 0 - 2 - - last in program 1
abbrev pub lines : List Line
lines = lines_last Kl Kl

-- ---- the verdicts

-- some accepted text gives the workload: what is written of its lines is read as these lines
pub given : Given (value_of lines)
unfolding rereads
given = value_given (written lines) refl

-- program 1 with the panel first
abbrev lines_first : StatementKind → StatementKind → List Line
lines_first near far = lines_shown near (on_panel_line far 0 ∷ line (St Ku) 1 1 0 0 2 0 ∷ line Li 0 1 0 0 0 0 ∷ [])

-- kl, ku and ks near, each with kl, ku and ks far; the panel last in the far program, and first: robust where both are of kl and ku
abbrev kinds : List StatementKind
kinds = Kl ∷ Ku ∷ Ks ∷ []

pub dangerous_last : map (λ near. map (λ far. danger_test (summary_graph (lines_last near far))) kinds) kinds
    ≡ (false ∷ false ∷ true ∷ []) ∷ (false ∷ false ∷ true ∷ []) ∷ (true ∷ true ∷ true ∷ []) ∷ []
unfolding all_pass
dangerous_last = refl

pub dangerous_first : map (λ near. map (λ far. danger_test (summary_graph (lines_first near far))) kinds) kinds
    ≡ (false ∷ false ∷ true ∷ []) ∷ (false ∷ false ∷ true ∷ []) ∷ (true ∷ true ∷ true ∷ []) ∷ []
unfolding all_pass
dangerous_first = refl

tested : danger_test (summary_graph lines) ≡ false
unfolding all_pass
tested = refl

pub robust : Robust lines
robust = robust_of lines tested

-- ---- the schedule with locks

-- the contact is logged; the other locks the panel, reads the contact twice and commits; then the panel is locked
abbrev pub events : List Event
events =
    event 1 0 0 read 1 0 0
    ∷ event 1 1 0 write 1 0 2
    ∷ event 0 0 0 lock 0 0 2
    ∷ event 0 1 1 read 1 0 2
    ∷ event 0 2 2 read 1 0 2
    ∷ event 0 3 3 commit 0 0 0
    ∷ event 1 2 1 lock 0 0 2
    ∷ event 1 3 2 commit 0 0 0
    ∷ []

pub locked : Schedule lines
unfolding open_workload open_rules
locked = scheduled (interleaving lines (0 ∷ 1 ∷ []) (showing Kl ∷ logging Kl ∷ []) all_visible panel_of events refl refl refl refl) refl

-- what the shield rests on: the logger cannot lock the panel between the two reads, and can after the other's commit
waits_between : map (λ n. waits (past_at events n) (event 1 2 1 lock 0 0 2)) (2 ∷ 3 ∷ 4 ∷ 5 ∷ 6 ∷ []) ≡ true ∷ false ∷ false ∷ false ∷ true ∷ []
unfolding open_rules
waits_between = refl

-- the one that shows, then the one that logs, serves; no other order does
pub serialised : Serialisable locked
unfolding open_orders locked
serialised = serial_by_test 2 events (0 ∷ 1 ∷ []) refl refl

pub only_order : (s : Serialisable locked) → s.order ≡ 0 ∷ 1 ∷ []
unfolding open_orders locked
only_order = one_serves 2 events (0 ∷ 1 ∷ []) refl

-- demand 3 of this schedule: its workload is given and robust
pub serialisable : Serialisable locked
serialisable = demand lines given robust locked

-- ---- read and not locked

pub selected_given : Given (value_of (lines_last Ks Ks))
unfolding rereads
selected_given = value_given (written (lines_last Ks Ks)) refl

-- the logger's write is read by the second select (forward), and the first, which stands earlier, reads before that write (back)
pub selected_dangerous : Danger (lines_last Ks Ks)
unfolding open_shields
selected_dangerous =
    (record { node = 1; leaves = 0; enters = 2; flow = forward } ∷ record { node = 0; leaves = 1; enters = 0; flow = back } ∷ [], refl)

-- between the two reads the other logs contact and panel and commits
abbrev pub logged_between : Action → List Event
logged_between a =
    event 0 0 0 a 0 0 2
    ∷ event 0 1 1 read 1 0 2
    ∷ event 1 0 0 read 1 0 0
    ∷ event 1 1 0 write 1 0 2
    ∷ event 1 2 1 a 0 0 2
    ∷ event 1 3 2 commit 0 0 0
    ∷ event 0 2 2 read 1 0 2
    ∷ event 0 3 3 commit 0 0 0
    ∷ []

-- with `ks` it meets every rule, and no order serves: the first read is before the contact was logged, the second after
pub selected : Schedule (lines_last Ks Ks)
unfolding open_workload open_rules
selected =
    scheduled
    (interleaving (lines_last Ks Ks) (0 ∷ 1 ∷ []) (showing Ks ∷ logging Ks ∷ []) all_visible panel_of (logged_between read) refl refl refl refl)
    refl

pub no_order_lem : Serialisable selected → ⊥
unfolding open_orders selected
no_order_lem = none_serves_lem 2 (logged_between read) refl

-- with `kl` it is refused, for a lock behind another's lock alone
pub no_lock_behind_lock : Needed lines lock_behind_lock
unfolding open_parts
no_lock_behind_lock =
    needed given robust
    (interleaving lines (0 ∷ 1 ∷ []) (showing Kl ∷ logging Kl ∷ []) all_visible panel_of (logged_between lock) refl refl refl refl)
    refl refl refl
