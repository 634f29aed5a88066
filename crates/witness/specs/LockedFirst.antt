-- Req 03, an edge that leaves a lock makes no pair dangerous by its kind: a workload that is robust for that alone, and a schedule of it with its
-- serial order. One program locks a contact and counts; one logs the contact and reads a setting; one writes the setting and counts. It is
-- KindsClause's with a lock of the contact itself for its read under a lock of its panel. With `ks` for `kl` it is dangerous, and a schedule of it
-- has no serial order.
use Rattle.std.specs.Prelude.{false, ◌&&◌, ◌||◌, List, [], ◌∷◌, ◌≡◌, refl, eqb}
use Rattle.spec_text.specs.declared.Line.{Line}
use Rattle.spec_text.specs.declared.LineKind.TheVariants.{Rl, Pr, St}
use Rattle.spec_text.specs.declared.StatementKind.{StatementKind}
use Rattle.spec_text.specs.declared.StatementKind.TheVariants.{Ks, Ku, Kl}
use Rattle.spec_text.specs.Value.{Given, value_of}
use Rattle.law_text.specs.Written.{written, rereads}
use Rattle.law_text.specs.ValueLaws.{value_given}
use Rattle.spec_graph.specs.Graph.Flow.{forward, back}
use Rattle.spec_graph.specs.Walk.{Step, DangerousWalk}
use Rattle.law_walk.specs.Reach.{danger_test}
use Rattle.spec_report.specs.State.{Danger, Robust, summary_graph}
use Rattle.law_report.specs.Reports.{robust_of}
use Rattle.spec_schedule.specs.Event.{Event}
use Rattle.spec_schedule.specs.Event.Action.{read, lock, write, commit}
use Rattle.spec_schedule.specs.Schedule.{Transaction, Schedule}
use Rattle.spec_schedule.specs.Serial.{Serialisable}
use Rattle.schedule_cases.specs.SerialTest.{serial_by_test}
use Rattle.spec_schedule.specs.ScheduleExamples.{line, says, event, open_workload, open_rules}
use Rattle.witness.specs.Joined.{demand}
use Rattle.witness.specs.KindsClause.{with_loose}
use Rattle.witness.specs.Orders.{none_serves_lem, one_serves, open_orders}
use Rattle.witness.specs.Schedules.{in_turn, all_visible, interleaving, scheduled}
use Rattle.witness.specs.Shields.{open_shields}

-- relation 0 is contacts, relation 1 counts, relation 2 settings; `kl`, or another kind in its place
-- rl 0 - - 1 - -
-- rl 1 - - 1 - -
-- rl 2 - - 1 - -
-- pr 0 - - - - -
-- kl 0 0 - 1 - -
-- ku 1 1 - 0 1 -
-- pr 1 - - - - -
-- ku 0 0 - 0 1 -
-- ks 1 2 - 1 - -
-- pr 2 - - - - -
-- ku 0 2 - 0 1 -
-- ku 1 1 - 0 1 -
abbrev pub lines : StatementKind → List Line
lines k =
    line Rl 0 0 0 1 0 0
    ∷ line Rl 1 0 0 1 0 0
    ∷ line Rl 2 0 0 1 0 0
    ∷ line Pr 0 0 0 0 0 0
    ∷ line (St k) 0 0 0 1 0 0
    ∷ line (St Ku) 1 1 0 0 1 0
    ∷ line Pr 1 0 0 0 0 0
    ∷ line (St Ku) 0 0 0 0 1 0
    ∷ line (St Ks) 1 2 0 1 0 0
    ∷ line Pr 2 0 0 0 0 0
    ∷ line (St Ku) 0 2 0 0 1 0
    ∷ line (St Ku) 1 1 0 0 1 0
    ∷ []

-- ---- the verdicts

-- some accepted text gives the workload: what is written of its lines is read as these lines
pub given : Given (value_of (lines Kl))
unfolding rereads
given = value_given (written (lines Kl)) refl

tested : danger_test (summary_graph (lines Kl)) ≡ false
unfolding open_shields
tested = refl

pub robust : Robust (lines Kl)
robust = robust_of (lines Kl) tested

-- what is locked is logged (forward), by one that then reads a setting which the third writes (back); both count
abbrev round : List Step
round =
    record { node = 0; leaves = 0; enters = 0; flow = forward }
    ∷ record { node = 1; leaves = 1; enters = 0; flow = back }
    ∷ record { node = 2; leaves = 1; enters = 1; flow = forward }
    ∷ []

-- it would be dangerous if the edge that leaves the lock made the pair so
pub loosened_dangerous : DangerousWalk (with_loose (λ m i. eqb m 0 && eqb i 0 || (summary_graph (lines Kl)).loose m i) (summary_graph (lines Kl)))
unfolding open_shields
loosened_dangerous = (round, refl)

-- with `ks` for `kl` it is given and dangerous
pub selected_given : Given (value_of (lines Ks))
unfolding rereads
selected_given = value_given (written (lines Ks)) refl

pub selected_dangerous : Danger (lines Ks)
unfolding open_shields
selected_dangerous = (round, refl)

-- ---- the schedule with locks

-- locks a contact and counts; logs a contact and reads a setting; writes a setting and counts
abbrev pub judging : StatementKind → Transaction
judging k = in_turn (says k 0 0 1 0 0 ∷ says Ku 1 1 0 1 0 ∷ []) []

abbrev pub logging : Transaction
logging = in_turn (says Ku 0 0 0 1 0 ∷ says Ks 1 2 1 0 0 ∷ []) []

abbrev pub setting : Transaction
setting = in_turn (says Ku 0 2 0 1 0 ∷ says Ku 1 1 0 1 0 ∷ []) []

-- the setting is written, the contact locked; both count and commit; then the contact is logged and the setting read
abbrev pub events : List Event
events =
    event 2 0 0 read 2 0 0
    ∷ event 2 1 0 write 2 0 1
    ∷ event 0 0 0 lock 0 0 1
    ∷ event 2 2 1 read 1 0 0
    ∷ event 2 3 1 write 1 0 1
    ∷ event 2 4 2 commit 0 0 0
    ∷ event 0 1 1 read 1 0 0
    ∷ event 0 2 1 write 1 0 1
    ∷ event 0 3 2 commit 0 0 0
    ∷ event 1 0 0 read 0 0 0
    ∷ event 1 1 0 write 0 0 1
    ∷ event 1 2 1 read 2 0 1
    ∷ event 1 3 2 commit 0 0 0
    ∷ []

pub locked : Schedule (lines Kl)
unfolding open_workload open_rules
locked =
    scheduled
    (interleaving (lines Kl) (0 ∷ 1 ∷ 2 ∷ []) (judging Kl ∷ logging ∷ setting ∷ []) all_visible (λ f t. t) events refl refl refl refl)
    refl

pub serialised : Serialisable locked
unfolding open_orders locked
serialised = serial_by_test 3 events (2 ∷ 0 ∷ 1 ∷ []) refl refl

pub only_order : (s : Serialisable locked) → s.order ≡ 2 ∷ 0 ∷ 1 ∷ []
unfolding open_orders locked
only_order = one_serves 3 events (2 ∷ 0 ∷ 1 ∷ []) refl

-- demand 3 of this schedule: its workload is given and robust
pub serialisable : Serialisable locked
serialisable = demand (lines Kl) given robust locked

-- ---- read and not locked

-- the contact is read, then logged; the setting is read, then written; both count
abbrev pub logged_between : List Event
logged_between =
    event 0 0 0 read 0 0 1
    ∷ event 1 0 0 read 0 0 0
    ∷ event 1 1 0 write 0 0 1
    ∷ event 1 2 1 read 2 0 1
    ∷ event 1 3 2 commit 0 0 0
    ∷ event 2 0 0 read 2 0 0
    ∷ event 2 1 0 write 2 0 1
    ∷ event 2 2 1 read 1 0 0
    ∷ event 2 3 1 write 1 0 1
    ∷ event 2 4 2 commit 0 0 0
    ∷ event 0 1 1 read 1 0 0
    ∷ event 0 2 1 write 1 0 1
    ∷ event 0 3 2 commit 0 0 0
    ∷ []

-- with `ks` it meets every rule, and no order serves: who judges comes before who logs, who logs before who sets, who sets before who judges
pub selected : Schedule (lines Ks)
unfolding open_workload open_rules
selected =
    scheduled
    (interleaving (lines Ks) (0 ∷ 1 ∷ 2 ∷ []) (judging Ks ∷ logging ∷ setting ∷ []) all_visible (λ f t. t) logged_between refl refl refl refl)
    refl

pub no_order_lem : Serialisable selected → ⊥
unfolding open_orders selected
no_order_lem = none_serves_lem 3 logged_between refl
