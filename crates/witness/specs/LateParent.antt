-- Req 02 gives more: a workload that is robust only because the far program may write the parent late, and a schedule of it with its serial order.
-- One program shows a contact twice, after it has marked the panel; the other logs the contact first and its panel last, as our installers'
-- programs do. The shield before Req 02, which asks for the parent before the child on both sides, finds danger here; the shield as it is finds none.
use Rattle.std.specs.Prelude.{true, false, cond, List, [], ◌∷◌, map, ◌≡◌, refl, ℕ}
use Rattle.std.proofs.Math.Option.{none}
use Rattle.spec_text.specs.declared.Line.{Line}
use Rattle.spec_text.specs.declared.LineKind.TheVariants.{Rl, Fk, Pr, St, Li}
use Rattle.spec_text.specs.declared.StatementKind.{StatementKind}
use Rattle.spec_text.specs.declared.StatementKind.TheVariants.{Ks, Ku}
use Rattle.spec_text.specs.Value.{Given, value_of}
use Rattle.law_text.specs.Written.{written, rereads}
use Rattle.law_text.specs.ValueLaws.{value_given}
use Rattle.spec_graph.specs.Edge.{has_writes}
use Rattle.spec_graph.specs.Program.{Statement}
use Rattle.spec_graph.specs.Unfolding.{nodes_of}
use Rattle.spec_graph.specs.Graph.Flow.{forward, back}
use Rattle.spec_graph.specs.Walk.{DangerousWalk}
use Rattle.law_walk.specs.Reach.{danger_test}
use Rattle.spec_report.specs.State.{Robust, summary_graph}
use Rattle.law_report.specs.Reports.{robust_of}
use Rattle.spec_schedule.specs.Event.{Event, past_at, writes_of, seen, source, waits}
use Rattle.spec_schedule.specs.Event.Action.{read, write, commit}
use Rattle.spec_schedule.specs.Schedule.{Tuple, Transaction, Schedule}
use Rattle.spec_schedule.specs.Serial.{Serialisable}
use Rattle.schedule_cases.specs.SerialTest.{serial_by_test, open_test}
use Rattle.spec_schedule.specs.ScheduleExamples.{line, says, event, open_workload, open_rules}
use Rattle.cases.specs.Computed.{all_pass}
use Rattle.witness.specs.Joined.{demand}
use Rattle.witness.specs.Orders.{one_serves, open_orders}
use Rattle.witness.specs.Schedules.{link, in_turn, all_visible, interleaving, scheduled}
use Rattle.witness.specs.Shields.{both_near, graph_by, open_shields}

-- a statement of this kind on panels: it writes attribute 1 where the kind writes, else it reads it
abbrev pub on_panel : StatementKind → ℕ → Statement
on_panel k i = says k i 0 (cond (has_writes k) 0 2) (cond (has_writes k) 2 0) 0

abbrev pub on_panel_line : StatementKind → ℕ → Line
on_panel_line k i = line (St k) i 0 0 (on_panel k i).reads (on_panel k i).writes 0

-- relation 0 is panels, relation 1 contacts; key 0 leads from a contact to its panel. `ku`, or another kind in its place, on the panel
-- rl 0 - - 3 - -
-- rl 1 - - 3 - -
-- fk 0 1 0 - - -
-- pr 0 - - - - -
-- ku 0 0 - 0 2 -
-- ks 1 1 - 2 - -
-- ks 2 1 - 2 - -
-- li 0 1 0 - - -
-- li 0 2 0 - - -
-- pr 1 - - - - -
abbrev pub lines_shown : StatementKind → List Line → List Line
lines_shown near more =
    line Rl 0 0 0 3 0 0
    ∷ line Rl 1 0 0 3 0 0
    ∷ line Fk 0 1 0 0 0 0
    ∷ line Pr 0 0 0 0 0 0
    ∷ on_panel_line near 0
    ∷ line (St Ks) 1 1 0 2 0 0
    ∷ line (St Ks) 2 1 0 2 0 0
    ∷ line Li 0 1 0 0 0 0
    ∷ line Li 0 2 0 0 0 0
    ∷ line Pr 1 0 0 0 0 0
    ∷ more

-- and the panel last
-- ku 0 1 - 0 2 -
-- ku 1 0 - 0 2 -
-- li 0 0 1 - - -
abbrev pub lines_last : StatementKind → StatementKind → List Line
lines_last near far = lines_shown near (line (St Ku) 0 1 0 0 2 0 ∷ on_panel_line far 1 ∷ line Li 0 0 1 0 0 0 ∷ [])

abbrev pub lines : List Line
lines = lines_last Ku Ku

-- ---- the verdict

-- some accepted text gives the workload: what is written of its lines is read as these lines
pub given : Given (value_of lines)
unfolding rereads
given = value_given (written lines) refl

-- no dangerous closed walk of any length: both pairs of a select and the update of the contact are shielded, so there is no back edge
tested : danger_test (summary_graph lines) ≡ false
unfolding all_pass
tested = refl

pub robust : Robust lines
robust = robust_of lines tested

-- with the shield before Req 02 it is dangerous: the logger's write is read by the second select (forward), and the first, which stands earlier,
-- reads before that write (back)
pub before_dangerous : DangerousWalk (graph_by both_near (nodes_of lines))
unfolding open_shields
before_dangerous =
    (record { node = 1; leaves = 0; enters = 2; flow = forward } ∷ record { node = 0; leaves = 1; enters = 0; flow = back } ∷ [], refl)

-- ---- the schedule

-- the panel of a contact
abbrev pub panel_of : ℕ → Tuple → Tuple
panel_of f t = record { relation = 0; number = t.number }

-- marks a panel, then reads two contacts of it: contact 0 twice, of panel 0
abbrev pub showing : StatementKind → Transaction
showing near = in_turn (on_panel near 0 ∷ says Ks 1 1 2 0 0 ∷ says Ks 2 1 2 0 0 ∷ []) (link 0 1 0 ∷ link 0 2 0 ∷ [])

-- writes a contact, then its panel: contact 0 and panel 0
abbrev pub logging : StatementKind → Transaction
logging far = in_turn (says Ku 0 1 0 2 0 ∷ on_panel far 1 ∷ []) (link 0 0 1 ∷ [])

-- the contact is logged; the other marks the panel, reads the contact twice and commits; then the panel is logged
abbrev pub events : List Event
events =
    event 1 0 0 read 1 0 0
    ∷ event 1 1 0 write 1 0 2
    ∷ event 0 0 0 read 0 0 0
    ∷ event 0 1 0 write 0 0 2
    ∷ event 0 2 1 read 1 0 2
    ∷ event 0 3 2 read 1 0 2
    ∷ event 0 4 3 commit 0 0 0
    ∷ event 1 2 1 read 0 0 0
    ∷ event 1 3 1 write 0 0 2
    ∷ event 1 4 2 commit 0 0 0
    ∷ []

pub logged : Schedule lines
unfolding open_workload open_rules
logged = scheduled (interleaving lines (0 ∷ 1 ∷ []) (showing Ku ∷ logging Ku ∷ []) all_visible panel_of events refl refl refl refl) refl

-- both reads of the contact see the start, though the logger has written it before
written_before : writes_of 1 0 (past_at events 4) ≡ event 1 1 0 write 1 0 2 ∷ []
unfolding open_rules
written_before = refl

sees_start : map (λ n. source (seen (past_at events n) 0 1 0) 1) (4 ∷ 5 ∷ []) ≡ none ∷ none ∷ []
unfolding open_rules
sees_start = refl

-- what the shield rests on: between the two reads the logger cannot write the panel and commit, since the other has written it and not committed;
-- after that commit it can
waits_between : waits (past_at events 5) (event 1 3 1 write 0 0 2) ≡ false
unfolding open_rules
waits_between = refl

free_after : waits (past_at events 8) (event 1 3 1 write 0 0 2) ≡ true
unfolding open_rules
free_after = refl

-- ---- its serial order

-- the one that shows, then the one that logs, serves: the test of this order passes
pub serialised : Serialisable logged
unfolding open_test logged
serialised = serial_by_test 2 events (0 ∷ 1 ∷ []) refl refl

-- no other order serves: there is one other, in which the contact would be read as logged, and its test fails
pub only_order : (s : Serialisable logged) → s.order ≡ 0 ∷ 1 ∷ []
unfolding open_orders logged
only_order = one_serves 2 events (0 ∷ 1 ∷ []) refl

-- demand 3 of this schedule: its workload is given and robust
pub serialisable : Serialisable logged
serialisable = demand lines given robust logged
