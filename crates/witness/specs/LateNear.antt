-- Req 02 gives no more than it may: a schedule without any serial order, of a workload in which the near program writes the parent late. The shield
-- as it is finds danger in it: it is the example with ks before ku, its two programs in the other order. Were the parent let stand
-- anywhere in the near program too, the workload would be called robust. So the near side's "before" is needed.
use Rattle.std.specs.Prelude.{false, List, [], ◌∷◌, ◌≡◌, refl}
use Rattle.spec_text.specs.declared.Line.{Line}
use Rattle.spec_text.specs.declared.LineKind.TheVariants.{Rl, Fk, Pr, St, Li}
use Rattle.spec_text.specs.declared.StatementKind.TheVariants.{Ks, Ku}
use Rattle.spec_text.specs.Value.{Given, value_of}
use Rattle.law_text.specs.Written.{written, rereads}
use Rattle.law_text.specs.ValueLaws.{value_given}
use Rattle.spec_graph.specs.Unfolding.{nodes_of}
use Rattle.spec_graph.specs.Graph.Flow.{forward, back}
use Rattle.spec_graph.specs.Walk.{DangerousWalk}
use Rattle.law_walk.specs.Reach.{danger_test, danger_none}
use Rattle.spec_report.specs.State.{Danger}
use Rattle.spec_schedule.specs.Event.{Event}
use Rattle.spec_schedule.specs.Event.Action.{read, write, commit}
use Rattle.spec_schedule.specs.Schedule.{Transaction, Schedule}
use Rattle.spec_schedule.specs.Serial.{Serialisable}
use Rattle.spec_schedule.specs.ScheduleExamples.{line, says, event, open_workload, open_rules}
use Rattle.witness.specs.LateParent.{panel_of}
use Rattle.witness.specs.Orders.{none_serves_lem, open_orders}
use Rattle.witness.specs.Schedules.{link, in_turn, all_visible, interleaving, scheduled}
use Rattle.witness.specs.Shields.{both_far, graph_by, regular_by, open_shields}

-- relation 0 is panels, relation 1 contacts; key 0 leads from a contact to its panel
-- rl 0 - - 3 - -
-- rl 1 - - 3 - -
-- fk 0 1 0 - - -
-- pr 0 - - - - -
-- ks 0 1 - 2 - -
-- ku 1 0 - 2 2 -
-- li 0 0 1 - - -
-- pr 1 - - - - -
-- ku 0 0 - 2 2 -
-- ku 1 1 - 0 2 -
-- li 0 1 0 - - -
abbrev pub lines : List Line
lines =
    line Rl 0 0 0 3 0 0
    ∷ line Rl 1 0 0 3 0 0
    ∷ line Fk 0 1 0 0 0 0
    ∷ line Pr 0 0 0 0 0 0
    ∷ line (St Ks) 0 1 0 2 0 0
    ∷ line (St Ku) 1 0 0 2 2 0
    ∷ line Li 0 0 1 0 0 0
    ∷ line Pr 1 0 0 0 0 0
    ∷ line (St Ku) 0 0 0 2 2 0
    ∷ line (St Ku) 1 1 0 0 2 0
    ∷ line Li 0 1 0 0 0 0
    ∷ []

-- ---- the verdict

-- some accepted text gives the workload: what is written of its lines is read as these lines
pub given : Given (value_of lines)
unfolding rereads
given = value_given (written lines) refl

-- it is dangerous: the panel that the second program updates is updated by the first (forward), which before that has read a contact that the
-- second updates (back)
pub dangerous : Danger lines
unfolding open_shields
dangerous =
    (record { node = 1; leaves = 0; enters = 1; flow = forward } ∷ record { node = 0; leaves = 0; enters = 1; flow = back } ∷ [], refl)

-- with the parent anywhere on both sides it has no dangerous closed walk of any length: the one back edge would be shielded
tested : danger_test (graph_by both_far (nodes_of lines)) ≡ false
unfolding open_shields
tested = refl

pub let_through : DangerousWalk (graph_by both_far (nodes_of lines)) → ⊥
let_through = danger_none (graph_by both_far (nodes_of lines)) (regular_by both_far (nodes_of lines)) tested

-- ---- the schedule

-- reads a contact, then updates its panel: contact 0 of panel 0
abbrev pub judging : Transaction
judging = in_turn (says Ks 0 1 2 0 0 ∷ says Ku 1 0 2 2 0 ∷ []) (link 0 0 1 ∷ [])

-- updates a panel, then writes a contact of it: panel 0 and contact 0
abbrev pub logging : Transaction
logging = in_turn (says Ku 0 0 2 2 0 ∷ says Ku 1 1 0 2 0 ∷ []) (link 0 1 0 ∷ [])

-- the contact is read; then the other updates panel and contact and commits; then the first updates the panel
abbrev pub events : List Event
events =
    event 0 0 0 read 1 0 2
    ∷ event 1 0 0 read 0 0 2
    ∷ event 1 1 0 write 0 0 2
    ∷ event 1 2 1 read 1 0 0
    ∷ event 1 3 1 write 1 0 2
    ∷ event 1 4 2 commit 0 0 0
    ∷ event 0 1 1 read 0 0 2
    ∷ event 0 2 1 write 0 0 2
    ∷ event 0 3 2 commit 0 0 0
    ∷ []

-- it meets every rule: the keys are kept, and each event obeys Read Committed
pub judged_old : Schedule lines
unfolding open_workload open_rules
judged_old = scheduled (interleaving lines (0 ∷ 1 ∷ []) (judging ∷ logging ∷ []) all_visible panel_of events refl refl refl refl) refl

-- no order serves: the first has read the contact before it was logged, and the panel after; both orders fail their test
pub no_order_lem : Serialisable judged_old → ⊥
unfolding open_orders judged_old
no_order_lem = none_serves_lem 2 events refl
