-- Req 03, locks in loops and arms: a robust workload whose station goes from panel to panel, locks each and reads contacts of it within the turn,
-- while others log contacts and claim the panels last; an interleaved schedule of it, each turn on its own tuples, and its serial order. With `ks`
-- for the lock on either side, or without its links, it is dangerous. Claims here meet on a tuple and share no attribute: they wait all the same,
-- and demand 3 needs that in each part of the ban that Req 03 adds (`no-write-beside-lock` and the two after it).
use Rattle.std.specs.Prelude.{Bool, true, false, not, ◌&&◌, cond, List, [], ◌∷◌, ◌++◌, map, ◌≡◌, refl, ℕ, ◌/◌, eqb, get_or}
use Rattle.std.proofs.Math.Option.{none, some}
use Rattle.spec_base.specs.Basic.{all, keep, meets}
use Rattle.spec_text.specs.declared.Line.{Line}
use Rattle.spec_text.specs.declared.LineKind.TheVariants.{Rl, Fk, Pr, St, Lo, Br, El, En, Li}
use Rattle.spec_text.specs.declared.StatementKind.{StatementKind}
use Rattle.spec_text.specs.declared.StatementKind.TheVariants.{Is, Ks, Ku, Kl}
use Rattle.spec_text.specs.Reading.{is_link}
use Rattle.spec_text.specs.Value.{Given, value_of}
use Rattle.law_text.specs.Written.{written, rereads}
use Rattle.law_text.specs.ValueLaws.{value_given}
use Rattle.spec_graph.specs.Graph.Flow.{forward, back}
use Rattle.spec_graph.specs.Program.{Statement, Run, Program}
use Rattle.spec_graph.specs.Program.Item.{loop, branch}
use Rattle.spec_graph.specs.Program.Run.{done, next}
use Rattle.spec_graph.specs.Unfolding.{Execution, Turns, occurrences}
use Rattle.spec_graph.specs.Unfolding.Execution.{end, step}
use Rattle.spec_graph.specs.Unfolding.ItemExecution.{turns, arm_one, arm_two}
use Rattle.spec_graph.specs.Unfolding.Turns.{stop, turn}
use Rattle.spec_graph.specs.Walk.{Step}
use Rattle.law_walk.specs.Reach.{danger_test}
use Rattle.spec_report.specs.State.{Danger, Robust, summary_graph}
use Rattle.law_report.specs.Reports.{robust_of}
use Rattle.spec_schedule.specs.Event.{Action, Event, is_lock, past_at, seen, source, waits}
use Rattle.spec_schedule.specs.Event.Action.{read, lock, write, insert, commit}
use Rattle.spec_schedule.specs.Schedule.{Tuple, Transaction, Performed, Schedule, every_attribute, performed, link_kept}
use Rattle.spec_schedule.specs.Serial.{Serialisable}
use Rattle.schedule_cases.specs.SerialTest.{serial_by_test}
use Rattle.spec_schedule.specs.ScheduleExamples.{line, says, event, open_workload, open_rules}
use Rattle.witness.specs.Joined.{demand}
use Rattle.witness.specs.Orders.{none_serves_lem, open_orders}
use Rattle.witness.specs.Schedules.{in_row, perform_all, link, all_visible, interleaving, scheduled}
use Rattle.witness.specs.Schedules.{lock_behind_lock, lock_behind_write, write_behind_lock, Needed, needed, open_parts}
use Rattle.witness.specs.Shields.{open_shields}

-- relation 0 is panels, relation 1 contacts; key 0 leads from a contact to its panel. `kl`, or another kind in its place, near and far
-- rl 0 - - 3 - -
-- rl 1 - - 3 - -
-- fk 0 1 0 - - -
-- pr 0 - - - - -
-- lo - - - - - -
-- br - - - - - -
-- kl 0 0 - 1 - -
-- ks 1 1 - 1 - -
-- ks 2 1 - 1 - -
-- el - - - - - -
-- kl 3 1 - 3 - -
-- ku 4 1 - 0 2 -
-- en - - - - - -
-- en - - - - - -
-- li 0 1 0 - - -
-- li 0 2 0 - - -
-- pr 1 - - - - -
-- lo - - - - - -
-- br - - - - - -
-- ku 0 1 - 0 1 -
-- kl 1 0 - 2 - -
-- el - - - - - -
-- ku 2 1 - 0 1 -
-- ku 3 0 - 0 2 -
-- en - - - - - -
-- en - - - - - -
-- li 0 0 1 - - -
-- li 0 2 3 - - -
-- pr 2 - - - - -
-- is 0 0 - - 3 -
-- kl 1 0 - 3 - -
-- is 2 1 - - 3 -
-- li 0 2 1 - - -
-- pr 3 - - - - -
-- ks 0 0 - 2 - -
abbrev pub lines_with : StatementKind → StatementKind → List Line
lines_with near far =
    line Rl 0 0 0 3 0 0
    ∷ line Rl 1 0 0 3 0 0
    ∷ line Fk 0 1 0 0 0 0
    ∷ line Pr 0 0 0 0 0 0
    ∷ line Lo 0 0 0 0 0 0
    ∷ line Br 0 0 0 0 0 0
    ∷ line (St near) 0 0 0 1 0 0
    ∷ line (St Ks) 1 1 0 1 0 0
    ∷ line (St Ks) 2 1 0 1 0 0
    ∷ line El 0 0 0 0 0 0
    ∷ line (St Kl) 3 1 0 3 0 0
    ∷ line (St Ku) 4 1 0 0 2 0
    ∷ line En 0 0 0 0 0 0
    ∷ line En 0 0 0 0 0 0
    ∷ line Li 0 1 0 0 0 0
    ∷ line Li 0 2 0 0 0 0
    ∷ line Pr 1 0 0 0 0 0
    ∷ line Lo 0 0 0 0 0 0
    ∷ line Br 0 0 0 0 0 0
    ∷ line (St Ku) 0 1 0 0 1 0
    ∷ line (St far) 1 0 0 2 0 0
    ∷ line El 0 0 0 0 0 0
    ∷ line (St Ku) 2 1 0 0 1 0
    ∷ line (St Ku) 3 0 0 0 2 0
    ∷ line En 0 0 0 0 0 0
    ∷ line En 0 0 0 0 0 0
    ∷ line Li 0 0 1 0 0 0
    ∷ line Li 0 2 3 0 0 0
    ∷ line Pr 2 0 0 0 0 0
    ∷ line (St Is) 0 0 0 0 3 0
    ∷ line (St Kl) 1 0 0 3 0 0
    ∷ line (St Is) 2 1 0 0 3 0
    ∷ line Li 0 2 1 0 0 0
    ∷ line Pr 3 0 0 0 0 0
    ∷ line (St Ks) 0 0 0 2 0 0
    ∷ []

abbrev pub lines : List Line
lines = lines_with Kl Kl

-- ---- the verdicts

-- some accepted text gives the workload: what is written of its lines is read as these lines
pub given : Given (value_of lines)
unfolding rereads
given = value_given (written lines) refl

-- no dangerous closed walk of any length: each select of a contact is shielded within its turn, and a back edge leaves the one `ks` of a panel alone
tested : danger_test (summary_graph lines) ≡ false
unfolding open_shields
tested = refl

pub robust : Robust lines
robust = robust_of lines tested

-- a turn's first select reads before the logger's write (back), its second reads that write (forward)
abbrev walk : List Step
walk = record { node = 1; leaves = 1; enters = 0; flow = back } ∷ record { node = 8; leaves = 0; enters = 2; flow = forward } ∷ []

-- with `ks` for the near lock, for the far lock, and without the links it is dangerous
pub near_selected_dangerous : Danger (lines_with Ks Kl)
unfolding open_shields
near_selected_dangerous = (walk, refl)

pub far_selected_dangerous : Danger (lines_with Kl Ks)
unfolding open_shields
far_selected_dangerous = (walk, refl)

pub unlinked_dangerous : Danger (keep (λ l. not (is_link l)) lines)
unfolding open_shields
unlinked_dangerous = (walk, refl)

-- the one with `ks` near is one that a text gives too
pub near_selected_given : Given (value_of (lines_with Ks Kl))
unfolding rereads
near_selected_given = value_given (written (lines_with Ks Kl)) refl

-- ---- the programs and their transactions

-- one or the other of two rows of statements, and that any number of times
abbrev either_row : List Statement → List Statement → Run
either_row one other = next (branch (in_row one) (in_row other)) done

abbrev pub repeated : List Statement → List Statement → Run
repeated one other = next (loop (either_row one other)) done

-- locks a panel and reads contacts of it twice; or locks a contact and acknowledges it
abbrev pub looks : StatementKind → List Statement
looks k = says k 0 0 1 0 0 ∷ says Ks 1 1 1 0 0 ∷ says Ks 2 1 1 0 0 ∷ []

abbrev pub acknowledges : List Statement
acknowledges = says Kl 3 1 3 0 0 ∷ says Ku 4 1 0 2 0 ∷ []

abbrev pub rounds : StatementKind → Program
rounds k = record { body = repeated (looks k) acknowledges; links = link 0 1 0 ∷ link 0 2 0 ∷ [] }

-- logs a contact, then locks its panel to read the count, attribute 1; or logs a contact, then counts on its panel
abbrev pub logs_and_locks : List Statement
logs_and_locks = says Ku 0 1 0 1 0 ∷ says Kl 1 0 2 0 0 ∷ []

abbrev pub logs_and_counts : List Statement
logs_and_counts = says Ku 2 1 0 1 0 ∷ says Ku 3 0 0 2 0 ∷ []

abbrev pub logs : Program
logs = record { body = repeated logs_and_locks logs_and_counts; links = link 0 0 1 ∷ link 0 2 3 ∷ [] }

-- inserts a panel, locks it, inserts a contact of it
abbrev pub installs : List Statement
installs = says Is 0 0 0 3 0 ∷ says Kl 1 0 3 0 0 ∷ says Is 2 1 0 3 0 ∷ []

-- reads what was counted on a panel
abbrev pub shows : List Statement
shows = says Ks 0 0 2 0 0 ∷ []

-- a turn of each sort
abbrev look : (k : StatementKind) → Execution (either_row (looks k) acknowledges)
look k = step (arm_one (perform_all (looks k))) end

abbrev acknowledge : Execution (either_row (looks Kl) acknowledges)
acknowledge = step (arm_two (perform_all acknowledges)) end

abbrev log_and_lock : Execution (either_row logs_and_locks logs_and_counts)
log_and_lock = step (arm_one (perform_all logs_and_locks)) end

abbrev log_and_count : Execution (either_row logs_and_locks logs_and_counts)
log_and_count = step (arm_two (perform_all logs_and_counts)) end

-- on these tuples
abbrev pub going_round : (k : StatementKind) → Turns (either_row (looks k) acknowledges) → List ℕ → Transaction
going_round k each these =
    record { program = rounds k; execution = step (turns each) end; tuple = λ i. get_or these i 0; tuples = λ i. [] }

abbrev pub logging_turns : Turns (either_row logs_and_locks logs_and_counts) → List ℕ → Transaction
logging_turns each these =
    record { program = logs; execution = step (turns each) end; tuple = λ i. get_or these i 0; tuples = λ i. [] }

-- four turns: panel 1 and two contacts of it, panel 2 and one contact of it twice, contact 11, contact 11 again
abbrev pub first_round : Transaction
first_round =
    going_round Kl (turn (look Kl) (turn (look Kl) (turn acknowledge (turn acknowledge stop)))) (1 ∷ 10 ∷ 11 ∷ 2 ∷ 20 ∷ 20 ∷ 11 ∷ 11 ∷ 11 ∷ 11 ∷ [])

-- four turns: panel 3, panel 2, panel 4, contact 20
abbrev pub second_round : Transaction
second_round =
    going_round Kl (turn (look Kl) (turn (look Kl) (turn (look Kl) (turn acknowledge stop))))
    (3 ∷ 30 ∷ 30 ∷ 2 ∷ 20 ∷ 21 ∷ 4 ∷ 40 ∷ 41 ∷ 20 ∷ 20 ∷ [])

-- two turns: contact 40 and a lock of panel 4, contact 20 and a count on panel 2
abbrev pub logging : Transaction
logging = logging_turns (turn log_and_lock (turn log_and_count stop)) (40 ∷ 4 ∷ 20 ∷ 2 ∷ [])

-- panel 3 and contact 30
abbrev pub installing : Transaction
installing =
    record {
      program = record { body = in_row installs; links = link 0 2 1 ∷ [] };
      execution = perform_all installs;
      tuple = λ i. get_or (3 ∷ 3 ∷ 30 ∷ []) i 0;
      tuples = λ i. [];
    }

-- panel 2
abbrev pub showing : Transaction
showing = record { program = record { body = in_row shows; links = [] }; execution = perform_all shows; tuple = λ i. 2; tuples = λ i. [] }

abbrev pub transactions : List Transaction
transactions = first_round ∷ logging ∷ installing ∷ second_round ∷ showing ∷ []

-- the panel of a contact
abbrev pub panel_of : ℕ → Tuple → Tuple
panel_of f t = record { relation = 0; number = t.number / 10 }

-- panel 3 and contact 30 start unborn, the rest visible
abbrev pub start : ℕ → ℕ → Bool
start r t = not (eqb t (cond (eqb r 0) 3 30))

-- ---- the schedule

abbrev pub events : List Event
events =
    event 1 0 0 read 1 40 0
    ∷ event 1 1 0 write 1 40 1
    ∷ event 0 0 0 lock 0 1 1
    ∷ event 2 0 0 insert 0 3 every_attribute
    ∷ event 0 1 1 read 1 10 1
    ∷ event 1 2 1 lock 0 4 2
    ∷ event 0 2 2 read 1 11 1
    ∷ event 2 1 1 lock 0 3 3
    ∷ event 1 3 2 read 1 20 0
    ∷ event 1 4 2 write 1 20 1
    ∷ event 0 3 3 lock 0 2 1
    ∷ event 2 2 2 insert 1 30 every_attribute
    ∷ event 0 4 4 read 1 20 1
    ∷ event 4 0 0 read 0 2 2
    ∷ event 0 5 5 read 1 20 1
    ∷ event 2 3 3 commit 0 0 0
    ∷ event 3 0 0 lock 0 3 1
    ∷ event 0 6 6 lock 1 11 3
    ∷ event 0 7 7 read 1 11 0
    ∷ event 0 8 7 write 1 11 2
    ∷ event 3 1 1 read 1 30 1
    ∷ event 0 9 8 lock 1 11 3
    ∷ event 0 10 9 read 1 11 0
    ∷ event 0 11 9 write 1 11 2
    ∷ event 0 12 10 commit 0 0 0
    ∷ event 1 5 3 read 0 2 0
    ∷ event 1 6 3 write 0 2 2
    ∷ event 3 2 2 read 1 30 1
    ∷ event 1 7 4 commit 0 0 0
    ∷ event 3 3 3 lock 0 2 1
    ∷ event 3 4 4 read 1 20 1
    ∷ event 3 5 5 read 1 21 1
    ∷ event 4 1 1 commit 0 0 0
    ∷ event 3 6 6 lock 0 4 1
    ∷ event 3 7 7 read 1 40 1
    ∷ event 3 8 8 read 1 41 1
    ∷ event 3 9 9 lock 1 20 3
    ∷ event 3 10 10 read 1 20 0
    ∷ event 3 11 10 write 1 20 2
    ∷ event 3 12 11 commit 0 0 0
    ∷ []

pub locked : Schedule lines
unfolding open_workload open_rules
locked = scheduled (interleaving lines (0 ∷ 1 ∷ 2 ∷ 0 ∷ 3 ∷ []) transactions start panel_of events refl refl refl refl) refl

-- an order that serves: the logger, which began first, comes after the first round, whose lock it waited for; the one that shows comes before the
-- logger, though it commits after
pub serialised : Serialisable locked
unfolding open_orders locked
serialised = serial_by_test 5 events (2 ∷ 0 ∷ 4 ∷ 1 ∷ 3 ∷ []) refl refl

-- demand 3 of this schedule: its workload is given and robust
pub serialisable : Serialisable locked
serialisable = demand lines given robust locked

-- ---- what is in it

-- the statements of four turns, two in each arm, and of two turns, one in each arm
statements_in_turns : map (λ (x : Transaction). map (λ o. o.statement.id) (occurrences x.execution 0)) (first_round ∷ logging ∷ [])
    ≡ (0 ∷ 1 ∷ 2 ∷ 0 ∷ 1 ∷ 2 ∷ 3 ∷ 4 ∷ 3 ∷ 4 ∷ []) ∷ (0 ∷ 1 ∷ 2 ∷ 3 ∷ []) ∷ []
unfolding open_workload
statements_in_turns = refl

-- what is locked: transaction, relation and tuple
locks : map (λ e. e.transaction ∷ e.relation ∷ e.tuple ∷ []) (keep (λ e. is_lock e.action) events)
    ≡ (0 ∷ 0 ∷ 1 ∷ [])
    ∷ (1 ∷ 0 ∷ 4 ∷ [])
    ∷ (2 ∷ 0 ∷ 3 ∷ [])
    ∷ (0 ∷ 0 ∷ 2 ∷ [])
    ∷ (3 ∷ 0 ∷ 3 ∷ [])
    ∷ (0 ∷ 1 ∷ 11 ∷ [])
    ∷ (0 ∷ 1 ∷ 11 ∷ [])
    ∷ (3 ∷ 0 ∷ 2 ∷ [])
    ∷ (3 ∷ 0 ∷ 4 ∷ [])
    ∷ (3 ∷ 1 ∷ 20 ∷ [])
    ∷ []
locks = refl

-- as if it stood in no turn and in no arm
abbrev out_of_turn : Performed → Performed
out_of_turn p = record { place = p.place; occurrence = record { statement = p.occurrence.statement; path = [] }; tuples = p.tuples }

-- a select is bound to the lock of its own turn alone: bound to those of all turns, the key would be broken
bound_in_turn : all
    (λ l. all (λ child. all (λ parent. link_kept panel_of l (out_of_turn child) (out_of_turn parent)) (performed first_round)) (performed first_round))
    (rounds Kl).links
    ≡ false
unfolding open_workload
bound_in_turn = refl

-- the logger's write of attribute 1 of panel 2 waits from the lock, which reads attribute 0 of it, to the commit of the one that locked it
pub waits_disjoint : map (λ n. waits (past_at events n) (event 1 6 3 write 0 2 2)) (10 ∷ 11 ∷ 17 ∷ 24 ∷ 25 ∷ [])
    ≡ true ∷ false ∷ false ∷ false ∷ true ∷ []
unfolding open_rules
waits_disjoint = refl

-- the second round's locks, which read attribute 0, wait for the logger, which writes attribute 1 of panel 2 and locks attribute 1 of panel 4
pub locks_wait_disjoint : map
    (λ e. map (λ n. waits (past_at events n) e) (5 ∷ 6 ∷ 26 ∷ 27 ∷ 28 ∷ 29 ∷ []))
    (event 3 3 3 lock 0 2 1 ∷ event 3 6 6 lock 0 4 1 ∷ [])
    ≡ (true ∷ true ∷ true ∷ false ∷ false ∷ true ∷ []) ∷ (true ∷ false ∷ false ∷ false ∷ false ∷ true ∷ []) ∷ []
unfolding open_rules
locks_wait_disjoint = refl

-- what locks read: an own insert, another's insert, an own write of attribute 1 and the start of attribute 0, another's write
lock_sources : source (seen (past_at events 7) 2 0 3) 0
    ∷ source (seen (past_at events 16) 3 0 3) 0
    ∷ source (seen (past_at events 21) 0 1 11) 1
    ∷ source (seen (past_at events 21) 0 1 11) 0
    ∷ source (seen (past_at events 36) 3 1 20) 0
    ∷ []
    ≡ some (event 2 0 0 insert 0 3 every_attribute)
    ∷ some (event 2 0 0 insert 0 3 every_attribute)
    ∷ some (event 0 8 7 write 1 11 2)
    ∷ none
    ∷ some (event 1 4 2 write 1 20 1)
    ∷ []
unfolding open_rules
lock_sources = refl

-- both selects of the second turn read contact 20 as it started, though the logger has written it; the second round reads that write
contact_sources : source (seen (past_at events 12) 0 1 20) 0
    ∷ source (seen (past_at events 14) 0 1 20) 0
    ∷ source (seen (past_at events 30) 3 1 20) 0
    ∷ []
    ≡ none ∷ none ∷ some (event 1 4 2 write 1 20 1) ∷ []
unfolding open_rules
contact_sources = refl

-- ---- logged between two selects of the second turn

abbrev pub two_turns : StatementKind → Transaction
two_turns k = going_round k (turn (look k) (turn (look k) stop)) (1 ∷ 10 ∷ 11 ∷ 2 ∷ 20 ∷ 20 ∷ [])

-- contact 20 and panel 2
abbrev pub locking : Transaction
locking = logging_turns (turn log_and_lock stop) (20 ∷ 2 ∷ [])

abbrev pub counting : Transaction
counting = logging_turns (turn log_and_count stop) (20 ∷ 2 ∷ [])

-- contact 20 is read, logged, and read again; what the logger does with panel 2 is left open
abbrev pub logged_between : Action → List Event → List Event
logged_between a on_panel =
    event 0 0 0 a 0 1 1
    ∷ event 0 1 1 read 1 10 1
    ∷ event 0 2 2 read 1 11 1
    ∷ event 0 3 3 a 0 2 1
    ∷ event 0 4 4 read 1 20 1
    ∷ event 1 0 0 read 1 20 0
    ∷ event 1 1 0 write 1 20 1
    ∷ on_panel
    ++ (event 0 5 5 read 1 20 1 ∷ event 0 6 6 commit 0 0 0 ∷ [])

-- reads the count under a lock, or counts, and commits
abbrev pub locks_panel : List Event
locks_panel = event 1 2 1 lock 0 2 2 ∷ event 1 3 2 commit 0 0 0 ∷ []

abbrev pub counts_on_panel : List Event
counts_on_panel = event 1 2 1 read 0 2 0 ∷ event 1 3 1 write 0 2 2 ∷ event 1 4 2 commit 0 0 0 ∷ []

-- contact 20 is logged with a count on panel 2, and read before the logger commits and after
abbrev pub counted_before : List Event
counted_before =
    event 1 0 0 read 1 20 0
    ∷ event 1 1 0 write 1 20 1
    ∷ event 1 2 1 read 0 2 0
    ∷ event 1 3 1 write 0 2 2
    ∷ event 0 0 0 lock 0 1 1
    ∷ event 0 1 1 read 1 10 1
    ∷ event 0 2 2 read 1 11 1
    ∷ event 0 3 3 lock 0 2 1
    ∷ event 0 4 4 read 1 20 1
    ∷ event 1 4 2 commit 0 0 0
    ∷ event 0 5 5 read 1 20 1
    ∷ event 0 6 6 commit 0 0 0
    ∷ []

-- with `ks` for the near lock the first meets every rule, and no order serves
pub selected : Schedule (lines_with Ks Kl)
unfolding open_workload open_rules
selected =
    scheduled
    (interleaving (lines_with Ks Kl) (0 ∷ 1 ∷ []) (two_turns Ks ∷ counting ∷ []) all_visible panel_of
    (logged_between read counts_on_panel) refl refl refl refl)
    refl

pub no_order_lem : Serialisable selected → ⊥
unfolding open_orders selected
no_order_lem = none_serves_lem 2 (logged_between read counts_on_panel) refl

-- ---- the ban is of tuples

-- with locks each is refused, and only because claims wait that share no attribute: demand 3 needs this of each part
abbrev pub disjoint : (Event → Event → Bool) → Event → Event → Bool
disjoint part w e = part w e && not (meets w.attributes e.attributes)

pub no_write_beside_lock : Needed lines (disjoint write_behind_lock)
unfolding open_parts
no_write_beside_lock =
    needed given robust
    (interleaving lines (0 ∷ 1 ∷ []) (two_turns Kl ∷ counting ∷ []) all_visible panel_of (logged_between lock counts_on_panel) refl refl refl refl)
    refl refl refl

pub no_lock_beside_lock : Needed lines (disjoint lock_behind_lock)
unfolding open_parts
no_lock_beside_lock =
    needed given robust
    (interleaving lines (0 ∷ 1 ∷ []) (two_turns Kl ∷ locking ∷ []) all_visible panel_of (logged_between lock locks_panel) refl refl refl refl)
    refl refl refl

pub no_lock_beside_write : Needed lines (disjoint lock_behind_write)
unfolding open_parts
no_lock_beside_write =
    needed given robust
    (interleaving lines (0 ∷ 1 ∷ []) (two_turns Kl ∷ counting ∷ []) all_visible panel_of counted_before refl refl refl refl)
    refl refl refl
