-- A schedule with every lawful thing that a robust workload can show, of a workload that is robust only because of its links: orders, their
-- lines, and articles. It has nested loops turned more than twice, an empty transaction, an insert that its own transaction reads, updates
-- and deletes, tuples that one transaction inserts and others update, read and delete, deletes in plenty, and predicate statements on three tuples.
-- Parents of kinds is, ks and kd stand before their children within a turn. A pd stands in no robust workload: see `AllKinds` of
-- schedule_cases.
use Rattle.std.specs.Prelude.{Bool, true, cond, not, ◌&&◌, ◌||◌, List, [], ◌∷◌, map, ◌≡◌, refl, ℕ, ◌/◌, ◌%◌, eqb, ltb, length, get_or}
use Rattle.std.proofs.Math.Option.{some}
use Rattle.spec_base.specs.Basic.{keep, count}
use Rattle.spec_text.specs.declared.Line.{Line}
use Rattle.spec_text.specs.declared.LineKind.TheVariants.{Rl, Fk, Pr, St, Lo, En, Li}
use Rattle.spec_text.specs.declared.StatementKind.TheVariants.{Is, Ks, Ps, Ku, Pu, Kd}
use Rattle.spec_graph.specs.Program.{Program}
use Rattle.spec_graph.specs.Program.Item.{statement, loop}
use Rattle.spec_graph.specs.Program.Run.{done, next}
use Rattle.spec_graph.specs.Unfolding.{occurrences}
use Rattle.spec_graph.specs.Unfolding.Execution.{end, step}
use Rattle.spec_graph.specs.Unfolding.ItemExecution.{perform, turns}
use Rattle.spec_graph.specs.Unfolding.Turns.{stop, turn}
use Rattle.spec_schedule.specs.Event.{Event, by, is_delete, past_at, writes_of, seen, source}
use Rattle.spec_schedule.specs.Event.Action.{read, write, insert, delete, predicate_read, commit}
use Rattle.spec_schedule.specs.Schedule.{Tuple, Transaction, Schedule, every_attribute, events_of}
use Rattle.spec_schedule.specs.Serial.{Serialisable}
use Rattle.schedule_cases.specs.SerialTest.{serial_by_test, open_test, action_number}
use Rattle.spec_schedule.specs.ScheduleExamples.{line, says, event, open_workload, open_rules}
use Rattle.witness.specs.Schedules.{interleaving, scheduled}

-- rl 0 - - 1 - -
-- rl 1 - - 1 - -
-- rl 2 - - 3 - -
-- fk 0 1 0 - - -
-- fk 1 1 2 - - -
-- pr 0 - - - - -
-- lo - - - - - -
-- is 0 0 - - 1 -
-- lo - - - - - -
-- ks 1 1 - 1 - -
-- en - - - - - -
-- en - - - - - -
-- li 0 1 0 - - -
-- pr 1 - - - - -
-- lo - - - - - -
-- kd 0 0 - - 1 -
-- ks 1 2 - 1 - -
-- ks 2 1 - 1 - -
-- kd 3 1 - - 1 -
-- en - - - - - -
-- li 0 2 0 - - -
-- li 0 3 0 - - -
-- li 1 3 1 - - -
-- pr 2 - - - - -
-- ku 0 0 - 1 1 -
-- is 1 1 - - 1 -
-- ks 2 1 - 1 - -
-- ku 3 1 - 1 1 -
-- kd 4 1 - - 1 -
-- li 0 1 0 - - -
-- li 0 2 0 - - -
-- li 0 3 0 - - -
-- li 0 4 0 - - -
-- pr 3 - - - - -
-- ps 0 1 - 1 - 1
-- pr 4 - - - - -
-- pu 0 2 - 2 2 1
abbrev pub lines : List Line
lines =
    line Rl 0 0 0 1 0 0
    ∷ line Rl 1 0 0 1 0 0
    ∷ line Rl 2 0 0 3 0 0
    ∷ line Fk 0 1 0 0 0 0
    ∷ line Fk 1 1 2 0 0 0
    ∷ line Pr 0 0 0 0 0 0
    ∷ line Lo 0 0 0 0 0 0
    ∷ line (St Is) 0 0 0 0 1 0
    ∷ line Lo 0 0 0 0 0 0
    ∷ line (St Ks) 1 1 0 1 0 0
    ∷ line En 0 0 0 0 0 0
    ∷ line En 0 0 0 0 0 0
    ∷ line Li 0 1 0 0 0 0
    ∷ line Pr 1 0 0 0 0 0
    ∷ line Lo 0 0 0 0 0 0
    ∷ line (St Kd) 0 0 0 0 1 0
    ∷ line (St Ks) 1 2 0 1 0 0
    ∷ line (St Ks) 2 1 0 1 0 0
    ∷ line (St Kd) 3 1 0 0 1 0
    ∷ line En 0 0 0 0 0 0
    ∷ line Li 0 2 0 0 0 0
    ∷ line Li 0 3 0 0 0 0
    ∷ line Li 1 3 1 0 0 0
    ∷ line Pr 2 0 0 0 0 0
    ∷ line (St Ku) 0 0 0 1 1 0
    ∷ line (St Is) 1 1 0 0 1 0
    ∷ line (St Ks) 2 1 0 1 0 0
    ∷ line (St Ku) 3 1 0 1 1 0
    ∷ line (St Kd) 4 1 0 0 1 0
    ∷ line Li 0 1 0 0 0 0
    ∷ line Li 0 2 0 0 0 0
    ∷ line Li 0 3 0 0 0 0
    ∷ line Li 0 4 0 0 0 0
    ∷ line Pr 3 0 0 0 0 0
    ∷ line (St Ps) 0 1 0 1 0 1
    ∷ line Pr 4 0 0 0 0 0
    ∷ line (St Pu) 0 2 0 2 2 1
    ∷ []

-- any number of times: inserts an order, then reads any number of its lines
abbrev pub opens : Program
opens =
    record {
      body =
          next
          (loop (next (statement (says Is 0 0 0 1 0)) (next (loop (next (statement (says Ks 1 1 1 0 0)) done)) done)))
          done;
      links = record { key = 0; child = 1; parent = 0 } ∷ [];
    }

-- any number of times: deletes an order, reads an article, reads a line of the order, deletes a line of the order and of the article
abbrev pub cancels : Program
cancels =
    record {
      body =
          next
          (loop
          (next (statement (says Kd 0 0 0 1 0))
          (next (statement (says Ks 1 2 1 0 0)) (next (statement (says Ks 2 1 1 0 0)) (next (statement (says Kd 3 1 0 1 0)) done)))))
          done;
      links =
          record { key = 0; child = 2; parent = 0 } ∷ record { key = 0; child = 3; parent = 0 } ∷ record { key = 1; child = 3; parent = 1 } ∷ [];
    }

-- updates an order, then inserts, reads, updates and deletes lines of it
abbrev pub amends : Program
amends =
    record {
      body =
          next (statement (says Ku 0 0 1 1 0))
          (next (statement (says Is 1 1 0 1 0))
          (next (statement (says Ks 2 1 1 0 0)) (next (statement (says Ku 3 1 1 1 0)) (next (statement (says Kd 4 1 0 1 0)) done))));
      links =
          record { key = 0; child = 1; parent = 0 }
          ∷ record { key = 0; child = 2; parent = 0 }
          ∷ record { key = 0; child = 3; parent = 0 }
          ∷ record { key = 0; child = 4; parent = 0 }
          ∷ [];
    }

-- looks at the lines
abbrev pub lists : Program
lists = record { body = next (statement (says Ps 0 1 1 0 1)) done; links = [] }

-- updates articles
abbrev pub restocks : Program
restocks = record { body = next (statement (says Pu 0 2 2 2 1)) done; links = [] }

-- the order of a line, and its article
abbrev pub key_of : ℕ → Tuple → Tuple
key_of f t =
    cond (eqb f 0) (record { relation = 0; number = t.number / 10 }) (record { relation = 2; number = t.number % 10 })

-- three turns: order 1 and three lines of it, order 2 and one line of it, order 3 and none
abbrev pub opening : Transaction
opening =
    record {
      program = opens;
      execution =
          step
          (turns
          (turn (step perform (step (turns (turn (step perform end) (turn (step perform end) (turn (step perform end) stop)))) end))
          (turn (step perform (step (turns (turn (step perform end) stop)) end)) (turn (step perform (step (turns stop) end)) stop))))
          end;
      tuple = λ i. get_or (1 ∷ 10 ∷ 11 ∷ 12 ∷ 2 ∷ 20 ∷ 3 ∷ []) i 0;
      tuples = λ i. [];
    }

-- no turn: the transaction is empty
abbrev pub idling : Transaction
idling = record { program = opens; execution = step (turns stop) end; tuple = λ i. 0; tuples = λ i. [] }

-- two turns: order 1 with article 0 and line 10, then order 4 with article 1, line 40 read and line 41 deleted
abbrev pub cancelling : Transaction
cancelling =
    record {
      program = cancels;
      execution =
          step
          (turns
          (turn (step perform (step perform (step perform (step perform end))))
          (turn (step perform (step perform (step perform (step perform end)))) stop)))
          end;
      tuple = λ i. get_or (1 ∷ 0 ∷ 10 ∷ 10 ∷ 4 ∷ 1 ∷ 40 ∷ 41 ∷ []) i 0;
      tuples = λ i. [];
    }

-- on these tuples
abbrev pub amending : List ℕ → Transaction
amending these =
    record {
      program = amends;
      execution = step perform (step perform (step perform (step perform (step perform end))));
      tuple = λ i. get_or these i 0;
      tuples = λ i. [];
    }

-- of order 5, line 51: inserted, read, updated and deleted
abbrev pub amending_own : Transaction
amending_own = amending (5 ∷ 51 ∷ 51 ∷ 51 ∷ 51 ∷ [])

-- of order 2, line 21, which stays, and line 22, which is deleted
abbrev pub amending_other : Transaction
amending_other = amending (2 ∷ 21 ∷ 21 ∷ 21 ∷ 22 ∷ [])

-- takes lines 21, 10 and 40
abbrev pub listing : Transaction
listing = record { program = lists; execution = step perform end; tuple = λ i. 0; tuples = λ i. 21 ∷ 10 ∷ 40 ∷ [] }

-- updates articles 0, 1 and 2
abbrev pub restocking : Transaction
restocking = record { program = restocks; execution = step perform end; tuple = λ i. 0; tuples = λ i. 0 ∷ 1 ∷ 2 ∷ [] }

abbrev pub transactions : List Transaction
transactions = opening ∷ idling ∷ cancelling ∷ amending_own ∷ listing ∷ restocking ∷ amending_other ∷ []

-- orders 1, 2 and 3 and lines 21 and 51 start unborn, the rest visible
abbrev pub start : ℕ → ℕ → Bool
start r t = cond (eqb r 0) (ltb 3 t) (cond (eqb r 1) (not (eqb t 21 || eqb t 51)) true)

abbrev pub events : List Event
events =
    event 0 0 0 insert 0 1 every_attribute
    ∷ event 3 0 0 read 0 5 1
    ∷ event 3 1 0 write 0 5 1
    ∷ event 0 1 1 read 1 10 1
    ∷ event 5 0 0 predicate_read 2 0 1
    ∷ event 5 1 0 read 2 0 2
    ∷ event 5 2 0 write 2 0 2
    ∷ event 5 3 0 read 2 1 2
    ∷ event 5 4 0 write 2 1 2
    ∷ event 5 5 0 read 2 2 2
    ∷ event 5 6 0 write 2 2 2
    ∷ event 3 2 1 insert 1 51 every_attribute
    ∷ event 0 2 2 read 1 11 1
    ∷ event 0 3 3 read 1 12 1
    ∷ event 0 4 4 insert 0 2 every_attribute
    ∷ event 1 0 0 commit 0 0 0
    ∷ event 3 3 2 read 1 51 1
    ∷ event 0 5 5 read 1 20 1
    ∷ event 0 6 6 insert 0 3 every_attribute
    ∷ event 0 7 7 commit 0 0 0
    ∷ event 6 0 0 read 0 2 1
    ∷ event 6 1 0 write 0 2 1
    ∷ event 2 0 0 delete 0 1 every_attribute
    ∷ event 3 4 3 read 1 51 1
    ∷ event 3 5 3 write 1 51 1
    ∷ event 6 2 1 insert 1 21 every_attribute
    ∷ event 2 1 1 read 2 0 1
    ∷ event 6 3 2 read 1 21 1
    ∷ event 2 2 2 read 1 10 1
    ∷ event 6 4 3 read 1 21 1
    ∷ event 6 5 3 write 1 21 1
    ∷ event 2 3 3 delete 1 10 every_attribute
    ∷ event 6 6 4 delete 1 22 every_attribute
    ∷ event 6 7 5 commit 0 0 0
    ∷ event 4 0 0 predicate_read 1 0 1
    ∷ event 4 1 0 read 1 21 1
    ∷ event 4 2 0 read 1 10 1
    ∷ event 4 3 0 read 1 40 1
    ∷ event 3 6 4 delete 1 51 every_attribute
    ∷ event 3 7 5 commit 0 0 0
    ∷ event 2 4 4 delete 0 4 every_attribute
    ∷ event 2 5 5 read 2 1 1
    ∷ event 2 6 6 read 1 40 1
    ∷ event 2 7 7 delete 1 41 every_attribute
    ∷ event 2 8 8 commit 0 0 0
    ∷ event 5 7 1 commit 0 0 0
    ∷ event 4 4 1 commit 0 0 0
    ∷ []

pub rich : Schedule lines
unfolding open_workload open_rules
rich = scheduled (interleaving lines (0 ∷ 0 ∷ 1 ∷ 2 ∷ 3 ∷ 4 ∷ 2 ∷ []) transactions start key_of events refl refl refl refl) refl

-- an order that serves: the one that lists comes fifth, though it commits last
pub serialised : Serialisable rich
unfolding open_test rich
serialised = serial_by_test 7 events (0 ∷ 1 ∷ 5 ∷ 6 ∷ 4 ∷ 2 ∷ 3 ∷ []) refl refl

-- ---- what is in it

-- the loops are nested and turned three times: order, three lines, order, line, order
nested_turns : map (λ o. o.statement.id) (occurrences opening.execution 0) ≡ 0 ∷ 1 ∷ 1 ∷ 1 ∷ 0 ∷ 1 ∷ 0 ∷ []
unfolding open_workload
nested_turns = refl

-- a transaction of no statement
empty : events_of 1 idling ≡ event 1 0 0 commit 0 0 0 ∷ []
unfolding open_workload
empty = refl

-- an own insert is read, updated and deleted
own_line : map (λ e. action_number e.action) (keep (λ e. by 3 e && eqb e.tuple 51) events)
    ≡ map action_number (insert ∷ read ∷ read ∷ write ∷ delete ∷ [])
own_line = refl

own_insert_read : source (seen (past_at events 16) 3 1 51) 0 ≡ some (event 3 2 1 insert 1 51 every_attribute)
unfolding open_rules
own_insert_read = refl

-- order 2 is inserted by one transaction and updated by another, order 1 deleted by a third
order_two : map (λ e. e.transaction) (writes_of 0 2 (past_at events (length events))) ≡ 6 ∷ 0 ∷ []
unfolding open_rules
order_two = refl

order_one : map (λ e. e.transaction) (writes_of 0 1 (past_at events (length events))) ≡ 2 ∷ 0 ∷ []
unfolding open_rules
order_one = refl

-- line 21 is inserted and updated by one transaction and read by another; line 10, deleted before that by one that has not committed, is read too
others_line : source (seen (past_at events 35) 4 1 21) 0 ≡ some (event 6 5 3 write 1 21 1)
unfolding open_rules
others_line = refl

deleted_line_read : map (λ e. action_number e.action) (writes_of 1 10 (past_at events 36)) ≡ map action_number (delete ∷ [])
unfolding open_rules
deleted_line_read = refl

-- six deletes
six_deletes : count (λ e. is_delete e.action) events ≡ 6
six_deletes = refl

-- whose events stand in which order
in_turns : map (λ e. e.transaction) events
    ≡ 0 ∷ 3 ∷ 3 ∷ 0 ∷ 5 ∷ 5 ∷ 5 ∷ 5 ∷ 5 ∷ 5 ∷ 5 ∷ 3 ∷ 0 ∷ 0 ∷ 0 ∷ 1 ∷ 3 ∷ 0 ∷ 0 ∷ 0 ∷ 6 ∷ 6 ∷ 2
    ∷ 3 ∷ 3 ∷ 6 ∷ 2 ∷ 6 ∷ 2 ∷ 6 ∷ 6 ∷ 2 ∷ 6 ∷ 6 ∷ 4 ∷ 4 ∷ 4 ∷ 4 ∷ 3 ∷ 3 ∷ 2 ∷ 2 ∷ 2 ∷ 2 ∷ 2 ∷ 5 ∷ 4 ∷ []
in_turns = refl
