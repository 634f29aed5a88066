-- A schedule that meets every rule and has a serial order, of a robust workload (6 nodes, 56 edges, 5 of them back) with a loop, a
-- branch, an insert, a delete, a predicate read and links: the first three transactions are in one another's midst, then the last three.
use Rattle.std.specs.Prelude.{not, ◌≡◌, refl, ℕ, ◌%◌, eqb, length, get_or}
use mathlib.Core.List.{List, [], ◌∷◌, map, Memᴰ}
use Rattle.std.proofs.Math.Option.{none, some}
use Rattle.std.proofs.Common.{sym, subst}
use Rattle.spec_text.specs.declared.Line.{Line}
use Rattle.spec_text.specs.declared.LineKind.TheVariants.{Rl, Fk, Pr, St, Lo, Br, El, En, Li}
use Rattle.spec_text.specs.declared.StatementKind.TheVariants.{Is, Ps, Ku, Kd}
use Rattle.spec_graph.specs.Program.{Program, programs_of}
use Rattle.spec_graph.specs.Program.Item.{statement, loop, branch}
use Rattle.spec_graph.specs.Program.Run.{done, next}
use Rattle.spec_graph.specs.Unfolding.{occurrences}
use Rattle.spec_graph.specs.Unfolding.Execution.{end, step}
use Rattle.spec_graph.specs.Unfolding.ItemExecution.{perform, turns, arm_one, arm_two}
use Rattle.spec_graph.specs.Unfolding.Turns.{stop, turn}
use Rattle.spec_schedule.specs.Event.{Event, past_at, writes_of, seen, source, existence}
use Rattle.spec_schedule.specs.Event.Action.{read, write, insert, delete, predicate_read, commit}
use Rattle.spec_schedule.specs.Schedule.{Tuple, Transaction, Schedule, every_attribute}
use Rattle.spec_schedule.specs.Serial.{Serialisable}
use Rattle.schedule_cases.specs.SerialTest.{serial_by_test, open_test}
use Rattle.spec_schedule.specs.ScheduleExamples.{line, says, event, open_workload, open_rules, no_program, one_program, wholes}

-- rl 0 - - 3 - -
-- rl 1 - - 3 - -
-- fk 0 1 0 - - -
-- pr 0 - - - - -
-- lo - - - - - -
-- ku 0 1 - 2 2 -
-- en - - - - - -
-- ku 1 0 - 2 2 -
-- li 0 0 1 - - -
-- pr 1 - - - - -
-- br - - - - - -
-- is 0 1 - - 3 -
-- el - - - - - -
-- kd 1 1 - - 3 -
-- en - - - - - -
-- ku 2 0 - 2 2 -
-- li 0 0 2 - - -
-- li 0 1 2 - - -
-- pr 2 - - - - -
-- ps 0 1 - 2 - 1
abbrev pub lines : List Line
lines =
    line Rl 0 0 0 3 0 0
    ∷ line Rl 1 0 0 3 0 0
    ∷ line Fk 0 1 0 0 0 0
    ∷ line Pr 0 0 0 0 0 0
    ∷ line Lo 0 0 0 0 0 0
    ∷ line (St Ku) 0 1 0 2 2 0
    ∷ line En 0 0 0 0 0 0
    ∷ line (St Ku) 1 0 0 2 2 0
    ∷ line Li 0 0 1 0 0 0
    ∷ line Pr 1 0 0 0 0 0
    ∷ line Br 0 0 0 0 0 0
    ∷ line (St Is) 0 1 0 0 3 0
    ∷ line El 0 0 0 0 0 0
    ∷ line (St Kd) 1 1 0 0 3 0
    ∷ line En 0 0 0 0 0 0
    ∷ line (St Ku) 2 0 0 2 2 0
    ∷ line Li 0 0 2 0 0 0
    ∷ line Li 0 1 2 0 0 0
    ∷ line Pr 2 0 0 0 0 0
    ∷ line (St Ps) 0 1 0 2 0 1
    ∷ []

-- updates any number of children, then their parent
abbrev pub updates : Program
updates =
    record {
      body = next (loop (next (statement (says Ku 0 1 2 2 0)) done)) (next (statement (says Ku 1 0 2 2 0)) done);
      links = record { key = 0; child = 0; parent = 1 } ∷ [];
    }

-- inserts or deletes a child, then updates its parent
abbrev pub changes : Program
changes =
    record {
      body =
          next
          (branch (next (statement (says Is 0 1 0 3 0)) done) (next (statement (says Kd 1 1 0 3 0)) done))
          (next (statement (says Ku 2 0 2 2 0)) done);
      links = record { key = 0; child = 0; parent = 2 } ∷ record { key = 0; child = 1; parent = 2 } ∷ [];
    }

-- looks at the children
abbrev pub looks : Program
looks = record { body = next (statement (says Ps 0 1 2 0 1)) done; links = [] }

pub programs : programs_of lines ≡ updates ∷ changes ∷ looks ∷ []
unfolding open_workload
programs = refl

-- three turns, on children 0, 2 and 0 again, then parent 0
abbrev pub updating : Transaction
updating =
    record {
      program = updates;
      execution = step (turns (turn (step perform end) (turn (step perform end) (turn (step perform end) stop)))) (step perform end);
      tuple = λ i. get_or (0 ∷ 2 ∷ 0 ∷ 0 ∷ []) i 0;
      tuples = λ i. [];
    }

-- inserts child 4, then updates parent 0
abbrev pub inserting : Transaction
inserting =
    record {
      program = changes;
      execution = step (arm_one (step perform end)) (step perform end);
      tuple = λ i. get_or (4 ∷ 0 ∷ []) i 0;
      tuples = λ i. [];
    }

-- deletes child 3, then updates parent 1
abbrev pub deleting : Transaction
deleting =
    record {
      program = changes;
      execution = step (arm_two (step perform end)) (step perform end);
      tuple = λ i. get_or (3 ∷ 1 ∷ []) i 0;
      tuples = λ i. [];
    }

-- takes children 0 and 3
abbrev pub looking : Transaction
looking = record { program = looks; execution = step perform end; tuple = λ i. 0; tuples = λ i. 0 ∷ 3 ∷ [] }

-- the parent of a child
abbrev pub parent_of : ℕ → Tuple → Tuple
parent_of f t = record { relation = 0; number = t.number % 2 }

abbrev pub events : List Event
events =
    event 0 0 0 read 1 0 2
    ∷ event 0 1 0 write 1 0 2
    ∷ event 1 0 0 insert 1 4 every_attribute
    ∷ event 0 2 1 read 1 2 2
    ∷ event 0 3 1 write 1 2 2
    ∷ event 2 0 0 delete 1 3 every_attribute
    ∷ event 0 4 2 read 1 0 2
    ∷ event 0 5 2 write 1 0 2
    ∷ event 0 6 3 read 0 0 2
    ∷ event 0 7 3 write 0 0 2
    ∷ event 0 8 4 commit 0 0 0
    ∷ event 3 0 0 predicate_read 1 0 1
    ∷ event 3 1 0 read 1 0 2
    ∷ event 3 2 0 read 1 3 2
    ∷ event 1 1 1 read 0 0 2
    ∷ event 1 2 1 write 0 0 2
    ∷ event 1 3 2 commit 0 0 0
    ∷ event 2 1 1 read 0 1 2
    ∷ event 2 2 1 write 0 1 2
    ∷ event 2 3 2 commit 0 0 0
    ∷ event 3 3 1 commit 0 0 0
    ∷ []

pub interleaved : Schedule lines
unfolding open_workload open_rules
interleaved =
    record {
      transactions = updating ∷ inserting ∷ deleting ∷ looking ∷ [];
      of_programs = λ x m. subst (Memᴰ x.program) (sym programs) (members x m);
      start = λ r t. not (eqb t 4);
      key = parent_of;
      kept = refl;
      events = events;
      known = refl;
      whole = wholes events (updating ∷ inserting ∷ deleting ∷ looking ∷ []) refl;
      obeyed = refl;
    }
  where
    second : Memᴰ changes (updates ∷ changes ∷ looks ∷ [])
    second = Memᴰ.tail (Memᴰ.head refl)

    members : (x : Transaction) → Memᴰ x (updating ∷ inserting ∷ deleting ∷ looking ∷ [])
        → Memᴰ x.program (updates ∷ changes ∷ looks ∷ [])
    members =
        one_program updating (Memᴰ.head refl)
        (one_program inserting second (one_program deleting second
        (one_program looking (Memᴰ.tail (Memᴰ.tail (Memᴰ.head refl))) no_program)))

-- the one that looks comes second in the serial order, though it commits last
pub serialised : Serialisable interleaved
unfolding open_test interleaved
serialised = serial_by_test 4 events (0 ∷ 3 ∷ 1 ∷ 2 ∷ []) refl refl

-- the loop is taken three times
three_turns : map (λ o. o.statement.id) (occurrences updating.execution 0) ≡ 0 ∷ 0 ∷ 0 ∷ 1 ∷ []
unfolding open_workload
three_turns = refl

-- the third turn reads what the first wrote
own_write : source (seen (past_at events 6) 0 1 0) 1 ≡ some (event 0 1 0 write 1 0 2)
unfolding open_rules
own_write = refl

-- the insert and the delete stand before the predicate read, which sees neither, and sees the first transaction's last write
insert_unseen : existence (seen (past_at events 11) 3 1 4) ≡ none
unfolding open_rules
insert_unseen = refl

delete_unseen : existence (seen (past_at events 11) 3 1 3) ≡ none
unfolding open_rules
delete_unseen = refl

update_seen : source (seen (past_at events 12) 3 1 0) 1 ≡ some (event 0 5 2 write 1 0 2)
unfolding open_rules
update_seen = refl

-- two transactions write parent 0
two_writers : map (λ e. e.transaction) (writes_of 0 0 (past_at events (length events))) ≡ 1 ∷ 0 ∷ []
unfolding open_rules
two_writers = refl

-- whose events stand in which order
in_turns : map (λ e. e.transaction) events ≡ 0 ∷ 0 ∷ 1 ∷ 0 ∷ 0 ∷ 2 ∷ 0 ∷ 0 ∷ 0 ∷ 0 ∷ 0 ∷ 3 ∷ 3 ∷ 3 ∷ 1 ∷ 1 ∷ 1 ∷ 2 ∷ 2 ∷ 2 ∷ 3 ∷ []
in_turns = refl
