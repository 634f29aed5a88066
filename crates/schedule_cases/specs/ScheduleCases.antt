-- More small closed cases that pin each rule of the schedules (H) and of the serial run (X), each under its label: those that no edit needs.
use Rattle.std.specs.Prelude.{Bool, true, false, not, ◌&&◌, ◌≡◌, refl, ℕ, suc, ◌+◌, ◌*◌, ◌%◌, eqb, ltb, length, get_or, replicate}
use Rattle.std.proofs.lemmas.Bool.{false≢true}
use mathlib.Core.List.{List, [], ◌∷◌, flat_map, Memᴰ, ◌++◌, map}
use Rattle.std.proofs.Common.{ap, sym, subst, subst₂, arith, not-suc-le-zero, ltb-true}
use Rattle.spec_text.specs.declared.Line.{Line}
use Rattle.spec_text.specs.declared.StatementKind.{StatementKind}
use Rattle.spec_graph.specs.Program.{Statement, Run}
use Rattle.spec_graph.specs.Unfolding.{Occurrence, occurrences}
use Rattle.spec_schedule.specs.Event.{Event, committed, seen, source, existence, visible}
use Rattle.spec_schedule.specs.Event.{inserts_first, deletes_last, meets_visible, waits, all_obey}
use Rattle.spec_schedule.specs.Serial.{state_at, SameRead, SamePredicateRead, SerialOrder}
use Rattle.spec_schedule.specs.Schedule.{Tuple, Transaction, Performed, Schedule, every_attribute, performed_from, performed, operations_of}
use Rattle.spec_schedule.specs.Schedule.{operations, events_of, link_kept, keys_kept, chosen}
use Rattle.std.proofs.Math.Option.{none, some, some-ne-none}
use Rattle.spec_base.specs.Basic.{all, count}
use Rattle.law_base.specs.BoolLaws.{true_false, false_of}
use Rattle.law_base.specs.ListLaws.{all_true, some_injective}
use Rattle.spec_text.specs.declared.StatementKind.TheVariants.{Is, Ks, Ps, Ku, Pu, Kd, Pd, Kl}
use Rattle.spec_graph.specs.Program.Item.{statement, loop, branch}
use Rattle.spec_graph.specs.Program.Run.{done, next}
use Rattle.spec_graph.specs.Unfolding.Execution.{end, step}
use Rattle.spec_graph.specs.Unfolding.ItemExecution.{perform, turns, arm_one, arm_two}
use Rattle.spec_graph.specs.Unfolding.Turns.{stop, turn}
use Rattle.spec_schedule.specs.Event.Action.{read, lock, write, insert, delete, predicate_read, commit}
use Rattle.spec_schedule.specs.ScheduleExamples.{says, event, open_workload, open_rules, alone, operation, last, rules, does}
use Rattle.spec_schedule.specs.ScheduleExamples.{written_twice, by_sets, by_ten, both_inside, link_broken, read_after, final}

-- a run of one statement
abbrev one : ℕ → Run
one i = next (statement (says Ks i 0 1 0 0)) done

-- H1: a loop turns any number of times, here three times, and takes either arm of a branch afresh in each turn
loop_thrice : map (λ o. o.statement.id)
    (occurrences {r = next (loop (next (branch (one 0) (one 1)) done)) done}
    (step (turns (turn (step (arm_one (step perform end)) end)
    (turn (step (arm_two (step perform end)) end) (turn (step (arm_one (step perform end)) end) stop)))) end)
    0)
    ≡ 0 ∷ 1 ∷ 0 ∷ []
unfolding open_workload
loop_thrice = refl

-- H1: a loop may turn no time
loop_never : occurrences {r = next (loop (one 0)) done} (step (turns stop) end) 0 ≡ []
unfolding open_workload
loop_never = refl

-- H2, H13: is gives one insert, of all attributes
insert_one : operations (alone Is) ≡ operation 0 insert 5 7 0xffff_ffff_ffff_ffff ∷ last
unfolding open_workload
insert_one = refl

-- H2: ks gives one read
select_one : operations (alone Ks) ≡ operation 0 read 5 7 1 ∷ last
unfolding open_workload
select_one = refl

-- H2, H12: pu gives a predicate read, then a read and a write of each tuple
update_many : operations (alone Pu)
    ≡ operation 0 predicate_read 5 0 4
    ∷ operation 0 read 5 8 1 ∷ operation 0 write 5 8 2
    ∷ operation 0 read 5 9 1 ∷ operation 0 write 5 9 2
    ∷ operation 0 read 5 10 1 ∷ operation 0 write 5 10 2 ∷ last
unfolding open_workload
update_many = refl

-- H2, H12, H13: pd gives a predicate read, then a delete of each tuple
delete_many : operations (alone Pd)
    ≡ operation 0 predicate_read 5 0 4
    ∷ operation 0 delete 5 8 every_attribute ∷ operation 0 delete 5 9 every_attribute ∷ operation 0 delete 5 10 every_attribute ∷ last
unfolding open_workload
delete_many = refl

-- a statement of this kind with these tuples at place 3
abbrev at : StatementKind → List ℕ → Performed
at k l = record { place = 3; occurrence = record { statement = says k 0 5 1 2 4; path = [] }; tuples = chosen k 7 l }

-- H2: so it is with any finite number of tuples, none too
select_any : (l : List ℕ) → operations_of (at Ps l) ≡ operation 3 predicate_read 5 0 4 ∷ flat_map (λ t. operation 3 read 5 t 1 ∷ []) l
unfolding open_workload
select_any l = refl

update_any : (l : List ℕ) → operations_of (at Pu l)
    ≡ operation 3 predicate_read 5 0 4 ∷ flat_map (λ t. operation 3 read 5 t 1 ∷ operation 3 write 5 t 2 ∷ []) l
unfolding open_workload
update_any l = refl

delete_any : (l : List ℕ) → operations_of (at Pd l)
    ≡ operation 3 predicate_read 5 0 4 ∷ flat_map (λ t. operation 3 delete 5 t every_attribute ∷ []) l
unfolding open_workload
delete_any l = refl

-- H8: every statement of the execution is performed, in its order
performed_all : (x : Transaction) (i : ℕ) (l : List Occurrence) → map (λ p. p.occurrence) (performed_from x i l) ≡ l
unfolding performed_from
performed_all x i [] = refl
performed_all x i (o ∷ l) = ap (λ r. o ∷ r) (performed_all x (suc i) l)

every_statement : (x : Transaction) → map (λ p. p.occurrence) (performed x) ≡ occurrences x.execution 0
unfolding performed
every_statement x = performed_all x 0 (occurrences x.execution 0)

-- H8: an execution of no statement has a commit all the same
empty_commits : events_of 0 (record { program = record { body = done; links = [] }; execution = end; tuple = λ i. 0; tuples = λ i. [] })
    ≡ event 0 0 0 commit 0 0 0 ∷ []
unfolding open_workload
empty_commits = refl

-- H3: a statement's operations stand together
together_kept : rules (event 0 0 0 read 0 0 1 ∷ event 0 1 0 write 0 0 1 ∷ event 1 0 0 read 0 0 1 ∷ []) ≡ true
unfolding open_rules
together_kept = refl

-- H3: the operations of another statement of the same transaction may follow
statements_follow : rules (event 0 0 0 read 0 0 1 ∷ event 1 0 0 read 0 0 1 ∷ event 0 1 1 write 0 0 1 ∷ []) ≡ true
unfolding open_rules
statements_follow = refl

-- H5: an insert is the first write of a tuple that started unborn
insert_unborn : rules (does 0 0 insert 1 ∷ []) ≡ true
unfolding open_rules
insert_unborn = refl

insert_visible : rules (does 0 0 insert 0 ∷ []) ≡ false
unfolding open_rules
insert_visible = refl

insert_twice : rules (does 0 0 insert 1 ∷ does 0 1 insert 1 ∷ []) ≡ false
unfolding open_rules
insert_twice = refl

insert_deleted : rules (does 0 0 insert 1 ∷ does 0 1 delete 1 ∷ does 0 2 insert 1 ∷ []) ≡ false
unfolding open_rules
insert_deleted = refl

-- H5, H6: the first write of a tuple that started unborn is an insert
write_unborn : rules (does 0 0 write 1 ∷ []) ≡ false
unfolding open_rules
write_unborn = refl

-- H5: a delete is a tuple's last write
delete_last : rules (does 0 0 write 0 ∷ does 0 1 delete 0 ∷ []) ≡ true
unfolding open_rules
delete_last = refl

write_deleted : rules (does 0 0 delete 0 ∷ does 0 1 write 0 ∷ []) ≡ false
unfolding open_rules
write_deleted = refl

delete_twice : rules (does 0 0 delete 0 ∷ does 0 1 delete 0 ∷ []) ≡ false
unfolding open_rules
delete_twice = refl

other_after : deletes_last (does 0 0 delete 0 ∷ []) (does 0 1 write 1) ≡ true
unfolding open_rules
other_after = refl

-- H6: what is read is visible in the version seen
read_visible : rules (does 0 0 read 0 ∷ []) ≡ true
unfolding open_rules
read_visible = refl

read_unborn : rules (does 0 0 read 1 ∷ []) ≡ false
unfolding open_rules
read_unborn = refl

read_inserted : rules (does 0 0 insert 1 ∷ does 0 1 read 1 ∷ []) ≡ true
unfolding open_rules
read_inserted = refl

read_committed : rules (does 0 0 insert 1 ∷ does 0 1 commit 0 ∷ does 1 0 read 1 ∷ []) ≡ true
unfolding open_rules
read_committed = refl

read_undeleted : rules (does 0 0 delete 0 ∷ does 1 0 read 0 ∷ []) ≡ true
unfolding open_rules
read_undeleted = refl

read_gone : rules (does 0 0 delete 0 ∷ does 0 1 commit 0 ∷ does 1 0 read 0 ∷ []) ≡ false
unfolding open_rules
read_gone = refl

-- H6: what is written or deleted is visible in the latest version
write_visible : rules (does 0 0 insert 1 ∷ does 0 1 write 1 ∷ does 0 2 delete 1 ∷ []) ≡ true
unfolding open_rules
write_visible = refl

delete_unborn : rules (does 0 0 delete 1 ∷ []) ≡ false
unfolding open_rules
delete_unborn = refl

-- H10: a transaction sees its own latest version
sees_own : seen written_twice 1 0 0 ≡ does 1 0 write 0 ∷ does 0 0 write 0 ∷ []
unfolding open_rules
sees_own = refl

-- H10: before any commit, the start
sees_start : seen (does 0 0 write 0 ∷ []) 2 0 0 ≡ []
unfolding open_rules
sees_start = refl

-- latest first: on tuple 2 of relation 3 transactions 0 and 1 have written and committed, then transaction 2 has written; transaction 3 has
-- begun before them all, and transaction 4 has written elsewhere and committed
abbrev history : List Event
history =
    event 2 0 0 write 3 2 1 ∷ event 4 1 1 commit 0 0 0 ∷ event 4 0 0 write 0 2 1 ∷ event 1 1 1 commit 0 0 0 ∷ event 1 0 0 write 3 2 1
    ∷ event 0 2 2 commit 0 0 0 ∷ event 0 1 1 write 3 2 1 ∷ event 0 0 0 write 3 2 1 ∷ event 3 0 0 read 3 2 1 ∷ []

-- H10: the version that each of the transactions sees of the tuple, as the transactions whose writes it holds: the last committed one, also for one
-- that began before; a transaction's own
sees_each : map (λ i. map (λ w. w.transaction) (seen history i 3 2)) (2 ∷ 3 ∷ 4 ∷ 5 ∷ [])
    ≡ (2 ∷ 1 ∷ 0 ∷ 0 ∷ []) ∷ (1 ∷ 0 ∷ 0 ∷ []) ∷ (1 ∷ 0 ∷ 0 ∷ []) ∷ (1 ∷ 0 ∷ 0 ∷ []) ∷ []
unfolding open_rules
sees_each = refl

-- H10: a version holds all writes up to its last, also where the list is not lawful: transaction 0 has not committed, and 1 has
sees_all_below : map (λ i. map (λ w. w.transaction) (seen (does 1 1 commit 0 ∷ does 1 0 write 0 ∷ does 0 0 write 0 ∷ []) i 0 0)) (0 ∷ 1 ∷ 2 ∷ [])
    ≡ (0 ∷ []) ∷ (1 ∷ 0 ∷ []) ∷ (1 ∷ 0 ∷ []) ∷ []
unfolding open_rules
sees_all_below = refl

-- who has committed, also with nothing written
has_committed : map (committed (does 1 1 commit 0 ∷ does 2 0 read 0 ∷ does 0 1 commit 0 ∷ does 0 0 write 0 ∷ [])) (0 ∷ 1 ∷ 2 ∷ 3 ∷ [])
    ≡ true ∷ true ∷ false ∷ false ∷ []
unfolding open_rules
has_committed = refl

-- H11: no transaction writes a tuple between another's write of it and that one's commit
write_late : rules (does 0 0 write 0 ∷ does 0 1 commit 0 ∷ does 1 0 write 0 ∷ []) ≡ true
unfolding open_rules
write_late = refl

write_again : rules (does 0 0 write 0 ∷ does 0 1 write 0 ∷ []) ≡ true
unfolding open_rules
write_again = refl

-- H11: inserts and deletes included
delete_early : rules (does 0 0 insert 1 ∷ does 1 0 delete 1 ∷ []) ≡ false
unfolding open_rules
delete_early = refl

delete_late : rules (does 0 0 insert 1 ∷ does 0 1 commit 0 ∷ does 1 0 delete 1 ∷ []) ≡ true
unfolding open_rules
delete_late = refl

-- H11, Req 03: claims of two transactions, where the first has committed in between
lock_late : map (λ (p : ℕ × ℕ). by_sets p.0 p.1 (λ e. event e.transaction 1 1 commit 0 0 0 ∷ [])) ((0, 1) ∷ (3, 2) ∷ [])
    ≡ replicate 2 (replicate 2 (replicate 6 true))
unfolding open_rules
lock_late = refl

-- H11, Req 03: a transaction's own locks and writes do not bar it
lock_own : by_sets 0 0 (λ e. []) ≡ replicate 2 (replicate 6 true)
unfolding open_rules
lock_own = refl

-- H11, Req 03: another's lock lasts until its commit, whatever it does in between, and whoever else commits
lock_lasts :
    map
    (λ between. rules (does 0 0 lock 0 ∷ between ++ (does 1 0 lock 0 ∷ [])))
    ((does 0 1 read 0 ∷ [])
    ∷ (does 0 1 lock 0 ∷ [])
    ∷ (does 0 1 write 0 ∷ [])
    ∷ (does 0 1 insert 1 ∷ does 0 2 write 1 ∷ [])
    ∷ (event 0 1 1 lock 3 0 1 ∷ [])
    ∷ (does 2 0 read 0 ∷ does 2 1 commit 0 ∷ [])
    ∷ (does 0 1 insert 1 ∷ does 0 2 commit 0 ∷ [])
    ∷ [])
    ≡ replicate 6 false ++ (true ∷ [])
unfolding open_rules
lock_lasts = refl

-- H11, Req 03: a lock is of its tuple alone: another tuple, and the tuple of this number of another relation, may be locked and written
lock_elsewhere : map (λ e. rules (event 0 0 0 lock 0 0 1 ∷ e ∷ []))
    (event 1 0 0 insert 0 1 1 ∷ event 1 0 0 lock 3 0 1 ∷ event 1 0 0 write 3 0 1 ∷ event 1 0 0 lock 0 0 1 ∷ [])
    ≡ true ∷ true ∷ true ∷ false ∷ []
unfolding open_rules
lock_elsewhere = refl

-- Req 03: a plain read and a predicate read wait for no lock, and no lock for them
lock_and_read : map (λ a. rules (does 0 0 lock 0 ∷ does 1 0 a 0 ∷ []) && rules (does 0 0 a 0 ∷ does 1 0 lock 0 ∷ [])) (read ∷ predicate_read ∷ [])
    ≡ true ∷ true ∷ []
unfolding open_rules
lock_and_read = refl

-- an insert, then a write of attribute 0, then one of attribute 1, latest first
abbrev thrice : List Event
thrice = event 0 2 2 write 0 1 2 ∷ event 0 1 1 write 0 1 1 ∷ event 0 0 0 insert 0 1 0xffff_ffff_ffff_ffff ∷ []

-- H13: an attribute's value comes from the last write of it
source_older : source thrice 0 ≡ some (event 0 1 1 write 0 1 1)
unfolding open_rules
source_older = refl

source_newer : source thrice 1 ≡ some (event 0 2 2 write 0 1 2)
unfolding open_rules
source_newer = refl

-- H13: an insert writes all
source_insert : source thrice 63 ≡ some (event 0 0 0 insert 0 1 0xffff_ffff_ffff_ffff)
unfolding open_rules
source_insert = refl

-- H13: a delete writes all too
source_delete : source (event 0 3 3 delete 0 1 0xffff_ffff_ffff_ffff ∷ thrice) 1 ≡ some (event 0 3 3 delete 0 1 0xffff_ffff_ffff_ffff)
unfolding open_rules
source_delete = refl

-- H13: where there is none, from the start
source_start : source (event 0 1 1 write 0 1 1 ∷ []) 1 ≡ none
unfolding open_rules
source_start = refl

-- H13: existence comes from the last insert or delete
existence_insert : existence thrice ≡ some (event 0 0 0 insert 0 1 0xffff_ffff_ffff_ffff)
unfolding open_rules
existence_insert = refl

existence_delete : existence (does 0 3 delete 1 ∷ thrice) ≡ some (does 0 3 delete 1)
unfolding open_rules
existence_delete = refl

existence_start : existence (does 0 0 write 0 ∷ []) ≡ none
unfolding open_rules
existence_start = refl

-- H14: visible: existence from an insert or a visible start
visible_insert : visible (λ r t. false) 0 1 thrice ≡ true
unfolding open_rules
visible_insert = refl

visible_delete : visible (λ r t. true) 0 1 (does 0 3 delete 1 ∷ thrice) ≡ false
unfolding open_rules
visible_delete = refl

visible_start : visible (λ r t. true) 0 1 (does 0 0 write 1 ∷ []) ≡ true
unfolding open_rules
visible_start = refl

visible_unborn : visible (λ r t. false) 0 1 [] ≡ false
unfolding open_rules
visible_unborn = refl

-- H4: each relation's tuples start on their own
insert_relation : inserts_first (λ r t. eqb r 0) [] (event 0 0 0 insert 1 0 0) ≡ true
unfolding open_rules
insert_relation = refl

-- ---- each rule by itself, also where another would refuse the same: on tuple 2 of relation 3, which starts visible, transaction 0 has done
-- what `past` says, and then transaction 1 does what `a` says
abbrev alone_rule : ((ℕ → ℕ → Bool) → List Event → Event → Bool) → List Event → List Bool
alone_rule rule past =
    map
    (λ a. rule (λ r t. eqb r 3 && eqb t 2) past (event 1 0 0 a 3 2 1))
    (read ∷ lock ∷ write ∷ insert ∷ delete ∷ predicate_read ∷ commit ∷ [])

-- H5: no insert after a write, nor where the tuple starts visible
first_alone : map (alone_rule inserts_first) ([] ∷ (event 0 0 0 delete 3 2 1 ∷ []) ∷ [])
    ≡ (true ∷ true ∷ true ∷ false ∷ true ∷ true ∷ true ∷ []) ∷ (true ∷ true ∷ true ∷ false ∷ true ∷ true ∷ true ∷ []) ∷ []
unfolding open_rules
first_alone = refl

first_unborn : map (λ past. inserts_first (λ r t. false) past (event 1 0 0 insert 3 2 1))
    ([] ∷ (event 0 0 0 insert 3 2 1 ∷ []) ∷ (event 1 0 0 delete 3 2 1 ∷ []) ∷ (event 0 0 0 insert 2 3 1 ∷ []) ∷ [])
    ≡ true ∷ false ∷ false ∷ true ∷ []
unfolding open_rules
first_unborn = refl

-- H5: no write, insert or delete after a delete of the tuple, whosever it is and whether committed or not
last_alone : map (alone_rule (λ start. deletes_last))
    ((event 0 0 0 delete 3 2 1 ∷ [])
    ∷ (event 0 1 1 commit 0 0 0 ∷ event 0 0 0 delete 3 2 1 ∷ [])
    ∷ (event 0 0 0 delete 2 3 1 ∷ event 0 0 0 write 3 2 1 ∷ [])
    ∷ [])
    ≡ (true ∷ true ∷ false ∷ false ∷ false ∷ true ∷ true ∷ [])
    ∷ (true ∷ true ∷ false ∷ false ∷ false ∷ true ∷ true ∷ [])
    ∷ (true ∷ true ∷ true ∷ true ∷ true ∷ true ∷ true ∷ [])
    ∷ []
unfolding open_rules
last_alone = refl

-- H6, Req 03: a read and a lock meet the version seen, a write and a delete the latest; inserts, predicate reads and commits meet none
visible_alone : map (alone_rule meets_visible)
    ([] ∷ (event 0 0 0 delete 3 2 1 ∷ []) ∷ (event 0 1 1 commit 0 0 0 ∷ event 0 0 0 delete 3 2 1 ∷ []) ∷ [])
    ≡ (true ∷ true ∷ true ∷ true ∷ true ∷ true ∷ true ∷ [])
    ∷ (true ∷ true ∷ false ∷ true ∷ false ∷ true ∷ true ∷ [])
    ∷ (false ∷ false ∷ false ∷ true ∷ false ∷ true ∷ true ∷ [])
    ∷ []
unfolding open_rules
visible_alone = refl

-- H11, Req 03: each write or lock of the tuple that is another's and not committed bars locks, writes, inserts and deletes, also below an own one;
-- neither what is done to other tuples nor a plain read does
waits_alone : map (alone_rule (λ start. waits))
    ((event 0 0 0 lock 3 2 1 ∷ [])
    ∷ (event 0 0 0 write 3 2 1 ∷ [])
    ∷ (event 0 0 0 insert 3 2 1 ∷ [])
    ∷ (event 0 0 0 delete 3 2 1 ∷ [])
    ∷ (event 1 0 0 write 3 2 1 ∷ event 0 0 0 write 3 2 1 ∷ [])
    ∷ (event 1 0 0 lock 3 2 1 ∷ event 0 0 0 lock 3 2 1 ∷ [])
    ∷ (event 0 1 1 commit 0 0 0 ∷ event 0 0 0 write 3 2 1 ∷ event 1 0 0 write 3 2 1 ∷ [])
    ∷ (event 0 1 1 commit 0 0 0 ∷ event 0 0 0 lock 3 2 1 ∷ event 1 0 0 lock 3 2 1 ∷ [])
    ∷ (event 0 0 0 write 2 3 1 ∷ event 0 0 0 write 3 3 1 ∷ event 0 0 0 write 2 2 1 ∷ event 0 0 0 read 3 2 1 ∷ [])
    ∷ (event 0 0 0 lock 2 3 1 ∷ event 0 0 0 lock 3 3 1 ∷ event 0 0 0 lock 2 2 1 ∷ [])
    ∷ [])
    ≡ replicate 6 (true ∷ false ∷ false ∷ false ∷ false ∷ true ∷ true ∷ [])
    ++ replicate 4 (true ∷ true ∷ true ∷ true ∷ true ∷ true ∷ true ∷ [])
unfolding open_rules
waits_alone = refl

-- H2: each place has its own tuples
abbrev two_selects : Transaction
two_selects =
    record {
      program = record { body = next (statement (says Ps 0 5 1 0 0)) (next (statement (says Ps 1 5 1 0 0)) done); links = [] };
      execution = step perform (step perform end);
      tuple = λ i. 0;
      tuples = λ i. i ∷ [];
    }

tuples_by_place : operations two_selects
    ≡ operation 0 predicate_read 5 0 0 ∷ operation 0 read 5 0 1
    ∷ operation 1 predicate_read 5 0 0 ∷ operation 1 read 5 1 1
    ∷ operation 2 commit 0 0 0 ∷ []
unfolding open_workload
tuples_by_place = refl

-- ---- H7: foreign keys

-- a loop of the child, run for two turns, and the parent after it
abbrev child_inside : (ℕ → ℕ) → Transaction
child_inside tuples =
    record {
      program =
          record {
            body = next (loop (next (statement (says Ku 0 1 0 1 0)) done)) (next (statement (says Ku 1 0 0 1 0)) done);
            links = record { key = 0; child = 0; parent = 1 } ∷ [];
          };
      execution = step (turns (turn (step perform end) (turn (step perform end) stop))) (step perform end);
      tuple = tuples;
      tuples = λ i. [];
    }

-- a predicate select as the child, on the tuples given, after a parent on tuple 0
abbrev child_many : List ℕ → Transaction
child_many many =
    record {
      program =
          record {
            body = next (statement (says Ks 0 0 1 0 0)) (next (statement (says Ps 1 1 1 0 0)) done);
            links = record { key = 0; child = 1; parent = 0 } ∷ [];
          };
      execution = step perform (step perform end);
      tuple = λ i. 0;
      tuples = λ i. many;
    }

-- the link binds within a turn: child 10 with parent 0, child 11 with parent 1
link_in_turn : keys_kept by_ten (both_inside (λ i. get_or (10 ∷ 0 ∷ 11 ∷ 1 ∷ []) i 0)) ≡ true
unfolding open_workload
link_in_turn = refl

-- the key leads into the parent's relation
link_elsewhere : keys_kept (λ f t. record { relation = 2; number = t.number % 10 }) (both_inside (λ i. get_or (10 ∷ 0 ∷ 11 ∷ 1 ∷ []) i 0))
    ≡ false
unfolding open_workload
link_elsewhere = refl

-- a statement performed on these tuples
abbrev doing : Statement → List ℕ → Performed
doing s tuples = record { place = 0; occurrence = record { statement = s; path = [] }; tuples = tuples }

-- a link by key 0 of an update of tuple 9 of relation 3 to an update of relation 1 on these tuples, where the key gives this tuple
abbrev linked_to : ℕ → ℕ → List ℕ → Bool
linked_to r n tuples =
    link_kept (λ f t. record { relation = r; number = n }) (record { key = 0; child = 0; parent = 1 })
    (doing (says Ku 0 3 0 1 0) (9 ∷ [])) (doing (says Ku 1 1 0 1 0) tuples)

-- of the images 4, 5 and 6 in relations 0, 1 and 2, the parent's tuple 5 of relation 1 is one; each tuple of a parent is asked
link_image
    : (map (λ r. map (λ n. linked_to r n (5 ∷ [])) (4 ∷ 5 ∷ 6 ∷ [])) (0 ∷ 1 ∷ 2 ∷ [])
    ≡ (false ∷ false ∷ false ∷ []) ∷ (false ∷ true ∷ false ∷ []) ∷ (false ∷ false ∷ false ∷ []) ∷ [])
    × (map (linked_to 1 5) ([] ∷ (5 ∷ 5 ∷ []) ∷ (5 ∷ 6 ∷ []) ∷ (6 ∷ 5 ∷ []) ∷ []) ≡ true ∷ true ∷ false ∷ false ∷ [])
unfolding open_workload
link_image = (refl, refl)

-- a parent outside the loop binds every turn
link_each_turn : keys_kept by_ten (child_inside (λ i. get_or (10 ∷ 20 ∷ 0 ∷ []) i 0)) ≡ true
unfolding open_workload
link_each_turn = refl

link_second_turn : keys_kept by_ten (child_inside (λ i. get_or (10 ∷ 11 ∷ 0 ∷ []) i 0)) ≡ false
unfolding open_workload
link_second_turn = refl

-- each tuple of the child counts
link_each_tuple : keys_kept by_ten (child_many (10 ∷ 20 ∷ 30 ∷ [])) ≡ true
unfolding open_workload
link_each_tuple = refl

link_last_tuple : keys_kept by_ten (child_many (10 ∷ 20 ∷ 31 ∷ [])) ≡ false
unfolding open_workload
link_last_tuple = refl

-- a parent of this kind on tuple 0, and after it a child of that kind on tuple t
abbrev linked : ℕ → StatementKind → StatementKind → Transaction
linked t p c =
    record {
      program =
          record {
            body = next (statement (says p 0 0 1 1 0)) (next (statement (says c 1 1 1 1 1)) done);
            links = record { key = 0; child = 1; parent = 0 } ∷ [];
          };
      execution = step perform (step perform end);
      tuple = λ i. i * t;
      tuples = λ i. t ∷ [];
    }

-- links hold between parents and children of every kind that they may have
link_kinds :
    map
    (λ p. all
    (λ c. keys_kept by_ten (linked 10 p c) && not (keys_kept by_ten (linked 11 p c)))
    (Is ∷ Ks ∷ Ps ∷ Ku ∷ Pu ∷ Kd ∷ Pd ∷ Kl ∷ []))
    (Is ∷ Ks ∷ Ku ∷ Kd ∷ Kl ∷ [])
    ≡ true ∷ true ∷ true ∷ true ∷ true ∷ []
unfolding open_workload
link_kinds = refl

-- three children by three links: statement 1 by key 3, statement 2 by key 4 and statement 3 by key 5, on the tuples given by place
abbrev three_links : (ℕ → ℕ) → Transaction
three_links tuples =
    record {
      program =
          record {
            body =
                next
                (statement (says Ku 0 0 0 1 0))
                (next (statement (says Ku 1 1 0 1 0)) (next (statement (says Ku 2 2 0 1 0)) (next (statement (says Ku 3 3 0 1 0)) done)));
            links =
                record { key = 3; child = 1; parent = 0 }
                ∷ record { key = 4; child = 2; parent = 0 }
                ∷ record { key = 5; child = 3; parent = 0 }
                ∷ [];
          };
      execution = step perform (step perform (step perform (step perform end)));
      tuple = tuples;
      tuples = λ i. [];
    }

-- a key that looks at its own number and at the relation and number of the tuple it is applied to
abbrev by_all : ℕ → Tuple → Tuple
by_all f t = record { relation = 0; number = f * 100 + t.relation * 10 + t.number }

-- each link's own key is applied to its child's tuple, relation and number: all give the parent's 535
link_by_key : keys_kept by_all (three_links (λ i. get_or (535 ∷ 225 ∷ 115 ∷ 5 ∷ []) i 0)) ≡ true
unfolding open_workload
link_by_key = refl

-- every link counts, the last too
link_last : keys_kept by_all (three_links (λ i. get_or (535 ∷ 225 ∷ 115 ∷ 6 ∷ []) i 0)) ≡ false
unfolding open_workload
link_last = refl

-- a schedule in which a link is broken is none
link_refused : {lines : List Line} (s : Schedule lines) → s.key ≡ by_ten
    → Memᴰ (both_inside (λ i. get_or (10 ∷ 0 ∷ 10 ∷ 1 ∷ []) i 0)) s.transactions → ⊥
link_refused s e m =
    true_false
    (all_true (keys_kept s.key) s.kept m)
    (subst (λ k. keys_kept k (both_inside (λ i. get_or (10 ∷ 0 ∷ 10 ∷ 1 ∷ []) i 0)) ≡ false) (sym e) link_broken)

-- ---- H8: a schedule holds all operations of transactions of the workload's programs, and nothing else

-- each event is of a transaction
none_more : {lines : List Line} (s : Schedule lines) → s.transactions ≡ [] → s.events ≡ []
none_more s e = go s.events refl
  where
    go : (l : List Event) → s.events ≡ l → l ≡ []
    go [] h = refl
    go (d ∷ l) h =
        let m : Memᴰ d (d ∷ l) = mathlib.Core.List.Memᴰ.head refl in
        let k : all (λ (c : Event). ltb c.transaction 0) (d ∷ l) ≡ true =
        subst₂ (λ t n. all (λ (c : Event). ltb c.transaction (length t)) n ≡ true) e h s.known in
        absurd (not-suc-le-zero (ltb-true d.transaction 0 (all_true (λ (c : Event). ltb c.transaction 0) k m)))

-- each transaction is of a program
none_foreign : (s : Schedule []) → s.transactions ≡ []
unfolding open_workload
none_foreign s = go s.transactions refl
  where
    go : (l : List Transaction) → s.transactions ≡ l → l ≡ []
    go [] h = refl
    go (x ∷ l) h = absurd (mathlib.Core.List.Memᴰ.not-nil (s.of_programs x (subst (Memᴰ x) (sym h) (mathlib.Core.List.Memᴰ.head refl))))

-- each event obeys the rules, here the second
none_against : {lines : List Line} (s : Schedule lines) (rest : List Event)
    → s.events ≡ event 1 0 0 commit 0 0 0 ∷ event 0 0 0 insert 0 0 every_attribute ∷ rest → s.start 0 0 ≡ false
unfolding open_rules
none_against s rest e = false_of (s.start 0 0) (λ h. false≢true (rw h at (subst (λ l. all_obey s.start [] l ≡ true) e s.obeyed)))

-- ---- X: the serial run

-- X3, Req 03: a write, an insert and a delete join their tuple's list, a read and a lock do not; X6: no step is refused
state_joins :
    state_at
    (does 0 0 delete 0 ∷ does 0 1 lock 0 ∷ does 1 0 write 0 ∷ does 1 1 read 0 ∷ does 2 0 insert 0 ∷ does 2 1 write 1 ∷ does 2 2 lock 0 ∷ [])
    7 0 0
    ≡ does 2 0 insert 0 ∷ does 1 0 write 0 ∷ does 0 0 delete 0 ∷ []
unfolding open_rules
state_joins = refl

-- X6: where the list has none, the start
state_start : (a : ℕ) → source [] a ≡ none
unfolding open_rules
state_start a = refl

-- X4: the read takes the write, so not the start
read_same : SameRead read_after 2 (does 1 0 read 0) (λ r t. does 0 0 write 0 ∷ [])
unfolding open_rules
read_same a h = refl

-- transaction 0 writes tuple 5 and commits, then transaction 1 tests its attribute
abbrev test_after : List Event
test_after = does 0 0 write 5 ∷ does 0 1 commit 0 ∷ does 1 0 predicate_read 0 ∷ []

-- X5: the predicate read takes the write of a tested attribute of every tuple of the relation, so not the start
test_other : SamePredicateRead test_after 2 (does 1 0 predicate_read 0) (λ r t. []) → ⊥
unfolding open_rules
test_other f = some-ne-none _ (f.attributes 5 0 refl)

-- X7: two writes are the same only if they are one operation of one transaction, and the start only as itself
other_number : some (does 0 0 write 0) ≡ some (does 0 1 write 0) → ⊥
other_number e = let z : ◌≡◌ {A = ℕ} 0 1 = ap (λ (d : Event). d.number) (some_injective e) in omega arith

other_transaction : some (does 0 0 write 0) ≡ some (does 1 0 write 0) → ⊥
other_transaction e = let z : ◌≡◌ {A = ℕ} 0 1 = ap (λ (d : Event). d.transaction) (some_injective e) in omega arith

-- X8: and nothing else
order_holds_else : (s : SerialOrder 1 (does 0 0 commit 0 ∷ [])) → s.order ≡ 0 ∷ 1 ∷ [] → ⊥
order_holds_else s e = let z : ◌≡◌ {A = ℕ} 1 0 = subst (λ l. count (eqb 1) l ≡ 0) e (s.each_once 1) in omega arith

-- transaction 0 inserts tuple 5 of relation 3, then transaction 1 deletes it
abbrev removes : List Event
removes = event 0 0 0 insert 3 5 every_attribute ∷ does 0 1 commit 0 ∷ event 1 0 0 delete 3 5 every_attribute ∷ does 1 1 commit 0 ∷ []

-- X8: existence ends with the same insert or delete
ends_existence_lem : (s : SerialOrder 2 removes) → s.order ≡ 1 ∷ 0 ∷ [] → ⊥
unfolding open_rules
ends_existence_lem s e =
    let z : some (event 1 0 0 delete 3 5 every_attribute) ≡ some (event 0 0 0 insert 3 5 every_attribute) =
    subst (λ l. some (event 1 0 0 delete 3 5 every_attribute) ≡ existence (final removes 3 5 l)) e (s.ends_existence 3 5) in
    let y : ◌≡◌ {A = ℕ} 1 0 = ap (λ (d : Event). d.transaction) (some_injective z) in
    omega arith
