-- A schedule that shows every kind of statement, of a dangerous workload, since a pd stands in no robust one. It has what a rule that is too
-- strong would forbid: predicate statements on three tuples, an insert and a predicate read after an own write, deletes of several tuples, a
-- write of a tuple that another transaction inserted, empty transactions, two runs of one program, and a program that nobody runs. Locks (Req 03)
-- are there of tuples that another has written and committed, before and after an own write, and of one that a predicate read takes meanwhile.
use Rattle.std.specs.Prelude.{not, ◌&&◌, ◌≡◌, refl, ◌%◌, eqb, get_or}
use mathlib.Core.List.{List, [], ◌∷◌, Memᴰ}
use Rattle.std.proofs.Common.{sym, subst}
use Rattle.spec_text.specs.declared.Line.{Line}
use Rattle.spec_text.specs.declared.LineKind.TheVariants.{Rl, Fk, Pr, St, Li}
use Rattle.spec_text.specs.declared.StatementKind.TheVariants.{Is, Ks, Ps, Ku, Pu, Kd, Pd, Kl}
use Rattle.spec_graph.specs.Program.{Program, programs_of}
use Rattle.spec_graph.specs.Unfolding.{pairs, unfoldings, nodes_of_program, nodes_from, nodes_of}
use Rattle.spec_graph.specs.Graph.Flow.{forward, back}
use Rattle.spec_graph.specs.Edge.{holds, same_relation, has_parent, guarded_near, guarded_far, shielded, place_at, graph_of}
use Rattle.spec_graph.specs.Edge
use Rattle.spec_graph.specs.Walk.{DangerousWalk, is_edge, dangerous_pair, is_dangerous}
use Rattle.spec_graph.specs.Program.Item.{statement}
use Rattle.spec_graph.specs.Program.Run.{done, next}
use Rattle.spec_graph.specs.Unfolding.Execution.{end, step}
use Rattle.spec_graph.specs.Unfolding.ItemExecution.{perform}
use Rattle.spec_schedule.specs.Event.{Event}
use Rattle.spec_schedule.specs.Event.Action.{read, lock, write, insert, delete, predicate_read, commit}
use Rattle.spec_schedule.specs.Schedule.{Tuple, Transaction, Schedule, every_attribute}
use Rattle.spec_schedule.specs.ScheduleExamples.{line, says, event, open_workload, open_rules, no_program, one_program, wholes}

-- rl 0 - - 1 - -
-- rl 1 - - 1 - -
-- fk 0 1 0 - - -
-- pr 0 - - - - -
-- ku 0 0 - 1 1 -
-- is 1 0 - - 1 -
-- ps 2 0 - 1 - 1
-- kd 3 0 - - 1 -
-- kd 4 0 - - 1 -
-- ks 5 1 - 1 - -
-- li 0 5 0 - - -
-- pr 1 - - - - -
-- kl 0 0 - 1 - -
-- ku 1 0 - 1 1 -
-- kl 2 0 - 1 - -
-- pd 3 0 - - 1 1
-- pr 2 - - - - -
-- pr 3 - - - - -
-- pu 0 1 - 1 1 1
-- kl 1 0 - 1 - -
-- pr 4 - - - - -
-- ks 0 1 - 1 - -
abbrev pub lines : List Line
lines =
    line Rl 0 0 0 1 0 0
    ∷ line Rl 1 0 0 1 0 0
    ∷ line Fk 0 1 0 0 0 0
    ∷ line Pr 0 0 0 0 0 0
    ∷ line (St Ku) 0 0 0 1 1 0
    ∷ line (St Is) 1 0 0 0 1 0
    ∷ line (St Ps) 2 0 0 1 0 1
    ∷ line (St Kd) 3 0 0 0 1 0
    ∷ line (St Kd) 4 0 0 0 1 0
    ∷ line (St Ks) 5 1 0 1 0 0
    ∷ line Li 0 5 0 0 0 0
    ∷ line Pr 1 0 0 0 0 0
    ∷ line (St Kl) 0 0 0 1 0 0
    ∷ line (St Ku) 1 0 0 1 1 0
    ∷ line (St Kl) 2 0 0 1 0 0
    ∷ line (St Pd) 3 0 0 0 1 1
    ∷ line Pr 2 0 0 0 0 0
    ∷ line Pr 3 0 0 0 0 0
    ∷ line (St Pu) 0 1 0 1 1 1
    ∷ line (St Kl) 1 0 0 1 0 0
    ∷ line Pr 4 0 0 0 0 0
    ∷ line (St Ks) 0 1 0 1 0 0
    ∷ []

-- updates, inserts, selects, deletes twice, and selects what belongs to the first
abbrev pub changes : Program
changes =
    record {
      body =
          next (statement (says Ku 0 0 1 1 0))
          (next (statement (says Is 1 0 0 1 0))
          (next (statement (says Ps 2 0 1 0 1))
          (next (statement (says Kd 3 0 0 1 0)) (next (statement (says Kd 4 0 0 1 0)) (next (statement (says Ks 5 1 1 0 0)) done)))));
      links = record { key = 0; child = 5; parent = 0 } ∷ [];
    }

-- locks one tuple, updates it, locks it again, and deletes many
abbrev pub clears : Program
clears =
    record {
      body =
          next
          (statement (says Kl 0 0 1 0 0))
          (next (statement (says Ku 1 0 1 1 0)) (next (statement (says Kl 2 0 1 0 0)) (next (statement (says Pd 3 0 0 1 1)) done)));
      links = [];
    }

abbrev pub nothing : Program
nothing = record { body = done; links = [] }

-- updates many and locks one
abbrev pub updates : Program
updates = record { body = next (statement (says Pu 0 1 1 1 1)) (next (statement (says Kl 1 0 1 0 0)) done); links = [] }

-- is not run
abbrev pub idle : Program
idle = record { body = next (statement (says Ks 0 1 1 0 0)) done; links = [] }

pub programs : programs_of lines ≡ changes ∷ clears ∷ nothing ∷ updates ∷ idle ∷ []
unfolding open_workload
programs = refl

-- a pd is dangerous by itself: it meets itself by C and by E
pub dangerous : DangerousWalk (graph_of (nodes_of lines))
unfolding open_workload pairs unfoldings nodes_of_program nodes_from nodes_of holds same_relation has_parent guarded_near guarded_far shielded
    Edge.forward Edge.back place_at graph_of is_edge dangerous_pair is_dangerous
dangerous =
    (record { node = 1; leaves = 3; enters = 3; flow = forward } ∷ record { node = 1; leaves = 3; enters = 3; flow = back } ∷ [], refl)

-- tuple 0 updated, 10 inserted, 0, 10 and 2 selected, 2 and 3 deleted, and 100 of relation 1 selected
abbrev pub changing : Transaction
changing =
    record {
      program = changes;
      execution = step perform (step perform (step perform (step perform (step perform (step perform end)))));
      tuple = λ i. get_or (0 ∷ 10 ∷ 0 ∷ 2 ∷ 3 ∷ 100 ∷ []) i 0;
      tuples = λ i. 0 ∷ 10 ∷ 2 ∷ [];
    }

-- tuple 10 locked, updated and locked again, 4, 5 and 6 deleted
abbrev pub clearing : Transaction
clearing =
    record {
      program = clears;
      execution = step perform (step perform (step perform (step perform end)));
      tuple = λ i. 10;
      tuples = λ i. 4 ∷ 5 ∷ 6 ∷ [];
    }

abbrev pub empty : Transaction
empty = record { program = nothing; execution = end; tuple = λ i. 0; tuples = λ i. [] }

-- tuples 0, 1 and 100 of relation 1 updated, 0 of relation 0 locked
abbrev pub updating : Transaction
updating = record { program = updates; execution = step perform (step perform end); tuple = λ i. 0; tuples = λ i. 0 ∷ 1 ∷ 100 ∷ [] }

abbrev pub transactions : List Transaction
transactions = changing ∷ clearing ∷ empty ∷ updating ∷ empty ∷ []

abbrev pub events : List Event
events =
    event 0 0 0 read 0 0 1
    ∷ event 0 1 0 write 0 0 1
    ∷ event 3 0 0 predicate_read 1 0 1
    ∷ event 3 1 0 read 1 0 1
    ∷ event 3 2 0 write 1 0 1
    ∷ event 3 3 0 read 1 1 1
    ∷ event 3 4 0 write 1 1 1
    ∷ event 3 5 0 read 1 100 1
    ∷ event 3 6 0 write 1 100 1
    ∷ event 0 2 1 insert 0 10 every_attribute
    ∷ event 2 0 0 commit 0 0 0
    ∷ event 0 3 2 predicate_read 0 0 1
    ∷ event 0 4 2 read 0 0 1
    ∷ event 0 5 2 read 0 10 1
    ∷ event 0 6 2 read 0 2 1
    ∷ event 0 7 3 delete 0 2 every_attribute
    ∷ event 0 8 4 delete 0 3 every_attribute
    ∷ event 0 9 5 read 1 100 1
    ∷ event 0 10 6 commit 0 0 0
    ∷ event 1 0 0 lock 0 10 1
    ∷ event 3 7 1 lock 0 0 1
    ∷ event 1 1 1 read 0 10 1
    ∷ event 1 2 1 write 0 10 1
    ∷ event 1 3 2 lock 0 10 1
    ∷ event 1 4 3 predicate_read 0 0 1
    ∷ event 1 5 3 delete 0 4 every_attribute
    ∷ event 1 6 3 delete 0 5 every_attribute
    ∷ event 1 7 3 delete 0 6 every_attribute
    ∷ event 3 8 2 commit 0 0 0
    ∷ event 4 0 0 commit 0 0 0
    ∷ event 1 8 4 commit 0 0 0
    ∷ []

pub kinds : Schedule lines
unfolding open_workload open_rules
kinds =
    record {
      transactions = transactions;
      of_programs = λ x m. subst (Memᴰ x.program) (sym programs) (members x m);
      start = λ r t. not (eqb r 0 && eqb t 10);
      key = λ f t. record { relation = 0; number = t.number % 10 };
      kept = refl;
      events = events;
      known = refl;
      whole = wholes events transactions refl;
      obeyed = refl;
    }
  where
    second : Memᴰ clears (changes ∷ clears ∷ nothing ∷ updates ∷ idle ∷ [])
    second = Memᴰ.tail (Memᴰ.head refl)

    third : Memᴰ nothing (changes ∷ clears ∷ nothing ∷ updates ∷ idle ∷ [])
    third = Memᴰ.tail (Memᴰ.tail (Memᴰ.head refl))

    fourth : Memᴰ updates (changes ∷ clears ∷ nothing ∷ updates ∷ idle ∷ [])
    fourth = Memᴰ.tail (Memᴰ.tail (Memᴰ.tail (Memᴰ.head refl)))

    members : (x : Transaction) → Memᴰ x transactions → Memᴰ x.program (changes ∷ clears ∷ nothing ∷ updates ∷ idle ∷ [])
    members =
        one_program changing (Memᴰ.head refl)
        (one_program clearing second (one_program empty third (one_program updating fourth (one_program empty third no_program))))
