-- A schedule that meets every rule and has no serial order: two runs of one program read a tuple and then overwrite it, and both
-- read before either writes. So `SerialOrder` is no empty demand, and Read Committed alone does not give it.
-- With a lock in place of the read (Req 03) they must wait for one another, and have an order.
use Rattle.std.specs.Prelude.{true, false, ◌&&◌, ◌≡◌, refl, ℕ, get_or}
use mathlib.Core.List.{List, [], ◌∷◌, ◌++◌, map, Memᴰ}
use Rattle.spec_base.specs.Basic.{all, numbers}
use Rattle.spec_text.specs.declared.Line.{Line}
use Rattle.spec_text.specs.declared.LineKind.TheVariants.{Rl, Pr, St}
use Rattle.spec_text.specs.declared.StatementKind.TheVariants.{Ks, Ku}
use Rattle.spec_graph.specs.Program.{Program, programs_of}
use Rattle.spec_graph.specs.Unfolding.{pairs, unfoldings, nodes_of_program, nodes_from, nodes_of}
use Rattle.spec_graph.specs.Graph.Flow.{forward, back}
use Rattle.spec_graph.specs.Edge.{holds, same_relation, has_parent, guarded_near, guarded_far, shielded, place_at, graph_of}
use Rattle.spec_graph.specs.Edge
use Rattle.spec_graph.specs.Walk.{DangerousWalk, is_edge, dangerous_pair, is_dangerous}
use Rattle.spec_graph.specs.Program.Item.{statement}
use Rattle.spec_graph.specs.Program.Run.{done, next}
use Rattle.spec_graph.specs.Unfolding.Execution.{end, step}
use Rattle.spec_graph.specs.Unfolding.ItemExecution.{perform}
use Rattle.spec_schedule.specs.Event.{Action, Event, past_at, inserts_first, deletes_last, meets_visible, waits, together, all_obey}
use Rattle.spec_schedule.specs.Event.Action.{read, lock, write, commit}
use Rattle.spec_schedule.specs.Schedule.{Transaction, Schedule}
use Rattle.spec_schedule.specs.Serial.{Serialisable, SerialOrder}
use Rattle.schedule_cases.specs.SerialTest.{serial_test, none_of_two, open_test}
use Rattle.spec_schedule.specs.ScheduleExamples.{line, says, event, open_workload, open_rules, no_program, one_program, wholes}

-- rl 0 - - 1 - -
-- pr 0 - - - - -
-- ks 0 0 - 1 - -
-- ku 1 0 - 0 1 -
abbrev pub lines : List Line
lines = line Rl 0 0 0 1 0 0 ∷ line Pr 0 0 0 0 0 0 ∷ line (St Ks) 0 0 0 1 0 0 ∷ line (St Ku) 1 0 0 0 1 0 ∷ []

abbrev pub program : Program
program = record { body = next (statement (says Ks 0 0 1 0 0)) (next (statement (says Ku 1 0 0 1 0)) done); links = [] }

-- the workload is dangerous
pub dangerous : DangerousWalk (graph_of (nodes_of lines))
unfolding open_workload pairs unfoldings nodes_of_program nodes_from nodes_of holds same_relation has_parent guarded_near guarded_far shielded
    Edge.forward Edge.back place_at graph_of is_edge dangerous_pair is_dangerous
dangerous =
    (record { node = 0; leaves = 0; enters = 1; flow = forward } ∷ record { node = 0; leaves = 0; enters = 1; flow = back } ∷ [], refl)

-- a run of the program on tuple 0
abbrev pub run : Transaction
run = record { program = program; execution = step perform (step perform end); tuple = λ i. 0; tuples = λ i. [] }

-- what run i does after its first read: it writes and commits
abbrev pub overwrites : ℕ → List Event
overwrites i = event i 1 1 read 0 0 0 ∷ event i 2 1 write 0 0 1 ∷ event i 3 2 commit 0 0 0 ∷ []

-- both read, by this action, then the first writes and commits, then the second
abbrev pub both_first : Action → List Event
both_first action = event 0 0 0 action 0 0 1 ∷ event 1 0 0 action 0 0 1 ∷ overwrites 0 ++ overwrites 1

abbrev pub events : List Event
events = both_first read

pub lost_update : Schedule lines
unfolding open_workload open_rules
lost_update =
    record {
      transactions = run ∷ run ∷ [];
      of_programs = one_program run member (one_program run member no_program);
      start = λ r t. true;
      key = λ f t. t;
      kept = refl;
      events = events;
      known = refl;
      whole = wholes events (run ∷ run ∷ []) refl;
      obeyed = refl;
    }
  where
    member : Memᴰ program (programs_of lines)
    member = Memᴰ.head refl

pub no_order_lem : Serialisable lost_update → ⊥
unfolding open_test lost_update
no_order_lem = none_of_two events refl refl

-- ---- Req 03: a lock in place of the select

abbrev locked : List Event
locked = both_first lock

-- where both lock before either writes, there is no serial order either
locked_no_order : SerialOrder 2 locked → ⊥
unfolding open_test
locked_no_order = none_of_two locked refl refl

-- H11 alone forbids them: the lock behind the other's lock, and the write behind it
locked_forbidden :
    (map (λ n. waits (past_at locked n) (get_or locked n (event 0 0 0 commit 0 0 0))) (numbers 8)
    ≡ true ∷ false ∷ true ∷ false ∷ true ∷ true ∷ true ∷ true ∷ [])
    × (all
    (λ n. let past = past_at locked n in
    let e = get_or locked n (event 0 0 0 commit 0 0 0) in
    inserts_first (λ r t. true) past e && deletes_last past e && meets_visible (λ r t. true) past e && together past e)
    (numbers 8)
    ≡ true)
unfolding open_rules
locked_forbidden = (refl, refl)

-- where the second waits for the first's commit, they are lawful and have an order
abbrev in_turn : List Event
in_turn = event 0 0 0 lock 0 0 1 ∷ overwrites 0 ++ (event 1 0 0 lock 0 0 1 ∷ overwrites 1)

in_turn_lawful : all_obey (λ r t. true) [] in_turn ≡ true
unfolding open_rules
in_turn_lawful = refl

-- the first's before the second's, whose lock has read what the first wrote
in_turn_order : (serial_test 2 in_turn (0 ∷ 1 ∷ []) ≡ true) × (serial_test 2 in_turn (1 ∷ 0 ∷ []) ≡ false)
unfolding open_test
in_turn_order = (refl, refl)
