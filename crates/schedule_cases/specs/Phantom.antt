-- A schedule that meets every rule and has no serial order because of existence alone: two runs of one program read by a predicate
-- that tests no attribute and takes no tuple, and then insert a tuple that the other has missed.
use Rattle.std.specs.Prelude.{true, false, not, ◌||◌, ◌≡◌, refl, ℕ, eqb}
use mathlib.Core.List.{List, [], ◌∷◌, Memᴰ}
use Rattle.spec_base.specs.Basic.{all}
use Rattle.spec_text.specs.declared.Line.{Line}
use Rattle.spec_text.specs.declared.LineKind.TheVariants.{Rl, Pr, St}
use Rattle.spec_text.specs.declared.StatementKind.TheVariants.{Ps, Is}
use Rattle.spec_graph.specs.Program.{Program, programs_of}
use Rattle.spec_graph.specs.Unfolding.{pairs, unfoldings, nodes_of_program, nodes_from, nodes_of}
use Rattle.spec_graph.specs.Graph.Flow.{forward, back}
use Rattle.spec_graph.specs.Edge.{holds, same_relation, has_parent, guarded_near, guarded_far, shielded, place_at, graph_of}
use Rattle.spec_graph.specs.Edge
use Rattle.spec_graph.specs.Walk.{DangerousWalk, is_edge, dangerous_pair, is_dangerous}
use Rattle.spec_graph.specs.Program.Item.{statement}
use Rattle.spec_graph.specs.Program.Run.{done, next}
use Rattle.spec_graph.specs.Unfolding.Execution.{end, step}
use Rattle.spec_graph.specs.Unfolding.ItemExecution.{perform}
use Rattle.spec_schedule.specs.Event.{Event, is_read, is_predicate_read}
use Rattle.spec_schedule.specs.Event.Action.{insert, predicate_read, commit}
use Rattle.spec_schedule.specs.Schedule.{Transaction, Schedule, every_attribute}
use Rattle.spec_schedule.specs.Serial.{Serialisable, serial_run}
use Rattle.schedule_cases.specs.SerialTest.{none_of_two, ends_test, open_test}
use Rattle.spec_schedule.specs.ScheduleExamples.{line, says, event, open_workload, open_rules, no_program, one_program, wholes}

-- rl 0 - - 1 - -
-- pr 0 - - - - -
-- ps 0 0 - 0 - 0
-- is 1 0 - - 1 -
abbrev pub lines : List Line
lines = line Rl 0 0 0 1 0 0 ∷ line Pr 0 0 0 0 0 0 ∷ line (St Ps) 0 0 0 0 0 0 ∷ line (St Is) 1 0 0 0 1 0 ∷ []

abbrev pub program : Program
program = record { body = next (statement (says Ps 0 0 0 0 0)) (next (statement (says Is 1 0 0 1 0)) done); links = [] }

-- the workload is dangerous
pub dangerous : DangerousWalk (graph_of (nodes_of lines))
unfolding open_workload pairs unfoldings nodes_of_program nodes_from nodes_of holds same_relation has_parent guarded_near guarded_far shielded
    Edge.forward Edge.back place_at graph_of is_edge dangerous_pair is_dangerous
dangerous =
    (record { node = 0; leaves = 0; enters = 1; flow = forward } ∷ record { node = 0; leaves = 0; enters = 1; flow = back } ∷ [], refl)

-- a run of the program that takes no tuple and inserts this one
abbrev pub run : ℕ → Transaction
run t = record { program = program; execution = step perform (step perform end); tuple = λ i. t; tuples = λ i. [] }

-- both read, then the first inserts and commits, then the second
abbrev pub events : List Event
events =
    event 0 0 0 predicate_read 0 0 0
    ∷ event 1 0 0 predicate_read 0 0 0
    ∷ event 0 1 1 insert 0 0 every_attribute
    ∷ event 0 2 2 commit 0 0 0
    ∷ event 1 1 1 insert 0 1 every_attribute
    ∷ event 1 2 2 commit 0 0 0
    ∷ []

pub phantom : Schedule lines
unfolding open_workload open_rules
phantom =
    record {
      transactions = run 0 ∷ run 1 ∷ [];
      of_programs = one_program (run 0) member (one_program (run 1) member no_program);
      start = λ r t. false;
      key = λ f t. t;
      kept = refl;
      events = events;
      known = refl;
      whole = wholes events (run 0 ∷ run 1 ∷ []) refl;
      obeyed = refl;
    }
  where
    member : Memᴰ program (programs_of lines)
    member = Memᴰ.head refl

pub no_order_lem : Serialisable phantom → ⊥
unfolding open_test phantom
no_order_lem = none_of_two events refl refl

-- nothing but existence tells: there is no read, no attribute is tested, and in either order each tuple ends the same
no_read : all (λ e. not (is_read e.action)) events ≡ true
no_read = refl

no_test : all (λ e. not (is_predicate_read e.action) || eqb e.attributes 0) events ≡ true
no_test = refl

same_ends : ends_test events (serial_run (0 ∷ 1 ∷ []) events) ≡ true
unfolding open_test
same_ends = refl

same_ends_reversed : ends_test events (serial_run (1 ∷ 0 ∷ []) events) ≡ true
unfolding open_test
same_ends_reversed = refl
