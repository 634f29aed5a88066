-- A schedule has its serial order, or the summary graph has a dangerous closed walk.
use mathlib.Core.List.{List, Memᴰ}
use Rattle.std.specs.Prelude.{◌⊎◌, ◌≡◌, ℕ, length}
use Rattle.std.proofs.Common.{inl, inr}
use Rattle.std.proofs.Math.Option.{some}
use Rattle.std.proofs.Math.ListN.{get_elem?}
use Rattle.spec_text.specs.declared.Line.{Line}
use Rattle.spec_graph.specs.Unfolding.{Occurrence, occurrences, nodes_of}
use Rattle.spec_graph.specs.Edge.{graph_of}
use Rattle.spec_graph.specs.Walk.{DangerousWalk}
use Rattle.spec_schedule.specs.Schedule.{Transaction, Schedule}
use Rattle.spec_schedule.specs.Serial.{Serialisable}
use Rattle.soundness.specs.order.Order.{ClosedWalk}
use Rattle.soundness.specs.dependency.Dependency.{before}
use Rattle.soundness.specs.dependency.History.{order_or_walk}
use Rattle.soundness.specs.transactions.Events.{schedule_numbered, schedule_filled, schedule_known}
use Rattle.soundness.specs.EdgeLetters.{Sets}
use Rattle.soundness.specs.ClosedDependencies.{closed_dangerous}

module _ {lines : List Line} (s : Schedule lines) (set : ℕ → ℕ)
    (sets : (x : Transaction) → Memᴰ x s.transactions → (j : ℕ) (o : Occurrence) → get_elem? (occurrences x.execution 0) j ≡ some o
    → Sets set o.statement) where
  -- an order of the transactions in which every dependency points forward gives the serial order; a closed walk gives the dangerous one
  pub serialisable_or_dangerous : Serialisable s ⊎ DangerousWalk (graph_of (nodes_of lines))
  serialisable_or_dangerous = go (order_or_walk (length s.transactions) s.events (schedule_numbered s) (schedule_filled s) (schedule_known s))
    where
      go : Serialisable s ⊎ ((walk : List ℕ) × ClosedWalk (before s.events) (length s.transactions) walk)
          → Serialisable s ⊎ DangerousWalk (graph_of (nodes_of lines))
      go (inl order) = inl order
      go (inr (walk, w)) = inr (closed_dangerous s set sets walk w.not_empty w.linked)
