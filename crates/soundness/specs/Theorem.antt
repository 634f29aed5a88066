-- Demand 3. For every workload value that some accepted text gives: if its summary graph has no dangerous closed walk of any length, then every
-- schedule of it has a serial order.
use Rattle.std.specs.Prelude.{◌⊎◌}
use Rattle.std.proofs.Common.{inl, inr}
use Rattle.spec_text.specs.declared.Workload.{Workload}
use Rattle.spec_text.specs.Value.{Given, lines_of}
use Rattle.spec_text.specs.Reading.{relation_set}
use Rattle.law_text.specs.ValueLaws.{given_read}
use Rattle.spec_report.specs.State.{Danger, Robust, summary_graph}
use Rattle.spec_schedule.specs.Schedule.{Schedule}
use Rattle.spec_schedule.specs.Serial.{Serialisable}
use Rattle.soundness.specs.StatementSets.{schedule_sets}
use Rattle.soundness.specs.Schedules.{serialisable_or_dangerous}

-- the statement: nothing but the believed definitions
abbrev pub Demand3 : Type 0
Demand3 = (w : Workload) → Given w → Robust (lines_of w) → (s : Schedule (lines_of w)) → Serialisable s

pub demand_3 : Demand3
unfolding summary_graph
demand_3 w given robust s =
    go
    (serialisable_or_dangerous s (relation_set (lines_of w)) (schedule_sets given.text (lines_of w) (given_read given) s))
  where
    go : Serialisable s ⊎ Danger (lines_of w) → Serialisable s
    go (inl order) = order
    go (inr walk) = absurd (robust walk)
