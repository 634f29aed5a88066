-- The rich schedule against the verdict: its workload is one that a text gives and robust, so demand 3 gives it a serial order; and it is
-- robust because of its links alone.
use Rattle.std.specs.Prelude.{false, not, List, [], ◌∷◌, ◌≡◌, refl}
use Rattle.std.proofs.Common.{subst}
use Rattle.spec_base.specs.Basic.{keep}
use Rattle.spec_text.specs.declared.Line.{Line}
use Rattle.spec_text.specs.Reading.{is_link}
use Rattle.spec_text.specs.Value.{Given, value_of}
use Rattle.law_text.specs.Written.{written, rereads}
use Rattle.law_text.specs.ValueLaws.{value_given, lines_of_value}
use Rattle.spec_graph.specs.Graph.Flow.{forward, back}
use Rattle.spec_graph.specs.Walk.{is_edge, dangerous_pair, is_dangerous}
use Rattle.law_walk.specs.Reach.{danger_test}
use Rattle.spec_report.specs.State.{Danger, Robust, summary_graph}
use Rattle.law_report.specs.Reports.{robust_of}
use Rattle.spec_schedule.specs.Schedule.{Schedule}
use Rattle.spec_schedule.specs.Serial.{Serialisable}
use Rattle.soundness.specs.Theorem.{demand_3}
use Rattle.cases.specs.Computed.{all_pass}
use Rattle.witness.specs.Rich.{lines, rich}

-- some accepted text gives the workload
pub given : Given (value_of lines)
unfolding rereads
given = value_given (written lines) refl

-- no dangerous closed walk of any length
tested : danger_test (summary_graph lines) ≡ false
unfolding all_pass
tested = refl

pub robust : Robust lines
robust = robust_of lines tested

-- demand 3 of a workload's lines
pub demand : (l : List Line) → Given (value_of l) → Robust l → (s : Schedule l) → Serialisable s
demand l g = subst (λ (m : List Line). Robust m → (s : Schedule m) → Serialisable s) (lines_of_value l) (demand_3 (value_of l) g)

-- demand 3 of the rich schedule
pub serialisable : Serialisable rich
serialisable = demand lines given robust rich

-- ---- without its links

-- the workload without its `li` lines
abbrev pub unlinked : List Line
unlinked = keep (λ l. not (is_link l)) lines

-- is one that a text gives too
pub unlinked_given : Given (value_of unlinked)
unfolding rereads
unlinked_given = value_given (written unlinked) refl

-- and dangerous: a line that is updated, then read by one that opens orders (forward); that one reads a line which one that cancels deletes (back);
-- that one has read a line which the first updates
pub unlinked_dangerous : Danger unlinked
unfolding all_pass is_edge dangerous_pair is_dangerous
unlinked_dangerous = (
  record { node = 16; leaves = 1; enters = 2; flow = forward }
      ∷ record { node = 3; leaves = 1; enters = 3; flow = back }
      ∷ record { node = 14; leaves = 2; enters = 3; flow = forward }
      ∷ [],
  refl,
)
