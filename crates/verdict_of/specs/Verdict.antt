-- What the verdict promises for every workload value and every lent area (docs/MODEL.md, "Refused because of the state", "The dangerous walk";
-- Req 01; demands 2 and 3). Believed.
use Rattle.std.specs.Prelude.{List, ℕ, ◌/◌, length}
use Rattle.std.proofs.Math.Option.{none, some}
use Rattle.spec_text.specs.declared.Line.{Line}
use Rattle.spec_text.specs.declared.Workload.{Workload}
use Rattle.spec_text.specs.Value.{lines_of}
use Rattle.spec_graph.specs.Walk.{Step, FirstWalk}
use Rattle.spec_schedule.specs.Schedule.{Schedule}
use Rattle.spec_schedule.specs.Serial.{Serialisable}
use Rattle.spec_report.specs.State.{StateRefusal, short_for_walk, counts_of, summary_graph, Robust}
use Rattle.spec_report.specs.Area.{shown_in}
use Rattle.verdict_told.specs.Told.{Told}

-- Demand 2: robust where no dangerous closed walk exists, and the area stays as it was; danger where one exists: the first of them (Req 01)
-- stands at the front of the area, four words to a step, and the rest stays as it was. Nothing is free: the value and the area before settle the
-- answer and the area after (`judged-one`).
-- Demand 3: where the word is robust, every schedule of the workload has its serial order.
pub data Word (lines : List Line) (before : List ℕ) : Told → List ℕ → Type 0 where
  robust : Robust lines → ((s : Schedule lines) → Serialisable s) → Word lines before (Told.robust (counts_of lines)) before
  danger : (walk : List Step) → FirstWalk (summary_graph lines) walk
      → Word lines before (Told.danger (counts_of lines) (length walk)) (shown_in walk before)

-- S21, S22, S20 in this order: the answer is that refusal, and the area stays as it was; else it is the word
pub data Judged (w : Workload) (before : List ℕ) : Told → List ℕ → Type 0 where
  refused : (number : ℕ) → StateRefusal w (short_for_walk (length before / 4)) (some number) → Judged w before (Told.refused number) before
  judged : StateRefusal w (short_for_walk (length before / 4)) none → (answer : Told) (after : List ℕ)
      → Word (lines_of w) before answer after → Judged w before answer after
