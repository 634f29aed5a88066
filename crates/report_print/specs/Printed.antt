-- What a printed report holds, and how its bytes are written.
use Rattle.std.specs.Prelude.{List, [], ◌∷◌, ◌++◌, ◌≡◌, ℕ, zero, suc, ◌+◌, ◌-◌, ◌*◌, ◌≤◌, min, length, get_or, drop, replicate}
use Rattle.std.proofs.lemmas.List.Edits.{sets}
use Rattle.spec_graph.specs.Walk.{Step}
use Rattle.spec_report.specs.State.{Counts}
use Rattle.spec_report.specs.Report.{verdict_names, verdict_line, step_lines, refusal_report, robust_report, danger_report}
use Rattle.verdict_told.specs.Told.{Told}
use Rattle.report_bytes.specs.Bytes.{flow_of}
use Rattle.report_print.specs.declared.Printed.{Printed}

-- the bytes of a report, with zeros after them
unfoldable pub printed_as : List ℕ → Printed
printed_as bytes = record { length = length bytes; bytes = bytes ++ replicate (8192 - length bytes) 0 }

-- a report before anything is written
abbrev pub blank : Printed
blank = record { length = 0; bytes = replicate 8192 0 }

-- the first two lines of a report that is no refusal
abbrev pub verdict_lines : List ℕ → Counts → List ℕ
verdict_lines word c = verdict_names ++ verdict_line word c

-- step k of a walk that is told by four words a step: node, place left, place entered, flow; a word past the end is 0
unfoldable pub step_at : List ℕ → ℕ → Step
step_at words k =
    record {
      node = get_or words (k * 4) 0;
      leaves = get_or words (k * 4 + 1) 0;
      enters = get_or words (k * 4 + 2) 0;
      flow = flow_of (get_or words (k * 4 + 3) 0);
    }

-- as many steps from step k on
unfoldable pub steps_in : List ℕ → ℕ → ℕ → List Step
steps_in words k zero = []
steps_in words k (suc n) = step_at words k ∷ steps_in words (suc k) n

-- W5: the walk that is shown: so many steps, and at most 65
unfoldable pub walk_in : List ℕ → ℕ → List Step
walk_in words steps = steps_in words 0 (min steps 65)

-- the bytes of an answer, with the walk that stands in an area; a refusal because of the state has line 0
unfoldable pub bytes_for : Told → List ℕ → List ℕ
bytes_for (Told.refused number) area = refusal_report number 0
bytes_for (Told.robust c) area = robust_report c
bytes_for (Told.danger c steps) area = danger_report c (walk_in area steps)

-- bytes, no more than `most`, are written into an area from a place on; r is the place after them
pub record Put (bytes : List ℕ) (most at : ℕ) (before : List ℕ) (r : ℕ) (after : List ℕ) : Type 0 where
  pub place : r ≡ at + length bytes
  pub few : length bytes ≤ most
  pub area : after ≡ sets before at bytes

-- the same of a report that is being printed: bytes are written after those that are there
abbrev pub Wrote : List ℕ → ℕ → Printed → Printed → Type 0
Wrote bytes most before after = Put bytes most before.length before.bytes after.length after.bytes

-- bytes that are copied one by one: i of them are written, and the others are still to be
pub record Copying (bytes : List ℕ) (at : ℕ) (before : List ℕ) (i : ℕ) (area : List ℕ) : Type 0 where
  pub inside : i ≤ length bytes
  pub written : sets area (at + i) (drop i bytes) ≡ sets before at bytes

-- what holds in each turn of the loop over the steps: the lines of k of them are written
pub record Stepping (words : List ℕ) (before : Printed) (steps k : ℕ) (after : Printed) : Type 0 where
  pub few : k ≤ steps
  pub put : Wrote (step_lines 0 (steps_in words 0 k)) (k * 86) before after
