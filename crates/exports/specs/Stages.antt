-- What the exports that are timed answer and leave in the area. Believed, with the words of export_word.
use Rattle.std.specs.Prelude.{List, ◌≡◌, ℕ, ◌+◌, ◌/◌, ◌%◌, get_or, Result, Ok, Err}
use Rattle.refusal.specs.declared.Fault.{Fault}
use Rattle.refusal.specs.Numbers.{number_of}
use Rattle.spec_text.specs.declared.Line.{Line}
use Rattle.spec_text.specs.declared.LineKind.TheVariants.{Rl}
use Rattle.spec_text.specs.declared.Workload.{Workload}
use Rattle.spec_text.specs.Reading.{read}
use Rattle.text_read.specs.Parse.{parsed_as}
use Rattle.unfold.specs.declared.Unfolded.{Unfolded}
use Rattle.unfold.specs.UnfoldTold.{no_unfolding}
use Rattle.unfold.specs.UnfoldSettled.{Settled}
use Rattle.verdict_told.specs.Told.{Told}
use Rattle.verdict_of.specs.Verdict.{Judged}
use Rattle.export_word.specs.Word.{refusal_word, value_word, nodes_word, verdict_word}

-- what a text gives: its workload value, or a refusal's number and line
abbrev pub given : List ℕ → Result Workload (ℕ × ℕ)
given text = parsed_as (read text)

-- the line in the middle: there always is one among the 1616 cells, so nothing stands for none
abbrev pub middle_line : Workload → Line
middle_line w = get_or w.lines (w.count / 2 % 1616) (record { kind = Rl; id = 0; rel = 0; to = 0; reads = 0; writes = 0; tests = 0 })

-- the values of the line in the middle, and the number of lines
unfoldable pub read_word : Result Workload (ℕ × ℕ) → ℕ
read_word (Ok w) = value_word (middle_line w) w.count
read_word (Err refusal) = refusal_word refusal.0 refusal.1

-- the cell of the last node; 63 where there is no node
abbrev pub last_row : Unfolded → ℕ
last_row u = (u.count % 64 + 63) % 64

-- nodes, and where the last one's statements end
abbrev pub last_node_told : Unfolded → ℕ
last_node_told u =
    let last = get_or u.unfoldings (last_row u) no_unfolding in
    nodes_word u.count last.start last.length

unfoldable pub unfold_word : Result Unfolded Fault → ℕ
unfold_word (Ok u) = last_node_told u
unfold_word (Err fault) = refusal_word (number_of fault) 0

-- a text that is refused: its refusal is told and the area stays as it was
abbrev pub Refuses : Result Workload (ℕ × ℕ) → List ℕ → ℕ → List ℕ → Type 0
Refuses p before r after = (number line : ℕ) → p ≡ Err (number, line) → (r ≡ refusal_word number line) × (after ≡ before)

-- the unfoldings of a workload value into the area
pub record Unfolds (w : Workload) (before : List ℕ) (r : ℕ) (after : List ℕ) : Type 0 where
  pub told : Result Unfolded Fault
  pub settled : Settled w before told after
  pub word : r ≡ unfold_word told

-- its verdict, with the walk in the area
pub record Judges (w : Workload) (before : List ℕ) (r : ℕ) (after : List ℕ) : Type 0 where
  pub told : Told
  pub settled : Judged w before told after
  pub word : r ≡ verdict_word told

-- the same from a text's answer on
pub record UnfoldStage (p : Result Workload (ℕ × ℕ)) (before : List ℕ) (r : ℕ) (after : List ℕ) : Type 0 where
  pub refuses : Refuses p before r after
  pub goes_on : (w : Workload) → p ≡ Ok w → Unfolds w before r after

pub record VerdictStage (p : Result Workload (ℕ × ℕ)) (before : List ℕ) (r : ℕ) (after : List ℕ) : Type 0 where
  pub refuses : Refuses p before r after
  pub goes_on : (w : Workload) → p ≡ Ok w → Judges w before r after
