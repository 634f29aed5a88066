-- What reading a text answers, and the steps of the code that reads it. Believed: `parsed_as`, `work_of`.
use Rattle.std.specs.Prelude.{List, [], ◌≡◌, ℕ, drop, Result, Ok, Err}
use Rattle.spec_text.specs.declared.Line.{Line}
use Rattle.spec_text.specs.declared.Workload.{Workload}
use Rattle.spec_text.specs.Text.{lines_in}
use Rattle.spec_text.specs.Value.{value_of, no_workload}
use Rattle.spec_text.specs.Reading.{Outcome, read_lines}
use Rattle.spec_text.specs.Reading.Outcome.{refused, accepted}
use Rattle.line_rules.specs.WordsHold.{HoldsWords}

-- the answer for a text: its workload value, or the refusal's number and line
unfoldable pub parsed_as : Outcome → Result Workload (ℕ × ℕ)
parsed_as (refused number line) = Err (number, line)
parsed_as (accepted lines) = Ok (value_of lines)

-- the value that an answer gives; a refused text gives none, and in its place stands a value that no text gives
abbrev pub work_of : Result Workload (ℕ × ℕ) → Workload
work_of (Err refusal) = no_workload
work_of (Ok w) = w

-- between two lines: these were taken, the value and the words hold them, and what is read is what the lines left give after them
pub record Going (text : List ℕ) (start : ℕ) (w : Workload) (words : List ℕ) (at : ℕ) : Type 0 where
  pub before : List Line
  pub work : w ≡ value_of before
  pub holds : HoldsWords words before
  pub reads : read_lines before (lines_in (drop at text)) ≡ read_lines [] (lines_in (drop start text))
