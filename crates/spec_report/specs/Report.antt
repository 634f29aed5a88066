-- The report of a text, as bytes (docs/MODEL.md, "Report"; Req 01). Believed.
use Rattle.std.proofs.Math.Bool.{true, false}
use mathlib.Core.List.{List, [], ◌∷◌, ◌++◌}
use Rattle.std.specs.Prelude.{◌≡◌, ℕ, suc}
use Rattle.spec_text.specs.declared.Line.{Line}
use Rattle.spec_text.specs.Text.{newline, space}
use Rattle.spec_text.specs.Reading.{read}
use Rattle.spec_text.specs.Reading.Outcome.{refused, accepted}
use Rattle.spec_text.specs.Text.{digits_of}
use Rattle.spec_graph.specs.Graph.{Flow}
use Rattle.spec_graph.specs.Walk.{Step, FirstWalk}
use Rattle.spec_report.specs.State.{Counts, counts_of, is_too_many, summary_graph, Robust}

-- P1: `verdict programs nodes edges back` and its line end
unfoldable pub verdict_names : List ℕ
verdict_names =
    0x76 ∷ 0x65 ∷ 0x72 ∷ 0x64 ∷ 0x69 ∷ 0x63 ∷ 0x74 ∷ space
    ∷ 0x70 ∷ 0x72 ∷ 0x6f ∷ 0x67 ∷ 0x72 ∷ 0x61 ∷ 0x6d ∷ 0x73 ∷ space
    ∷ 0x6e ∷ 0x6f ∷ 0x64 ∷ 0x65 ∷ 0x73 ∷ space
    ∷ 0x65 ∷ 0x64 ∷ 0x67 ∷ 0x65 ∷ 0x73 ∷ space
    ∷ 0x62 ∷ 0x61 ∷ 0x63 ∷ 0x6b ∷ newline ∷ []

-- P1: `robust`, `danger`
unfoldable pub robust_word : List ℕ
robust_word = 0x72 ∷ 0x6f ∷ 0x62 ∷ 0x75 ∷ 0x73 ∷ 0x74 ∷ []

unfoldable pub danger_word : List ℕ
danger_word = 0x64 ∷ 0x61 ∷ 0x6e ∷ 0x67 ∷ 0x65 ∷ 0x72 ∷ []

-- P2: `step node leaves enters flow` and its line end
unfoldable pub step_names : List ℕ
step_names =
    0x73 ∷ 0x74 ∷ 0x65 ∷ 0x70 ∷ space
    ∷ 0x6e ∷ 0x6f ∷ 0x64 ∷ 0x65 ∷ space
    ∷ 0x6c ∷ 0x65 ∷ 0x61 ∷ 0x76 ∷ 0x65 ∷ 0x73 ∷ space
    ∷ 0x65 ∷ 0x6e ∷ 0x74 ∷ 0x65 ∷ 0x72 ∷ 0x73 ∷ space
    ∷ 0x66 ∷ 0x6c ∷ 0x6f ∷ 0x77 ∷ newline ∷ []

-- P3: `refused line` and its line end
unfoldable pub refused_names : List ℕ
refused_names =
    0x72 ∷ 0x65 ∷ 0x66 ∷ 0x75 ∷ 0x73 ∷ 0x65 ∷ 0x64 ∷ space
    ∷ 0x6c ∷ 0x69 ∷ 0x6e ∷ 0x65 ∷ newline ∷ []

-- a number in decimal; 20 digits are more than any count here has
unfoldable pub decimal : ℕ → List ℕ
decimal n = digits_of 10 20 n

-- P2: `f` or `b`
abbrev pub flow_letter : Flow → ℕ
flow_letter Flow.forward = 0x66
flow_letter Flow.back = 0x62

-- P1: a word and the counts
unfoldable pub verdict_line : List ℕ → Counts → List ℕ
verdict_line word c =
    word
    ++ (space ∷ decimal c.programs)
    ++ (space ∷ decimal c.nodes)
    ++ (space ∷ decimal c.edges)
    ++ (space ∷ decimal c.back)
    ++ (newline ∷ [])

-- P2: step number k
unfoldable pub step_line : ℕ → Step → List ℕ
step_line k s =
    decimal k
    ++ (space ∷ decimal s.node)
    ++ (space ∷ decimal s.leaves)
    ++ (space ∷ decimal s.enters)
    ++ (space ∷ flow_letter s.flow ∷ newline ∷ [])

-- P2: the steps from number k on
unfoldable pub step_lines : ℕ → List Step → List ℕ
step_lines k [] = []
step_lines k (s ∷ walk) = step_line k s ++ step_lines (suc k) walk

-- P3: a refusal's number and line
unfoldable pub refusal_report : ℕ → ℕ → List ℕ
refusal_report number line = refused_names ++ decimal number ++ (space ∷ decimal line) ++ (newline ∷ [])

unfoldable pub robust_report : Counts → List ℕ
robust_report c = verdict_names ++ verdict_line robust_word c

unfoldable pub danger_report : Counts → List Step → List ℕ
danger_report c walk = verdict_names ++ verdict_line danger_word c ++ step_names ++ step_lines 0 walk

-- P1, P2, P3: these bytes are the report of the text. Req 01: of the dangerous walks the first is shown, so nothing is free.
pub data Report (text : List ℕ) : List ℕ → Type 0 where
  refusal : (number line : ℕ) → read text ≡ refused number line → Report text (refusal_report number line)
  unfolding_refusal : (lines : List Line) → read text ≡ accepted lines → is_too_many lines ≡ true → Report text (refusal_report 22 0)
  robust : (lines : List Line) → read text ≡ accepted lines → is_too_many lines ≡ false → Robust lines → Report text (robust_report (counts_of lines))
  danger : (lines : List Line) → read text ≡ accepted lines → is_too_many lines ≡ false → (walk : List Step)
      → FirstWalk (summary_graph lines) walk → Report text (danger_report (counts_of lines) walk)
