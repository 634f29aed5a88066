-- What the tests of a whole text answer.
use Rattle.std.specs.Prelude.{Bool, true, false, cond, ℕ, suc, eqb, leb, length, take, drop, Result, Ok, Err}
use mathlib.Core.List.{List, [], ◌∷◌, ◌++◌, head_d}
use Rattle.std.proofs.Math.Option.{Option, none, some}
use Rattle.spec_text.specs.Text.{newline, same, lines_in, names_line}
use Rattle.spec_text.specs.Reading.{Outcome, other_byte, ends_line, read_lines}
use Rattle.spec_text.specs.Reading.Outcome.{refused}
use Rattle.text_lines.specs.Span.{span_at}

-- N3: what the answer stands for: the refusal's number and line, or what the lines from the place on give
abbrev pub whole_gives : List ℕ → Result ℕ (ℕ × ℕ) → Outcome
whole_gives text (Err refusal) = refused refusal.0 refusal.1
whole_gives text (Ok place) = read_lines [] (lines_in (drop place text))

-- R1, R2, R3 in this order; where all pass, the place after the first line, which is the names line
unfoldable pub whole_of : List ℕ → Result ℕ (ℕ × ℕ)
whole_of text =
    elim (leb (length text) 32768) [
      | false ↦ Err (1, 0)
      | true ↦
          elim (other_byte 1 text) [
            | some line ↦ Err (2, line)
            | none ↦
                elim (ends_line text) [
                  | false ↦ Err (2, 0)
                  | true ↦
                      elim (same (head_d (lines_in text) []) names_line) [
                        | false ↦ Err (3, 1)
                        | true ↦ Ok ((span_at text 0 1).next)
                      ]
                ]
          ]
    ]

-- a line's number, 0 where there is none
unfoldable pub line_or : Option ℕ → ℕ
line_or none = 0
line_or (some line) = line

-- the line of what follows a byte
unfoldable pub line_after_byte : ℕ → ℕ → ℕ
line_after_byte line b = cond (eqb b newline) (suc line) line

-- the text begins with the names line and the byte that ends it
unfoldable pub begins_named : List ℕ → Bool
begins_named text = same (take 34 text) (names_line ++ (newline ∷ []))
