-- What was taken of a text before its fault, and how much that is. Believed.
use Rattle.std.specs.Prelude.{Bool, true, false, ℕ, leb, length}
use mathlib.Core.List.{List, [], ◌∷◌, ◌++◌, tail}
use Rattle.std.proofs.Math.Option.{none, some}
use Rattle.spec_base.specs.Basic.{count}
use Rattle.spec_text.specs.declared.Line.{Line}
use Rattle.spec_text.specs.Text.{lines_in, line_of}
use Rattle.spec_text.specs.Reading.{is_relation, is_key, is_program, is_statement, is_statement_or_flow, is_link, program, open_blocks, fault}
use Rattle.spec_text.specs.Reading.{Outcome, read}
use Rattle.spec_text.specs.Reading.Outcome.{refused, accepted}
use Rattle.text_before.specs.declared.Before.{Before}

-- R4, then the tests, as in `read_lines`: the lines before, and after them those of these lines of bytes up to the first that is refused
unfoldable pub taken_before : List Line → List (List ℕ) → List Line
taken_before before [] = before
taken_before before (bytes ∷ rest) =
    elim (line_of bytes) [
      | none ↦ before
      | some l ↦ elim (fault before l) [ some number ↦ before | none ↦ taken_before (before ++ (l ∷ [])) rest ]
    ]

-- R1, R2, R3: refused as a whole, before its lines
unfoldable pub refused_whole : Outcome → Bool
refused_whole (refused number line) = leb number 3
refused_whole (accepted lines) = false

-- the lines taken of a text; the names line is none of them
unfoldable pub taken_of : List ℕ → List Line
taken_of text = elim (refused_whole (read text)) [ true ↦ [] | false ↦ taken_before [] (tail (lines_in text)) ]

-- how much these lines are; `program` are those after the last `pr`
unfoldable pub counts_of : List Line → Before
counts_of lines =
    record {
      lines = length lines;
      relations = count is_relation lines;
      keys = count is_key lines;
      programs = count is_program lines;
      statements = count is_statement (program lines);
      body = count is_statement_or_flow (program lines);
      links = count is_link (program lines);
      depth = length (open_blocks (program lines));
    }

unfoldable pub before_of : List ℕ → Before
before_of text = counts_of (taken_of text)
