-- The line at a place of a text.
use Rattle.std.specs.Prelude.{cond, List, [], ◌∷◌, ℕ, suc, ◌+◌, ◌-◌, eqb, ltb, length, take, drop}
use Rattle.spec_text.specs.Text.{newline}
use Rattle.text_lines.specs.declared.Span.{Span}

-- how long the first line is
unfoldable pub line_length : List ℕ → ℕ
line_length [] = 0
line_length (b ∷ text) = cond (eqb b newline) 0 (suc (line_length text))

-- the line at a place: where it ends, and the place and the number of the next line
unfoldable pub span_at : List ℕ → ℕ → ℕ → Span
span_at text place line =
    let end = place + line_length (drop place text) in
    record {
      start = place;
      end = end;
      next = cond (ltb end (length text)) (end + 1) end;
      after = cond (ltb line 18446744073709551615) (line + 1) line;
    }

-- the bytes of a line
abbrev pub bytes_of : List ℕ → Span → List ℕ
bytes_of text span = take (span.end - span.start) (drop span.start text)
