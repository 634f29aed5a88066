-- What reading the line at a place of a text answers. Believed.
use Rattle.std.specs.Prelude.{List, ℕ, take, drop, Option, Some, None}
use Rattle.std.proofs.Math.Option.{none, some}
use Rattle.spec_text.specs.declared.Line.{Line}
use Rattle.spec_text.specs.Text.{line_of}
use Rattle.text_lines.specs.Span.{line_length, span_at}

-- the bytes of the line at a place, without the byte 0A that ends it
abbrev pub line_bytes : List ℕ → ℕ → List ℕ
line_bytes text at = take (line_length (drop at text)) (drop at text)

-- the place of the line after it
abbrev pub place_after : List ℕ → ℕ → ℕ
place_after text at = (span_at text at 0).next

-- R4: the value line at a place and the place after it, or that there is none
unfoldable pub line_step : List ℕ → ℕ → Option (Line × ℕ)
line_step text at = elim (line_of (line_bytes text at)) [ none ↦ None | some l ↦ Some (l, place_after text at) ]
