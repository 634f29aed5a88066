-- How a line is read in place: each function takes what stands from a place of a text on, and gives a value with what stands after the byte
-- that ends its field. What the code of this crate computes: a step between the code and the believed definitions of the text.
use Rattle.std.specs.Prelude.{Bool, true, false, cond, ◌||◌, List, [], ◌∷◌, ℕ, zero, suc, ◌+◌, ◌*◌, eqb, leb, take, drop}
use Rattle.std.proofs.Math.Option.{Option, none, some}
use Rattle.spec_text.specs.declared.Line.{Line}
use Rattle.spec_text.specs.declared.LineKind.{LineKind}
use Rattle.spec_text.specs.Text.{space, newline, dash, Form, forms_of, line_with}
use Rattle.spec_text.specs.Text.Form.{number, set, nothing}
use Rattle.text_lines.specs.Span.{line_length}
use Rattle.text_number.specs.Digits.{hexadecimal}
use Rattle.text_fields.specs.Field.{with_step}

-- a value and what stands after the byte that ends its field: a line's end after the last field, a space after another
unfoldable pub ended_with : Bool → ℕ → List ℕ → Option (ℕ × List ℕ)
ended_with last n [] = cond last (some (n, [])) none
ended_with last n (b ∷ rest) = cond (eqb b (cond last newline space)) (some (n, rest)) none

-- the value of at most so many digits more, after digits that stand for n
unfoldable pub digits_run : Bool → ℕ → ℕ → ℕ → List ℕ → Option (ℕ × List ℕ)
digits_run last base zero n rest = ended_with last n rest
digits_run last base (suc left) n [] = ended_with last n []
digits_run last base (suc left) n (b ∷ rest) =
    cond (leb base (hexadecimal b)) (ended_with last n (b ∷ rest)) (digits_run last base left (n * base + hexadecimal b) rest)

-- the value of a digit and at most so many more: none after a zero
unfoldable pub digits_at : Bool → ℕ → ℕ → List ℕ → Option (ℕ × List ℕ)
digits_at last base more [] = none
digits_at last base more (b ∷ rest) =
    cond (leb base (hexadecimal b)) none
    (cond (eqb b 0x30) (ended_with last 0 rest) (digits_run last base more (hexadecimal b) rest))

unfoldable pub dash_at : Bool → List ℕ → Option (ℕ × List ℕ)
dash_at last [] = none
dash_at last (b ∷ rest) = cond (eqb b dash) (ended_with last 0 rest) none

-- a value that is no more than 255
unfoldable pub up_to255 : Option (ℕ × List ℕ) → Option (ℕ × List ℕ)
up_to255 none = none
up_to255 (some p) = cond (leb p.0 255) (some p) none

-- the value of a field of a form
unfoldable pub field_at : Bool → Form → List ℕ → Option (ℕ × List ℕ)
field_at last number rest = up_to255 (digits_at last 10 2 rest)
field_at last set rest = digits_at last 16 15 rest
field_at last nothing rest = dash_at last rest

-- the value of the last field
unfoldable pub last_step : Option (ℕ × List ℕ) → Option (List ℕ × List ℕ)
last_step none = none
last_step (some p) = some (p.0 ∷ [], p.1)

-- the values of the fields of a line, and what stands after the line
unfoldable pub fields_at : List Form → List ℕ → Option (List ℕ × List ℕ)
fields_at [] rest = none
fields_at (form ∷ []) rest = last_step (field_at true form rest)
fields_at (form ∷ other ∷ forms) rest =
    elim (field_at false form rest) [ none ↦ none | some p ↦ with_step p.0 (fields_at (other ∷ forms) p.1) ]

-- the line of a kind, from what stands after its word and a space, and what stands after the line
unfoldable pub line_after : LineKind → List ℕ → Option (Line × List ℕ)
line_after k rest = elim (fields_at (forms_of k) rest) [ none ↦ none | some p ↦ some (line_with k p.0, p.1) ]

-- a byte that ends a field
abbrev pub ends_field : ℕ → Bool
ends_field b = eqb b space || eqb b newline

-- the bytes of the field that stands in front, and what stands after them
unfoldable pub field_in : List ℕ → List ℕ
field_in [] = []
field_in (b ∷ rest) = cond (ends_field b) [] (b ∷ field_in rest)

unfoldable pub after_field : List ℕ → List ℕ
after_field [] = []
after_field (b ∷ rest) = cond (ends_field b) (b ∷ rest) (after_field rest)

-- the line that stands in front, and what stands after the byte that ends it
abbrev pub line_in : List ℕ → List ℕ
line_in rest = take (line_length rest) rest

abbrev pub after_line : List ℕ → List ℕ
after_line rest = drop (suc (line_length rest)) rest
