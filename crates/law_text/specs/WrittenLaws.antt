-- How many bytes there are at most where lines are written out.
use Rattle.std.specs.Prelude.{Bool, true, false, List, [], ◌∷◌, ◌++◌, ℕ, zero, suc, ◌+◌, ◌*◌, ◌/◌, ◌%◌, ◌≤◌, ltb, length}
use Rattle.std.proofs.Common.{zero-le, arith, length-append}
use Rattle.spec_text.specs.declared.Line.{Line}
use Rattle.spec_text.specs.Text.{newline, space, names_line, digit, digits_of, word_of, Form, forms_of}
use Rattle.spec_text.specs.Text.Form.{number, set, nothing}
use Rattle.law_text.specs.TextLaws.{values_in, word_two}
use Rattle.law_text.specs.Written.{field_written, fields_written, line_written, lines_written, written}

-- no more digits than are allowed
pub digits_most : (base most n : ℕ) → length (digits_of base most n) ≤ most
unfolding digits_of
digits_most base zero n = zero-le
digits_most base (suc most) n = go (ltb n base) (digits_most base most (n / base))
  where
    go : (b : Bool) → length (digits_of base most (n / base)) ≤ most
        → length {A = ℕ} (elim b [ true ↦ digit n ∷ [] | false ↦ digits_of base most (n / base) ++ (digit (n % base) ∷ []) ]) ≤ suc most
    go true h = omega arith
    go false h = omega (arith, length-append (digits_of base most (n / base)) (digit (n % base) ∷ []))

field_short : (form : Form) (n : ℕ) → length (field_written form n) ≤ 16
unfolding field_written
field_short number n = omega (arith, digits_most 10 3 n)
field_short set n = digits_most 16 16 n
field_short nothing n = omega arith

fields_short : (forms : List Form) (values : List ℕ) → length (fields_written forms values) ≤ 17 * length values
unfolding fields_written
fields_short [] values = zero-le
fields_short (form ∷ forms) [] = zero-le
fields_short (form ∷ forms) (n ∷ values) =
    omega (
      arith,
      field_short form n,
      fields_short forms values,
      length-append (space ∷ field_written form n) (fields_written forms values),
    )

line_short : (l : Line) → length (line_written l) ≤ 105
unfolding line_written
line_short l =
    let fields = fields_written (forms_of l.kind) (values_in l) in
    omega (
      arith,
      word_two l.kind,
      fields_short (forms_of l.kind) (values_in l),
      length-append (word_of l.kind) fields,
      length-append (word_of l.kind ++ fields) (newline ∷ []),
    )

lines_short : (lines : List Line) → length (lines_written lines) ≤ 105 * length lines
unfolding lines_written
lines_short [] = zero-le
lines_short (l ∷ lines) = omega (arith, line_short l, lines_short lines, length-append (line_written l) (lines_written lines))

pub written_short : (lines : List Line) → length (written lines) ≤ 34 + 105 * length lines
unfolding written names_line
written_short lines = omega (arith, lines_short lines)
