-- How a line is read, field by field from the front: what the code of this crate computes. A step between the code and the believed
-- definitions of the text; the laws that join the two stand in the modules beside.
use Rattle.std.specs.Prelude.{cond, List, [], ◌∷◌, ℕ, suc, eqb}
use Rattle.std.proofs.Math.Option.{Option, none, some}
use Rattle.spec_text.specs.declared.Line.{Line}
use Rattle.spec_text.specs.declared.LineKind.{LineKind}
use Rattle.spec_text.specs.Text.{space, fields_in, forms_of, values_of, line_with}
unfoldable pub use Rattle.line_kinds.specs.Kinds.{number_if, set_if, forms_with}

-- how long the first field of a line is
unfoldable pub field_length : List ℕ → ℕ
field_length [] = 0
field_length (b ∷ line) = cond (eqb b space) 0 (suc (field_length line))

-- the fields after the first one, in what follows that one: nothing, or a space and more fields
unfoldable pub others_in : List ℕ → List (List ℕ)
others_in [] = []
others_in (b ∷ line) = fields_in line

-- a value in front of those of the fields after it
unfoldable pub with_step : ℕ → Option (List ℕ × List ℕ) → Option (List ℕ × List ℕ)
with_step n none = none
with_step n (some p) = some (n ∷ p.0, p.1)

-- the line of a kind, if there are values
unfoldable pub line_from : LineKind → Option (List ℕ) → Option Line
line_from k none = none
line_from k (some values) = some (line_with k values)

-- the line of a kind, from what follows its word
unfoldable pub line_after_word : LineKind → List ℕ → Option Line
line_after_word k rest = line_from k (values_of (forms_of k) (others_in rest))
