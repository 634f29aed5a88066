-- What a line takes up in a text.
use Rattle.std.specs.Prelude.{Bool, cond, not, ◌||◌, ℕ, eqb, length}
use Rattle.std.specs.Prelude as code
use Rattle.std.proofs.Math.Option.{Option, none, some}
use Rattle.spec_text.specs.declared.Line.{Line}
use Rattle.law_text.specs.Written.{line_written}
use Rattle.law_text.specs.TextLaws.{line_fits}
use Rattle.line_kinds.specs.Kinds.{lacks_fact}

-- T2: a value whose field is not among a kind's facts is 0
abbrev pub value_fits : ℕ → ℕ → ℕ → Bool
value_fits facts field n = not (lacks_fact facts field) || eqb n 0

-- N3: what the answer says: the bytes of a line, or that no text has it
unfoldable pub size_said : code.Option ℕ → Option ℕ
size_said (code.Some n) = some n
size_said code.None = none

-- T1 to T5, S21: the bytes that a line is written with, its line end counted; none where a value does not fit its field: no text has the line
unfoldable pub size_of : Line → Option ℕ
size_of l = cond (line_fits l) (some (length (line_written l))) none
