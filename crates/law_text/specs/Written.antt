-- A text written out from lines, with the digits of the rules' numbers and sets.
use Rattle.std.specs.Prelude.{List, [], ◌∷◌, ◌++◌, ◌≡◌, refl, ℕ}
use Rattle.spec_text.specs.declared.Line.{Line}
use Rattle.spec_text.specs.Text.{newline, space, dash, names_line, digit, digits_of, word_of, Form, forms_of}
use Rattle.spec_text.specs.Text.Form.{number, set, nothing}
use Rattle.spec_text.specs.Reading.{Outcome}
use Rattle.spec_text.specs.Quoted.{text, read_bytes}
use Rattle.spec_text.specs.TextExamples.{each_kind, each_kind_lines}

-- T2, T3, T4: a field of this form, written out
unfoldable pub field_written : Form → ℕ → List ℕ
field_written number n = digits_of 10 3 n
field_written set n = digits_of 16 16 n
field_written nothing n = dash ∷ []

-- T1: fields, a space in front of each
unfoldable pub fields_written : List Form → List ℕ → List ℕ
fields_written [] values = []
fields_written (form ∷ forms) [] = []
fields_written (form ∷ forms) (n ∷ values) = space ∷ field_written form n ++ fields_written forms values

-- T1, T5: a line, written out with the byte 0A that ends it
unfoldable pub line_written : Line → List ℕ
line_written l =
    word_of l.kind
    ++ fields_written (forms_of l.kind) (l.id ∷ l.rel ∷ l.to ∷ l.reads ∷ l.writes ∷ l.tests ∷ [])
    ++ (newline ∷ [])

unfoldable pub lines_written : List Line → List ℕ
lines_written [] = []
lines_written (l ∷ lines) = line_written l ++ lines_written lines

-- T1: the text of lines
unfoldable pub written : List Line → List ℕ
written lines = names_line ++ (newline ∷ lines_written lines)

-- what is read of lines written out
unfoldable pub rereads : List Line → Outcome
unfolding written digit digits_of field_written fields_written line_written lines_written read_bytes
rereads lines = read_bytes (written lines)

-- T1: lines of each kind, written out, are their text
each_kind_written : written each_kind_lines ≡ text ("kind id rel to reads writes tests" ∷ each_kind)
unfolding rereads text each_kind each_kind_lines
each_kind_written = refl
