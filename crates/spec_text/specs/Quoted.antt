-- Quoted texts, for closed cases: who unfolds one of these unfolds all that reading is defined by.
use mathlib.Core.List.{List, [], ◌∷◌, ◌++◌, head_d}
use Rattle.std.specs.Prelude.{ℕ}
use Prim.Native.Char.{code}
use Prim.Native.String.{String}
use Rattle.spec_text.specs.Text.{newline, same, on_first, lines_in, fields_in, names_line, digits_form, digit_value, value_after, number_of}
use Rattle.spec_text.specs.Text.{set_of, dash_of, word_of, kinds, kind_of, forms_of, field_of, values_of, line_with, line_of, unused_line}
use Rattle.spec_text.specs.Reading.{sort, is_relation, is_key, is_program, is_statement_or_flow, is_link, is_statement_of, is_statement}
use Rattle.spec_text.specs.Reading.{program, relation, key, statement, same_block, to_second_arm, blocks_after, blocks_after_lines, open_blocks}
use Rattle.spec_text.specs.Reading.{before_statement, blocks_around, relation_set, bounded, within_bounds, in_body, none_open, innermost}
use Rattle.spec_text.specs.Reading.{ordered, named, kind_sets, sets_fit, can_be_parent, all_around, link_fits, tests_of, first_failed, fault}
use Rattle.spec_text.specs.Reading.{Outcome, read_lines, is_allowed, other_byte, ends_line, read}

-- the bytes of a quoted text
unfoldable pub bytes : String → List ℕ
bytes String.[] = []
bytes (String.◌∷◌ c s) = code c ∷ bytes s

-- the text of these lines, each with the byte 0A that ends it
unfoldable pub text : List String → List ℕ
unfolding bytes
text [] = []
text (line ∷ lines) = bytes line ++ (newline ∷ text lines)

-- what is read of bytes
unfoldable pub read_bytes : List ℕ → Outcome
unfolding
    names_line line_of fields_in on_first kind_of kinds same word_of values_of forms_of field_of number_of set_of dash_of digits_form digit_value
    value_after line_with unused_line lines_in sort is_relation is_key is_program is_statement_or_flow is_link is_statement_of is_statement program
    relation key statement same_block to_second_arm blocks_after blocks_after_lines open_blocks before_statement blocks_around relation_set bounded within_bounds
    in_body none_open innermost ordered named kind_sets sets_fit can_be_parent all_around link_fits tests_of first_failed fault read_lines is_allowed
    other_byte ends_line read head_d
read_bytes b = read b

-- what is read of the text of these lines after the names line
unfoldable pub given : List String → Outcome
unfolding text read_bytes
given lines = read_bytes (text ("kind id rel to reads writes tests" ∷ lines))
