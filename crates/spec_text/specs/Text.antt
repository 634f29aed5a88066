-- The form of the workload text (docs/MODEL.md, "The workload text"). Believed. A text is the list of its bytes.
use Rattle.std.specs.Prelude.{Bool, true, false, cond, not, ◌&&◌, ◌||◌, List, [], ◌∷◌, ◌++◌, ℕ, zero, suc, ◌+◌, ◌*◌, ◌-◌, ◌/◌, ◌%◌, eqb, leb, ltb, length, get_or}
use Rattle.std.proofs.Math.Option.{Option, none, some}
use Rattle.spec_base.specs.Basic.{all, first}
use Rattle.spec_text.specs.declared.Line.{Line}
use Rattle.spec_text.specs.declared.LineKind.{LineKind}
use Rattle.spec_text.specs.declared.LineKind.TheVariants.{Rl, Fk, Pr, St, Lo, Br, El, En, Li}
use Rattle.spec_text.specs.declared.StatementKind.TheVariants.{Is, Ks, Ps, Ku, Pu, Kd, Pd, Kl}

-- the bytes that part lines and fields, and the dash
abbrev pub newline : ℕ
newline = 0x0a

abbrev pub space : ℕ
space = 0x20

abbrev pub dash : ℕ
dash = 0x2d

-- the bytes 0 to 9; with a to f; a to z
abbrev pub is_decimal : ℕ → Bool
is_decimal b = leb 0x30 b && leb b 0x39

abbrev pub is_hexadecimal : ℕ → Bool
is_hexadecimal b = is_decimal b || leb 0x61 b && leb b 0x66

abbrev pub is_letter : ℕ → Bool
is_letter b = leb 0x61 b && leb b 0x7a

-- the same bytes
unfoldable pub same : List ℕ → List ℕ → Bool
same [] [] = true
same [] (b ∷ bs) = false
same (a ∷ as') [] = false
same (a ∷ as') (b ∷ bs) = eqb a b && same as' bs

-- a byte in front of the first part
unfoldable pub on_first : ℕ → List (List ℕ) → List (List ℕ)
on_first b [] = (b ∷ []) ∷ []
on_first b (part ∷ parts) = (b ∷ part) ∷ parts

-- T1: the lines of a text, each without the byte 0A that ends it
unfoldable pub lines_in : List ℕ → List (List ℕ)
lines_in [] = []
lines_in (b ∷ text) = elim (eqb b newline) [ true ↦ [] ∷ lines_in text | false ↦ on_first b (lines_in text) ]

-- T1: the fields of a line, parted by one space
unfoldable pub fields_in : List ℕ → List (List ℕ)
fields_in [] = [] ∷ []
fields_in (b ∷ line) = elim (eqb b space) [ true ↦ [] ∷ fields_in line | false ↦ on_first b (fields_in line) ]

-- T1: the first line, `kind id rel to reads writes tests`
unfoldable pub names_line : List ℕ
names_line =
    0x6b ∷ 0x69 ∷ 0x6e ∷ 0x64 ∷ space
    ∷ 0x69 ∷ 0x64 ∷ space
    ∷ 0x72 ∷ 0x65 ∷ 0x6c ∷ space
    ∷ 0x74 ∷ 0x6f ∷ space
    ∷ 0x72 ∷ 0x65 ∷ 0x61 ∷ 0x64 ∷ 0x73 ∷ space
    ∷ 0x77 ∷ 0x72 ∷ 0x69 ∷ 0x74 ∷ 0x65 ∷ 0x73 ∷ space
    ∷ 0x74 ∷ 0x65 ∷ 0x73 ∷ 0x74 ∷ 0x73 ∷ []

-- T3, T4: 1 to n digits, no leading zero except 0 itself
unfoldable pub digits_form : (ℕ → Bool) → ℕ → List ℕ → Bool
digits_form is_digit n [] = false
digits_form is_digit n (d ∷ more) =
    all is_digit (d ∷ more) && leb (length (d ∷ more)) n && (not (eqb d 0x30) || eqb (length more) 0)

-- T3, T4: what digits stand for in a base, after digits that stand for n
unfoldable pub digit_value : ℕ → ℕ
digit_value d = cond (is_decimal d) (d - 0x30) (d - 0x61 + 10)

unfoldable pub value_after : ℕ → ℕ → List ℕ → ℕ
value_after base n [] = n
value_after base n (d ∷ digits) = value_after base (n * base + digit_value d) digits

-- T3, T4: the digit for a number below the base
unfoldable pub digit : ℕ → ℕ
digit n = cond (ltb n 10) (0x30 + n) (0x61 + (n - 10))

-- T3, T4: the digits of a number in a base, with no leading zero except 0 itself; `most` bounds them
unfoldable pub digits_of : ℕ → ℕ → ℕ → List ℕ
digits_of base zero n = []
digits_of base (suc most) n = elim (ltb n base) [ true ↦ digit n ∷ [] | false ↦ digits_of base most (n / base) ++ (digit (n % base) ∷ []) ]

-- T3: a number: decimal, 1 to 3 digits, at most 255
unfoldable pub number_of : List ℕ → Option ℕ
number_of field =
    cond (digits_form is_decimal 3 field && leb (value_after 10 0 field) 255) (some (value_after 10 0 field)) none

-- T4: a set: 1 to 16 lowercase hexadecimal digits
unfoldable pub set_of : List ℕ → Option ℕ
set_of field = cond (digits_form is_hexadecimal 16 field) (some (value_after 16 0 field)) none

-- T2: `-` where the kind has no such field; the value then holds 0
unfoldable pub dash_of : List ℕ → Option ℕ
dash_of field = cond (same field (dash ∷ [])) (some 0) none

-- T5: the words of the kinds
unfoldable pub word_of : LineKind → List ℕ
-- rl
word_of Rl = 0x72 ∷ 0x6c ∷ []
-- fk
word_of Fk = 0x66 ∷ 0x6b ∷ []
-- pr
word_of Pr = 0x70 ∷ 0x72 ∷ []
-- is
word_of (St Is) = 0x69 ∷ 0x73 ∷ []
-- ks
word_of (St Ks) = 0x6b ∷ 0x73 ∷ []
-- ps
word_of (St Ps) = 0x70 ∷ 0x73 ∷ []
-- ku
word_of (St Ku) = 0x6b ∷ 0x75 ∷ []
-- pu
word_of (St Pu) = 0x70 ∷ 0x75 ∷ []
-- kd
word_of (St Kd) = 0x6b ∷ 0x64 ∷ []
-- pd
word_of (St Pd) = 0x70 ∷ 0x64 ∷ []
-- kl (Req 03)
word_of (St Kl) = 0x6b ∷ 0x6c ∷ []
-- lo
word_of Lo = 0x6c ∷ 0x6f ∷ []
-- br
word_of Br = 0x62 ∷ 0x72 ∷ []
-- el
word_of El = 0x65 ∷ 0x6c ∷ []
-- en
word_of En = 0x65 ∷ 0x6e ∷ []
-- li
word_of Li = 0x6c ∷ 0x69 ∷ []

unfoldable pub kinds : List LineKind
kinds =
    Rl ∷ Fk ∷ Pr
    ∷ St Is ∷ St Ks ∷ St Ps ∷ St Ku ∷ St Pu ∷ St Kd ∷ St Pd ∷ St Kl
    ∷ Lo ∷ Br ∷ El ∷ En ∷ Li ∷ []

-- T5: the kind whose word this is
unfoldable pub kind_of : List ℕ → Option LineKind
kind_of word = first (λ k. same word (word_of k)) kinds

-- the forms of a field: a number, a set, or nothing but `-`
pub data Form : Type 0 where
  number set nothing : Form

-- T5: the forms of id, rel, to, reads, writes, tests of each kind
unfoldable pub forms_of : LineKind → List Form
forms_of Rl = number ∷ nothing ∷ nothing ∷ set ∷ nothing ∷ nothing ∷ []
forms_of Fk = number ∷ number ∷ number ∷ nothing ∷ nothing ∷ nothing ∷ []
forms_of Pr = number ∷ nothing ∷ nothing ∷ nothing ∷ nothing ∷ nothing ∷ []
forms_of (St Is) = number ∷ number ∷ nothing ∷ nothing ∷ set ∷ nothing ∷ []
forms_of (St Ks) = number ∷ number ∷ nothing ∷ set ∷ nothing ∷ nothing ∷ []
forms_of (St Ps) = number ∷ number ∷ nothing ∷ set ∷ nothing ∷ set ∷ []
forms_of (St Ku) = number ∷ number ∷ nothing ∷ set ∷ set ∷ nothing ∷ []
forms_of (St Pu) = number ∷ number ∷ nothing ∷ set ∷ set ∷ set ∷ []
forms_of (St Kd) = number ∷ number ∷ nothing ∷ nothing ∷ set ∷ nothing ∷ []
forms_of (St Pd) = number ∷ number ∷ nothing ∷ nothing ∷ set ∷ set ∷ []
forms_of (St Kl) = number ∷ number ∷ nothing ∷ set ∷ nothing ∷ nothing ∷ []
forms_of Lo = nothing ∷ nothing ∷ nothing ∷ nothing ∷ nothing ∷ nothing ∷ []
forms_of Br = nothing ∷ nothing ∷ nothing ∷ nothing ∷ nothing ∷ nothing ∷ []
forms_of El = nothing ∷ nothing ∷ nothing ∷ nothing ∷ nothing ∷ nothing ∷ []
forms_of En = nothing ∷ nothing ∷ nothing ∷ nothing ∷ nothing ∷ nothing ∷ []
forms_of Li = number ∷ number ∷ number ∷ nothing ∷ nothing ∷ nothing ∷ []

-- T2: the value of a field of this form
unfoldable pub field_of : Form → List ℕ → Option ℕ
field_of number field = number_of field
field_of set field = set_of field
field_of nothing field = dash_of field

-- T2: the values of as many fields as there are forms, each of its form
unfoldable pub values_of : List Form → List (List ℕ) → Option (List ℕ)
values_of [] [] = some []
values_of [] (field ∷ fields) = none
values_of (form ∷ forms) [] = none
values_of (form ∷ forms) (field ∷ fields) =
    elim (field_of form field) [
      | none ↦ none
      | some value ↦ elim (values_of forms fields) [ none ↦ none | some values ↦ some (value ∷ values) ]
    ]

-- a kind and the values of its six other fields
unfoldable pub line_with : LineKind → List ℕ → Line
line_with k values =
    record {
      kind = k;
      id = get_or values 0 0;
      rel = get_or values 1 0;
      to = get_or values 2 0;
      reads = get_or values 3 0;
      writes = get_or values 4 0;
      tests = get_or values 5 0;
    }

-- T1 to T5: a value line: a kind's word and its six other fields
unfoldable pub line_of : List ℕ → Option Line
line_of bytes =
    elim (fields_in bytes) [
      | [] ↦ none
      | word ∷ others ↦
          elim (kind_of word) [
            | none ↦ none
            | some k ↦ elim (values_of (forms_of k) others) [ none ↦ none | some values ↦ some (line_with k values) ]
          ]
    ]

-- the line that stands where there is none
unfoldable pub unused_line : Line
unused_line = record { kind = En; id = 0; rel = 0; to = 0; reads = 0; writes = 0; tests = 0 }
