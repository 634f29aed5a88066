-- Closed cases of the rules on the text, those that the edits need: each is computed from the definitions. The others stand in text_cases.
use Rattle.std.specs.Prelude.{Bool, true, false, List, [], ◌∷◌, ◌++◌, map, ◌≡◌, refl, ℕ, zero, suc, ◌-◌, ◌^◌, length, replicate}
use Rattle.std.proofs.Math.Option.{Option, none, some}
use Prim.Native.String.{String}
use Rattle.spec_base.specs.Basic.{numbers_from}
use Rattle.spec_text.specs.declared.Line.{Line}
use Rattle.spec_text.specs.declared.LineKind.{LineKind}
use Rattle.spec_text.specs.declared.LineKind.TheVariants.{Rl, Fk, Pr, St, Lo, Br, El, En, Li}
use Rattle.spec_text.specs.declared.StatementKind.TheVariants.{Is, Ks, Ps, Ku, Pu, Kd, Pd, Kl}
use Rattle.spec_text.specs.Text.{fields_in, line_with, number_of, set_of, kinds, unused_line}
use Rattle.spec_text.specs.Reading.{Block, blocks_after}
use Rattle.spec_text.specs.Reading.{Outcome, fault, read_lines, read}
use Rattle.spec_text.specs.Reading.Outcome.{refused, accepted}
use Rattle.spec_text.specs.Value.{value_of, Given}
use Rattle.spec_text.specs.Quoted.{bytes, text, read_bytes, given}

-- two relations, a key from relation 1 to relation 0, one from relation 0 to itself, and a program
base : List String
base = "rl 0 - - 3 - -" ∷ "rl 1 - - 3 - -" ∷ "fk 0 1 0 - - -" ∷ "fk 1 0 0 - - -" ∷ "pr 0 - - - - -" ∷ []

unfoldable pub base_lines : List Line
unfolding line_with
base_lines =
    line_with Rl (0 ∷ 0 ∷ 0 ∷ 3 ∷ 0 ∷ 0 ∷ []) ∷ line_with Rl (1 ∷ 0 ∷ 0 ∷ 3 ∷ 0 ∷ 0 ∷ [])
    ∷ line_with Fk (0 ∷ 1 ∷ 0 ∷ 0 ∷ 0 ∷ 0 ∷ []) ∷ line_with Fk (1 ∷ 0 ∷ 0 ∷ 0 ∷ 0 ∷ 0 ∷ [])
    ∷ line_with Pr (0 ∷ 0 ∷ 0 ∷ 0 ∷ 0 ∷ 0 ∷ []) ∷ []

base_read : given base ≡ accepted base_lines
unfolding given base base_lines
base_read = refl

-- what is read of lines after `base`: the first of them is line 7
unfoldable pub after_base : List String → Outcome
unfolding given base_lines
after_base lines = read_lines base_lines (map bytes lines)

abbrev pub is_accepted : Outcome → Bool
is_accepted o = elim o [ refused number line ↦ false | accepted lines ↦ true ]

-- lines after `base` are accepted
unfoldable pub taken : List String → Bool
unfolding after_base
taken lines = is_accepted (after_base lines)

-- lines of flow, and two inserts into relation 0
abbrev pub lo : String
lo = "lo - - - - - -"

abbrev pub el : String
el = "el - - - - - -"

abbrev pub en : String
en = "en - - - - - -"

abbrev pub is0 : String
is0 = "is 0 0 - - 3 -"

abbrev pub is1 : String
is1 = "is 1 0 - - 3 -"

-- R1: one byte over the bound
bytes_over : (text : List ℕ) → length text ≡ 32769 → read text ≡ refused 1 0
unfolding read
bytes_over text over = rw (over, read) refl

-- R2: no byte
no_byte : read_bytes [] ≡ refused 2 0
unfolding read_bytes
no_byte = refl

-- R3
names_shorter : read_bytes (text ("kind id rel to reads writes" ∷ "rl" ∷ [])) ≡ refused 3 1
unfolding read_bytes text
names_shorter = refl

-- T1: lines end with 0A, fields are parted by one space; what stands between may be empty
fields_parted : map fields_in (map bytes ("a b\nc" ∷ " a  b " ∷ "" ∷ []))
    ≡ map (map bytes) (("a" ∷ "b\nc" ∷ []) ∷ ("" ∷ "a" ∷ "" ∷ "b" ∷ "" ∷ []) ∷ ("" ∷ []) ∷ [])
unfolding read_bytes bytes
fields_parted = refl

-- T3: numbers
number_forms
    : map number_of (map bytes ("0" ∷ "7" ∷ "10" ∷ "255" ∷ "256" ∷ "999" ∷ "1000" ∷ "00" ∷ "01" ∷ "" ∷ "a" ∷ "-" ∷ "1a" ∷ "12-" ∷ []))
    ≡ some 0 ∷ some 7 ∷ some 10 ∷ some 255 ∷ none ∷ none ∷ none ∷ none ∷ none ∷ none ∷ none ∷ none ∷ none ∷ none ∷ []
unfolding read_bytes bytes
number_forms = refl

-- T4: sets
set_forms
    : map set_of (map bytes ("0" ∷ "9" ∷ "a" ∷ "f" ∷ "1f" ∷ "ffffffffffffffff" ∷ "10000000000000000" ∷ "0f" ∷ "g" ∷ "" ∷ "-" ∷ "1g" ∷ "f-" ∷ []))
    ≡ some 0 ∷ some 9 ∷ some 10 ∷ some 15 ∷ some 31 ∷ some (2 ^ 64 - 1) ∷ none ∷ none ∷ none ∷ none ∷ none ∷ none ∷ none ∷ []
unfolding read_bytes bytes
set_forms = refl

-- T5, Req 03: a text with a line of each kind, and its lines
unfoldable pub each_kind : List String
each_kind =
    "rl 0 - - ffffffffffffffff - -" ∷ "rl 1 - - 3 - -"
    ∷ "fk 0 1 0 - - -"
    ∷ "pr 0 - - - - -"
    ∷ "is 0 1 - - 3 -" ∷ "ks 1 0 - 8000000000000000 - -" ∷ "ps 2 1 - 0 - 2"
    ∷ "lo - - - - - -" ∷ "ku 3 1 - 0 1 -" ∷ "en - - - - - -"
    ∷ "br - - - - - -" ∷ "pu 4 1 - 1 2 3" ∷ "el - - - - - -" ∷ "kd 5 1 - - 3 -" ∷ "en - - - - - -"
    ∷ "pd 6 1 - - 3 0" ∷ "kl 7 0 - 4000000000000001 - -"
    ∷ "li 0 0 1 - - -" ∷ "li 0 3 7 - - -" ∷ []

unfoldable pub each_kind_lines : List Line
unfolding line_with
each_kind_lines =
    line_with Rl (0 ∷ 0 ∷ 0 ∷ (2 ^ 64 - 1) ∷ 0 ∷ 0 ∷ []) ∷ line_with Rl (1 ∷ 0 ∷ 0 ∷ 3 ∷ 0 ∷ 0 ∷ [])
    ∷ line_with Fk (0 ∷ 1 ∷ 0 ∷ 0 ∷ 0 ∷ 0 ∷ [])
    ∷ line_with Pr (0 ∷ 0 ∷ 0 ∷ 0 ∷ 0 ∷ 0 ∷ [])
    ∷ line_with (St Is) (0 ∷ 1 ∷ 0 ∷ 0 ∷ 3 ∷ 0 ∷ [])
    ∷ line_with (St Ks) (1 ∷ 0 ∷ 0 ∷ (2 ^ 63) ∷ 0 ∷ 0 ∷ [])
    ∷ line_with (St Ps) (2 ∷ 1 ∷ 0 ∷ 0 ∷ 0 ∷ 2 ∷ [])
    ∷ line_with Lo (0 ∷ 0 ∷ 0 ∷ 0 ∷ 0 ∷ 0 ∷ [])
    ∷ line_with (St Ku) (3 ∷ 1 ∷ 0 ∷ 0 ∷ 1 ∷ 0 ∷ [])
    ∷ line_with En (0 ∷ 0 ∷ 0 ∷ 0 ∷ 0 ∷ 0 ∷ [])
    ∷ line_with Br (0 ∷ 0 ∷ 0 ∷ 0 ∷ 0 ∷ 0 ∷ [])
    ∷ line_with (St Pu) (4 ∷ 1 ∷ 0 ∷ 1 ∷ 2 ∷ 3 ∷ [])
    ∷ line_with El (0 ∷ 0 ∷ 0 ∷ 0 ∷ 0 ∷ 0 ∷ [])
    ∷ line_with (St Kd) (5 ∷ 1 ∷ 0 ∷ 0 ∷ 3 ∷ 0 ∷ [])
    ∷ line_with En (0 ∷ 0 ∷ 0 ∷ 0 ∷ 0 ∷ 0 ∷ [])
    ∷ line_with (St Pd) (6 ∷ 1 ∷ 0 ∷ 0 ∷ 3 ∷ 0 ∷ [])
    ∷ line_with (St Kl) (7 ∷ 0 ∷ 0 ∷ 0x4000000000000001 ∷ 0 ∷ 0 ∷ [])
    ∷ line_with Li (0 ∷ 0 ∷ 1 ∷ 0 ∷ 0 ∷ 0 ∷ []) ∷ line_with Li (0 ∷ 3 ∷ 7 ∷ 0 ∷ 0 ∷ 0 ∷ []) ∷ []

-- R4: field count
six_fields : given ("rl 0 - - 3 -" ∷ []) ≡ refused 4 2
unfolding given
six_fields = refl

-- R4: a value where `-` belongs
tests_of_ku : after_base ("ku 0 0 - 1 1 1" ∷ []) ≡ refused 4 7
unfolding after_base
tests_of_ku = refl

-- R4, Req 03: a kl has id, rel and reads and no more: none of the three is `-`, and each of the others is
kl_forms
    : map
    (λ line. after_base (line ∷ []))
    ("kl - 0 - 1 - -" ∷ "kl 0 - - 1 - -" ∷ "kl 0 0 0 1 - -" ∷ "kl 0 0 - - - -" ∷ "kl 0 0 - 1 1 -" ∷ "kl 0 0 - 1 - 1" ∷ [])
    ≡ replicate 6 (refused 4 7)
unfolding after_base
kl_forms = refl

-- R9: lines of each sort, the first with this id
unfoldable pub relations : ℕ → ℕ → List Line
unfolding line_with
relations i n = map (λ id. line_with Rl (id ∷ 0 ∷ 0 ∷ 1 ∷ 0 ∷ 0 ∷ [])) (numbers_from i n)

unfoldable pub programs : ℕ → ℕ → List Line
unfolding line_with
programs i n = map (λ id. line_with Pr (id ∷ 0 ∷ 0 ∷ 0 ∷ 0 ∷ 0 ∷ [])) (numbers_from i n)

unfoldable pub statements : ℕ → ℕ → List Line
unfolding line_with
statements i n = map (λ id. line_with (St Is) (id ∷ 0 ∷ 0 ∷ 0 ∷ 1 ∷ 0 ∷ [])) (numbers_from i n)

-- a line of flow
unfoldable pub flow : LineKind → Line
unfolding line_with
flow k = line_with k (0 ∷ 0 ∷ 0 ∷ 0 ∷ 0 ∷ 0 ∷ [])

-- loops one after the other
unfoldable pub loops : ℕ → List Line
unfolding flow
loops zero = []
loops (suc n) = flow Lo ∷ flow En ∷ loops n

-- the faults of lines after these, each of them read after those before it
unfoldable pub faults : List Line → List Line → List (Option ℕ)
unfolding read_bytes
faults before [] = []
faults before (l ∷ lines) = fault before l ∷ faults (before ++ (l ∷ [])) lines

-- T8: the blocks around what follows a line of each kind at place 9, in a first arm in a loop; as places and parts
unfoldable pub shown : List Block → List (ℕ × ℕ)
shown blocks = map (λ b. (b.place, b.part)) blocks

blocks_after_lem
    : map (λ k. shown (blocks_after k 9 (record { place = 3; part = 1 } ∷ record { place = 1; part = 0 } ∷ []))) kinds
    ≡ let same = (3, 1) ∷ (1, 0) ∷ [] in
    replicate 11 same ++ (((9, 0) ∷ same) ∷ ((9, 1) ∷ same) ∷ ((3, 2) ∷ (1, 0) ∷ []) ∷ ((1, 0) ∷ []) ∷ same ∷ [])
unfolding read_bytes shown
blocks_after_lem = refl

-- R9 comes before R7
relations_over_late : faults (relations 0 32 ++ programs 0 1) (relations 32 1) ≡ some 9 ∷ []
unfolding faults relations programs
relations_over_late = refl

-- R9: in a program 64 statement and flow lines: the 65th is one too many, though it only closes a block
flow_bound
    : faults (relations 0 1 ++ programs 0 1 ++ statements 0 32 ++ loops 15 ++ (flow Br ∷ [])) (flow El ∷ flow En ∷ []) ≡ none ∷ some 9 ∷ []
unfolding faults relations programs statements loops flow
flow_bound = refl

-- R7, T6: rl, then fk, then programs; in a program statements and flow, then links
fk_after_pr : after_base ("fk 2 0 0 - - -" ∷ []) ≡ refused 7 7
unfolding after_base
fk_after_pr = refl

-- R7: a loop has no el
el_in_loop : after_base (lo ∷ el ∷ en ∷ []) ≡ refused 7 8
unfolding after_base
el_in_loop = refl

-- R6, T7: statements in their program
id_in_program : taken (is0 ∷ "pr 1 - - - - -" ∷ is0 ∷ is1 ∷ []) ≡ true
unfolding taken
id_in_program = refl

-- R6: naming nothing
parent_of_fk : given ("rl 0 - - 3 - -" ∷ "fk 0 0 1 - - -" ∷ []) ≡ refused 6 3
unfolding given
parent_of_fk = refl

-- R6, R5, Req 03: a kl out of count, of a relation that there is not, with reads outside the relation's and with none
kl_refused
    : map (λ line. after_base (line ∷ [])) ("kl 1 0 - 1 - -" ∷ "kl 0 2 - 1 - -" ∷ "kl 0 0 - 4 - -" ∷ "kl 0 0 - 0 - -" ∷ [])
    ≡ refused 6 7 ∷ refused 6 7 ∷ refused 5 7 ∷ refused 5 7 ∷ []
unfolding after_base
kl_refused = refl

-- R5, T9: writes of is, kd, pd are the whole relation
is_of_part : after_base ("is 0 0 - - 1 -" ∷ []) ≡ refused 5 7
unfolding after_base
is_of_part = refl

-- the lines of a statement of each kind over relation 0
unfoldable pub kind_lines : List Line
unfolding line_with
kind_lines =
    line_with (St Is) (0 ∷ 0 ∷ 0 ∷ 0 ∷ 3 ∷ 0 ∷ []) ∷ line_with (St Ks) (1 ∷ 0 ∷ 0 ∷ 1 ∷ 0 ∷ 0 ∷ [])
    ∷ line_with (St Ps) (2 ∷ 0 ∷ 0 ∷ 1 ∷ 0 ∷ 1 ∷ []) ∷ line_with (St Ku) (3 ∷ 0 ∷ 0 ∷ 0 ∷ 1 ∷ 0 ∷ [])
    ∷ line_with (St Pu) (4 ∷ 0 ∷ 0 ∷ 1 ∷ 1 ∷ 1 ∷ []) ∷ line_with (St Kd) (5 ∷ 0 ∷ 0 ∷ 0 ∷ 3 ∷ 0 ∷ [])
    ∷ line_with (St Pd) (6 ∷ 0 ∷ 0 ∷ 0 ∷ 3 ∷ 1 ∷ []) ∷ line_with (St Kl) (7 ∷ 0 ∷ 0 ∷ 1 ∷ 0 ∷ 0 ∷ []) ∷ []

-- what is read of a link, by key 1 of this child to this parent, after `base` and these statements
unfoldable pub linked : String → Outcome
unfolding after_base kind_lines
linked link = read_lines (base_lines ++ kind_lines) (bytes link ∷ [])

-- R8, T10, Req 03: the parent is of kind is, ks, ku, kd or kl, for the kinds is ks ps ku pu kd pd kl in turn
parents
    : map
    (λ link. is_accepted (linked link))
    ("li 1 0 0 - - -" ∷ "li 1 0 1 - - -" ∷ "li 1 0 2 - - -" ∷ "li 1 0 3 - - -"
    ∷ "li 1 0 4 - - -" ∷ "li 1 0 5 - - -" ∷ "li 1 0 6 - - -" ∷ "li 1 0 7 - - -" ∷ [])
    ≡ true ∷ true ∷ false ∷ true ∷ false ∷ true ∷ false ∷ true ∷ []
unfolding linked
parents = refl

-- R8, T10: a ps is no parent
parent_ps : after_base (is0 ∷ "ps 1 0 - 1 - 1" ∷ "li 1 0 1 - - -" ∷ []) ≡ refused 8 9
unfolding after_base
parent_ps = refl

-- R8, T11: each loop around the parent is around the child
child_in_loop : taken (is0 ∷ lo ∷ is1 ∷ en ∷ "li 1 1 0 - - -" ∷ []) ≡ true
unfolding taken
child_in_loop = refl

parent_in_loop : after_base (is0 ∷ lo ∷ is1 ∷ en ∷ "li 1 0 1 - - -" ∷ []) ≡ refused 8 11
unfolding after_base
parent_in_loop = refl

-- S21: the value of the names line alone
nothing_given : Given (record { count = 0; lines = replicate 1616 unused_line })
unfolding read_bytes value_of text
nothing_given = record { text = text ("kind id rel to reads writes tests" ∷ []); lines = []; is_read = refl; value = refl }
