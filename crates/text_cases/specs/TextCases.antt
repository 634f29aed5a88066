-- More closed cases of the rules on the text, those that no edit needs: each is computed from the definitions.
use Rattle.std.specs.Prelude.{Bool, true, false, ◌≡◌, refl, ℕ, zero, suc, ◌-◌, ◌^◌, length, replicate}
use mathlib.Core.List.{List, [], ◌∷◌, ◌++◌, map, head_d}
use Rattle.std.proofs.Math.Option.{none, some}
use Rattle.std.proofs.Common.{ap, arith}
use Prim.Native.String.{String}
use Rattle.spec_base.specs.Basic.{all, any, keep, numbers, numbers_from, has}
use Rattle.spec_text.specs.declared.Line.{Line}
use Rattle.spec_text.specs.declared.LineKind.{LineKind}
use Rattle.spec_text.specs.declared.LineKind.TheVariants.{Rl, Fk, Pr, St, Lo, Br, El, En, Li}
use Rattle.spec_text.specs.declared.StatementKind.TheVariants.{Is, Ks, Ps, Ku, Pu, Kd, Pd, Kl}
use Rattle.spec_text.specs.declared.Workload.{Workload}
use Rattle.spec_text.specs.Text.{is_hexadecimal, lines_in, names_line, line_with, digit, digits_of, kinds, unused_line, line_of}
use Rattle.spec_text.specs.Reading.{sort, is_statement_of, program, relation, key, statement, open_blocks, blocks_around}
use Rattle.spec_text.specs.Reading.{is_relation, is_key, is_program, is_statement_or_flow, is_link, is_statement}
use Rattle.spec_text.specs.Reading.{is_allowed, other_byte, read_lines, read}
use Rattle.spec_text.specs.Reading.Outcome.{refused, accepted}
use Rattle.spec_text.specs.Value.{lines_of, value_of, Given}
use Rattle.spec_text.specs.Quoted.{bytes, text, read_bytes, given}
use Rattle.spec_text.specs.TextExamples.{base_lines, after_base, is_accepted, taken, lo, el, en, is0, is1, each_kind, each_kind_lines}
use Rattle.spec_text.specs.TextExamples.{relations, programs, statements, flow, loops, faults, shown, linked}
use Rattle.spec_text.specs.TextExamples.{kind_lines}

-- the first line of a branch
abbrev br : String
br = "br - - - - - -"

-- T1: the names line
names : bytes "kind id rel to reads writes tests" ≡ names_line
unfolding bytes names_line
names = refl

-- T1: the names line alone
names_alone : given [] ≡ accepted []
unfolding given
names_alone = refl

-- R1: as many as the bound, so the bytes themselves are tested
bytes_most : (text : List ℕ) {line : ℕ} → length text ≡ 32768 → other_byte 1 text ≡ some line → read text ≡ refused 2 line
unfolding read
bytes_most text most other = rw (most, other, read) refl

-- R2: the last byte is not 0A
no_last_newline : read_bytes (bytes "kind id rel to reads writes tests") ≡ refused 2 0
unfolding read_bytes bytes
no_last_newline = refl

no_newline_after_lines : read_bytes (text ("kind id rel to reads writes tests" ∷ []) ++ bytes "rl 0 - - 3 - -") ≡ refused 2 0
unfolding read_bytes text bytes
no_newline_after_lines = refl

-- R2: another byte in the first line, before the first line is compared
byte_in_names : read_bytes (text ("Kind id rel to reads writes tests" ∷ [])) ≡ refused 2 1
unfolding read_bytes text
byte_in_names = refl

-- R2: the first of two other bytes, before the wrong lines 2 and 3 are tested
byte_late : given ("rl 7" ∷ "rl 0 - - 3" ∷ "rl 0 - - A - -" ∷ "rl_0" ∷ []) ≡ refused 2 4
unfolding given
byte_late = refl

-- R2: another byte comes before a missing last 0A
byte_then_end : read_bytes (text ("kind" ∷ []) ++ bytes "a\tb") ≡ refused 2 2
unfolding read_bytes text bytes
byte_then_end = refl

-- R3
names_longer : read_bytes (text ("kind id rel to reads writes tests " ∷ [])) ≡ refused 3 1
unfolding read_bytes text
names_longer = refl

names_second : read_bytes (text ("rl 0 - - 3 - -" ∷ "kind id rel to reads writes tests" ∷ [])) ≡ refused 3 1
unfolding read_bytes text
names_second = refl

-- T1: lines end with 0A, fields are parted by one space; what stands between may be empty
lines_parted : lines_in (bytes "a b\n\n c\nd") ≡ map bytes ("a b" ∷ "" ∷ " c" ∷ "d" ∷ [])
unfolding read_bytes bytes
lines_parted = refl

-- T3, T4: the digits, all of them
hexadecimal_bytes : keep is_hexadecimal (numbers 256) ≡ bytes "0123456789abcdef"
unfolding bytes
hexadecimal_bytes = refl

-- T3, T4: the digits of numbers and sets, as many as are asked for
digits
    : (map (digits_of 10 20) (0 ∷ 7 ∷ 10 ∷ 255 ∷ 524288 ∷ []) ≡ map bytes ("0" ∷ "7" ∷ "10" ∷ "255" ∷ "524288" ∷ []))
    × (map (digits_of 16 16) (0 ∷ 9 ∷ 10 ∷ 31 ∷ (2 ^ 64 - 1) ∷ []) ≡ map bytes ("0" ∷ "9" ∷ "a" ∷ "1f" ∷ "ffffffffffffffff" ∷ []))
    × (map (digits_of 10 2) (7 ∷ 89 ∷ 789 ∷ []) ≡ map bytes ("7" ∷ "89" ∷ "89" ∷ []))
unfolding bytes digit digits_of
digits = (refl, refl, refl)

-- T4: bit k stands for attribute k
set_attributes : map (has 0x5) (numbers 4) ≡ true ∷ false ∷ true ∷ false ∷ []
set_attributes = refl

-- T5: id, rel, to, reads, writes, tests in this order
line_with_lem : line_with Li (1 ∷ 2 ∷ 3 ∷ 4 ∷ 5 ∷ 6 ∷ []) ≡ record { kind = Li; id = 1; rel = 2; to = 3; reads = 4; writes = 5; tests = 6 }
unfolding line_with
line_with_lem = refl

-- T5, Req 03: a text with a line of each kind, and its lines
each_kind_read : given each_kind ≡ accepted each_kind_lines
unfolding given each_kind each_kind_lines
each_kind_read = refl

-- R4: field count
eight_fields : given ("rl 0 - - 3 - - -" ∷ []) ≡ refused 4 2
unfolding given
eight_fields = refl

two_spaces : given ("rl 0  - 3 - -" ∷ []) ≡ refused 4 2
unfolding given
two_spaces = refl

empty_line : given ("rl 0 - - 3 - -" ∷ "" ∷ []) ≡ refused 4 3
unfolding given
empty_line = refl

-- R4: kind
no_kind : given ("lr 0 - - 3 - -" ∷ []) ≡ refused 4 2
unfolding given
no_kind = refl

-- R4: number or set form
number_over : given ("rl 256 - - 3 - -" ∷ []) ≡ refused 4 2
unfolding given
number_over = refl

number_most : given ("rl 255 - - 3 - -" ∷ []) ≡ refused 6 2
unfolding given
number_most = refl

leading_zero : given ("rl 0 - - 3 - -" ∷ "rl 01 - - 3 - -" ∷ []) ≡ refused 4 3
unfolding given
leading_zero = refl

set_long : given ("rl 0 - - 10000000000000000 - -" ∷ []) ≡ refused 4 2
unfolding given
set_long = refl

-- R4: `-` where a value belongs, a value where `-` does
dash_for_value : given ("rl 0 - - - - -" ∷ []) ≡ refused 4 2
unfolding given
dash_for_value = refl

value_for_dash : given ("rl 0 - - 3 0 -" ∷ []) ≡ refused 4 2
unfolding given
value_for_dash = refl

-- R4, Req 03: a kl has id, rel and reads and no more: none of the three is `-`, and each of the others is
id_of_flow : after_base ("lo 0 - - - - -" ∷ []) ≡ refused 4 7
unfolding after_base
id_of_flow = refl

-- R9: lines of each sort, the first with this id
keys : ℕ → ℕ → List Line
unfolding line_with
keys i n = map (λ id. line_with Fk (id ∷ 0 ∷ 0 ∷ 0 ∷ 0 ∷ 0 ∷ [])) (numbers_from i n)

links : ℕ → List Line
unfolding line_with
links n = replicate n (line_with Li (0 ∷ 0 ∷ 0 ∷ 0 ∷ 0 ∷ 0 ∷ []))

-- the first lines of blocks one inside the other, loops and branches in turn
openers : ℕ → List Line
unfolding flow
openers zero = []
openers (suc zero) = flow Lo ∷ []
openers (suc (suc n)) = flow Br ∷ flow Lo ∷ openers n

-- T6: the sorts of the kinds, and the kinds that are statements
sorts : map sort kinds ≡ 0 ∷ 1 ∷ 2 ∷ 3 ∷ 3 ∷ 3 ∷ 3 ∷ 3 ∷ 3 ∷ 3 ∷ 3 ∷ 3 ∷ 3 ∷ 3 ∷ 3 ∷ 4 ∷ []
unfolding read_bytes
sorts = refl

statement_kinds : keep (is_statement_of (λ k. true)) kinds ≡ St Is ∷ St Ks ∷ St Ps ∷ St Ku ∷ St Pu ∷ St Kd ∷ St Pd ∷ St Kl ∷ []
unfolding read_bytes
statement_kinds = refl

-- T6: the lines of the program at hand: none before the first `pr`
programs_lines
    : map
    program
    (relations 0 2 ∷ (relations 0 2 ++ programs 0 1 ++ statements 0 2) ∷ (programs 0 1 ++ statements 0 2 ++ programs 1 1 ++ statements 0 1) ∷ [])
    ≡ [] ∷ statements 0 2 ∷ statements 0 1 ∷ []
unfolding read_bytes relations programs statements
programs_lines = refl

-- T7: the relation, the key and the statement of a number, each counted among its own sort
of_number
    : let lines = statements 7 2 ++ keys 0 2 ++ relations 0 2 ++ loops 1 ++ statements 9 1 in
    (relation lines 1 ∷ key lines 1 ∷ map (statement lines) (1 ∷ 2 ∷ []) ≡ relations 1 1 ++ keys 1 1 ++ statements 8 2)
    × (relation lines 2 ∷ key lines 2 ∷ statement lines 3 ∷ [] ≡ replicate 3 unused_line)
unfolding read_bytes relations keys statements loops
of_number = (refl, refl)

-- T8: the blocks open after lines, and those around a statement
blocks_open : let lines = flow Lo ∷ statements 0 1 ++ (flow Br ∷ flow El ∷ statements 1 1) in
    (shown (open_blocks lines) ≡ (2, 2) ∷ (0, 0) ∷ [])
    × (map (λ s. shown (blocks_around lines s)) (0 ∷ 1 ∷ []) ≡ ((0, 0) ∷ []) ∷ ((2, 2) ∷ (0, 0) ∷ []) ∷ [])
unfolding read_bytes shown flow statements
blocks_open = (refl, refl)

-- R9: 32 relations
relations_most : faults (relations 0 31) (relations 31 1) ≡ none ∷ []
unfolding faults relations
relations_most = refl

relations_over : faults (relations 0 32) (relations 32 1) ≡ some 9 ∷ []
unfolding faults relations
relations_over = refl

-- R9: 32 keys
keys_most : faults (relations 0 1 ++ keys 0 31) (keys 31 1) ≡ none ∷ []
unfolding faults relations keys
keys_most = refl

keys_over : faults (relations 0 1 ++ keys 0 32) (keys 32 1) ≡ some 9 ∷ []
unfolding faults relations keys
keys_over = refl

-- R9: 16 programs
programs_most : faults (programs 0 15) (programs 15 1) ≡ none ∷ []
unfolding faults programs
programs_most = refl

programs_over : faults (programs 0 16) (programs 16 1) ≡ some 9 ∷ []
unfolding faults programs
programs_over = refl

-- R9: in a program 32 statements
statements_most : faults (relations 0 1 ++ programs 0 1 ++ statements 0 31) (statements 31 1) ≡ none ∷ []
unfolding faults relations programs statements
statements_most = refl

statements_over : faults (relations 0 1 ++ programs 0 1 ++ statements 0 32) (statements 32 1) ≡ some 9 ∷ []
unfolding faults relations programs statements
statements_over = refl

-- R9, R7: after 64 of them a relation, a key or a link is none, but out of order or naming nothing
flow_bound_others
    : map (λ l. faults (relations 0 1 ++ programs 0 1 ++ statements 0 32 ++ loops 16) (l ∷ []))
    (line_with Rl (1 ∷ 0 ∷ 0 ∷ 3 ∷ 0 ∷ 0 ∷ []) ∷ line_with Fk (0 ∷ 0 ∷ 0 ∷ 0 ∷ 0 ∷ 0 ∷ []) ∷ line_with Li (0 ∷ 0 ∷ 0 ∷ 0 ∷ 0 ∷ 0 ∷ []) ∷ [])
    ≡ (some 7 ∷ []) ∷ (some 7 ∷ []) ∷ (some 6 ∷ []) ∷ []
unfolding faults relations programs statements loops line_with
flow_bound_others = refl

-- T6: the kinds of each sort
sort_kinds
    : map (λ test. keep (λ k. test (line_with k [])) kinds) (is_relation ∷ is_key ∷ is_program ∷ is_statement_or_flow ∷ is_link ∷ is_statement ∷ [])
    ≡ (Rl ∷ []) ∷ (Fk ∷ []) ∷ (Pr ∷ [])
    ∷ (St Is ∷ St Ks ∷ St Ps ∷ St Ku ∷ St Pu ∷ St Kd ∷ St Pd ∷ St Kl ∷ Lo ∷ Br ∷ El ∷ En ∷ [])
    ∷ (Li ∷ [])
    ∷ (St Is ∷ St Ks ∷ St Ps ∷ St Ku ∷ St Pu ∷ St Kd ∷ St Pd ∷ St Kl ∷ []) ∷ []
unfolding line_with kinds sort is_relation is_key is_program is_statement_or_flow is_link is_statement_of is_statement
sort_kinds = refl

-- R9: a new program counts anew
counts_anew
    : faults (relations 0 1 ++ programs 0 1 ++ statements 0 32 ++ loops 16) (programs 1 1 ++ statements 0 1 ++ loops 1)
    ≡ none ∷ none ∷ none ∷ none ∷ []
unfolding faults relations programs statements loops
counts_anew = refl

links_anew
    : faults (relations 0 1 ++ keys 0 1 ++ programs 0 1 ++ statements 0 1 ++ links 32) (programs 1 1 ++ statements 0 1 ++ links 1)
    ≡ none ∷ none ∷ none ∷ []
unfolding faults relations keys programs statements links
links_anew = refl

-- R9: in a program 32 links
links_bound : faults (relations 0 1 ++ keys 0 1 ++ programs 0 1 ++ statements 0 1 ++ links 31) (links 2) ≡ none ∷ some 9 ∷ []
unfolding faults relations keys programs statements links
links_bound = refl

-- R9: links do not count among the 64 lines
links_apart : faults (relations 0 1 ++ keys 0 1 ++ programs 0 1 ++ statements 0 32 ++ loops 16) (links 1) ≡ none ∷ []
unfolding faults relations keys programs statements loops links
links_apart = refl

-- R9: blocks 8 deep, a loop or a branch counts one
deep_bound : faults (programs 0 1 ++ openers 7) (flow Br ∷ flow Lo ∷ []) ≡ none ∷ some 9 ∷ []
unfolding faults programs openers flow
deep_bound = refl

-- R7, T6: rl, then fk, then programs; in a program statements and flow, then links
rl_after_fk : given ("rl 0 - - 3 - -" ∷ "fk 0 0 0 - - -" ∷ "rl 1 - - 3 - -" ∷ []) ≡ refused 7 4
unfolding given
rl_after_fk = refl

rl_after_pr : after_base ("rl 2 - - 3 - -" ∷ []) ≡ refused 7 7
unfolding after_base
rl_after_pr = refl

rl_after_pr_alone : given ("pr 0 - - - - -" ∷ "rl 0 - - 3 - -" ∷ []) ≡ refused 7 3
unfolding given
rl_after_pr_alone = refl

statement_before_pr : given ("rl 0 - - 3 - -" ∷ "ks 0 0 - 1 - -" ∷ []) ≡ refused 7 3
unfolding given
statement_before_pr = refl

flow_before_pr : given (lo ∷ []) ≡ refused 7 2
unfolding given
flow_before_pr = refl

branch_before_pr : given (br ∷ el ∷ en ∷ []) ≡ refused 7 2
unfolding given
branch_before_pr = refl

li_before_pr : given ("rl 0 - - 3 - -" ∷ "fk 0 0 0 - - -" ∷ "li 0 0 0 - - -" ∷ []) ≡ refused 7 4
unfolding given
li_before_pr = refl

statement_after_li : after_base (is0 ∷ "li 1 0 0 - - -" ∷ is1 ∷ []) ≡ refused 7 9
unfolding after_base
statement_after_li = refl

flow_after_li : after_base (is0 ∷ "li 1 0 0 - - -" ∷ lo ∷ en ∷ []) ≡ refused 7 9
unfolding after_base
flow_after_li = refl

branch_after_li : after_base (is0 ∷ "li 1 0 0 - - -" ∷ br ∷ el ∷ en ∷ []) ≡ refused 7 9
unfolding after_base
branch_after_li = refl

-- R7, T8: a run may be empty, blocks may stand in blocks
empty_runs : taken (lo ∷ en ∷ br ∷ el ∷ en ∷ []) ≡ true
unfolding taken
empty_runs = refl

blocks_in_blocks : taken (lo ∷ br ∷ lo ∷ en ∷ el ∷ br ∷ el ∷ en ∷ is0 ∷ en ∷ en ∷ "pr 1 - - - - -" ∷ []) ≡ true
unfolding taken
blocks_in_blocks = refl

-- R7, T8: el or en without its opener
el_alone : after_base (el ∷ []) ≡ refused 7 7
unfolding after_base
el_alone = refl

en_alone : after_base (lo ∷ en ∷ en ∷ []) ≡ refused 7 9
unfolding after_base
en_alone = refl

en_in_next_program : after_base ("pr 1 - - - - -" ∷ en ∷ []) ≡ refused 7 8
unfolding after_base
en_in_next_program = refl

-- R7: the opener is the innermost block's: no el in a loop in a first arm, no en in a first arm in a loop
inner_opener : map after_base ((br ∷ lo ∷ el ∷ en ∷ el ∷ en ∷ []) ∷ (lo ∷ br ∷ en ∷ en ∷ []) ∷ []) ≡ refused 7 9 ∷ refused 7 9 ∷ []
unfolding after_base
inner_opener = refl

el_twice : after_base (br ∷ el ∷ el ∷ en ∷ []) ≡ refused 7 9
unfolding after_base
el_twice = refl

br_without_el : after_base (br ∷ en ∷ []) ≡ refused 7 8
unfolding after_base
br_without_el = refl

-- R7: a block open at a pr, at an li, at the end
open_at_pr : after_base (lo ∷ "pr 1 - - - - -" ∷ []) ≡ refused 7 8
unfolding after_base
open_at_pr = refl

open_at_li : after_base (is0 ∷ br ∷ el ∷ "li 1 0 0 - - -" ∷ en ∷ []) ≡ refused 7 10
unfolding after_base
open_at_li = refl

open_at_end : after_base (lo ∷ is0 ∷ []) ≡ refused 7 8
unfolding after_base
open_at_end = refl

-- R6, T7: ids count from 0
id_of_rl : given ("rl 1 - - 3 - -" ∷ []) ≡ refused 6 2
unfolding given
id_of_rl = refl

id_of_fk : given ("rl 0 - - 3 - -" ∷ "fk 1 0 0 - - -" ∷ []) ≡ refused 6 3
unfolding given
id_of_fk = refl

id_of_pr : after_base ("pr 0 - - - - -" ∷ []) ≡ refused 6 7
unfolding after_base
id_of_pr = refl

id_of_statement : after_base (is0 ∷ is0 ∷ []) ≡ refused 6 8
unfolding after_base
id_of_statement = refl

-- R6, T7: no id comes again, and none is passed over
id_again : map given
    (("rl 0 - - 3 - -" ∷ "rl 0 - - 3 - -" ∷ []) ∷ ("rl 0 - - 3 - -" ∷ "fk 0 0 0 - - -" ∷ "fk 0 0 0 - - -" ∷ []) ∷ [])
    ≡ refused 6 3 ∷ refused 6 4 ∷ []
unfolding given
id_again = refl

id_passed_over : map after_base (("pr 2 - - - - -" ∷ []) ∷ (is1 ∷ []) ∷ []) ≡ refused 6 7 ∷ refused 6 7 ∷ []
unfolding after_base
id_passed_over = refl

-- R6, T7: statements in their program
id_past_program : after_base (is0 ∷ "pr 1 - - - - -" ∷ is1 ∷ []) ≡ refused 6 9
unfolding after_base
id_past_program = refl

-- R6: naming nothing
child_of_fk : given ("rl 0 - - 3 - -" ∷ "fk 0 1 0 - - -" ∷ []) ≡ refused 6 3
unfolding given
child_of_fk = refl

relation_of_statement : after_base ("is 0 2 - - 3 -" ∷ []) ≡ refused 6 7
unfolding after_base
relation_of_statement = refl

key_of_li : after_base (is0 ∷ "li 2 0 0 - - -" ∷ []) ≡ refused 6 8
unfolding after_base
key_of_li = refl

key_of_li_in_keys
    : given ("rl 0 - - 3 - -" ∷ "rl 1 - - 3 - -" ∷ "fk 0 0 0 - - -" ∷ "pr 0 - - - - -" ∷ is0 ∷ "li 1 0 0 - - -" ∷ []) ≡ refused 6 7
unfolding given
key_of_li_in_keys = refl

child_of_li : after_base (is0 ∷ "li 1 1 0 - - -" ∷ []) ≡ refused 6 8
unfolding after_base
child_of_li = refl

parent_of_li : after_base (is0 ∷ "li 1 0 1 - - -" ∷ []) ≡ refused 6 8
unfolding after_base
parent_of_li = refl

-- R6: a link's child and parent are statements of its program, whatever other programs have
child_of_other_program : after_base (is0 ∷ is1 ∷ "pr 1 - - - - -" ∷ is0 ∷ "li 1 1 0 - - -" ∷ []) ≡ refused 6 11
unfolding after_base
child_of_other_program = refl

parent_of_other_program : after_base (is0 ∷ is1 ∷ "pr 1 - - - - -" ∷ is0 ∷ "li 1 0 1 - - -" ∷ []) ≡ refused 6 11
unfolding after_base
parent_of_other_program = refl

-- R6: a line of flow is no statement
flow_no_statement : map after_base ((is0 ∷ lo ∷ en ∷ "li 1 1 0 - - -" ∷ []) ∷ (is0 ∷ lo ∷ en ∷ "li 1 0 1 - - -" ∷ []) ∷ [])
    ≡ refused 6 10 ∷ refused 6 10 ∷ []
unfolding after_base
flow_no_statement = refl

-- R7 comes before R6, R6 before R5
order_before_id : after_base ("rl 9 - - 3 - -" ∷ []) ≡ refused 7 7
unfolding after_base
order_before_id = refl

id_before_set : given ("rl 9 - - 0 - -" ∷ []) ≡ refused 6 2
unfolding given
id_before_set = refl

-- R5, T9: a relation's set is not 0
rl_of_nothing : given ("rl 0 - - 0 - -" ∷ []) ≡ refused 5 2
unfolding given
rl_of_nothing = refl

-- R5, T9: sets lie within the relation's
reads_outside : after_base ("ks 0 0 - 4 - -" ∷ []) ≡ refused 5 7
unfolding after_base
reads_outside = refl

writes_outside : after_base ("ku 0 0 - 1 5 -" ∷ []) ≡ refused 5 7
unfolding after_base
writes_outside = refl

tests_outside : after_base ("ps 0 0 - 1 - 8" ∷ []) ≡ refused 5 7
unfolding after_base
tests_outside = refl

-- R5, T9: reads of ks and writes of ku and pu are not 0
ks_of_nothing : after_base ("ks 0 0 - 0 - -" ∷ []) ≡ refused 5 7
unfolding after_base
ks_of_nothing = refl

ku_of_nothing : after_base ("ku 0 0 - 1 0 -" ∷ []) ≡ refused 5 7
unfolding after_base
ku_of_nothing = refl

pu_of_nothing : after_base ("pu 0 0 - 1 0 1" ∷ []) ≡ refused 5 7
unfolding after_base
pu_of_nothing = refl

-- T9, Req 03: any other part of the relation will do
kl_read
    : map (λ line. after_base (line ∷ [])) ("kl 0 1 - 1 - -" ∷ "kl 0 1 - 2 - -" ∷ "kl 0 1 - 3 - -" ∷ [])
    ≡ map (λ reads. accepted (base_lines ++ (line_with (St Kl) (0 ∷ 1 ∷ 0 ∷ reads ∷ 0 ∷ 0 ∷ []) ∷ []))) (1 ∷ 2 ∷ 3 ∷ [])
unfolding after_base line_with
kl_read = refl

-- T9: other sets may be 0
sets_of_nothing : taken ("ps 0 0 - 0 - 0" ∷ "ku 1 0 - 0 1 -" ∷ "pu 2 0 - 0 1 0" ∷ "pd 3 0 - - 3 0" ∷ []) ≡ true
unfolding taken
sets_of_nothing = refl

-- R5, T9: writes of is, kd, pd are the whole relation
kd_of_part : after_base ("kd 0 0 - - 2 -" ∷ []) ≡ refused 5 7
unfolding after_base
kd_of_part = refl

pd_of_part : after_base ("pd 0 0 - - 1 1" ∷ []) ≡ refused 5 7
unfolding after_base
pd_of_part = refl

-- R8, T10: a link fits its key's relations
link_fits_lem : taken ("is 0 1 - - 3 -" ∷ is1 ∷ "li 0 0 1 - - -" ∷ []) ≡ true
unfolding taken
link_fits_lem = refl

child_of_other_relation : after_base (is0 ∷ is1 ∷ "li 0 0 1 - - -" ∷ []) ≡ refused 8 9
unfolding after_base
child_of_other_relation = refl

parent_of_other_relation : after_base ("is 0 1 - - 3 -" ∷ "is 1 1 - - 3 -" ∷ "li 0 0 1 - - -" ∷ []) ≡ refused 8 9
unfolding after_base
parent_of_other_relation = refl

-- R8, T10: of the links between statements over relations 0, 1 and 2, by a key from relation 1 to relation 1, one fits
link_relations
    : map
    (λ link. is_accepted
    (given
    ("rl 0 - - 1 - -" ∷ "rl 1 - - 1 - -" ∷ "rl 2 - - 1 - -" ∷ "fk 0 1 1 - - -" ∷ "pr 0 - - - - -"
    ∷ "is 0 0 - - 1 -" ∷ "is 1 1 - - 1 -" ∷ "is 2 2 - - 1 -" ∷ link ∷ [])))
    ("li 0 0 0 - - -" ∷ "li 0 0 1 - - -" ∷ "li 0 0 2 - - -"
    ∷ "li 0 1 0 - - -" ∷ "li 0 1 1 - - -" ∷ "li 0 1 2 - - -"
    ∷ "li 0 2 0 - - -" ∷ "li 0 2 1 - - -" ∷ "li 0 2 2 - - -" ∷ [])
    ≡ false ∷ false ∷ false ∷ false ∷ true ∷ false ∷ false ∷ false ∷ false ∷ []
unfolding given
link_relations = refl

-- a text with a statement of each kind over relation 0
kinds_read
    : after_base
    (is0 ∷ "ks 1 0 - 1 - -" ∷ "ps 2 0 - 1 - 1" ∷ "ku 3 0 - 0 1 -" ∷ "pu 4 0 - 1 1 1" ∷ "kd 5 0 - - 3 -" ∷ "pd 6 0 - - 3 1" ∷ "kl 7 0 - 1 - -" ∷ [])
    ≡ accepted (base_lines ++ kind_lines)
unfolding linked
kinds_read = refl

-- R8, T10, Req 03: the child is of any kind, here of a parent of kind kl
children
    : map
    (λ link. is_accepted (linked link))
    ("li 1 0 7 - - -" ∷ "li 1 1 7 - - -" ∷ "li 1 2 7 - - -" ∷ "li 1 3 7 - - -"
    ∷ "li 1 4 7 - - -" ∷ "li 1 5 7 - - -" ∷ "li 1 6 7 - - -" ∷ "li 1 7 7 - - -" ∷ [])
    ≡ replicate 8 true
unfolding linked
children = refl

parent_pu : after_base (is0 ∷ "pu 1 0 - 1 1 1" ∷ "li 1 0 1 - - -" ∷ []) ≡ refused 8 9
unfolding after_base
parent_pu = refl

parent_pd : after_base (is0 ∷ "pd 1 0 - - 3 1" ∷ "li 1 0 1 - - -" ∷ []) ≡ refused 8 9
unfolding after_base
parent_pd = refl

-- T10: a link of a statement to itself, and a link twice
link_to_itself : taken (is0 ∷ "li 1 0 0 - - -" ∷ "li 1 0 0 - - -" ∷ []) ≡ true
unfolding taken
link_to_itself = refl

-- R8, T11: each loop around the parent is around the child
both_in_loop : taken (lo ∷ is0 ∷ lo ∷ is1 ∷ en ∷ en ∷ "li 1 1 0 - - -" ∷ []) ≡ true
unfolding taken
both_in_loop = refl

parent_in_inner_loop : after_base (lo ∷ is0 ∷ lo ∷ is1 ∷ en ∷ en ∷ "li 1 0 1 - - -" ∷ []) ≡ refused 8 13
unfolding after_base
parent_in_inner_loop = refl

parent_in_other_loop : after_base (lo ∷ is0 ∷ en ∷ lo ∷ is1 ∷ en ∷ "li 1 1 0 - - -" ∷ []) ≡ refused 8 13
unfolding after_base
parent_in_other_loop = refl

-- R8, T11: each arm around the parent is around the child
both_in_first_arm : taken (br ∷ is0 ∷ is1 ∷ el ∷ en ∷ "li 1 1 0 - - -" ∷ []) ≡ true
unfolding taken
both_in_first_arm = refl

both_in_second_arm : taken (br ∷ el ∷ is0 ∷ is1 ∷ en ∷ "li 1 1 0 - - -" ∷ []) ≡ true
unfolding taken
both_in_second_arm = refl

child_in_arm : taken (is0 ∷ br ∷ el ∷ is1 ∷ en ∷ "li 1 1 0 - - -" ∷ []) ≡ true
unfolding taken
child_in_arm = refl

parent_in_arm : after_base (is0 ∷ br ∷ is1 ∷ el ∷ en ∷ "li 1 0 1 - - -" ∷ []) ≡ refused 8 12
unfolding after_base
parent_in_arm = refl

parent_in_other_arm : after_base (br ∷ is0 ∷ el ∷ is1 ∷ en ∷ "li 1 1 0 - - -" ∷ []) ≡ refused 8 12
unfolding after_base
parent_in_other_arm = refl

parent_in_other_branch : after_base (br ∷ is0 ∷ el ∷ en ∷ br ∷ is1 ∷ el ∷ en ∷ "li 1 1 0 - - -" ∷ []) ≡ refused 8 15
unfolding after_base
parent_in_other_branch = refl

parent_in_other_second_arm : after_base (br ∷ el ∷ is0 ∷ en ∷ br ∷ el ∷ is1 ∷ en ∷ "li 1 1 0 - - -" ∷ []) ≡ refused 8 15
unfolding after_base
parent_in_other_second_arm = refl

-- R8: a link's statements are those of its own program
link_in_program : taken (is0 ∷ "ps 1 0 - 1 - 1" ∷ "pr 1 - - - - -" ∷ is0 ∷ is1 ∷ "li 1 0 1 - - -" ∷ []) ≡ true
unfolding taken
link_in_program = refl

-- R8: its child, and the blocks around both, are those of its own program, too; its key is the one that it names
links_in_program
    : map taken
    (("is 0 1 - - 3 -" ∷ "pr 1 - - - - -" ∷ is0 ∷ "li 1 0 0 - - -" ∷ [])
    ∷ (lo ∷ is0 ∷ en ∷ is1 ∷ "pr 1 - - - - -" ∷ is0 ∷ is1 ∷ "li 1 1 0 - - -" ∷ [])
    ∷ (is0 ∷ "is 1 1 - - 3 -" ∷ "li 0 1 0 - - -" ∷ [])
    ∷ [])
    ≡ true ∷ true ∷ true ∷ []
unfolding taken
links_in_program = refl

link_by_second_key
    : is_accepted
    (given
    ("rl 0 - - 3 - -"
    ∷ "rl 1 - - 3 - -"
    ∷ "fk 0 0 0 - - -"
    ∷ "fk 1 0 1 - - -"
    ∷ "pr 0 - - - - -" ∷ "is 0 1 - - 3 -" ∷ is1 ∷ "li 1 1 0 - - -" ∷ []))
    ≡ true
unfolding given
link_by_second_key = refl

-- Each line is tested before the next one: the first refused line counts
first_line_first : after_base ("is 0 0 - - 1 -" ∷ "is 9 9 - - 9 -" ∷ []) ≡ refused 5 7
unfolding after_base
first_line_first = refl

-- R4 comes before R9
form_before_bound : read_lines (relations 0 32) (bytes "rl 32 - - 1 - 0" ∷ []) ≡ refused 4 34
unfolding read_bytes bytes relations
form_before_bound = refl

-- S21: the first cells of a value hold its lines, the others the unused line; the lines of the value are those again
value_of_lines : (lines_of (value_of base_lines) ≡ base_lines) × ((value_of base_lines).lines ≡ base_lines ++ replicate 1611 unused_line)
unfolding value_of lines_of base_lines
value_of_lines = (refl, refl)

-- S21: a cell past `count` that holds another line
other_kind : ◌≡◌ {A = LineKind} Lo En → ⊥
other_kind kinds = let wrong : ◌≡◌ {A = ℕ} 0 1 = cc in omega arith

stray : Workload
unfolding flow
stray = record { count = 0; lines = flow Lo ∷ replicate 1615 unused_line }

stray_line : Given stray → ⊥
unfolding stray flow line_with unused_line value_of head_d
stray_line g = go g.lines g.value
  where
    go : (lines : List Line) → stray ≡ value_of lines → ⊥
    go [] e = other_kind (ap (λ w. (head_d w.lines unused_line).kind) e)
    go (l ∷ lines) e = omega (arith, ap (λ w. w.count) e)

-- R2: the bytes of a text, all of them
allowed_bytes : List ℕ
unfolding read_bytes bytes
allowed_bytes = keep is_allowed (numbers 256)

allowed_bytes_lem : allowed_bytes ≡ 0x0a ∷ bytes " -0123456789abcdefghijklmnopqrstuvwxyz"
unfolding allowed_bytes bytes
allowed_bytes_lem = refl

-- the line has the form of its kind
formed : String → Bool
unfolding read_bytes bytes
formed s = elim (line_of (bytes s)) [ none ↦ false | some l ↦ true ]

-- T5: the sets of each kind, with digits that no number has
set_fields
    : all formed
    ("rl 0 - - ff - -"
    ∷ "is 0 0 - - ff -"
    ∷ "ks 0 0 - ff - -"
    ∷ "ps 0 0 - ff - fe"
    ∷ "ku 0 0 - ff fe -"
    ∷ "pu 0 0 - ff fe fd"
    ∷ "kd 0 0 - - ff -"
    ∷ "pd 0 0 - - ff fe"
    ∷ "kl 0 0 - ff - -"
    ∷ [])
    ≡ true
unfolding formed
set_fields = refl

-- T5: the numbers of each kind, with a digit that only a set has
number_fields
    : any formed
    ("rl a - - 1 - -"
    ∷ "fk a 0 0 - - -"
    ∷ "fk 0 a 0 - - -"
    ∷ "fk 0 0 a - - -"
    ∷ "pr a - - - - -"
    ∷ "is a 0 - - 1 -"
    ∷ "is 0 a - - 1 -"
    ∷ "ks a 0 - 1 - -"
    ∷ "ks 0 a - 1 - -"
    ∷ "ps a 0 - 1 - 1"
    ∷ "ps 0 a - 1 - 1"
    ∷ "ku a 0 - 1 1 -"
    ∷ "ku 0 a - 1 1 -"
    ∷ "pu a 0 - 1 1 1"
    ∷ "pu 0 a - 1 1 1"
    ∷ "kd a 0 - - 1 -"
    ∷ "kd 0 a - - 1 -"
    ∷ "pd a 0 - - 1 1"
    ∷ "pd 0 a - - 1 1"
    ∷ "kl a 0 - 1 - -"
    ∷ "kl 0 a - 1 - -"
    ∷ "li a 0 0 - - -"
    ∷ "li 0 a 0 - - -"
    ∷ "li 0 0 a - - -"
    ∷ [])
    ≡ false
unfolding formed
number_fields = refl

-- R4: an empty field, two dashes, a letter or a dash after a digit, a kind cut short or drawn out
not_formed
    : any formed
    (" 0 - - 1 - -"
    ∷ " rl 0 - - 1 - -"
    ∷ "rl 0 - - 1 - - "
    ∷ "rl 0 - - 1 -"
    ∷ "rl  - - 1 - -"
    ∷ "rl 0 -- - 1 - -"
    ∷ "rl 0  - 1 - -"
    ∷ "rl 0 - - 1- - -"
    ∷ "rl 0 - - 1g - -"
    ∷ "rl 1a - - 1 - -"
    ∷ "r 0 - - 1 - -"
    ∷ "rll 0 - - 1 - -"
    ∷ "rl 0 - - 1 0 -"
    ∷ [])
    ≡ false
unfolding formed
not_formed = refl

-- S21: the unused line
unused_line_lem : unused_line ≡ record { kind = En; id = 0; rel = 0; to = 0; reads = 0; writes = 0; tests = 0 }
unfolding unused_line
unused_line_lem = refl

-- R7: a fault of the last line comes before the block that it leaves open at the end
fault_before_end : given ("pr 0 - - - - -" ∷ lo ∷ "is 0 0 - - 1 -" ∷ []) ≡ refused 6 4
unfolding given
fault_before_end = refl
