-- Reading a text line by line: order, ids, sets, links, bounds (docs/MODEL.md, "The workload text") and the refusals of the input
-- (docs/MODEL.md, "Refused because of the input"). Believed. `before` are the lines taken so far, in the order of the text.
use Rattle.std.specs.Prelude.{Bool, true, false, cond, not, ◌&&◌, ◌||◌, ℕ, suc, ◌+◌, eqb, leb, ltb, length, get_or}
use mathlib.Core.List.{List, [], ◌∷◌, ◌++◌, tail, head_d}
use Rattle.std.proofs.Math.Option.{Option, none, some}
use Rattle.spec_base.specs.Basic.{any, all, keep, count, within}
use Rattle.spec_text.specs.declared.Line.{Line}
use Rattle.spec_text.specs.declared.LineKind.{LineKind}
use Rattle.spec_text.specs.declared.LineKind.TheVariants.{Rl, Fk, Pr, St, Lo, Br, El, En, Li}
use Rattle.spec_text.specs.declared.StatementKind.{StatementKind}
use Rattle.spec_text.specs.declared.StatementKind.TheVariants.{Is, Ks, Ps, Ku, Pu, Kd, Pd, Kl}
use Rattle.spec_text.specs.Text.{newline, space, dash, is_decimal, is_letter, same, lines_in, names_line, line_of, unused_line}

-- T6: the sorts of line in the order in which they stand: relations, keys, programs; in a program statements and flow, then links
unfoldable pub sort : LineKind → ℕ
sort Rl = 0
sort Fk = 1
sort Pr = 2
sort (St k) = 3
sort Lo = 3
sort Br = 3
sort El = 3
sort En = 3
sort Li = 4

unfoldable pub is_relation : Line → Bool
is_relation l = eqb (sort l.kind) 0

unfoldable pub is_key : Line → Bool
is_key l = eqb (sort l.kind) 1

unfoldable pub is_program : Line → Bool
is_program l = eqb (sort l.kind) 2

unfoldable pub is_statement_or_flow : Line → Bool
is_statement_or_flow l = eqb (sort l.kind) 3

unfoldable pub is_link : Line → Bool
is_link l = eqb (sort l.kind) 4

-- a statement whose kind passes the test
unfoldable pub is_statement_of : (StatementKind → Bool) → LineKind → Bool
is_statement_of test (St k) = test k
is_statement_of test Rl = false
is_statement_of test Fk = false
is_statement_of test Pr = false
is_statement_of test Lo = false
is_statement_of test Br = false
is_statement_of test El = false
is_statement_of test En = false
is_statement_of test Li = false

unfoldable pub is_statement : Line → Bool
is_statement l = is_statement_of (λ k. true) l.kind

-- T6: the lines of the program at hand: those after the last `pr`
unfoldable pub program : List Line → List Line
program [] = []
program (l ∷ lines) = elim (any is_program lines) [ true ↦ program lines | false ↦ cond (is_program l) lines [] ]

-- T7: ids count from 0, so the relation, the key and, in a program, the statement of a number is the line at that place of its sort
unfoldable pub relation : List Line → ℕ → Line
relation lines r = get_or (keep is_relation lines) r unused_line

unfoldable pub key : List Line → ℕ → Line
key lines f = get_or (keep is_key lines) f unused_line

unfoldable pub statement : List Line → ℕ → Line
statement lines s = get_or (keep is_statement lines) s unused_line

-- T8: the parts of blocks: a loop's run, a branch's first arm, its second arm
abbrev pub loop : ℕ
loop = 0

abbrev pub first_arm : ℕ
first_arm = 1

abbrev pub second_arm : ℕ
second_arm = 2

-- T8: a block around something: the place in the program of the line that opens it, and in which part of it that stands
pub record Block : Type 0 where
  pub place : ℕ
  pub part : ℕ

unfoldable pub same_block : Block → Block → Bool
same_block a b = eqb a.place b.place && eqb a.part b.part

-- T8: the innermost block goes on with its second arm
unfoldable pub to_second_arm : List Block → List Block
to_second_arm [] = []
to_second_arm (b ∷ blocks) = record { place = b.place; part = second_arm } ∷ blocks

-- T8: the blocks around what stands after a line, innermost first, from those around the line and its place
unfoldable pub blocks_after : LineKind → ℕ → List Block → List Block
blocks_after Lo place blocks = record { place = place; part = loop } ∷ blocks
blocks_after Br place blocks = record { place = place; part = first_arm } ∷ blocks
blocks_after El place blocks = to_second_arm blocks
blocks_after En place blocks = tail blocks
blocks_after (St k) place blocks = blocks
blocks_after Rl place blocks = blocks
blocks_after Fk place blocks = blocks
blocks_after Pr place blocks = blocks
blocks_after Li place blocks = blocks

-- T8: the blocks around what stands after lines, from those around the first line and its place
unfoldable pub blocks_after_lines : ℕ → List Block → List Line → List Block
blocks_after_lines place blocks [] = blocks
blocks_after_lines place blocks (l ∷ lines) = blocks_after_lines (suc place) (blocks_after l.kind place blocks) lines

-- T8: the blocks open after these lines of a program
unfoldable pub open_blocks : List Line → List Block
open_blocks lines = blocks_after_lines 0 [] lines

-- T8: the lines of a program before its statement of this number
unfoldable pub before_statement : ℕ → List Line → List Line
before_statement s [] = []
before_statement s (l ∷ lines) = elim (is_statement l && eqb l.id s) [ true ↦ [] | false ↦ l ∷ before_statement s lines ]

-- T8: the blocks around a statement of a program
unfoldable pub blocks_around : List Line → ℕ → List Block
blocks_around lines s = open_blocks (before_statement s lines)

-- T9: the attributes of a relation
unfoldable pub relation_set : List Line → ℕ → ℕ
relation_set lines r = (relation lines r).reads

-- T12: the bounds on lines
unfoldable pub bounded : List Line → Bool
bounded lines =
    let own = program lines in
    leb (count is_relation lines) 32
    && leb (count is_key lines) 32
    && leb (count is_program lines) 16
    && leb (count is_statement own) 32
    && leb (count is_statement_or_flow own) 64
    && leb (count is_link own) 32
    && leb (length (open_blocks own)) 8

-- R9: with the line, no bound is passed
unfoldable pub within_bounds : List Line → Line → Bool
within_bounds before l = bounded (before ++ (l ∷ []))

-- T6: a program has begun, and its links have not
unfoldable pub in_body : List Line → Bool
in_body before = any is_program before && not (any is_link (program before))

-- T8: no block is open
unfoldable pub none_open : List Line → Bool
none_open before = eqb (length (open_blocks (program before))) 0

-- T8: the innermost open block is of this part
unfoldable pub innermost : List Line → ℕ → Bool
innermost before part = elim (open_blocks (program before)) [ [] ↦ false | b ∷ blocks ↦ eqb b.part part ]

-- R7, T6, T8: all rl, then all fk, then programs; in a program statements and flow, then links; `el` in a first arm, `en` in a loop
-- or a second arm; at a `pr` or `li` no block open
unfoldable pub ordered : List Line → Line → Bool
ordered before l =
    elim l.kind [
      | Rl ↦ all is_relation before
      | Fk ↦ all (λ b. is_relation b || is_key b) before
      | Pr ↦ none_open before
      | St k ↦ in_body before
      | Lo ↦ in_body before
      | Br ↦ in_body before
      | El ↦ in_body before && innermost before first_arm
      | En ↦ in_body before && (innermost before loop || innermost before second_arm)
      | Li ↦ any is_program before && none_open before
    ]

-- R6, T7: ids count from 0, statements in their program, the others in the text; what a line names is there
unfoldable pub named : List Line → Line → Bool
named before l =
    elim l.kind [
      | Rl ↦ eqb l.id (count is_relation before)
      | Fk ↦
          eqb l.id (count is_key before)
          && ltb l.rel (count is_relation before)
          && ltb l.to (count is_relation before)
      | Pr ↦ eqb l.id (count is_program before)
      | St k ↦ eqb l.id (count is_statement (program before)) && ltb l.rel (count is_relation before)
      | Lo ↦ true
      | Br ↦ true
      | El ↦ true
      | En ↦ true
      | Li ↦
          ltb l.id (count is_key before)
          && ltb l.rel (count is_statement (program before))
          && ltb l.to (count is_statement (program before))
    ]

-- R5, T9, Req 03: reads of ks and kl and writes of ku and pu are not 0; writes of is, kd, pd are the whole relation
unfoldable pub kind_sets : ℕ → StatementKind → Line → Bool
kind_sets whole Is l = eqb l.writes whole
kind_sets whole Ks l = not (eqb l.reads 0)
kind_sets whole Ps l = true
kind_sets whole Ku l = not (eqb l.writes 0)
kind_sets whole Pu l = not (eqb l.writes 0)
kind_sets whole Kd l = eqb l.writes whole
kind_sets whole Pd l = eqb l.writes whole
kind_sets whole Kl l = not (eqb l.reads 0)

-- R5, T9: what a statement's sets must be over a relation with the attributes `whole`: they lie within it, and are as its kind asks
abbrev pub sets_allowed : ℕ → StatementKind → Line → Bool
sets_allowed whole k l = within l.reads whole && within l.writes whole && within l.tests whole && kind_sets whole k l

-- R5, T9: a relation has attributes; a statement's sets are allowed over its relation
unfoldable pub sets_fit : List Line → Line → Bool
sets_fit before l =
    elim l.kind [
      | Rl ↦ not (eqb l.reads 0)
      | St k ↦ sets_allowed (relation_set before l.rel) k l
      | Fk ↦ true
      | Pr ↦ true
      | Lo ↦ true
      | Br ↦ true
      | El ↦ true
      | En ↦ true
      | Li ↦ true
    ]

-- R8, T10, Req 03: the kinds of a link's parent
unfoldable pub can_be_parent : StatementKind → Bool
can_be_parent Is = true
can_be_parent Ks = true
can_be_parent Ps = false
can_be_parent Ku = true
can_be_parent Pu = false
can_be_parent Kd = true
can_be_parent Pd = false
can_be_parent Kl = true

-- R8, T11: each loop and each arm around the first statement is around the second
unfoldable pub all_around : List Line → ℕ → ℕ → Bool
all_around lines parent child =
    all (λ b. any (λ c. same_block b c) (blocks_around lines child)) (blocks_around lines parent)

-- R8, T10, T11: a link fits its key's relations; its parent is of a kind that may be one, and the parent's blocks are the child's
unfoldable pub link_fits : List Line → Line → Bool
link_fits before l =
    let own = program before in
    let child = statement own l.rel in
    let parent = statement own l.to in
    not (is_link l)
    || (eqb child.rel (key before l.id).rel
    && eqb parent.rel (key before l.id).to
    && is_statement_of can_be_parent parent.kind
    && all_around own l.to l.rel)

-- R9, R7, R6, R5, R8: the tests of a line, in the order listed
unfoldable pub tests_of : List Line → Line → List (ℕ × Bool)
tests_of before l =
    (9, within_bounds before l)
    ∷ (7, ordered before l)
    ∷ (6, named before l)
    ∷ (5, sets_fit before l)
    ∷ (8, link_fits before l) ∷ []

unfoldable pub first_failed : List (ℕ × Bool) → Option ℕ
first_failed [] = none
first_failed (t ∷ ts) = elim t.1 [ true ↦ first_failed ts | false ↦ some t.0 ]

unfoldable pub fault : List Line → Line → Option ℕ
fault before l = first_failed (tests_of before l)

-- what a text gives: a refusal's number and line, or its lines after the names line
pub data Outcome : Type 0 where
  refused : ℕ → ℕ → Outcome
  accepted : List Line → Outcome

-- R4, then the tests: lines go in order; the names line has number 1. At the end no block is open
unfoldable pub read_lines : List Line → List (List ℕ) → Outcome
read_lines before [] =
    elim (none_open before) [ true ↦ accepted before | false ↦ refused 7 (length before + 1) ]
read_lines before (bytes ∷ rest) =
    elim (line_of bytes) [
      | none ↦ refused 4 (length before + 2)
      | some l ↦
          elim (fault before l) [
            | some number ↦ refused number (length before + 2)
            | none ↦ read_lines (before ++ (l ∷ [])) rest
          ]
    ]

-- R2: the bytes of a text
unfoldable pub is_allowed : ℕ → Bool
is_allowed b = eqb b newline || eqb b space || eqb b dash || is_decimal b || is_letter b

-- R2: the line of the first other byte, where the first byte stands in this line
unfoldable pub other_byte : ℕ → List ℕ → Option ℕ
other_byte line [] = none
other_byte line (b ∷ text) =
    elim (is_allowed b) [ true ↦ other_byte (cond (eqb b newline) (suc line) line) text | false ↦ some line ]

-- R2: there is a byte and the last is 0A
unfoldable pub ends_line : List ℕ → Bool
ends_line [] = false
ends_line (b ∷ []) = eqb b newline
ends_line (b ∷ c ∷ text) = ends_line (c ∷ text)

-- R1, R2, R3 over the whole text, then its lines
unfoldable pub read : List ℕ → Outcome
read text =
    elim (leb (length text) 32768) [
      | false ↦ refused 1 0
      | true ↦
          elim (other_byte 1 text) [
            | some line ↦ refused 2 line
            | none ↦
                elim (ends_line text) [
                  | false ↦ refused 2 0
                  | true ↦
                      elim (same (head_d (lines_in text) []) names_line) [
                        | false ↦ refused 3 1
                        | true ↦ read_lines [] (tail (lines_in text))
                      ]
                ]
          ]
    ]
