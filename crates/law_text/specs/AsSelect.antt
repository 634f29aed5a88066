-- Req 03: every rule of the text, refusal and bound is for kl as for ks. Put ks for every kl of a text: it is refused by the same
-- number at the same line, or accepted with the same lines but for the kind.
use Rattle.std.specs.Prelude.{◌≡◌, refl, Bool, true, false, cond, not, ◌&&◌, ◌||◌, ℕ, suc, ◌+◌, eqb, leb, length, get_or}
use Rattle.std.proofs.Common.{sym, ap, ap₂, ◌∙◌, arith, eqb-true, eq-eqb}
use mathlib.Core.List.{List, [], ◌∷◌, ◌++◌, map, map-append, tail, head_d}
use Rattle.std.proofs.Math.Option
use Rattle.std.proofs.Math.Option.{Option, none, some}
use Rattle.std.proofs.lemmas.List.{length-map}
use Rattle.std.proofs.Math.ListN.{get_or-map}
use Rattle.spec_base.specs.Basic.{any, all, keep, first, count, within}
use Rattle.law_base.specs.BoolLaws.{true_false, and_true, and_of}
use Rattle.law_base.specs.ListLaws.{any_map, any_same, all_map, all_same, count_keep, first_some}
use Rattle.spec_text.specs.declared.Line.{Line}
use Rattle.spec_text.specs.declared.LineKind.{LineKind}
use Rattle.spec_text.specs.declared.LineKind.TheVariants.{Rl, Fk, Pr, St, Lo, Br, El, En, Li}
use Rattle.spec_text.specs.declared.StatementKind.{StatementKind}
use Rattle.spec_text.specs.declared.StatementKind.TheVariants.{Is, Ks, Ps, Ku, Pu, Kd, Pd, Kl}
use Rattle.spec_text.specs.Text.{newline, space, same, on_first, lines_in, fields_in, names_line, word_of, kinds}
use Rattle.spec_text.specs.Text.{kind_of, forms_of, values_of, line_with, line_of, unused_line}
use Rattle.spec_text.specs.Reading.{sort, is_relation, is_key, is_program, is_statement_or_flow, is_link, is_statement_of, is_statement}
use Rattle.spec_text.specs.Reading.{program, relation, key, statement, Block, blocks_after, blocks_after_lines, open_blocks}
use Rattle.spec_text.specs.Reading.{before_statement, blocks_around, relation_set, bounded, within_bounds, in_body, none_open, innermost}
use Rattle.spec_text.specs.Reading.{loop, first_arm, second_arm, ordered, named, kind_sets, sets_fit, can_be_parent, all_around, link_fits}
use Rattle.spec_text.specs.Reading.{tests_of, fault, Outcome, read_lines, is_allowed, other_byte, ends_line, read}
use Rattle.spec_text.specs.Reading.Outcome.{refused, accepted}
use Rattle.spec_text.specs.Quoted.{text}
use Rattle.law_text.specs.TextLaws.{same_equal, value_line}

-- ---- ks for kl

-- a kind of statement with ks for kl
unfoldable pub select : StatementKind → StatementKind
select Is = Is
select Ks = Ks
select Ps = Ps
select Ku = Ku
select Pu = Pu
select Kd = Kd
select Pd = Pd
select Kl = Ks

-- a kind of line with ks for kl
unfoldable pub select_kind : LineKind → LineKind
select_kind Rl = Rl
select_kind Fk = Fk
select_kind Pr = Pr
select_kind (St k) = St (select k)
select_kind Lo = Lo
select_kind Br = Br
select_kind El = El
select_kind En = En
select_kind Li = Li

-- a line with ks for kl: the other fields are kept
abbrev pub selected : Line → Line
selected l =
    record {
      kind = select_kind l.kind;
      id = l.id;
      rel = l.rel;
      to = l.to;
      reads = l.reads;
      writes = l.writes;
      tests = l.tests;
    }

-- ---- what does not look at the kind of a statement

-- the sort
sort_kept : (k : LineKind) → sort (select_kind k) ≡ sort k
unfolding sort select_kind
sort_kept Rl = refl
sort_kept Fk = refl
sort_kept Pr = refl
sort_kept (St k) = refl
sort_kept Lo = refl
sort_kept Br = refl
sort_kept El = refl
sort_kept En = refl
sort_kept Li = refl

-- a test of statements that does not tell kl from ks
statement_kept : (test : StatementKind → Bool) → ((k : StatementKind) → test (select k) ≡ test k)
    → (k : LineKind) → is_statement_of test (select_kind k) ≡ is_statement_of test k
unfolding is_statement_of select_kind
statement_kept test kept Rl = refl
statement_kept test kept Fk = refl
statement_kept test kept Pr = refl
statement_kept test kept (St k) = kept k
statement_kept test kept Lo = refl
statement_kept test kept Br = refl
statement_kept test kept El = refl
statement_kept test kept En = refl
statement_kept test kept Li = refl

-- the blocks after a line
blocks_kept : (k : LineKind) (place : ℕ) (blocks : List Block) → blocks_after (select_kind k) place blocks ≡ blocks_after k place blocks
unfolding blocks_after select_kind
blocks_kept Rl place blocks = refl
blocks_kept Fk place blocks = refl
blocks_kept Pr place blocks = refl
blocks_kept (St k) place blocks = refl
blocks_kept Lo place blocks = refl
blocks_kept Br place blocks = refl
blocks_kept El place blocks = refl
blocks_kept En place blocks = refl
blocks_kept Li place blocks = refl

-- R5: what a kind asks of the sets of a line
sets_kept : (whole : ℕ) (k : StatementKind) (l : Line) → kind_sets whole (select k) (selected l) ≡ kind_sets whole k l
unfolding kind_sets select
sets_kept whole Is l = refl
sets_kept whole Ks l = refl
sets_kept whole Ps l = refl
sets_kept whole Ku l = refl
sets_kept whole Pu l = refl
sets_kept whole Kd l = refl
sets_kept whole Pd l = refl
sets_kept whole Kl l = refl

-- R8: whether a kind can be a link's parent
parent_kept : (k : StatementKind) → can_be_parent (select k) ≡ can_be_parent k
unfolding can_be_parent select
parent_kept Is = refl
parent_kept Ks = refl
parent_kept Ps = refl
parent_kept Ku = refl
parent_kept Pu = refl
parent_kept Kd = refl
parent_kept Pd = refl
parent_kept Kl = refl

-- a test of lines that does not tell kl from ks
abbrev Kept : (Line → Bool) → Type 0
Kept p = (l : Line) → p (selected l) ≡ p l

-- the test of a sort is such
sort_test : (sorted : ℕ) → Kept (λ l. eqb (sort l.kind) sorted)
sort_test sorted l = ap (λ n. eqb n sorted) (sort_kept l.kind)

-- and so are the tests by name, and that of statements
relation_test : Kept is_relation
unfolding is_relation
relation_test = sort_test 0

key_test : Kept is_key
unfolding is_key
key_test = sort_test 1

program_test : Kept is_program
unfolding is_program
program_test = sort_test 2

body_test : Kept is_statement_or_flow
unfolding is_statement_or_flow
body_test = sort_test 3

link_test : Kept is_link
unfolding is_link
link_test = sort_test 4

statement_test : Kept is_statement
unfolding is_statement
statement_test l = statement_kept (λ k. true) (λ k. refl) l.kind

-- ---- what such a test gives over lines

-- some line passes it
any_kept : (p : Line → Bool) → Kept p → (lines : List Line) → any p (map selected lines) ≡ any p lines
any_kept p kept lines = any_map p selected lines ∙ any_same (λ l. p (selected l)) p lines (λ l m. kept l)

-- every line passes it
all_kept : (p : Line → Bool) → Kept p → (lines : List Line) → all p (map selected lines) ≡ all p lines
all_kept p kept lines = all_map p selected lines ∙ all_same (λ l. p (selected l)) p lines (λ l m. kept l)

-- the lines that pass it
keep_kept : (p : Line → Bool) → Kept p → (lines : List Line) → keep p (map selected lines) ≡ map selected (keep p lines)
keep_kept p kept [] = refl
keep_kept p kept (l ∷ lines) = rw (kept l, keep_kept p kept lines) (go (p l))
  where
    go : (b : Bool) → cond b (selected l ∷ map selected (keep p lines)) (map selected (keep p lines))
        ≡ map selected (cond b (l ∷ keep p lines) (keep p lines))
    go true = refl
    go false = refl

-- how many lines pass it
count_kept : (p : Line → Bool) → Kept p → (lines : List Line) → count p (map selected lines) ≡ count p lines
count_kept p kept lines =
    count_keep p (map selected lines)
    ∙ ap length (keep_kept p kept lines)
    ∙ length-map (keep p lines) selected
    ∙ sym (count_keep p lines)

-- the line at a place among those that pass it
place_kept : (p : Line → Bool) → Kept p → (lines : List Line) (n : ℕ)
    → get_or (keep p (map selected lines)) n unused_line ≡ selected (get_or (keep p lines) n unused_line)
unfolding unused_line select_kind
place_kept p kept lines n =
    ap (λ ls. get_or ls n unused_line) (keep_kept p kept lines) ∙ get_or-map selected (keep p lines) n unused_line

-- ---- what is found among lines

-- T6: the program at hand
program_kept : (lines : List Line) → program (map selected lines) ≡ map selected (program lines)
unfolding program
program_kept [] = refl
program_kept (l ∷ lines) =
    go (any is_program lines) (is_program l) (any_kept is_program program_test lines) (program_test l) (program_kept lines)
  where
    go : (a b : Bool) {c d : Bool} {own : List Line} → c ≡ a → d ≡ b → own ≡ map selected (program lines)
        → elim c [ true ↦ own | false ↦ cond d (map selected lines) [] ]
        ≡ map selected (elim a [ true ↦ program lines | false ↦ cond b lines [] ])
    go true b e f h = rw e h
    go false true e f h = rw (e, f)
    go false false e f h = rw (e, f)

-- T8: the blocks after lines
lines_blocks_kept : (place : ℕ) (blocks : List Block) (lines : List Line)
    → blocks_after_lines place blocks (map selected lines) ≡ blocks_after_lines place blocks lines
unfolding blocks_after_lines
lines_blocks_kept place blocks [] = refl
lines_blocks_kept place blocks (l ∷ lines) =
    ap (λ after. blocks_after_lines (suc place) after (map selected lines)) (blocks_kept l.kind place blocks)
    ∙ lines_blocks_kept (suc place) (blocks_after l.kind place blocks) lines

-- T8: the open blocks
open_kept : (lines : List Line) → open_blocks (map selected lines) ≡ open_blocks lines
unfolding open_blocks
open_kept lines = lines_blocks_kept 0 [] lines

-- T8: the open blocks of the program at hand
own_blocks_kept : (lines : List Line) → open_blocks (program (map selected lines)) ≡ open_blocks (program lines)
own_blocks_kept lines = ap open_blocks (program_kept lines) ∙ open_kept (program lines)

-- T8: the lines before a statement
before_kept : (s : ℕ) (lines : List Line) → before_statement s (map selected lines) ≡ map selected (before_statement s lines)
unfolding before_statement
before_kept s [] = refl
before_kept s (l ∷ lines) =
    go (is_statement l && eqb l.id s) (ap (λ b. b && eqb l.id s) (statement_test l)) (before_kept s lines)
  where
    go : (a : Bool) {c : Bool} {front : List Line} → c ≡ a → front ≡ map selected (before_statement s lines)
        → elim c [ true ↦ [] | false ↦ selected l ∷ front ] ≡ map selected (elim a [ true ↦ [] | false ↦ l ∷ before_statement s lines ])
    go true e h = rw e
    go false e h = rw (e, h)

-- T8: the blocks around a statement
around_kept : (lines : List Line) (s : ℕ) → blocks_around (map selected lines) s ≡ blocks_around lines s
unfolding blocks_around
around_kept lines s = ap open_blocks (before_kept s lines) ∙ open_kept (before_statement s lines)

-- a count over the program at hand
own_count_kept : (p : Line → Bool) → Kept p → (lines : List Line)
    → count p (program (map selected lines)) ≡ count p (program lines)
own_count_kept p kept lines = ap (count p) (program_kept lines) ∙ count_kept p kept (program lines)

-- ---- each rule

-- T12: the bounds on lines
bounded_kept : (lines : List Line) → bounded (map selected lines) ≡ bounded lines
unfolding bounded
bounded_kept lines =
    rw (
      count_kept is_relation relation_test lines,
      count_kept is_key key_test lines,
      count_kept is_program program_test lines,
      own_count_kept is_statement statement_test lines,
      own_count_kept is_statement_or_flow body_test lines,
      own_count_kept is_link link_test lines,
      own_blocks_kept lines,
    )

-- R9: the bounds with one line more
bounds_kept : (before : List Line) (l : Line) → within_bounds (map selected before) (selected l) ≡ within_bounds before l
unfolding within_bounds
bounds_kept before l = ap bounded (sym (map-append selected before (l ∷ []))) ∙ bounded_kept (before ++ (l ∷ []))

-- T6: in a program's body
body_kept : (before : List Line) → in_body (map selected before) ≡ in_body before
unfolding in_body
body_kept before =
    rw (any_kept is_program program_test before, program_kept before, any_kept is_link link_test (program before))

-- T8: no block open
closed_kept : (before : List Line) → none_open (map selected before) ≡ none_open before
unfolding none_open
closed_kept before = rw (own_blocks_kept before)

-- T8: the part of the innermost block
innermost_kept : (before : List Line) (part : ℕ) → innermost (map selected before) part ≡ innermost before part
unfolding innermost
innermost_kept before part = rw (own_blocks_kept before, innermost)

-- R7: the order
ordered_kept : (before : List Line) (l : Line) → ordered (map selected before) (selected l) ≡ ordered before l
unfolding ordered select_kind
ordered_kept before l = go l.kind refl
  where
    go : (k : LineKind) → l.kind ≡ k → ordered (map selected before) (selected l) ≡ ordered before l
    go Rl e = rw (e, ordered) (all_kept is_relation relation_test before)
    go Fk e = rw (e, ordered) (all_kept (λ b. is_relation b || is_key b) (λ b. ap₂ ◌||◌ (relation_test b) (key_test b)) before)
    go Pr e = rw (e, ordered) (closed_kept before)
    go (St k) e = rw (e, ordered) (body_kept before)
    go Lo e = rw (e, ordered) (body_kept before)
    go Br e = rw (e, ordered) (body_kept before)
    go El e = rw (e, ordered, body_kept before, innermost_kept before first_arm)
    go En e = rw (e, ordered, body_kept before, innermost_kept before loop, innermost_kept before second_arm)
    go Li e = rw (e, ordered, any_kept is_program program_test before, closed_kept before)

-- R6: ids and names
named_kept : (before : List Line) (l : Line) → named (map selected before) (selected l) ≡ named before l
unfolding named select_kind
named_kept before l = go l.kind refl
  where
    relations : count is_relation (map selected before) ≡ count is_relation before
    relations = count_kept is_relation relation_test before

    keys : count is_key (map selected before) ≡ count is_key before
    keys = count_kept is_key key_test before

    statements : count is_statement (program (map selected before)) ≡ count is_statement (program before)
    statements = own_count_kept is_statement statement_test before

    go : (k : LineKind) → l.kind ≡ k → named (map selected before) (selected l) ≡ named before l
    go Rl e = rw (e, named, relations)
    go Fk e = rw (e, named, keys, relations)
    go Pr e = rw (e, named, count_kept is_program program_test before)
    go (St k) e = rw (e, named, statements, relations)
    go Lo e = rw (e, named)
    go Br e = rw (e, named)
    go El e = rw (e, named)
    go En e = rw (e, named)
    go Li e = rw (e, named, keys, statements)

-- T9: the attributes of a relation
attributes_kept : (lines : List Line) (r : ℕ) → relation_set (map selected lines) r ≡ relation_set lines r
unfolding relation_set relation
attributes_kept lines r = ap (λ x. x.reads) (place_kept is_relation relation_test lines r)

-- R5: the sets
sets_fit_kept : (before : List Line) (l : Line) → sets_fit (map selected before) (selected l) ≡ sets_fit before l
unfolding sets_fit select_kind
sets_fit_kept before l = go l.kind refl
  where
    go : (k : LineKind) → l.kind ≡ k → sets_fit (map selected before) (selected l) ≡ sets_fit before l
    go Rl e = rw (e, sets_fit)
    go Fk e = rw (e, sets_fit)
    go Pr e = rw (e, sets_fit)
    go (St k) e =
        let whole = relation_set before l.rel in
        rw (e, sets_fit, attributes_kept before l.rel)
        (ap (λ b. within l.reads whole && within l.writes whole && within l.tests whole && b) (sets_kept whole k l))
    go Lo e = rw (e, sets_fit)
    go Br e = rw (e, sets_fit)
    go El e = rw (e, sets_fit)
    go En e = rw (e, sets_fit)
    go Li e = rw (e, sets_fit)

-- T7: a key
key_kept : (lines : List Line) (f : ℕ) → key (map selected lines) f ≡ selected (key lines f)
unfolding key
key_kept lines f = place_kept is_key key_test lines f

-- T7: a statement of the program at hand
own_statement_kept : (lines : List Line) (s : ℕ) → statement (program (map selected lines)) s ≡ selected (statement (program lines) s)
unfolding statement
own_statement_kept lines s =
    ap (λ own. statement own s) (program_kept lines) ∙ place_kept is_statement statement_test (program lines) s

-- T11: each loop and each arm around one statement is around another
own_around_kept : (lines : List Line) (parent child : ℕ)
    → all_around (program (map selected lines)) parent child ≡ all_around (program lines) parent child
unfolding all_around
own_around_kept lines parent child = rw (program_kept lines, around_kept (program lines) child, around_kept (program lines) parent)

-- R8: the links
link_fits_kept : (before : List Line) (l : Line) → link_fits (map selected before) (selected l) ≡ link_fits before l
unfolding link_fits
link_fits_kept before l =
    rw (
      link_test l,
      own_statement_kept before l.rel,
      own_statement_kept before l.to,
      key_kept before l.id,
      statement_kept can_be_parent parent_kept (statement (program before) l.to).kind,
      own_around_kept before l.to l.rel,
    )

-- R9, R7, R6, R5, R8: the first rule that a line breaks after lines is the one that it breaks with ks for kl
pub fault_as_select : (before : List Line) (l : Line) → fault (map selected before) (selected l) ≡ fault before l
unfolding fault tests_of
fault_as_select before l =
    rw (bounds_kept before l, ordered_kept before l, named_kept before l, sets_fit_kept before l, link_fits_kept before l)

-- ---- the line

-- T1 to T5: a line that begins with the word ks gives what it gives with the word kl, with ks for kl
pub line_as_select : (rest : List ℕ) → line_of (word_of (St Ks) ++ rest) ≡ Option.map selected (line_of (word_of (St Kl) ++ rest))
unfolding line_of fields_in on_first kind_of kinds same word_of forms_of values_of line_with select_kind select
line_as_select [] = refl
line_as_select (b ∷ rest) = go (eqb b space) (fields_in rest)
  where
    parts : Bool → List (List ℕ) → List (List ℕ)
    parts a fields = elim a [ true ↦ [] ∷ fields | false ↦ on_first b fields ]

    line : List (List ℕ) → Option Line
    line fields =
        elim fields [
          | [] ↦ none
          | word ∷ others ↦
              elim (kind_of word) [
                | none ↦ none
                | some k ↦ elim (values_of (forms_of k) others) [ none ↦ none | some values ↦ some (line_with k values) ]
              ]
        ]

    by_values : (o : Option (List ℕ)) → elim o [ none ↦ none | some values ↦ some (line_with (St Ks) values) ]
        ≡ Option.map selected (elim o [ none ↦ none | some values ↦ some (line_with (St Kl) values) ])
    by_values none = refl
    by_values (some values) = refl

    go : (a : Bool) (fields : List (List ℕ)) → line (on_first 0x6b (on_first 0x73 (parts a fields)))
        ≡ Option.map selected (line (on_first 0x6b (on_first 0x6c (parts a fields))))
    go true fields = by_values (values_of (forms_of (St Kl)) fields)
    go false [] = refl
    go false (part ∷ others) = refl

-- T1: a line begins with its first field
first_field : (bytes : List ℕ) {word : List ℕ} {others : List (List ℕ)} → fields_in bytes ≡ word ∷ others
    → (rest : List ℕ) × (bytes ≡ word ++ rest)
unfolding fields_in on_first
first_field [] {word} h = let none_in : word ≡ [] = cc in ([], rw none_in)
first_field (b ∷ bytes) {word} {others} h = go (eqb b space) (fields_in bytes) refl h (λ part parts e. first_field bytes e)
  where
    go : (a : Bool) (fields : List (List ℕ)) → fields_in bytes ≡ fields
        → elim a [ true ↦ [] ∷ fields | false ↦ on_first b fields ] ≡ word ∷ others
        → ((part : List ℕ) (parts : List (List ℕ)) → fields_in bytes ≡ part ∷ parts → (rest : List ℕ) × (bytes ≡ part ++ rest))
        → (rest : List ℕ) × (b ∷ bytes ≡ word ++ rest)
    go true fields e h next = let none_in : word ≡ [] = cc in (b ∷ bytes, rw none_in)
    go false [] e h next = let one : word ≡ b ∷ [] = cc in (bytes, rw one)
    go false (part ∷ parts) e h next =
        let t = next part parts e in
        let more : word ≡ b ∷ part = cc in
        (t.0, rw more (ap {B = List ℕ} (λ x. b ∷ x) t.1))

-- T5: a line of kind kl begins with the word kl
kl_word : (bytes : List ℕ) (l : Line) → line_of bytes ≡ some l → l.kind ≡ St Kl → (rest : List ℕ) × (bytes ≡ word_of (St Kl) ++ rest)
unfolding kind_of
kl_word bytes l h e =
    let v = value_line bytes l h in
    let passes = (first_some (λ k. same v.word (word_of k)) kinds v.kind_word_lem).1 in
    let word : v.word ≡ word_of (St Kl) = same_equal v.word (word_of l.kind) passes ∙ ap word_of e in
    first_field bytes (rw word at v.fields)

-- a line of another kind has no kl to put ks for
other_kept : (l : Line) → (l.kind ≡ St Kl → ⊥) → selected l ≡ l
unfolding select_kind select
other_kept l other = go l.kind refl
  where
    with_kind : (k : LineKind) → l.kind ≡ k → select_kind k ≡ k → selected l ≡ l
    with_kind k e h =
        ap {B = Line}
        (λ x. record { kind = x; id = l.id; rel = l.rel; to = l.to; reads = l.reads; writes = l.writes; tests = l.tests })
        (ap select_kind e ∙ h ∙ sym e)

    go : (k : LineKind) → l.kind ≡ k → selected l ≡ l
    go Rl e = with_kind Rl e refl
    go Fk e = with_kind Fk e refl
    go Pr e = with_kind Pr e refl
    go (St Is) e = with_kind (St Is) e refl
    go (St Ks) e = with_kind (St Ks) e refl
    go (St Ps) e = with_kind (St Ps) e refl
    go (St Ku) e = with_kind (St Ku) e refl
    go (St Pu) e = with_kind (St Pu) e refl
    go (St Kd) e = with_kind (St Kd) e refl
    go (St Pd) e = with_kind (St Pd) e refl
    go (St Kl) e = absurd (other e)
    go Lo e = with_kind Lo e refl
    go Br e = with_kind Br e refl
    go El e = with_kind El e refl
    go En e = with_kind En e refl
    go Li e = with_kind Li e refl

-- a line that does not begin with the word kl gives what it gives with ks for kl
pub other_as_select : (bytes : List ℕ) → ((rest : List ℕ) → bytes ≡ word_of (St Kl) ++ rest → ⊥)
    → line_of bytes ≡ Option.map selected (line_of bytes)
other_as_select bytes other = go (line_of bytes) refl
  where
    go : (o : Option Line) → line_of bytes ≡ o → o ≡ Option.map selected o
    go none h = refl
    go (some l) h = ap {B = Option Line} some (sym (other_kept l (λ e. let t = kl_word bytes l h e in other t.0 t.1)))

-- ---- the whole reading

-- what a text gives, with ks for kl
unfoldable pub select_outcome : Outcome → Outcome
select_outcome (refused number line) = refused number line
select_outcome (accepted lines) = accepted (map selected lines)

-- lines of bytes, one for each of others: each gives what the other gives, with ks for kl
abbrev pub WithSelect : List (List ℕ) → List (List ℕ) → Type 0
WithSelect [] [] = Unit {0}
WithSelect [] (c ∷ cs) = ⊥
WithSelect (b ∷ bs) [] = ⊥
WithSelect (b ∷ bs) (c ∷ cs) = (line_of c ≡ Option.map selected (line_of b)) × WithSelect bs cs

-- R4, then the rules, then the end: ks for kl in the lines taken and in those to come gives the same refusal at the same line, or the
-- same lines with ks for kl
pub read_as_select : (before : List Line) (bs cs : List (List ℕ)) → WithSelect bs cs
    → read_lines (map selected before) cs ≡ select_outcome (read_lines before bs)
unfolding read_lines select_outcome
read_as_select before [] [] w = go (none_open before) (closed_kept before) (length-map before selected)
  where
    go : (a : Bool) {c : Bool} {n : ℕ} → c ≡ a → n ≡ length before
        → elim c [ true ↦ accepted (map selected before) | false ↦ refused 7 (n + 1) ]
        ≡ select_outcome (elim a [ true ↦ accepted before | false ↦ refused 7 (length before + 1) ])
    go true e h = rw e
    go false e h = rw (e, h)
read_as_select before [] (c ∷ cs) w = absurd w
read_as_select before (b ∷ bs) [] w = absurd w
read_as_select before (b ∷ bs) (c ∷ cs) w =
    by_line (line_of b) w.0
    (λ l. rw (map-append selected before (l ∷ [])) at (read_as_select (before ++ (l ∷ [])) bs cs w.1))
  where
    Next : Line → Type 0
    Next l = read_lines (map selected before ++ (selected l ∷ [])) cs ≡ select_outcome (read_lines (before ++ (l ∷ [])) bs)

    by_fault : (l : Line) (f : Option ℕ) {g : Option ℕ} {n : ℕ} → g ≡ f → n ≡ length before → Next l
        → elim g [ some number ↦ refused number (n + 2) | none ↦ read_lines (map selected before ++ (selected l ∷ [])) cs ]
        ≡ select_outcome (elim f [ some number ↦ refused number (length before + 2) | none ↦ read_lines (before ++ (l ∷ [])) bs ])
    by_fault l none e h next = rw e next
    by_fault l (some number) e h next = rw (e, h)

    by_line : (o : Option Line) {p : Option Line} → p ≡ Option.map selected o → ((l : Line) → Next l)
        → elim p [
          | none ↦ refused 4 (length (map selected before) + 2)
          | some l ↦
              elim (fault (map selected before) l) [
                | some number ↦ refused number (length (map selected before) + 2)
                | none ↦ read_lines (map selected before ++ (l ∷ [])) cs
              ]
        ]
        ≡ select_outcome
        (elim o [
          | none ↦ refused 4 (length before + 2)
          | some l ↦
              elim (fault before l) [
                | some number ↦ refused number (length before + 2)
                | none ↦ read_lines (before ++ (l ∷ [])) bs
              ]
        ])
    by_line none e next = rw (e, length-map before selected)
    by_line (some l) e next = rw e (by_fault l (fault before l) (fault_as_select before l) (length-map before selected) (next l))

-- ---- the text

-- a place in a line: at its first byte, after a first byte k, further on
pub data Place : Type 0 where
  at_first after_k further : Place

-- the place after a byte of the line
unfoldable pub place_after : Place → ℕ → Place
place_after at_first b = cond (eqb b 0x6b) after_k further
place_after after_k b = further
place_after further b = further

-- the byte put for this one: s for the l of a word kl
unfoldable pub byte_put : Place → ℕ → ℕ
byte_put at_first b = b
byte_put after_k b = cond (eqb b 0x6c) 0x73 b
byte_put further b = b

-- a line from this place on with the word ks for the word kl
unfoldable pub line_put : Place → List ℕ → List ℕ
line_put place [] = []
line_put place (b ∷ line) = byte_put place b ∷ line_put (place_after place b) line

-- a text from this place of a line on with the word ks for each word kl
unfoldable pub text_put : Place → List ℕ → List ℕ
text_put place [] = []
text_put place (b ∷ text) = byte_put place b ∷ text_put (cond (eqb b newline) at_first (place_after place b)) text

-- ks is put for the kl that begin lines
put_example : text_put at_first (text ("kd 0 1 - - 3 -" ∷ "kl 1 1 - 2 - -" ∷ "kl" ∷ "li kl" ∷ []))
    ≡ text ("kd 0 1 - - 3 -" ∷ "ks 1 1 - 2 - -" ∷ "ks" ∷ "li kl" ∷ [])
unfolding text_put byte_put place_after text
put_example = refl

-- a test that does not tell s from l
byte_kept : (p : ℕ → Bool) → p 0x73 ≡ p 0x6c → (place : Place) (b : ℕ) → p (byte_put place b) ≡ p b
unfolding byte_put
byte_kept p h at_first b = refl
byte_kept p h after_k b = go (eqb b 0x6c) refl
  where
    go : (a : Bool) → eqb b 0x6c ≡ a → p (cond a 0x73 b) ≡ p b
    go true e = h ∙ ap p (sym (eqb-true b 0x6c e))
    go false e = refl
byte_kept p h further b = refl

-- nothing is put further on
further_same : (line : List ℕ) → line_put further line ≡ line
unfolding line_put byte_put place_after
further_same [] = refl
further_same (b ∷ line) = ap {B = List ℕ} (λ x. b ∷ x) (further_same line)

-- the second byte of a line is put, and only that
second_put : (a b : ℕ) (line : List ℕ) → line_put at_first (a ∷ b ∷ line) ≡ a ∷ cond (eqb a 0x6b && eqb b 0x6c) 0x73 b ∷ line
unfolding line_put byte_put place_after
second_put a b line = go (eqb a 0x6b)
  where
    go : (f : Bool) → a ∷ byte_put (cond f after_k further) b ∷ line_put (place_after (cond f after_k further) b) line
        ≡ a ∷ cond (f && eqb b 0x6c) 0x73 b ∷ line
    go true = ap {B = List ℕ} (λ x. a ∷ cond (eqb b 0x6c) 0x73 b ∷ x) (further_same line)
    go false = ap {B = List ℕ} (λ x. a ∷ b ∷ x) (further_same line)

-- T1 to T5: a line with the word ks put for kl gives what the line gives, with ks for kl
pub put_as_select : (line : List ℕ) → line_of (line_put at_first line) ≡ Option.map selected (line_of line)
unfolding line_put byte_put word_of
put_as_select [] = other_as_select [] (λ rest e. let wrong : ◌≡◌ {A = ℕ} 0 1 = cc in omega arith)
put_as_select (a ∷ []) = other_as_select (a ∷ []) (λ rest e. let wrong : ◌≡◌ {A = ℕ} 0 1 = cc in omega arith)
put_as_select (a ∷ b ∷ line) = ap line_of (second_put a b line) ∙ go (eqb a 0x6b && eqb b 0x6c) refl
  where
    go : (f : Bool) → eqb a 0x6b && eqb b 0x6c ≡ f → line_of (a ∷ cond f 0x73 b ∷ line) ≡ Option.map selected (line_of (a ∷ b ∷ line))
    go true e =
        let both = and_true (eqb a 0x6b) (eqb b 0x6c) e in
        rw (eqb-true a 0x6b both.0, eqb-true b 0x6c both.1) (line_as_select line)
    go false e =
        other_as_select (a ∷ b ∷ line)
        (λ rest h.
        let k : a ≡ 0x6b = cc in
        let l : b ≡ 0x6c = cc in
        true_false (and_of (eq-eqb a 0x6b k) (eq-eqb b 0x6c l)) e)

-- so lines with the word ks put for kl are lines with ks for kl
lines_put_lem : (lines : List (List ℕ)) → WithSelect lines (map (line_put at_first) lines)
lines_put_lem [] = tt
lines_put_lem (line ∷ lines) = (put_as_select line, lines_put_lem lines)

-- lines of which the first is put from this place on, and the others from their first bytes on
unfoldable lines_put : Place → List (List ℕ) → List (List ℕ)
lines_put place [] = []
lines_put place (line ∷ lines) = line_put place line ∷ map (line_put at_first) lines

-- T1: the lines of the text that is put are those of the text, each put
lines_of_put : (place : Place) (text : List ℕ) → lines_in (text_put place text) ≡ lines_put place (lines_in text)
unfolding lines_in text_put line_put on_first lines_put
lines_of_put place [] = refl
lines_of_put place (b ∷ text) =
    go (eqb b newline) (byte_kept (λ x. eqb x newline) refl place b) (λ next. lines_of_put next text)
  where
    whole : (lines : List (List ℕ)) → lines_put at_first lines ≡ map (line_put at_first) lines
    whole [] = refl
    whole (line ∷ lines) = refl

    joined : (lines : List (List ℕ))
        → on_first (byte_put place b) (lines_put (place_after place b) lines) ≡ lines_put place (on_first b lines)
    joined [] = refl
    joined (line ∷ lines) = refl

    go : (a : Bool) {c : Bool} → c ≡ a → ((next : Place) → lines_in (text_put next text) ≡ lines_put next (lines_in text))
        → elim c [
          | true ↦ [] ∷ lines_in (text_put (cond a at_first (place_after place b)) text)
          | false ↦ on_first (byte_put place b) (lines_in (text_put (cond a at_first (place_after place b)) text))
        ]
        ≡ lines_put place (elim a [ true ↦ [] ∷ lines_in text | false ↦ on_first b (lines_in text) ])
    go true e next = rw e (ap {B = List (List ℕ)} (λ x. [] ∷ x) (next at_first ∙ whole (lines_in text)))
    go false e next = rw e (ap (on_first (byte_put place b)) (next (place_after place b)) ∙ joined (lines_in text))

-- R1: there are as many bytes
length_put : (place : Place) (text : List ℕ) → length (text_put place text) ≡ length text
unfolding text_put
length_put place [] = refl
length_put place (b ∷ text) = ap suc (length_put (cond (eqb b newline) at_first (place_after place b)) text)

-- R2: the first other byte is in the same line
other_put : (place : Place) (n : ℕ) (text : List ℕ) → other_byte n (text_put place text) ≡ other_byte n text
unfolding text_put other_byte is_allowed
other_put place n [] = refl
other_put place n (b ∷ text) =
    go (is_allowed b) (byte_kept is_allowed refl place b)
    (ap (λ m. other_byte m (text_put (cond (eqb b newline) at_first (place_after place b)) text))
    (ap (λ c. cond c (suc n) n) (byte_kept (λ x. eqb x newline) refl place b))
    ∙ other_put (cond (eqb b newline) at_first (place_after place b)) (cond (eqb b newline) (suc n) n) text)
  where
    go : (a : Bool) {c : Bool} {o : Option ℕ} → c ≡ a → o ≡ other_byte (cond (eqb b newline) (suc n) n) text
        → ◌≡◌ {A = Option ℕ} (elim c [ true ↦ o | false ↦ some n ])
        (elim a [ true ↦ other_byte (cond (eqb b newline) (suc n) n) text | false ↦ some n ])
    go true e h = rw e h
    go false e h = rw e

-- R2: the last byte is 0A or not
ends_put : (place : Place) (text : List ℕ) → ends_line (text_put place text) ≡ ends_line text
unfolding text_put ends_line
ends_put place [] = refl
ends_put place (b ∷ []) = byte_kept (λ x. eqb x newline) refl place b
ends_put place (b ∷ c ∷ text) = ends_put (cond (eqb b newline) at_first (place_after place b)) (c ∷ text)

-- R3: a line is the names line or not
names_put : (line : List ℕ) → same (line_put at_first line) names_line ≡ same line names_line
unfolding same names_line line_put byte_put
names_put [] = refl
names_put (a ∷ []) = refl
names_put (a ∷ b ∷ line) = ap (λ x. same x names_line) (second_put a b line) ∙ go (eqb a 0x6b && eqb b 0x6c) refl
  where
    go : (f : Bool) → eqb a 0x6b && eqb b 0x6c ≡ f → same (a ∷ cond f 0x73 b ∷ line) names_line ≡ same (a ∷ b ∷ line) names_line
    go true e = rw (eqb-true b 0x6c (and_true (eqb a 0x6b) (eqb b 0x6c) e).1)
    go false e = refl

-- a test, and a search that must find nothing, before what is read
test_outcome : (m n : ℕ) (o : Outcome) (a : Bool) {c : Bool} {q : Outcome} → c ≡ a → q ≡ select_outcome o
    → elim c [ false ↦ refused m n | true ↦ q ] ≡ select_outcome (elim a [ false ↦ refused m n | true ↦ o ])
unfolding select_outcome
test_outcome m n o true e h = rw e h
test_outcome m n o false e h = rw e

search_outcome : (o : Outcome) (a : Option ℕ) {c : Option ℕ} {q : Outcome} → c ≡ a → q ≡ select_outcome o
    → elim c [ some line ↦ refused 2 line | none ↦ q ] ≡ select_outcome (elim a [ some line ↦ refused 2 line | none ↦ o ])
unfolding select_outcome
search_outcome o none e h = rw e h
search_outcome o (some line) e h = rw e

-- put ks for every kl of a text: it is refused by the same number at the same line, or accepted with the same lines but ks for kl
pub text_as_select : (text : List ℕ) → read (text_put at_first text) ≡ select_outcome (read text)
unfolding read lines_put head_d
text_as_select text =
    let lines = lines_of_put at_first text in
    test_outcome 1 0 _ (leb (length text) 32768) (ap (λ n. leb n 32768) (length_put at_first text))
    (search_outcome _ (other_byte 1 text) (other_put at_first 1 text)
    (test_outcome 2 0 _ (ends_line text) (ends_put at_first text)
    (test_outcome 3 1 _ (same (head_d (lines_in text) []) names_line)
    (ap (λ x. same (head_d x []) names_line) lines ∙ names (lines_in text))
    (ap (λ x. read_lines [] (tail x)) lines ∙ body (lines_in text)))))
  where
    names : (lines : List (List ℕ)) → same (head_d (lines_put at_first lines) []) names_line ≡ same (head_d lines []) names_line
    names [] = refl
    names (line ∷ lines) = names_put line

    body : (lines : List (List ℕ)) → read_lines [] (tail (lines_put at_first lines)) ≡ select_outcome (read_lines [] (tail lines))
    body [] = read_as_select [] [] [] tt
    body (line ∷ lines) = read_as_select [] lines (map (line_put at_first) lines) (lines_put_lem lines)
