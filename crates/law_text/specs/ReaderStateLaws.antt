-- The value that grows line by line agrees with the lines taken so far: its step, and the tests over it.
use Rattle.std.specs.Prelude.{◌≡◌, refl, Bool, true, false, cond, not, ◌&&◌, ◌||◌, List, [], ◌∷◌, ◌++◌, ℕ, zero, suc, ◌+◌, ◌<◌, eqb, ltb, length, get_or}
use Rattle.std.proofs.Common.{sym, ap, ap₂, ◌∙◌, arith, add-one, add-zero, zero-add, suc-add, add-suc, not-suc-le-zero, le_of_suc-le-suc, length-append, eqb-true, ltb-true, ne_eqb, eq-eqb}
use Rattle.std.proofs.Math.Bool as B
use Rattle.std.proofs.Math.Option.{none}
use Rattle.std.proofs.Math.Dec.{eqb-suc-suc}
use Rattle.spec_base.specs.Basic.{any, all, keep, count}
use Rattle.law_base.specs.BoolLaws.{and_true, and_of}
use Rattle.law_base.specs.ListLaws.{keep_append, count_append, count_keep, any_append, length_keep}
use Rattle.spec_text.specs.declared.Line.{Line}
use Rattle.spec_text.specs.declared.LineKind.{LineKind}
use Rattle.spec_text.specs.declared.LineKind.TheVariants.{Rl, Fk, Pr, St, Lo, Br, El, En, Li}
use Rattle.spec_text.specs.Text.{unused_line}
use Rattle.spec_text.specs.Reading.{sort, is_relation, is_key, is_program, is_statement_or_flow, is_link, is_statement, is_statement_of, can_be_parent}
use Rattle.spec_text.specs.Reading.{Block, same_block, blocks_after, blocks_after_lines, open_blocks, program, loop, first_arm, second_arm}
use Rattle.spec_text.specs.Reading.{before_statement, blocks_around, statement, key, relation, relation_set, bounded, within_bounds, in_body}
use Rattle.spec_text.specs.Reading.{none_open, innermost, ordered, named, sets_fit, link_fits, all_around, tests_of, first_failed, fault}
use Rattle.law_text.specs.ReadingLaws.{fault_none}
use Rattle.law_text.specs.ReaderState.{around_from, own_of, state_of, empty_own, empty_state, own_after, own_after_any, state_after}
use Rattle.law_text.specs.ReaderState.{state_bounded, state_in_body, state_none_open, state_innermost, state_ordered, state_named, state_sets_fit}
use Rattle.law_text.specs.ReaderState.{blocks_within, state_link_fits, state_tests, state_fault, numbered_from, numbered}

-- ---- one line more

-- the blocks after lines and one more
pub blocks_after_lines_append : (place : ℕ) (blocks : List Block) (lines : List Line) (l : Line)
    → blocks_after_lines place blocks (lines ++ (l ∷ [])) ≡ blocks_after l.kind (place + length lines) (blocks_after_lines place blocks lines)
unfolding blocks_after_lines
blocks_after_lines_append place blocks [] l = rw add-zero refl
blocks_after_lines_append place blocks (x ∷ lines) l =
    blocks_after_lines_append (suc place) (blocks_after x.kind place blocks) lines l ∙ rw (suc-add, add-suc) refl

-- the blocks around each statement of lines and one more
pub around_from_append : (place : ℕ) (blocks : List Block) (lines : List Line) (l : Line)
    → around_from place blocks (lines ++ (l ∷ []))
    ≡ around_from place blocks lines ++ cond (is_statement l) (blocks_after_lines place blocks lines ∷ []) []
unfolding around_from blocks_after_lines
around_from_append place blocks [] l = refl
around_from_append place blocks (x ∷ lines) l =
    go (is_statement x) _ _ _ (around_from_append (suc place) (blocks_after x.kind place blocks) lines l)
  where
    go : (b : Bool) (r s t : List (List Block)) → r ≡ s ++ t → cond b (blocks ∷ r) r ≡ cond b (blocks ∷ s) s ++ t
    go true r s t e = ap {B = List (List Block)} (λ z. blocks ∷ z) e
    go false r s t e = e

module _ {A : Type 0} where
  -- one more element to count
  pub count_more : (p : A → Bool) (l : List A) (x : A) → count p (l ++ (x ∷ [])) ≡ count p l + cond (p x) 1 0
  count_more p l x = count_append p l (x ∷ []) ∙ rw (add-zero (cond (p x) 1 0))

  -- one more element in the list
  pub length_more : (l : List A) (x : A) → length (l ++ (x ∷ [])) ≡ suc (length l)
  length_more l x = length-append l (x ∷ []) ∙ add-one (length l)

  -- none to count is none that passes
  pub count_none : (p : A → Bool) (l : List A) → eqb (count p l) 0 ≡ not (any p l)
  count_none p [] = refl
  count_none p (x ∷ l) = go (p x) (count_none p l)
    where
      go : (b : Bool) → eqb (count p l) 0 ≡ not (any p l) → eqb (cond b 1 0 + count p l) 0 ≡ not (b || any p l)
      go true e = ne_eqb (1 + count p l) 0 (omega arith)
      go false e = rw (zero-add (count p l)) e

  -- every element passes where as many are kept as there are
  pub all_counted : (p : A → Bool) (l : List A) → all p l ≡ eqb (length l) (length (keep p l))
  all_counted p [] = refl
  all_counted p (x ∷ l) = go (p x) (all_counted p l)
    where
      go : (b : Bool) → all p l ≡ eqb (length l) (length (keep p l))
          → b && all p l ≡ eqb (suc (length l)) (length (cond b (x ∷ keep p l) (keep p l)))
      go true e = e ∙ sym (eqb-suc-suc (length l) (length (keep p l)))
      go false e = let h = length_keep p l in sym (ne_eqb (suc (length l)) (length (keep p l)) (omega arith))

  -- of two tests that no element passes both of, as many are kept as of each
  pub keep_either : (p q : A → Bool) → ((x : A) → p x && q x ≡ false) → (l : List A)
      → length (keep (λ x. p x || q x) l) ≡ length (keep p l) + length (keep q l)
  keep_either p q apart [] = refl
  keep_either p q apart (x ∷ l) = go (p x) (q x) (apart x) (keep_either p q apart l)
    where
      go : (a b : Bool) → a && b ≡ false → length (keep (λ x. p x || q x) l) ≡ length (keep p l) + length (keep q l)
          → length (cond (a || b) (x ∷ keep (λ x. p x || q x) l) (keep (λ x. p x || q x) l))
          ≡ length (cond a (x ∷ keep p l) (keep p l)) + length (cond b (x ∷ keep q l) (keep q l))
      go true true h e = absurd (B.true≢false h)
      go true false h e = omega arith
      go false true h e = omega arith
      go false false h e = e

-- a program and one line more
pub own_of_append : (lines : List Line) (l : Line) → own_of (lines ++ (l ∷ [])) ≡ own_after (own_of lines) l
unfolding own_of own_after open_blocks
own_of_append lines l =
    let places : length (lines ++ (l ∷ [])) ≡ suc (length lines) = length_more lines l in
    let bodies = count_more is_statement_or_flow lines l in
    let links = count_more is_link lines l in
    let blocks : open_blocks (lines ++ (l ∷ [])) ≡ blocks_after l.kind (length lines) (open_blocks lines)
    = blocks_after_lines_append 0 [] lines l ∙ rw (zero-add (length lines)) in
    let statements = keep_append is_statement lines (l ∷ []) in
    let around = around_from_append 0 [] lines l in
    λ i. record {
      place = places i;
      body = bodies i;
      links = links i;
      open_blocks = blocks i;
      statements = statements i;
      around = around i;
    }

-- the program at hand of lines and one more
pub program_append : (lines : List Line) (l : Line)
    → program (lines ++ (l ∷ [])) ≡ elim (is_program l) [ true ↦ [] | false ↦ cond (any is_program lines) (program lines ++ (l ∷ [])) [] ]
unfolding program
program_append [] l = go (is_program l)
  where
    go : (b : Bool) → ◌≡◌ {A = List Line} (cond b [] []) (elim b [ true ↦ [] | false ↦ [] ])
    go true = refl
    go false = refl
program_append (x ∷ lines) l =
    ap (λ (t : Bool). elim t [ true ↦ program (lines ++ (l ∷ [])) | false ↦ cond (is_program x) (lines ++ (l ∷ [])) [] ])
    (any_append is_program lines (l ∷ []))
    ∙ go (any is_program lines) (is_program l) (is_program x) (program (lines ++ (l ∷ []))) (program lines) (program_append lines l)
  where
    go : (a b c : Bool) (inner plain : List Line)
        → inner ≡ elim b [ true ↦ [] | false ↦ cond a (plain ++ (l ∷ [])) [] ]
        → ◌≡◌ {A = List Line}
        (elim (a || (b || false)) [ true ↦ inner | false ↦ cond c (lines ++ (l ∷ [])) [] ])
        (elim b [ true ↦ [] | false ↦ cond (c || a) ((elim a as (λ x. List Line) [ true ↦ plain | false ↦ cond c lines [] ]) ++ (l ∷ [])) [] ])
    go true true c inner plain e = e
    go false true c inner plain e = e
    go true false true inner plain e = e
    go true false false inner plain e = e
    go false false true inner plain e = refl
    go false false false inner plain e = refl

-- before the first `pr` there is no program at hand
pub program_none : (lines : List Line) → any is_program lines ≡ false → program lines ≡ []
unfolding program
program_none [] h = refl
program_none (x ∷ lines) h = go (is_program x) (any is_program lines) (program lines) h
  where
    go : (c a : Bool) (plain : List Line) → c || a ≡ false
        → ◌≡◌ {A = List Line} (elim a [ true ↦ plain | false ↦ cond c lines [] ]) []
    go true a plain e = absurd (B.true≢false e)
    go false true plain e = absurd (B.true≢false e)
    go false false plain e = refl

-- the program at hand after one line more
pub own_append : (lines : List Line) (l : Line)
    → own_of (program (lines ++ (l ∷ []))) ≡ own_after_any (count is_program lines) (own_of (program lines)) l
unfolding own_after_any own_of empty_own open_blocks blocks_after_lines around_from
own_append lines l =
    ap own_of (program_append lines l)
    ∙ go (is_program l) (any is_program lines) (eqb (count is_program lines) 0) refl (count_none is_program lines)
  where
    go : (b a d : Bool) → any is_program lines ≡ a → d ≡ not (any is_program lines)
        → own_of (elim b [ true ↦ [] | false ↦ cond a (program lines ++ (l ∷ [])) [] ])
        ≡ elim b [
          | true ↦ empty_own
          | false ↦ elim d [ true ↦ own_of (program lines) | false ↦ own_after (own_of (program lines)) l ]
        ]
    go true a d e n = refl
    go false true true e n = absurd (B.true≢false (n ∙ ap not e))
    go false true false e n = own_of_append (program lines) l
    go false false true e n = ap own_of (sym (program_none lines e))
    go false false false e n = absurd (B.false≢true (n ∙ ap not e))

-- the value of lines and one more
pub state_of_append : (lines : List Line) (l : Line) → state_of (lines ++ (l ∷ [])) ≡ state_after (state_of lines) l
unfolding state_of state_after
state_of_append lines l =
    let all_lines : length (lines ++ (l ∷ [])) ≡ suc (length lines) = length_more lines l in
    let relations = keep_append is_relation lines (l ∷ []) in
    let keys = keep_append is_key lines (l ∷ []) in
    let programs = count_more is_program lines l in
    let own = own_append lines l in
    λ i. record { lines = all_lines i; relations = relations i; keys = keys i; programs = programs i; own = own i }

-- the value of no line
pub state_of_empty : state_of [] ≡ empty_state
unfolding state_of empty_state own_of empty_own open_blocks blocks_after_lines around_from program
state_of_empty = refl

-- ---- the tests

-- the bounds, over the value
pub bounded_state : (lines : List Line) → bounded lines ≡ state_bounded (state_of lines)
unfolding bounded state_bounded state_of own_of
bounded_state lines =
    rw (count_keep is_relation lines, count_keep is_key lines, count_keep is_statement (program lines))

pub within_bounds_state : (lines : List Line) (l : Line) → within_bounds lines l ≡ state_bounded (state_after (state_of lines) l)
unfolding within_bounds
within_bounds_state lines l = bounded_state (lines ++ (l ∷ [])) ∙ ap state_bounded (state_of_append lines l)

-- a test that some line passes, over how many pass
any_counted : (p : Line → Bool) (lines : List Line) → any p lines ≡ not (eqb (count p lines) 0)
any_counted p lines = go (any p lines) (count_none p lines)
  where
    go : (b : Bool) {n : Bool} → n ≡ not b → b ≡ not n
    go true e = ap not (sym e)
    go false e = ap not (sym e)

pub in_body_state : (lines : List Line) → in_body lines ≡ state_in_body (state_of lines)
unfolding in_body state_in_body state_of own_of
in_body_state lines = ap₂ ◌&&◌ (any_counted is_program lines) (sym (count_none is_link (program lines)))

pub none_open_state : (lines : List Line) → none_open lines ≡ state_none_open (state_of lines)
unfolding none_open state_none_open state_of own_of
none_open_state lines = refl

pub innermost_state : (lines : List Line) (part : ℕ) → innermost lines part ≡ state_innermost (state_of lines) part
unfolding innermost state_innermost state_of own_of
innermost_state lines part = refl

-- a relation is no key
relation_no_key : (l : Line) → is_relation l && is_key l ≡ false
unfolding is_relation is_key sort
relation_no_key l = go l.kind
  where
    go : (k : LineKind) → eqb (sort k) 0 && eqb (sort k) 1 ≡ false
    go Rl = refl
    go Fk = refl
    go Pr = refl
    go (St k) = refl
    go Lo = refl
    go Br = refl
    go El = refl
    go En = refl
    go Li = refl

-- the order of lines, over the value
pub ordered_state : (lines : List Line) (l : Line) → ordered lines l ≡ state_ordered (state_of lines) l
unfolding ordered state_ordered state_of
ordered_state lines l = go l.kind
  where
    go : (k : LineKind)
        → ◌≡◌ {A = Bool}
        (elim k [
          | Rl ↦ all is_relation lines
          | Fk ↦ all (λ b. is_relation b || is_key b) lines
          | Pr ↦ none_open lines
          | St k ↦ in_body lines
          | Lo ↦ in_body lines
          | Br ↦ in_body lines
          | El ↦ in_body lines && innermost lines first_arm
          | En ↦ in_body lines && (innermost lines loop || innermost lines second_arm)
          | Li ↦ any is_program lines && none_open lines
        ])
        (elim k [
          | Rl ↦ eqb (state_of lines).lines (length (state_of lines).relations)
          | Fk ↦ eqb (state_of lines).lines (length (state_of lines).relations + length (state_of lines).keys)
          | Pr ↦ state_none_open (state_of lines)
          | St k ↦ state_in_body (state_of lines)
          | Lo ↦ state_in_body (state_of lines)
          | Br ↦ state_in_body (state_of lines)
          | El ↦ state_in_body (state_of lines) && state_innermost (state_of lines) first_arm
          | En ↦
              state_in_body (state_of lines) && (state_innermost (state_of lines) loop || state_innermost (state_of lines) second_arm)
          | Li ↦ not (eqb (state_of lines).programs 0) && state_none_open (state_of lines)
        ])
    go Rl = all_counted is_relation lines
    go Fk = all_counted (λ b. is_relation b || is_key b) lines ∙ rw (keep_either is_relation is_key relation_no_key lines)
    go Pr = none_open_state lines
    go (St k) = in_body_state lines
    go Lo = in_body_state lines
    go Br = in_body_state lines
    go El = ap₂ ◌&&◌ (in_body_state lines) (innermost_state lines first_arm)
    go En = ap₂ ◌&&◌ (in_body_state lines) (ap₂ ◌||◌ (innermost_state lines loop) (innermost_state lines second_arm))
    go Li = ap₂ ◌&&◌ (any_counted is_program lines) (none_open_state lines)

-- ids and what a line names, over the value
pub named_state : (lines : List Line) (l : Line) → named lines l ≡ state_named (state_of lines) l
unfolding named state_named state_of own_of
named_state lines l =
    ap (λ n. by n (count is_key lines) (count is_statement (program lines))) (count_keep is_relation lines)
    ∙ ap (λ n. by (length (keep is_relation lines)) n (count is_statement (program lines))) (count_keep is_key lines)
    ∙ ap (by (length (keep is_relation lines)) (length (keep is_key lines))) (count_keep is_statement (program lines))
  where
    by : ℕ → ℕ → ℕ → Bool
    by relations keys statements =
        elim l.kind [
          | Rl ↦ eqb l.id relations
          | Fk ↦ eqb l.id keys && ltb l.rel relations && ltb l.to relations
          | Pr ↦ eqb l.id (count is_program lines)
          | St k ↦ eqb l.id statements && ltb l.rel relations
          | Lo ↦ true
          | Br ↦ true
          | El ↦ true
          | En ↦ true
          | Li ↦ ltb l.id keys && ltb l.rel statements && ltb l.to statements
        ]

-- the sets of a line, over the value
pub sets_fit_state : (lines : List Line) (l : Line) → sets_fit lines l ≡ state_sets_fit (state_of lines) l
unfolding sets_fit state_sets_fit state_of relation_set relation
sets_fit_state lines l = refl

-- ---- links

-- where the statements of lines are numbered from n on, the blocks around the statement of an id stand at its place
pub around_numbered : (n place : ℕ) (blocks : List Block) (lines : List Line) (s : ℕ)
    → numbered_from n lines ≡ true → s < length (keep is_statement lines)
    → blocks_after_lines place blocks (before_statement (n + s) lines) ≡ get_or (around_from place blocks lines) s []
unfolding numbered_from around_from before_statement blocks_after_lines
around_numbered n place blocks [] s numbered below = absurd (not-suc-le-zero below)
around_numbered n place blocks (l ∷ lines) s numbered below =
    go (is_statement l) s numbered below
    (λ t. around_numbered (suc n) (suc place) (blocks_after l.kind place blocks) lines t)
    (λ t. around_numbered n (suc place) (blocks_after l.kind place blocks) lines t)
  where
    rest : List (List Block)
    rest = around_from (suc place) (blocks_after l.kind place blocks) lines

    Later : ℕ → Type 0
    Later m =
        (t : ℕ) → numbered_from m lines ≡ true → t < length (keep is_statement lines)
        → blocks_after_lines (suc place) (blocks_after l.kind place blocks) (before_statement (m + t) lines) ≡ get_or rest t []

    here_stop : (c : Bool) (before : List Line) → c ≡ true → blocks_after_lines place blocks (elim c [ true ↦ [] | false ↦ l ∷ before ]) ≡ blocks
    here_stop true before e = refl
    here_stop false before e = absurd (B.false≢true e)

    past : (c : Bool) (before : List Line) → c ≡ false
        → blocks_after_lines place blocks (elim c [ true ↦ [] | false ↦ l ∷ before ])
        ≡ blocks_after_lines (suc place) (blocks_after l.kind place blocks) before
    past true before e = absurd (B.true≢false e)
    past false before e = refl

    go : (b : Bool) (t : ℕ)
        → (elim b as (λ x. Bool) [ true ↦ eqb l.id n && numbered_from (suc n) lines | false ↦ numbered_from n lines ]) ≡ true
        → t < length (cond b (l ∷ keep is_statement lines) (keep is_statement lines))
        → Later (suc n) → Later n
        → blocks_after_lines place blocks (elim (b && eqb l.id (n + t)) [ true ↦ [] | false ↦ l ∷ before_statement (n + t) lines ])
        ≡ get_or (cond b (blocks ∷ rest) rest) t []
    go true zero h m ih ih' =
        let here : l.id ≡ n = eqb-true l.id n (and_true (eqb l.id n) (numbered_from (suc n) lines) h).0 in
        here_stop (eqb l.id (n + 0)) (before_statement (n + 0) lines) (eq-eqb l.id (n + 0) (omega arith))
    go true (suc t) h m ih ih' =
        let here : l.id ≡ n = eqb-true l.id n (and_true (eqb l.id n) (numbered_from (suc n) lines) h).0 in
        past (eqb l.id (n + suc t)) (before_statement (n + suc t) lines) (ne_eqb l.id (n + suc t) (omega arith))
        ∙ rw (add-suc, ← suc-add) (ih t (and_true (eqb l.id n) (numbered_from (suc n) lines) h).1 (le_of_suc-le-suc m))
    go false t h m ih ih' = ih' t h m

-- the blocks around a statement of the program at hand
pub blocks_around_state : (lines : List Line) (s : ℕ) → numbered lines ≡ true → s < length (keep is_statement (program lines))
    → blocks_around (program lines) s ≡ get_or (state_of lines).own.around s []
unfolding numbered blocks_around open_blocks state_of own_of
blocks_around_state lines s h below =
    rw (zero-add s) at (around_numbered 0 0 [] (program lines) s h below)

-- a link that passes its naming test names statements of the program at hand
pub link_named : (lines : List Line) (l : Line) → is_link l ≡ true → named lines l ≡ true
    → (l.rel < length (keep is_statement (program lines))) × (l.to < length (keep is_statement (program lines)))
unfolding is_link sort named
link_named lines l link h = rw (count_keep is_statement (program lines)) at (go l.kind link h)
  where
    n : ℕ
    n = count is_statement (program lines)

    both : (a b c : Bool) → a && b && c ≡ true → (b ≡ true) × (c ≡ true)
    both true true true e = (refl, refl)
    both true true false e = absurd (B.false≢true e)
    both true false c e = absurd (B.false≢true e)
    both false b c e = absurd (B.false≢true e)

    go : (k : LineKind) → eqb (sort k) 4 ≡ true
        → (elim k as (λ x. Bool) [
          | Rl ↦ eqb l.id (count is_relation lines)
          | Fk ↦
              eqb l.id (count is_key lines)
              && ltb l.rel (count is_relation lines)
              && ltb l.to (count is_relation lines)
          | Pr ↦ eqb l.id (count is_program lines)
          | St k ↦ eqb l.id n && ltb l.rel (count is_relation lines)
          | Lo ↦ true
          | Br ↦ true
          | El ↦ true
          | En ↦ true
          | Li ↦ ltb l.id (count is_key lines) && ltb l.rel n && ltb l.to n
        ]) ≡ true
        → (l.rel < n) × (l.to < n)
    go Rl e t = absurd (B.false≢true e)
    go Fk e t = absurd (B.false≢true e)
    go Pr e t = absurd (B.false≢true e)
    go (St k) e t = absurd (B.false≢true e)
    go Lo e t = absurd (B.false≢true e)
    go Br e t = absurd (B.false≢true e)
    go El e t = absurd (B.false≢true e)
    go En e t = absurd (B.false≢true e)
    go Li e t =
        let two = both (ltb l.id (count is_key lines)) (ltb l.rel n) (ltb l.to n) t in
        (ltb-true l.rel n two.0, ltb-true l.to n two.1)

-- a statement that passes its naming test has the next id of its program
pub statement_named : (lines : List Line) (l : Line) → is_statement l ≡ true → named lines l ≡ true
    → eqb l.id (length (keep is_statement (program lines))) ≡ true
unfolding is_statement is_statement_of named
statement_named lines l given h = rw (count_keep is_statement (program lines)) at (go l.kind given h)
  where
    n : ℕ
    n = count is_statement (program lines)

    go : (k : LineKind) → is_statement_of (λ j. true) k ≡ true
        → (elim k as (λ x. Bool) [
          | Rl ↦ eqb l.id (count is_relation lines)
          | Fk ↦
              eqb l.id (count is_key lines)
              && ltb l.rel (count is_relation lines)
              && ltb l.to (count is_relation lines)
          | Pr ↦ eqb l.id (count is_program lines)
          | St k ↦ eqb l.id n && ltb l.rel (count is_relation lines)
          | Lo ↦ true
          | Br ↦ true
          | El ↦ true
          | En ↦ true
          | Li ↦ ltb l.id (count is_key lines) && ltb l.rel n && ltb l.to n
        ]) ≡ true
        → eqb l.id n ≡ true
    go Rl e t = absurd (B.false≢true e)
    go Fk e t = absurd (B.false≢true e)
    go Pr e t = absurd (B.false≢true e)
    go (St k) e t = (and_true (eqb l.id n) (ltb l.rel (count is_relation lines)) t).0
    go Lo e t = absurd (B.false≢true e)
    go Br e t = absurd (B.false≢true e)
    go El e t = absurd (B.false≢true e)
    go En e t = absurd (B.false≢true e)
    go Li e t = absurd (B.false≢true e)

-- each block around the first statement is around the second, over the value
pub around_blocks : (lines : List Line) (l : Line) → numbered lines ≡ true
    → (l.rel < length (keep is_statement (program lines))) × (l.to < length (keep is_statement (program lines)))
    → all_around (program lines) l.to l.rel
    ≡ blocks_within (get_or (state_of lines).own.around l.to []) (get_or (state_of lines).own.around l.rel [])
unfolding all_around blocks_within
around_blocks lines l h below =
    ap₂ (λ (p c : List Block). all (λ b. any (λ d. same_block b d) c) p)
    (blocks_around_state lines l.to h below.1)
    (blocks_around_state lines l.rel h below.0)

-- a link fits, over the value
pub link_fits_state : (lines : List Line) (l : Line) → numbered lines ≡ true → named lines l ≡ true
    → link_fits lines l ≡ state_link_fits (state_of lines) l
unfolding link_fits state_link_fits state_of own_of key statement
link_fits_state lines l h n =
    let child = get_or (keep is_statement (program lines)) l.rel unused_line in
    let parent = get_or (keep is_statement (program lines)) l.to unused_line in
    let named_key = get_or (keep is_key lines) l.id unused_line in
    go (is_link l) (eqb child.rel named_key.rel) (eqb parent.rel named_key.to) (is_statement_of can_be_parent parent.kind) _ _
    (λ e. around_blocks lines l h (link_named lines l e n))
  where
    go : (b x y z d d' : Bool) → (b ≡ true → d ≡ d') → not b || (x && y && z && d) ≡ not b || (x && y && z && d')
    go true x y z d d' e = ap (λ t. x && y && z && t) (e refl)
    go false x y z d d' e = refl

-- ---- the fault of a line

-- five tests of which the last matters only where the third passes
first_failed_same : (a b c d e e' : Bool) → (c ≡ true → e ≡ e')
    → first_failed ((9, a) ∷ (7, b) ∷ (6, c) ∷ (5, d) ∷ (8, e) ∷ []) ≡ first_failed ((9, a) ∷ (7, b) ∷ (6, c) ∷ (5, d) ∷ (8, e') ∷ [])
unfolding first_failed
first_failed_same false b c d e e' h = refl
first_failed_same true false c d e e' h = refl
first_failed_same true true false d e e' h = refl
first_failed_same true true true d e e' h =
    ap (λ t. first_failed ((9, true) ∷ (7, true) ∷ (6, true) ∷ (5, d) ∷ (8, t) ∷ [])) (h refl)

-- the fault of a line, over the value
pub fault_state : (lines : List Line) (l : Line) → numbered lines ≡ true → state_fault (state_of lines) l ≡ fault lines l
unfolding fault tests_of state_fault state_tests
fault_state lines l h =
    sym (first_failed_same _ _ _ _ _ _ (link_fits_state lines l h)
    ∙ rw (within_bounds_state lines l, ordered_state lines l, named_state lines l, sets_fit_state lines l))

-- the numbering of lines and one more
pub numbered_from_append : (n : ℕ) (lines : List Line) (l : Line)
    → numbered_from n (lines ++ (l ∷ []))
    ≡ numbered_from n lines && (not (is_statement l) || eqb l.id (n + length (keep is_statement lines)))
unfolding numbered_from
numbered_from_append n [] l = go (is_statement l) (rw (add-zero n))
  where
    go : (b : Bool) {c : Bool} → eqb l.id n ≡ c
        → (elim b as (λ x. Bool) [ true ↦ eqb l.id n && true | false ↦ true ]) ≡ (not b || c)
    go true e = B.and-true (eqb l.id n) ∙ e
    go false e = refl
numbered_from_append n (x ∷ lines) l = go (is_statement x) (numbered_from_append (suc n) lines l) (numbered_from_append n lines l)
  where
    Rest : ℕ → Type 0
    Rest m =
        numbered_from m (lines ++ (l ∷ []))
        ≡ numbered_from m lines && (not (is_statement l) || eqb l.id (m + length (keep is_statement lines)))

    go : (b : Bool) → Rest (suc n) → Rest n
        → (elim b as (λ x. Bool) [
          | true ↦ eqb x.id n && numbered_from (suc n) (lines ++ (l ∷ []))
          | false ↦ numbered_from n (lines ++ (l ∷ []))
        ])
        ≡ (elim b as (λ x. Bool) [ true ↦ eqb x.id n && numbered_from (suc n) lines | false ↦ numbered_from n lines ])
        && (not (is_statement l) || eqb l.id (n + length (cond b (x ∷ keep is_statement lines) (keep is_statement lines))))
    go true ih ih' =
        let last = not (is_statement l) || eqb l.id (suc n + length (keep is_statement lines)) in
        ap (λ t. eqb x.id n && t) ih
        ∙ sym (B.and_assoc (eqb x.id n) (numbered_from (suc n) lines) last)
        ∙ ap (λ t. eqb x.id n && numbered_from (suc n) lines && (not (is_statement l) || eqb l.id t)) (omega arith)
    go false ih ih' = ih'

-- with a line that passes, the statements stay numbered
pub numbered_more : (lines : List Line) (l : Line) → numbered lines ≡ true → fault lines l ≡ none → numbered (lines ++ (l ∷ [])) ≡ true
unfolding numbered numbered_from
numbered_more lines l h f =
    ap (numbered_from 0) (program_append lines l) ∙ go (is_program l) (any is_program lines)
  where
    next : (b : Bool) → is_statement l ≡ b → not b || eqb l.id (0 + length (keep is_statement (program lines))) ≡ true
    next true e = rw (zero-add (length (keep is_statement (program lines)))) (statement_named lines l e (fault_none lines l f).names)
    next false e = refl

    go : (b a : Bool) → numbered_from 0 (elim b [ true ↦ [] | false ↦ cond a (program lines ++ (l ∷ [])) [] ]) ≡ true
    go true a = refl
    go false true = numbered_from_append 0 (program lines) l ∙ and_of h (next (is_statement l) refl)
    go false false = refl
