-- What reading needs of the lines taken so far, as a value that grows line by line, and the tests of a line over it. A step between
-- `Reading`, which looks at all lines before each line, and the code, which keeps this value. Laws in `StateLaws`.
use Rattle.std.specs.Prelude.{Bool, true, false, cond, not, ◌&&◌, ◌||◌, List, [], ◌∷◌, ◌++◌, ℕ, suc, ◌+◌, eqb, leb, ltb, length, get_or}
use Rattle.std.proofs.Math.Option.{Option}
use Rattle.spec_base.specs.Basic.{any, all, keep, count}
use Rattle.spec_text.specs.declared.Line.{Line}
use Rattle.spec_text.specs.declared.LineKind.TheVariants.{Rl, Fk, Pr, St, Lo, Br, El, En, Li}
use Rattle.spec_text.specs.Text.{unused_line}
use Rattle.spec_text.specs.Reading.{is_relation, is_key, is_program, is_statement_or_flow, is_link, is_statement, is_statement_of, can_be_parent}
use Rattle.spec_text.specs.Reading.{Block, same_block, blocks_after, open_blocks, program, loop, first_arm, second_arm, sets_allowed, first_failed}

-- what is needed of the lines of the program at hand
pub record Own : Type 0 where
  -- how many lines, how many of them statements and flow, how many links
  pub place : ℕ
  pub body : ℕ
  pub links : ℕ
  -- the open blocks, innermost first
  pub open_blocks : List Block
  -- the statements, and the blocks around each
  pub statements : List Line
  pub around : List (List Block)

-- what is needed of all lines
pub record State : Type 0 where
  pub lines : ℕ
  pub relations : List Line
  pub keys : List Line
  pub programs : ℕ
  pub own : Own

-- the blocks around each statement of lines, from those around the first line and its place
unfoldable pub around_from : ℕ → List Block → List Line → List (List Block)
around_from place blocks [] = []
around_from place blocks (l ∷ lines) =
    let rest = around_from (suc place) (blocks_after l.kind place blocks) lines in
    cond (is_statement l) (blocks ∷ rest) rest

unfoldable pub own_of : List Line → Own
own_of lines =
    record {
      place = length lines;
      body = count is_statement_or_flow lines;
      links = count is_link lines;
      open_blocks = open_blocks lines;
      statements = keep is_statement lines;
      around = around_from 0 [] lines;
    }

unfoldable pub state_of : List Line → State
state_of lines =
    record {
      lines = length lines;
      relations = keep is_relation lines;
      keys = keep is_key lines;
      programs = count is_program lines;
      own = own_of (program lines);
    }

-- a program with no line yet
unfoldable pub empty_own : Own
empty_own = record { place = 0; body = 0; links = 0; open_blocks = []; statements = []; around = [] }

-- no line yet
unfoldable pub empty_state : State
empty_state = record { lines = 0; relations = []; keys = []; programs = 0; own = empty_own }

-- the program at hand with one line more
unfoldable pub own_after : Own → Line → Own
own_after o l =
    record {
      place = suc o.place;
      body = o.body + cond (is_statement_or_flow l) 1 0;
      links = o.links + cond (is_link l) 1 0;
      open_blocks = blocks_after l.kind o.place o.open_blocks;
      statements = o.statements ++ keep is_statement (l ∷ []);
      around = o.around ++ cond (is_statement l) (o.open_blocks ∷ []) [];
    }

-- T6: a `pr` begins a program; a line before the first `pr` belongs to none
unfoldable pub own_after_any : ℕ → Own → Line → Own
own_after_any programs o l =
    elim (is_program l) [ true ↦ empty_own | false ↦ elim (eqb programs 0) [ true ↦ o | false ↦ own_after o l ] ]

-- one line more
unfoldable pub state_after : State → Line → State
state_after s l =
    record {
      lines = suc s.lines;
      relations = s.relations ++ keep is_relation (l ∷ []);
      keys = s.keys ++ keep is_key (l ∷ []);
      programs = s.programs + cond (is_program l) 1 0;
      own = own_after_any s.programs s.own l;
    }

-- T12: the bounds on lines
unfoldable pub state_bounded : State → Bool
state_bounded s =
    leb (length s.relations) 32
    && leb (length s.keys) 32
    && leb s.programs 16
    && leb (length s.own.statements) 32
    && leb s.own.body 64
    && leb s.own.links 32
    && leb (length s.own.open_blocks) 8

-- T6: a program has begun, and its links have not
unfoldable pub state_in_body : State → Bool
state_in_body s = not (eqb s.programs 0) && eqb s.own.links 0

-- T8: no block is open
unfoldable pub state_none_open : State → Bool
state_none_open s = eqb (length s.own.open_blocks) 0

-- T8: the innermost open block is of this part
unfoldable pub state_innermost : State → ℕ → Bool
state_innermost s part = elim s.own.open_blocks [ [] ↦ false | b ∷ blocks ↦ eqb b.part part ]

-- R7: the order of lines
unfoldable pub state_ordered : State → Line → Bool
state_ordered s l =
    elim l.kind [
      | Rl ↦ eqb s.lines (length s.relations)
      | Fk ↦ eqb s.lines (length s.relations + length s.keys)
      | Pr ↦ state_none_open s
      | St k ↦ state_in_body s
      | Lo ↦ state_in_body s
      | Br ↦ state_in_body s
      | El ↦ state_in_body s && state_innermost s first_arm
      | En ↦ state_in_body s && (state_innermost s loop || state_innermost s second_arm)
      | Li ↦ not (eqb s.programs 0) && state_none_open s
    ]

-- R6: ids and what a line names
unfoldable pub state_named : State → Line → Bool
state_named s l =
    elim l.kind [
      | Rl ↦ eqb l.id (length s.relations)
      | Fk ↦
          eqb l.id (length s.keys)
          && ltb l.rel (length s.relations)
          && ltb l.to (length s.relations)
      | Pr ↦ eqb l.id s.programs
      | St k ↦ eqb l.id (length s.own.statements) && ltb l.rel (length s.relations)
      | Lo ↦ true
      | Br ↦ true
      | El ↦ true
      | En ↦ true
      | Li ↦
          ltb l.id (length s.keys)
          && ltb l.rel (length s.own.statements)
          && ltb l.to (length s.own.statements)
    ]

-- R5: the sets of a line
unfoldable pub state_sets_fit : State → Line → Bool
state_sets_fit s l =
    elim l.kind [
      | Rl ↦ not (eqb l.reads 0)
      | St k ↦ sets_allowed (get_or s.relations l.rel unused_line).reads k l
      | Fk ↦ true
      | Pr ↦ true
      | Lo ↦ true
      | Br ↦ true
      | El ↦ true
      | En ↦ true
      | Li ↦ true
    ]

-- R8: every block of the first list is in the second
unfoldable pub blocks_within : List Block → List Block → Bool
blocks_within parent child = all (λ b. any (λ c. same_block b c) child) parent

-- R8: a link fits its key and its statements
unfoldable pub state_link_fits : State → Line → Bool
state_link_fits s l =
    let child = get_or s.own.statements l.rel unused_line in
    let parent = get_or s.own.statements l.to unused_line in
    let key = get_or s.keys l.id unused_line in
    not (is_link l)
    || (eqb child.rel key.rel
    && eqb parent.rel key.to
    && is_statement_of can_be_parent parent.kind
    && blocks_within (get_or s.own.around l.to []) (get_or s.own.around l.rel []))

-- R9, R7, R6, R5, R8: the tests of a line, in the order listed
unfoldable pub state_tests : State → Line → List (ℕ × Bool)
state_tests s l =
    (9, state_bounded (state_after s l))
    ∷ (7, state_ordered s l)
    ∷ (6, state_named s l)
    ∷ (5, state_sets_fit s l)
    ∷ (8, state_link_fits s l) ∷ []

unfoldable pub state_fault : State → Line → Option ℕ
state_fault s l = first_failed (state_tests s l)

-- T7: the statements of lines have the ids from n on, in order
unfoldable pub numbered_from : ℕ → List Line → Bool
numbered_from n [] = true
numbered_from n (l ∷ lines) = elim (is_statement l) [ true ↦ eqb l.id n && numbered_from (suc n) lines | false ↦ numbered_from n lines ]

-- T7: the statements of the program at hand have the ids from 0 on: so it is where every line passed its tests
unfoldable pub numbered : List Line → Bool
numbered lines = numbered_from 0 (program lines)
