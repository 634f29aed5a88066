-- The code's steps keep what is needed of the lines taken so far: one line more, then all of it over the lines.
use Rattle.std.specs.Prelude.{◌≡◌, refl, Bool, true, false, cond, not, ◌&&◌, ◌||◌, ℕ, suc, ◌+◌, ◌-◌, ◌*◌, ◌^◌, ◌≤◌, ◌<◌, eqb, ltb, length}
use Rattle.std.proofs.Common.{sym, ap, ap₂, subst, ◌∙◌, arith, add-zero, mod-eq_of_lt, eqb-true, ltb-true, lt-ltb}
use Rattle.std.proofs.Math.Bool as B
use mathlib.Core.List.{List, [], ◌∷◌, ◌++◌, map, tail, append-nil}
use Rattle.std.proofs.Math.Option.{none}
use Rattle.std.specs.Int.Bits.{bit_or}
use Rattle.std.proofs.lemmas.Bool.{eqb-false}
use Rattle.spec_base.specs.Basic.{all, keep}
use Rattle.law_base.specs.BoolLaws.{and_true, and_of, not_true}
use Rattle.law_base.specs.ListLaws.{all_append}
use Rattle.spec_text.specs.declared.Line.{Line}
use Rattle.spec_text.specs.declared.LineKind.{LineKind}
use Rattle.spec_text.specs.declared.LineKind.TheVariants.{Rl, Fk, Pr, St, Lo, Br, El, En, Li}
use Rattle.spec_text.specs.Reading.{sort, is_relation, is_key, is_program, is_statement_or_flow, is_link, is_statement, is_statement_of}
use Rattle.spec_text.specs.Reading.{Block, blocks_after, to_second_arm, fault, none_open, program}
use Rattle.law_text.specs.ReaderState.{Own, State as Before, own_after, own_after_any, empty_own, state_of, state_after, state_bounded, state_in_body}
use Rattle.law_text.specs.ReaderState.{state_none_open, state_innermost, state_ordered, numbered, numbered_from, empty_state}
use Rattle.law_text.specs.ReaderStateLaws.{fault_state, numbered_more, state_of_append, state_of_empty, none_open_state}
use Rattle.line_state.specs.Records.{Tables, Stack, Statements, State}
use Rattle.line_state.specs.StateSteps.{next_of, cell_of, stored_in, mark_of, take_as, check_of, emptied_stack, emptied_statements}
use Rattle.line_state.specs.StateSteps.{pushed_of, popped_of, second_of, with_statement, taken_program, taken_flow}
use Rattle.line_rules.specs.Holds.{mask_of, place_of, part_of, parental_of, Cells, Depths, TablesHold, StackHolds}
use Rattle.line_rules.specs.Holds.{StatementsHold, Keeps, fitting, Good, Holds, fault_of}
use Rattle.line_rules.specs.ArrayLaws.{next_suc, cells_none, cells_map, depths_none, depths_push, depths_pop, depths_top}
use Rattle.line_rules.specs.TestLaws.{Fits, good_bounds, Numbers, numbers_of, of_kind, Lengths, lengths, own_none, own_some, after}
use Rattle.line_rules.specs.TestLaws.{check_kept, state_fault_none}

-- ---- one line more

-- what is shown of a line: the code's value keeps what is needed of the lines with it, and they are still good
abbrev KeptOn : State → Before → Line → Type 0
KeptOn s b l = Keeps s (state_after b l) × Good (state_after b l)

-- the statements with no line of theirs more
statements_same : {x : Statements} {ls : List Line} {around : List (List Block)} → StatementsHold x ls around
    → StatementsHold x (ls ++ []) (around ++ [])
statements_same {x} {ls} {around} h = rw (append-nil ls, append-nil around) h

-- a mark where the place is that of a bit
mark_bit : (part which place : ℕ) → place < 64 → mark_of part which place ≡ cond (eqb part which) (2 ^ place) 0
unfolding mark_of
mark_bit part which place h = ap (λ m. cond (eqb part which) (2 ^ m) 0) (mod-eq_of_lt h)

-- one block more
pushed_kept : (k : Stack) (blocks : List Block) (place part : ℕ) → StackHolds k blocks → length blocks < 31 → place < 64
    → StackHolds (pushed_of k place part) (record { place = place; part = part } ∷ blocks)
unfolding place_of part_of mask_of
pushed_kept k blocks place part h below fits =
    let depth = h.depth in
    let next : next_of k.depth ≡ suc (length blocks) = next_suc k.depth (omega arith) ∙ ap suc depth in
    let b : Block = record { place = place; part = part } in
    let mask : (which : ℕ) (a : List ℕ) → Depths (mask_of which) a blocks
    → Depths (mask_of which) (stored_in a (next_of k.depth) (bit_or (mark_of part which place) (cell_of a k.depth))) (b ∷ blocks)
    = λ which a d. rw (next, depth)
    (depths_push (mask_of which) b (bit_or (mark_of part which place) (cell_of a (length blocks))) d below
    (ap₂ bit_or (mark_bit part which place fits) (depths_top (mask_of which) d (omega arith)))) in
    record {
      depth = next;
      places = rw next (depths_push place_of b place h.places below refl);
      parts = rw next (depths_push part_of b part h.parts below refl);
      loops = mask 0 k.loops h.loops;
      firsts = mask 1 k.firsts h.firsts;
      seconds = mask 2 k.seconds h.seconds;
    }

-- the innermost block closed
popped_kept : (k : Stack) (b : Block) (blocks : List Block) → StackHolds k (b ∷ blocks) → StackHolds (popped_of k) blocks
popped_kept k b blocks h =
    let depth = h.depth in
    record {
      depth = omega arith;
      places = depths_pop place_of b h.places;
      parts = depths_pop part_of b h.parts;
      loops = depths_pop (mask_of 0) b h.loops;
      firsts = depths_pop (mask_of 1) b h.firsts;
      seconds = depths_pop (mask_of 2) b h.seconds;
    }

-- the innermost block goes on with its second arm
second_kept : (k : Stack) (b : Block) (blocks : List Block) → StackHolds k (b ∷ blocks) → length blocks < 31 → b.place < 64
    → StackHolds (second_of k) (record { place = b.place; part = 2 } ∷ blocks)
unfolding place_of
second_kept k b blocks h below fits =
    let place : cell_of k.places k.depth ≡ b.place
    = ap (λ d. cell_of k.places d) h.depth ∙ depths_top place_of h.places (omega arith) in
    rw place (pushed_kept (popped_of k) blocks b.place 2 (popped_kept k b blocks h) below fits)

-- one statement more
statement_kept : (x : Statements) (k : Stack) (ls : List Line) (around : List (List Block)) (blocks : List Block) (l : Line)
    → StatementsHold x ls around → StackHolds k blocks → x.count < 32 → length blocks ≤ 8
    → StatementsHold (with_statement x k l.rel (parental_of l)) (ls ++ (l ∷ [])) (around ++ (blocks ∷ []))
statement_kept x k ls around blocks l h t below few =
    let mask : (which : ℕ) (a o : List ℕ) → Cells x.count a (map (mask_of which) around) → Depths (mask_of which) o blocks
    → Cells (next_of x.count) (stored_in a x.count (cell_of o k.depth)) (map (mask_of which) (around ++ (blocks ∷ [])))
    = λ which a o c d. rw (t.depth, depths_top (mask_of which) d (omega arith)) (cells_map (mask_of which) around blocks c below) in
    record {
      relations = cells_map (λ (y : Line). y.rel) ls l h.relations below;
      parental = cells_map parental_of ls l h.parental below;
      loops = mask 0 x.loops k.loops h.loops t.loops;
      firsts = mask 1 x.firsts k.firsts h.firsts t.firsts;
      seconds = mask 2 x.seconds k.seconds h.seconds t.seconds;
    }

-- no open block: what stands below the first block is still there
stack_emptied : {k : Stack} {blocks : List Block} → StackHolds k blocks → StackHolds (emptied_stack k) []
stack_emptied h =
    record {
      depth = refl;
      places = depths_none place_of h.places;
      parts = depths_none part_of h.parts;
      loops = depths_none (mask_of 0) h.loops;
      firsts = depths_none (mask_of 1) h.firsts;
      seconds = depths_none (mask_of 2) h.seconds;
    }

-- no statement
statements_emptied : {x : Statements} {ls : List Line} {around : List (List Block)} → StatementsHold x ls around
    → StatementsHold (emptied_statements x) [] []
statements_emptied h =
    record {
      relations = cells_none _ h.relations.size;
      parental = cells_none _ h.parental.size;
      loops = cells_none _ h.loops.size;
      firsts = cells_none _ h.firsts.size;
      seconds = cells_none _ h.seconds.size;
    }

-- the innermost block goes on with its second arm, where there is one
second_step : (k : Stack) (blocks : List Block) → StackHolds k blocks → fitting blocks ≡ true → length blocks ≤ 8
    → (elim blocks as (λ x. Bool) [ [] ↦ false | b ∷ rest ↦ eqb b.part 1 ]) ≡ true
    → StackHolds (second_of k) (to_second_arm blocks) × (fitting (to_second_arm blocks) ≡ true)
unfolding to_second_arm fitting
second_step k [] h fit short e = absurd (B.false≢true e)
second_step k (b ∷ blocks) h fit short e =
    let t = and_true (ltb b.part 3 && ltb b.place 64) (all (λ c. ltb c.part 3 && ltb c.place 64) blocks) fit in
    let place = (and_true (ltb b.part 3) (ltb b.place 64) t.0).1 in
    (second_kept k b blocks h (omega arith) (ltb-true b.place 64 place), and_of place t.1)

-- the innermost block closed, where there is one
close_step : (k : Stack) (blocks : List Block) → StackHolds k blocks → fitting blocks ≡ true
    → (elim blocks as (λ x. Bool) [ [] ↦ false | b ∷ rest ↦ eqb b.part 0 ])
    || (elim blocks as (λ x. Bool) [ [] ↦ false | b ∷ rest ↦ eqb b.part 2 ])
    ≡ true
    → StackHolds (popped_of k) (tail blocks) × (fitting (tail blocks) ≡ true)
unfolding fitting
close_step k [] h fit e = absurd (B.false≢true e)
close_step k (b ∷ blocks) h fit e = (
  popped_kept k b blocks h,
  (and_true (ltb b.part 3 && ltb b.place 64) (all (λ c. ltb c.part 3 && ltb c.place 64) blocks) fit).1,
)

-- what is shown of the program at hand holds of all lines with one more
finish : (s : State) (b : Before) (l : Line) (o : Own) → own_after_any b.programs b.own l ≡ o → state_bounded (state_after b l) ≡ true
    → (state_bounded (after b l o) ≡ true → Keeps s (after b l o) × Good (after b l o))
    → Keeps s (state_after b l) × Good (state_after b l)
unfolding state_after
finish s b l o e h f =
    subst (λ q. Keeps s (after b l q) × Good (after b l q)) (sym e) (f (subst (λ q. state_bounded (after b l q) ≡ true) e h))

-- what a line of the program at hand leaves to show
record OwnLine (b : Before) (o : Own) (body links : ℕ) (k : Stack) (x : Statements) : Type 0 where
  body_kept : body ≡ o.body
  links_kept : links ≡ o.links
  stack_kept : StackHolds k o.open_blocks
  statements_kept : StatementsHold x o.statements o.around
  place_more : o.place ≡ suc b.own.place
  place_sum : o.place ≡ o.body + o.links
  blocks_fit : fitting o.open_blocks ≡ true
  around_fit : all fitting o.around ≡ true

-- the line is counted
lines_next : (s : State) (b : Before) → Keeps s b → Good b → next_of s.lines ≡ suc b.lines
lines_next s b k g =
    let n = numbers_of k in
    let w = good_bounds b g.bounds in
    let short = g.short in
    let place = g.place in
    next_suc s.lines (omega arith) ∙ ap suc n.lines

-- a line of the program at hand
own_line : (s : State) (b : Before) (l : Line) (body links : ℕ) (k : Stack) (x : Statements) → Keeps s b → Good b
    → is_relation l ≡ false → is_key l ≡ false → is_program l ≡ false
    → not (eqb b.programs 0) ≡ true → state_bounded (state_after b l) ≡ true
    → (state_bounded (after b l (own_after b.own l)) ≡ true → OwnLine b (own_after b.own l) body links k x)
    → KeptOn (record {
      lines = next_of s.lines;
      programs = s.programs;
      body = body;
      links = links;
      tables = s.tables;
      stack = k;
      statements = x;
    })
    b l
own_line s b l body links k x kept g no_relation no_key no_program begun h f =
    let n = numbers_of kept in
    let counted = g.counted in
    let short = g.short in
    let relations : b.relations ++ keep is_relation (l ∷ []) ≡ b.relations
    = ap (λ t. b.relations ++ cond t (l ∷ []) []) no_relation ∙ append-nil b.relations in
    let keys : b.keys ++ keep is_key (l ∷ []) ≡ b.keys
    = ap (λ t. b.keys ++ cond t (l ∷ []) []) no_key ∙ append-nil b.keys in
    let programs : b.programs + cond (is_program l) 1 0 ≡ b.programs
    = ap (λ t. b.programs + cond t 1 0) no_program ∙ add-zero b.programs in
    let some_program : b.programs ≡ 0 → ⊥ = eqb-false b.programs 0 (not_true (eqb b.programs 0) begun) in
    let more_relations = ap length relations in
    let more_keys = ap length keys in
    finish _ b l (own_after b.own l) (own_some b.programs b.own l no_program begun) h
    (λ fits.
    let v = f fits in
    let place = v.place_more in (
      record {
        lines = lines_next s b kept g;
        programs = n.programs ∙ sym programs;
        body = v.body_kept;
        links = v.links_kept;
        tables = rw (relations, keys) kept.tables;
        stack = v.stack_kept;
        statements = v.statements_kept;
      },
      record {
        bounds = fits;
        place = v.place_sum;
        counted = rw programs (omega arith);
        short = rw programs (omega arith);
        begun = λ q. absurd (some_program (sym programs ∙ q));
        open_fit = v.blocks_fit;
        around_fit = v.around_fit;
      },
    ))

-- what a statement, or a line that opens or closes a block, leaves to show
record BodyLine (o : Own) (k : Stack) (x : Statements) : Type 0 where
  stack_kept : StackHolds k o.open_blocks
  statements_kept : StatementsHold x o.statements o.around
  blocks_fit : fitting o.open_blocks ≡ true
  around_fit : all fitting o.around ≡ true

-- a statement, or a line that opens or closes a block: it is counted in the body, and there is no link yet
body_line : (s : State) (b : Before) (l : Line) (k : Stack) (x : Statements) → Keeps s b → Good b → sort l.kind ≡ 3
    → state_in_body b ≡ true → state_bounded (state_after b l) ≡ true
    → (Fits (after b l (own_after b.own l)) → BodyLine (own_after b.own l) k x)
    → KeptOn (record {
      lines = next_of s.lines;
      programs = s.programs;
      body = next_of s.body;
      links = s.links;
      tables = s.tables;
      stack = k;
      statements = x;
    })
    b l
unfolding state_in_body is_relation is_key is_program is_statement_or_flow is_link own_after
body_line s b l k x kept g e in_Body h f =
    let t = and_true (not (eqb b.programs 0)) (eqb b.own.links 0) in_Body in
    let n = numbers_of kept in
    let w = good_bounds b g.bounds in
    let sum = g.place in
    let one : ◌≡◌ {A = ℕ} (cond (is_statement_or_flow l) 1 0) 1 = ap (λ m. cond (eqb m 3) 1 0) e in
    let none : ◌≡◌ {A = ℕ} (cond (is_link l) 1 0) 0 = ap (λ m. cond (eqb m 4) 1 0) e in
    own_line s b l (next_of s.body) s.links k x kept g (ap (λ m. eqb m 0) e) (ap (λ m. eqb m 1) e) (ap (λ m. eqb m 2) e) t.0 h
    (λ fits.
    let v = f (good_bounds (after b l (own_after b.own l)) fits) in
    record {
      body_kept = next_suc s.body (omega arith) ∙ omega arith;
      links_kept = omega arith;
      stack_kept = v.stack_kept;
      statements_kept = v.statements_kept;
      place_more = refl;
      place_sum = omega arith;
      blocks_fit = v.blocks_fit;
      around_fit = v.around_fit;
    })

-- a line that opens or closes a block leaves the statements
flow_line : (s : State) (b : Before) (l : Line) (k : Stack) → Keeps s b → Good b → sort l.kind ≡ 3 → is_statement l ≡ false
    → state_in_body b ≡ true → state_bounded (state_after b l) ≡ true
    → (Fits (after b l (own_after b.own l))
    → StackHolds k (blocks_after l.kind b.own.place b.own.open_blocks)
    × (fitting (blocks_after l.kind b.own.place b.own.open_blocks) ≡ true))
    → KeptOn (taken_flow s k) b l
unfolding own_after
flow_line s b l k kept g e other in_Body h f =
    body_line s b l k s.statements kept g e in_Body h
    (λ w.
    let v = f w in
    record {
      stack_kept = v.0;
      statements_kept = rw (other, append-nil b.own.statements, append-nil b.own.around) kept.statements;
      blocks_fit = v.1;
      around_fit = rw (other, append-nil b.own.around) g.around_fit;
    })

-- a block begins at the place of the line
opened : (s : State) (b : Before) → Keeps s b → Good b → (part : ℕ) → part < 3 → b.own.links ≡ 0 → b.own.body < 64
    → StackHolds (pushed_of s.stack s.body part) (record { place = b.own.place; part = part } ∷ b.own.open_blocks)
    × (fitting (record { place = b.own.place; part = part } ∷ b.own.open_blocks) ≡ true)
unfolding fitting
opened s b k g part small no_link below =
    let n = numbers_of k in
    let w = good_bounds b g.bounds in
    let sum = g.place in
    let here : s.body ≡ b.own.place = omega arith in (
      subst (λ q. StackHolds (pushed_of s.stack s.body part) (record { place = q; part = part } ∷ b.own.open_blocks)) here
          (pushed_kept s.stack b.own.open_blocks s.body part k.stack (omega arith) (omega arith)),
      and_of (and_of (lt-ltb part 3 small) (lt-ltb b.own.place 64 (omega arith))) g.open_fit,
    )

-- a relation or a key, before the first program
table_line_lem : (s : State) (b : Before) (l : Line) (t : Tables) → Keeps s b → Good b → is_program l ≡ false → b.programs ≡ 0
    → length (b.relations ++ keep is_relation (l ∷ [])) + length (b.keys ++ keep is_key (l ∷ []))
    ≡ length b.relations + length b.keys + 1
    → (Fits (after b l b.own) → TablesHold t (b.relations ++ keep is_relation (l ∷ [])) (b.keys ++ keep is_key (l ∷ [])))
    → state_bounded (state_after b l) ≡ true
    → KeptOn (record {
      lines = next_of s.lines;
      programs = s.programs;
      body = s.body;
      links = s.links;
      tables = t;
      stack = s.stack;
      statements = s.statements;
    })
    b l
table_line_lem s b l t k g other none_yet one_more tables h =
    let n = numbers_of k in
    let counted = g.counted in
    let short = g.short in
    let same : ◌≡◌ {A = ℕ} (cond (is_program l) 1 0) 0 = ap (λ e. cond e 1 0) other in
    finish _ b l b.own (own_none b.programs b.own l other none_yet) h
    (λ fits. (
      record {
        lines = lines_next s b k g;
        programs = omega arith;
        body = n.body;
        links = n.links;
        tables = tables (good_bounds (after b l b.own) fits);
        stack = k.stack;
        statements = k.statements;
      },
      record {
        bounds = fits;
        place = g.place;
        counted = omega arith;
        short = omega arith;
        begun = λ q. g.begun none_yet;
        open_fit = g.open_fit;
        around_fit = g.around_fit;
      },
    ))

-- a program begins
program_line_lem : (s : State) (b : Before) (l : Line) → Keeps s b → Good b → sort l.kind ≡ 2 → state_bounded (state_after b l) ≡ true
    → KeptOn (taken_program s) b l
unfolding is_relation is_key is_program own_after_any empty_own fitting
program_line_lem s b l k g e h =
    let n = numbers_of k in
    let w = good_bounds b g.bounds in
    let counted = g.counted in
    let one : ◌≡◌ {A = ℕ} (cond (is_program l) 1 0) 1 = ap (λ m. cond (eqb m 2) 1 0) e in
    let relations : b.relations ++ keep is_relation (l ∷ []) ≡ b.relations
    = ap (λ m. b.relations ++ cond (eqb m 0) (l ∷ []) []) e ∙ append-nil b.relations in
    let keys : b.keys ++ keep is_key (l ∷ []) ≡ b.keys
    = ap (λ m. b.keys ++ cond (eqb m 1) (l ∷ []) []) e ∙ append-nil b.keys in
    finish _ b l empty_own (rw (e, own_after_any)) h
    (λ fits. (
      record {
        lines = lines_next s b k g;
        programs = next_suc s.programs (omega arith) ∙ omega arith;
        body = refl;
        links = refl;
        tables = rw (relations, keys) k.tables;
        stack = stack_emptied k.stack;
        statements = statements_emptied k.statements;
      },
      record {
        bounds = fits;
        place = refl;
        counted = rw (relations, keys) (omega arith);
        short = rw (relations, keys, one) (short (eqb b.programs 0) refl);
        begun = λ q. absurd (omega arith);
        open_fit = refl;
        around_fit = refl;
      },
    ))
  where
    short : (c : Bool) → eqb b.programs 0 ≡ c
        → suc b.lines ≤ length b.relations + length b.keys + (97 * (b.programs + 1) - 96) + 0
    short true e =
        let none_yet = eqb-true b.programs 0 e in
        let empty = g.begun none_yet in
        let few = g.short in
        omega arith
    short false e =
        let some_program : b.programs ≡ 0 → ⊥ = eqb-false b.programs 0 e in
        let w = good_bounds b g.bounds in
        let sum = g.place in
        let few = g.short in
        omega arith

-- a line that stays within the bounds and in order: the code's value keeps what is needed of the lines with it
pub step_kept : (s : State) (b : Before) → Keeps s b → Good b → (l : Line)
    → state_bounded (state_after b l) ≡ true → state_ordered b l ≡ true
    → Keeps (take_as s l l.kind) (state_after b l) × Good (state_after b l)
unfolding take_as state_ordered state_in_body state_innermost is_program is_relation is_key is_statement is_statement_of is_statement_or_flow is_link sort
    own_after blocks_after parental_of
step_kept s b k g l = go (numbers_of k) (good_bounds b g.bounds) l.kind (lengths b l)
  where
    no_link : state_in_body b ≡ true → b.own.links ≡ 0
    no_link e = eqb-true b.own.links 0 (and_true (not (eqb b.programs 0)) (eqb b.own.links 0) e).1

    go : Numbers s b → Fits b → (kind : LineKind) → Lengths b (of_kind kind l) → state_bounded (state_after b (of_kind kind l)) ≡ true
        → state_ordered b (of_kind kind l) ≡ true
        → KeptOn (take_as s (of_kind kind l) kind) b (of_kind kind l)
    go n w Rl f h e =
        let all_relations = eqb-true b.lines (length b.relations) e in
        let counted = g.counted in
        table_line_lem s b (of_kind Rl l) _ k g refl (omega arith) (omega arith)
        (λ v. record {
          sets = cells_map (λ (x : Line). x.reads) b.relations (of_kind Rl l) k.tables.sets (omega arith);
          children = rw (append-nil b.keys) k.tables.children;
          parents = rw (append-nil b.keys) k.tables.parents;
        })
        h
    go n w Fk f h e =
        let all_tables = eqb-true b.lines (length b.relations + length b.keys) e in
        let counted = g.counted in
        table_line_lem s b (of_kind Fk l) _ k g refl (omega arith) (omega arith)
        (λ v. record {
          sets = rw (append-nil b.relations) k.tables.sets;
          children = cells_map (λ (x : Line). x.rel) b.keys (of_kind Fk l) k.tables.children (omega arith);
          parents = cells_map (λ (x : Line). x.to) b.keys (of_kind Fk l) k.tables.parents (omega arith);
        })
        h
    go n w Pr f h e = program_line_lem s b (of_kind Pr l) k g refl h
    go n w (St j) f h e =
        body_line s b (of_kind (St j) l) s.stack _ k g refl e h
        (λ v. record {
          stack_kept = k.stack;
          statements_kept = statement_kept s.statements s.stack b.own.statements b.own.around b.own.open_blocks
              (of_kind (St j) l) k.statements k.stack (omega arith) (omega arith);
          blocks_fit = g.open_fit;
          around_fit = all_append fitting b.own.around (b.own.open_blocks ∷ []) ∙ and_of g.around_fit (and_of g.open_fit refl);
        })
    go n w Lo f h e = flow_line s b (of_kind Lo l) _ k g refl refl e h (λ v. opened s b k g 0 (omega arith) (no_link e) (omega arith))
    go n w Br f h e = flow_line s b (of_kind Br l) _ k g refl refl e h (λ v. opened s b k g 1 (omega arith) (no_link e) (omega arith))
    go n w El f h e =
        let t = and_true (state_in_body b) _ e in
        flow_line s b (of_kind El l) _ k g refl refl t.0 h
        (λ v. second_step s.stack b.own.open_blocks k.stack g.open_fit (omega arith) t.1)
    go n w En f h e =
        let t = and_true (state_in_body b) _ e in
        flow_line s b (of_kind En l) _ k g refl refl t.0 h
        (λ v. close_step s.stack b.own.open_blocks k.stack g.open_fit t.1)
    go n w Li f h e =
        let t = and_true (not (eqb b.programs 0)) (state_none_open b) e in
        let sum = g.place in
        own_line s b (of_kind Li l) s.body (next_of s.links) s.stack s.statements k g refl refl refl t.0 h
        (λ fits. record {
          body_kept = omega arith;
          links_kept = next_suc s.links (omega arith) ∙ omega arith;
          stack_kept = k.stack;
          statements_kept = statements_same k.statements;
          place_more = refl;
          place_sum = omega arith;
          blocks_fit = g.open_fit;
          around_fit = rw (append-nil b.own.around) g.around_fit;
        })

-- ---- over the lines taken so far

-- the code's number is the fault of the line
pub holds_check : (s : State) (lines : List Line) (l : Line) → Holds s lines → fault_of (check_of s l) ≡ fault lines l
holds_check s lines l h = check_kept s (state_of lines) h.keeps h.good l ∙ fault_state lines l h.numbers

-- with a line that passes its tests
pub holds_take : (s : State) (lines : List Line) (l : Line) → Holds s lines → fault lines l ≡ none
    → Holds (take_as s l l.kind) (lines ++ (l ∷ []))
holds_take s lines l h None-found =
    let passes = state_fault_none (state_of lines) l (fault_state lines l h.numbers ∙ None-found) in
    let step = step_kept s (state_of lines) h.keeps h.good l passes.0 passes.1 in
    record {
      numbers = numbered_more lines l h.numbers None-found;
      good = rw (state_of_append lines l) step.1;
      keeps = rw (state_of_append lines l) step.0;
    }

-- before the first line: the counts are 0, and nothing stands below the first block
pub record Started (s : State) : Type 0 where
  pub lines : s.lines ≡ 0
  pub programs : s.programs ≡ 0
  pub body : s.body ≡ 0
  pub links : s.links ≡ 0
  pub tables : TablesHold s.tables [] []
  pub stack : StackHolds s.stack []
  pub statements : StatementsHold s.statements [] []

pub holds_start : {s : State} → Started s → Holds s []
unfolding empty_state empty_own numbered numbered_from program fitting state_bounded
holds_start {s} h =
    record {
      numbers = refl;
      good =
          rw state_of_empty
          (record {
            bounds = refl;
            place = refl;
            counted = omega arith;
            short = omega arith;
            begun = λ q. refl;
            open_fit = refl;
            around_fit = refl;
          });
      keeps =
          rw state_of_empty
          (record {
            lines = h.lines;
            programs = h.programs;
            body = h.body;
            links = h.links;
            tables = h.tables;
            stack = h.stack;
            statements = h.statements;
          });
    }

-- no block is open where the code keeps none
pub holds_open : (s : State) (lines : List Line) → Holds s lines → none_open lines ≡ eqb s.stack.depth 0
unfolding state_none_open
holds_open s lines h = none_open_state lines ∙ ap (λ d. eqb d 0) (sym h.keeps.stack.depth)

-- the lines taken so far are few
pub holds_few : (s : State) (lines : List Line) → Holds s lines → length lines ≤ 1616
unfolding state_of
holds_few s lines h =
    let bounds = good_bounds (state_of lines) h.good.bounds in
    let place = h.good.place in
    let short = h.good.short in
    omega arith
