-- The code's tests of a line agree with those over the lines taken so far.
use Rattle.std.specs.Prelude.{◌≡◌, refl, Bool, true, false, cond, not, ◌&&◌, ◌||◌, ℕ, zero, suc, ◌+◌, ◌-◌, ◌≤◌, ◌<◌, eqb, leb, ltb, length, get_or}
use Rattle.std.proofs.Common.{sym, ap, ap₂, ◌∙◌, arith, length-append, eqb-true, ltb-true, ltb-false, leb-true, eq-eqb, ne_eqb, lt-ltb, le-leb}
use mathlib.Core.List.{List, [], ◌∷◌, ◌++◌, map, tail}
use Rattle.std.proofs.Math.Option.{none, none-ne-some}
use Rattle.std.proofs.Math.Dec.{eqb-suc-zero}
use Rattle.std.proofs.lemmas.List.{length-map}
use Rattle.std.proofs.lemmas.Bool.{eqb-false}
use Rattle.spec_base.specs.Basic.{all, keep, within}
use Rattle.law_base.specs.BoolLaws.{and_true, and_of, same_test, not_true, not_of_false}
use Rattle.spec_text.specs.declared.Line.{Line}
use Rattle.spec_text.specs.declared.LineKind.{LineKind}
use Rattle.spec_text.specs.declared.LineKind.TheVariants.{Rl, Fk, Pr, St, Lo, Br, El, En, Li}
use Rattle.spec_text.specs.Text.{unused_line}
use Rattle.spec_text.specs.Reading.{sort, is_relation, is_key, is_program, is_statement_or_flow, is_link, is_statement, is_statement_of, can_be_parent}
use Rattle.spec_text.specs.Reading.{Block, blocks_after, to_second_arm, sets_allowed, first_failed}
use Rattle.law_text.specs.ReaderState.{Own, State as Before, own_after, own_after_any, empty_own, state_after, state_bounded, state_in_body}
use Rattle.law_text.specs.ReaderState.{state_none_open, state_innermost, state_ordered, state_named, state_sets_fit, blocks_within, state_link_fits}
use Rattle.law_text.specs.ReaderState.{state_tests, state_fault}
use Rattle.line_state.specs.Records.{Stack, State}
use Rattle.line_state.specs.StateSteps.{cell_of, room_of, ordered_of, named_as, sets_fit_as, is_link_of, check_of, check_by, in_body_of, innermost_of, link_fits_of}
use Rattle.line_rules.specs.Holds.{mask_of, part_of, parental_of, Cells, StackHolds, Keeps, fitting, Good, fault_of}
use Rattle.line_rules.specs.ArrayLaws.{cells_at, depths_top, masks_within}

-- the bounds, as facts
pub record Bounded (relations keys programs statements body links depth : ℕ) : Type 0 where
  pub relations_fit : relations ≤ 32
  pub keys_fit : keys ≤ 32
  pub programs_fit : programs ≤ 16
  pub statements_fit : statements ≤ 32
  pub body_fits : body ≤ 64
  pub links_fit : links ≤ 32
  pub depth_fits : depth ≤ 8

-- the bounds of what is needed of some lines
abbrev pub Fits : Before → Type 0
Fits b =
    Bounded (length b.relations) (length b.keys) b.programs (length b.own.statements) b.own.body b.own.links
    (length b.own.open_blocks)

bounds_of : (b : Before) → Fits b → state_bounded b ≡ true
unfolding state_bounded
bounds_of b h =
    and_of (and_of (and_of (and_of (and_of (and_of (le-leb _ 32 h.relations_fit) (le-leb _ 32 h.keys_fit))
    (le-leb _ 16 h.programs_fit)) (le-leb _ 32 h.statements_fit)) (le-leb _ 64 h.body_fits)) (le-leb _ 32 h.links_fit))
    (le-leb _ 8 h.depth_fits)

-- the bounds of lines that all passed
pub good_bounds : (b : Before) → state_bounded b ≡ true → Fits b
unfolding state_bounded
good_bounds b h =
    let t6 = and_true _ (leb (length b.own.open_blocks) 8) h in
    let t5 = and_true _ (leb b.own.links 32) t6.0 in
    let t4 = and_true _ (leb b.own.body 64) t5.0 in
    let t3 = and_true _ (leb (length b.own.statements) 32) t4.0 in
    let t2 = and_true _ (leb b.programs 16) t3.0 in
    let t1 = and_true (leb (length b.relations) 32) (leb (length b.keys) 32) t2.0 in
    record {
      relations_fit = leb-true _ 32 t1.0;
      keys_fit = leb-true _ 32 t1.1;
      programs_fit = leb-true _ 16 t2.1;
      statements_fit = leb-true _ 32 t3.1;
      body_fits = leb-true _ 64 t4.1;
      links_fit = leb-true _ 32 t5.1;
      depth_fits = leb-true _ 8 t6.1;
    }

-- the numbers that the code keeps are those of the lines
pub record Numbers (s : State) (b : Before) : Type 0 where
  pub lines : s.lines ≡ b.lines
  pub relations : s.tables.relations ≡ length b.relations
  pub keys : s.tables.keys ≡ length b.keys
  pub programs : s.programs ≡ b.programs
  pub statements : s.statements.count ≡ length b.own.statements
  pub around : s.statements.count ≡ length b.own.around
  pub body : s.body ≡ b.own.body
  pub links : s.links ≡ b.own.links
  pub depth : s.stack.depth ≡ length b.own.open_blocks

pub numbers_of : {s : State} {b : Before} → Keeps s b → Numbers s b
numbers_of {s} {b} k =
    record {
      lines = k.lines;
      relations = k.tables.sets.count ∙ length-map b.relations (λ (l : Line). l.reads);
      keys = k.tables.children.count ∙ length-map b.keys (λ (l : Line). l.rel);
      programs = k.programs;
      statements = k.statements.relations.count ∙ length-map b.own.statements (λ (l : Line). l.rel);
      around = k.statements.loops.count ∙ length-map b.own.around (mask_of 0);
      body = k.body;
      links = k.links;
      depth = k.stack.depth;
    }

-- a line's values with this kind: what is shown for each kind holds of the line with its own
abbrev pub of_kind : LineKind → Line → Line
of_kind kind l =
    record { kind = kind; id = l.id; rel = l.rel; to = l.to; reads = l.reads; writes = l.writes; tests = l.tests }

-- a number is the sum of two
sum_test : (n a b : ℕ) → not (ltb n a) && eqb (n - a) b ≡ eqb n (a + b)
sum_test n a b = go (ltb n a) refl (eqb (n - a) b) refl
  where
    go : (c : Bool) → ltb n a ≡ c → (d : Bool) → eqb (n - a) b ≡ d → not c && d ≡ eqb n (a + b)
    go true e d f = let h = ltb-true n a e in sym (ne_eqb n (a + b) (omega arith))
    go false e true f =
        let h = ltb-false n a e in
        let g = eqb-true (n - a) b f in
        sym (eq-eqb n (a + b) (omega arith))
    go false e false f =
        let h = ltb-false n a e in
        let g : n - a ≡ b → ⊥ = eqb-false (n - a) b f in
        sym (ne_eqb n (a + b) (λ q. g (omega arith)))

-- the innermost open block is of a part
innermost_kept : (k : Stack) (blocks : List Block) (part : ℕ) → StackHolds k blocks → length blocks ≤ 8
    → innermost_of k part ≡ elim blocks [ [] ↦ false | b ∷ rest ↦ eqb b.part part ]
unfolding part_of
innermost_kept k [] part h few = rw h.depth
innermost_kept k (b ∷ blocks) part h few =
    ap (λ d. not (eqb d 0) && eqb (cell_of k.parts d) part) h.depth
    ∙ ap₂ (λ (x : Bool) (y : ℕ). not x && eqb y part) (eqb-suc-zero (length blocks)) (depths_top part_of h.parts (omega arith))

pub ordered_kept : (s : State) (b : Before) → Keeps s b → Good b → (l : Line) → ordered_of s l.kind ≡ state_ordered b l
unfolding ordered_of state_ordered state_in_body state_none_open state_innermost
ordered_kept s b k g l = go l.kind
  where
    n : Numbers s b
    n = numbers_of k

    body : in_body_of s.programs s.links ≡ not (eqb b.programs 0) && eqb b.own.links 0
    body = ap₂ in_body_of n.programs n.links

    inner : (part : ℕ) → innermost_of s.stack part ≡ state_innermost b part
    inner part = innermost_kept s.stack b.own.open_blocks part k.stack (good_bounds b g.bounds).depth_fits

    go : (kind : LineKind) → ordered_of s kind ≡ state_ordered b (of_kind kind l)
    go Rl = ap₂ eqb n.lines n.relations
    go Fk = sum_test s.lines s.tables.relations s.tables.keys ∙ ap₂ eqb n.lines (ap₂ ◌+◌ n.relations n.keys)
    go Pr = ap (λ d. eqb d 0) n.depth
    go (St j) = body
    go Lo = body
    go Br = body
    go El = ap₂ ◌&&◌ body (inner 1)
    go En = ap₂ ◌&&◌ body (ap₂ ◌||◌ (inner 0) (inner 2))
    go Li = ap₂ ◌&&◌ (ap (λ p. not (eqb p 0)) n.programs) (ap (λ d. eqb d 0) n.depth)

pub named_kept : (s : State) (b : Before) → Keeps s b → (l : Line) → named_as s l l.kind ≡ state_named b l
unfolding named_as state_named
named_kept s b k l = go l.kind
  where
    n : Numbers s b
    n = numbers_of k

    go : (kind : LineKind) → named_as s (of_kind kind l) kind ≡ state_named b (of_kind kind l)
    go Rl = ap (eqb l.id) n.relations
    go Fk = ap₂ (λ f r. eqb l.id f && ltb l.rel r && ltb l.to r) n.keys n.relations
    go Pr = ap (eqb l.id) n.programs
    go (St j) = ap₂ (λ f r. eqb l.id f && ltb l.rel r) n.statements n.relations
    go Lo = refl
    go Br = refl
    go El = refl
    go En = refl
    go Li = ap₂ (λ f r. ltb l.id f && ltb l.rel r && ltb l.to r) n.keys n.statements

pub sets_fit_kept : (s : State) (b : Before) → Keeps s b → (l : Line) → state_named b l ≡ true
    → sets_fit_as s.tables l l.kind ≡ state_sets_fit b l
unfolding sets_fit_as state_sets_fit state_named unused_line
sets_fit_kept s b k l = go l.kind
  where
    whole : ltb l.rel (length b.relations) ≡ true → cell_of s.tables.sets l.rel ≡ (get_or b.relations l.rel unused_line).reads
    whole h =
        let below = ltb-true l.rel (length b.relations) h in
        let count = (numbers_of k).relations in
        cells_at (λ (x : Line). x.reads) unused_line refl b.relations k.tables.sets l.rel (omega arith)

    go : (kind : LineKind) → state_named b (of_kind kind l) ≡ true
        → sets_fit_as s.tables (of_kind kind l) kind ≡ state_sets_fit b (of_kind kind l)
    go (St j) h =
        ap
        (λ v. sets_allowed v j (of_kind (St j) l))
        (whole (and_true (eqb l.id (length b.own.statements)) (ltb l.rel (length b.relations)) h).1)
    go Rl h = refl
    go Fk h = refl
    go Pr h = refl
    go Lo h = refl
    go Br h = refl
    go El h = refl
    go En h = refl
    go Li h = refl

-- a test that passes everywhere passes at a place
get_d_passes : {A : Type 0} (p : A → Bool) (d : A) → p d ≡ true → (l : List A) → all p l ≡ true → (i : ℕ) → p (get_or l i d) ≡ true
get_d_passes p d e [] h i = e
get_d_passes p d e (x ∷ l) h zero = (and_true (p x) (all p l) h).0
get_d_passes p d e (x ∷ l) h (suc i) = get_d_passes p d e l (and_true (p x) (all p l) h).1 i

-- a link over the value, and over the lines
link_kept_lem : (s : State) (b : Before) → Keeps s b → Good b → (l : Line)
    → l.id < length b.keys → l.rel < length b.own.statements → l.to < length b.own.statements
    → link_fits_of s.tables s.statements l
    ≡ eqb (get_or b.own.statements l.rel unused_line).rel (get_or b.keys l.id unused_line).rel
    && eqb (get_or b.own.statements l.to unused_line).rel (get_or b.keys l.id unused_line).to
    && is_statement_of can_be_parent (get_or b.own.statements l.to unused_line).kind
    && blocks_within (get_or b.own.around l.to []) (get_or b.own.around l.rel [])
unfolding unused_line parental_of is_statement_of mask_of fitting
link_kept_lem s b k g l id_Below rel_below to_below =
    let n = numbers_of k in
    let keys_count = n.keys in
    let count = n.statements in
    let around_count = n.around in
    let statement_at_lem : (i : ℕ) → i < length b.own.statements
    → cell_of s.statements.relations i ≡ (get_or b.own.statements i unused_line).rel
    = λ i h. cells_at (λ (x : Line). x.rel) unused_line refl b.own.statements k.statements.relations i (omega arith) in
    let blocks_at : (which : ℕ) (a : List ℕ) → Cells s.statements.count a (map (mask_of which) b.own.around) → (i : ℕ)
    → i < length b.own.statements → cell_of a i ≡ mask_of which (get_or b.own.around i [])
    = λ which a c i h. cells_at (mask_of which) [] refl b.own.around c i (omega arith) in
    let within_at : (which : ℕ) (a : List ℕ) → Cells s.statements.count a (map (mask_of which) b.own.around)
    → within (cell_of a l.to) (cell_of a l.rel)
    ≡ within (mask_of which (get_or b.own.around l.to [])) (mask_of which (get_or b.own.around l.rel []))
    = λ which a c. ap₂ within (blocks_at which a c l.to to_below) (blocks_at which a c l.rel rel_below) in
    let parental_at : eqb (cell_of s.statements.parental l.to) 1
    ≡ is_statement_of can_be_parent (get_or b.own.statements l.to unused_line).kind
    = ap (λ v. eqb v 1) (cells_at parental_of unused_line refl b.own.statements k.statements.parental l.to (omega arith))
    ∙ one (is_statement_of can_be_parent (get_or b.own.statements l.to unused_line).kind) in
    let key_at_lem : cell_of s.tables.children l.id ≡ (get_or b.keys l.id unused_line).rel
    = cells_at (λ (x : Line). x.rel) unused_line refl b.keys k.tables.children l.id (omega arith) in
    let key_to : cell_of s.tables.parents l.id ≡ (get_or b.keys l.id unused_line).to
    = cells_at (λ (x : Line). x.to) unused_line refl b.keys k.tables.parents l.id (omega arith) in
    ap₂ ◌&&◌
    (ap₂ ◌&&◌ (ap₂ ◌&&◌ (ap₂ eqb (statement_at_lem l.rel rel_below) key_at_lem) (ap₂ eqb (statement_at_lem l.to to_below) key_to)) parental_at)
    (ap₂ ◌&&◌ (ap₂ ◌&&◌ (within_at 0 s.statements.loops k.statements.loops)
    (within_at 1 s.statements.firsts k.statements.firsts))
    (within_at 2 s.statements.seconds k.statements.seconds)
    ∙ masks_within (get_or b.own.around l.to []) (get_or b.own.around l.rel [])
    (get_d_passes fitting [] refl b.own.around g.around_fit l.to))
  where
    one : (c : Bool) → eqb (cond c 1 0) 1 ≡ c
    one true = refl
    one false = refl

-- a link fits, over the value
pub link_fits_kept : (s : State) (b : Before) → Keeps s b → Good b → (l : Line) → state_named b l ≡ true
    → not (is_link_of l.kind) || link_fits_of s.tables s.statements l ≡ state_link_fits b l
unfolding is_link_of state_link_fits is_link sort state_named
link_fits_kept s b k g l = go l.kind
  where
    go : (kind : LineKind) → state_named b (of_kind kind l) ≡ true
        → not (is_link_of kind) || link_fits_of s.tables s.statements (of_kind kind l) ≡ state_link_fits b (of_kind kind l)
    go Li h =
        let statements = length b.own.statements in
        let t = and_true _ (ltb l.to statements) h in
        let u = and_true (ltb l.id (length b.keys)) (ltb l.rel statements) t.0 in
        link_kept_lem s b k g (of_kind Li l) (ltb-true l.id (length b.keys) u.0) (ltb-true l.rel statements u.1)
        (ltb-true l.to statements t.1)
    go Rl h = refl
    go Fk h = refl
    go Pr h = refl
    go (St j) h = refl
    go Lo h = refl
    go Br h = refl
    go El h = refl
    go En h = refl

-- the code's number and the first test that fails
check_first : (r o n s k f s' f' : Bool) → (n ≡ true → s ≡ s') → (n ≡ true → not k || f ≡ f')
    → fault_of (check_by r o n s k f) ≡ first_failed ((9, r) ∷ (7, o) ∷ (6, n) ∷ (5, s') ∷ (8, f') ∷ [])
unfolding fault_of first_failed
check_first false o n s k f s' f' p q = refl
check_first true false n s k f s' f' p q = refl
check_first true true false s k f s' f' p q = refl
check_first true true true s k f s' f' p q = go s k f (p refl) (q refl)
  where
    go : (s k f : Bool) → s ≡ s' → not k || f ≡ f'
        → fault_of (cond s (cond k (cond f 0 8) 0) 5)
        ≡ first_failed ((5, s') ∷ (8, f') ∷ [])
    go false k f e h = ap (λ t. first_failed ((5, t) ∷ (8, f') ∷ [])) e
    go true true true e h = ap₂ (λ t u. first_failed ((5, t) ∷ (8, u) ∷ [])) e h
    go true true false e h = ap₂ (λ t u. first_failed ((5, t) ∷ (8, u) ∷ [])) e h
    go true false f e h = ap₂ (λ t u. first_failed ((5, t) ∷ (8, u) ∷ [])) e h

-- ---- room
-- a test that holds exactly within the bounds is the bounds' test
bounds_same : (t : Bool) (b : Before) → (t ≡ true → Fits b) → (Fits b → t ≡ true) → t ≡ state_bounded b
bounds_same t b to back = same_test t (state_bounded b) (λ e. bounds_of b (to e)) (λ e. back (good_bounds b e))

-- the same for a test of one number, and for one of two
one_bound : (a m : ℕ) (b : Before) → (a < m → Fits b) → (Fits b → a < m) → ltb a m ≡ state_bounded b
one_bound a m b to back = bounds_same (ltb a m) b (λ e. to (ltb-true a m e)) (λ h. lt-ltb a m (back h))

two_bounds : (a m c q : ℕ) (b : Before) → (a < m → c < q → Fits b) → (Fits b → (a < m) × (c < q)) → ltb a m && ltb c q ≡ state_bounded b
two_bounds a m c q b to back =
    bounds_same (ltb a m && ltb c q) b
    (λ e. let t = and_true (ltb a m) (ltb c q) e in to (ltb-true a m t.0) (ltb-true c q t.1))
    (λ h. let t = back h in and_of (lt-ltb a m t.0) (lt-ltb c q t.1))

length_to_second_arm : (blocks : List Block) → length (to_second_arm blocks) ≡ length blocks
unfolding to_second_arm
length_to_second_arm [] = refl
length_to_second_arm (b ∷ blocks) = refl

length_tail : (blocks : List Block) → length (tail blocks) ≤ length blocks
length_tail [] = omega arith
length_tail (b ∷ blocks) = omega arith

-- the lengths of the lists that one line more may lengthen
pub record Lengths (b : Before) (l : Line) : Type 0 where
  pub relations_same : length (b.relations ++ []) ≡ length b.relations + 0
  pub relations_more : length (b.relations ++ (l ∷ [])) ≡ length b.relations + 1
  pub keys_same : length (b.keys ++ []) ≡ length b.keys + 0
  pub keys_more : length (b.keys ++ (l ∷ [])) ≡ length b.keys + 1
  pub statements_same : length (b.own.statements ++ []) ≡ length b.own.statements + 0
  pub statements_more : length (b.own.statements ++ (l ∷ [])) ≡ length b.own.statements + 1
  pub second_arm_lem : length (to_second_arm b.own.open_blocks) ≡ length b.own.open_blocks
  pub closed : length (tail b.own.open_blocks) ≤ length b.own.open_blocks

pub lengths : (b : Before) (l : Line) → Lengths b l
lengths b l =
    record {
      relations_same = length-append b.relations [];
      relations_more = length-append b.relations (l ∷ []);
      keys_same = length-append b.keys [];
      keys_more = length-append b.keys (l ∷ []);
      statements_same = length-append b.own.statements [];
      statements_more = length-append b.own.statements (l ∷ []);
      second_arm_lem = length_to_second_arm b.own.open_blocks;
      closed = length_tail b.own.open_blocks;
    }

-- a line before the first program leaves the program at hand
pub own_none : (programs : ℕ) (o : Own) (l : Line) → is_program l ≡ false → programs ≡ 0 → own_after_any programs o l ≡ o
unfolding own_after_any
own_none programs o l h e = rw (h, own_after_any) (rw e)

-- a line of a program
pub own_some : (programs : ℕ) (o : Own) (l : Line) → is_program l ≡ false → not (eqb programs 0) ≡ true → own_after_any programs o l ≡ own_after o l
unfolding own_after_any
own_some programs o l h e = rw (h, own_after_any) (rw (not_true (eqb programs 0) e))

-- all lines with one more, where the program at hand is given
abbrev pub after : Before → Line → Own → Before
after b l o =
    record {
      lines = suc b.lines;
      relations = b.relations ++ keep is_relation (l ∷ []);
      keys = b.keys ++ keep is_key (l ∷ []);
      programs = b.programs + cond (is_program l) 1 0;
      own = o;
    }

-- the bounds with a line that begins no program: shown before the first program, and within one
room_cases : (b : Before) (l : Line) (t : Bool) → is_program l ≡ false
    → (eqb b.programs 0 ≡ true → t ≡ state_bounded (after b l b.own))
    → (eqb b.programs 0 ≡ false → t ≡ state_bounded (after b l (own_after b.own l)))
    → t ≡ state_bounded (state_after b l)
unfolding state_after
room_cases b l t h none_yet begun = go (eqb b.programs 0) refl
  where
    go : (e : Bool) → eqb b.programs 0 ≡ e → t ≡ state_bounded (state_after b l)
    go true e =
        none_yet e ∙ ap (λ o. state_bounded (after b l o)) (sym (own_none b.programs b.own l h (eqb-true b.programs 0 e)))
    go false e =
        begun e ∙ ap (λ o. state_bounded (after b l o)) (sym (own_some b.programs b.own l h (not_of_false e)))

-- the bounds with a line of a program: before the first program there is room for it
own_room : (b : Before) (l : Line) {p : Bool} (t : Bool) → p ≡ eqb b.programs 0 → is_program l ≡ false → Fits (after b l b.own)
    → t ≡ state_bounded (after b l (own_after b.own l)) → p || t ≡ state_bounded (state_after b l)
own_room b l {p} t e h fits begun =
    room_cases b l (p || t) h
    (λ q. ap (λ x. x || t) (e ∙ q) ∙ sym (bounds_of (after b l b.own) fits))
    (λ q. ap (λ x. x || t) (e ∙ q) ∙ begun)

-- the test for room is the test of the bounds with one line more
pub room_kept : (s : State) (b : Before) → Keeps s b → Good b → (l : Line) → room_of s l.kind ≡ state_bounded (state_after b l)
unfolding room_of state_after own_after_any own_after empty_own is_relation is_key is_program is_statement_or_flow is_link is_statement is_statement_of sort
    blocks_after to_second_arm
room_kept s b k g l = go (good_bounds b g.bounds) (numbers_of k) l.kind (lengths b l)
  where
    begun : eqb s.programs 0 ≡ eqb b.programs 0
    begun = ap (λ p. eqb p 0) (numbers_of k).programs

    go : Fits b → Numbers s b → (kind : LineKind) → Lengths b (of_kind kind l) → room_of s kind ≡ state_bounded (state_after b (of_kind kind l))
    go w n Rl f =
        room_cases b (of_kind Rl l) _ refl
        (λ e. one_bound s.tables.relations 32 _ (λ h. omega arith) (λ h. omega arith))
        (λ e. one_bound s.tables.relations 32 _ (λ h. omega arith) (λ h. omega arith))
    go w n Fk f =
        room_cases b (of_kind Fk l) _ refl
        (λ e. one_bound s.tables.keys 32 _ (λ h. omega arith) (λ h. omega arith))
        (λ e. one_bound s.tables.keys 32 _ (λ h. omega arith) (λ h. omega arith))
    go w n Pr f = one_bound s.programs 16 _ (λ h. omega arith) (λ h. omega arith)
    go w n (St j) f =
        own_room b (of_kind (St j) l) _ begun refl (omega arith)
        (two_bounds s.statements.count 32 s.body 64 _ (λ h h'. omega arith) (λ h. omega arith))
    go w n Lo f =
        own_room b (of_kind Lo l) _ begun refl (omega arith)
        (two_bounds s.body 64 s.stack.depth 8 _ (λ h h'. omega arith) (λ h. omega arith))
    go w n Br f =
        own_room b (of_kind Br l) _ begun refl (omega arith)
        (two_bounds s.body 64 s.stack.depth 8 _ (λ h h'. omega arith) (λ h. omega arith))
    go w n El f = own_room b (of_kind El l) _ begun refl (omega arith) (one_bound s.body 64 _ (λ h. omega arith) (λ h. omega arith))
    go w n En f = own_room b (of_kind En l) _ begun refl (omega arith) (one_bound s.body 64 _ (λ h. omega arith) (λ h. omega arith))
    go w n Li f = own_room b (of_kind Li l) _ begun refl (omega arith) (one_bound s.links 32 _ (λ h. omega arith) (λ h. omega arith))

-- ---- the fault of a line

-- the code's number is the fault over the lines
pub check_kept : (s : State) (b : Before) → Keeps s b → Good b → (l : Line) → fault_of (check_of s l) ≡ state_fault b l
unfolding state_fault state_tests
check_kept s b k g l =
    check_first (room_of s l.kind) (ordered_of s l.kind) (named_as s l l.kind) (sets_fit_as s.tables l l.kind)
    (is_link_of l.kind) (link_fits_of s.tables s.statements l) (state_sets_fit b l) (state_link_fits b l)
    (λ e. sets_fit_kept s b k l (sym (named_kept s b k l) ∙ e))
    (λ e. link_fits_kept s b k g l (sym (named_kept s b k l) ∙ e))
    ∙ rw (room_kept s b k g l, ordered_kept s b k g l, named_kept s b k l)

-- a line with no fault stays within the bounds and in order
pub state_fault_none : (b : Before) (l : Line) → state_fault b l ≡ none → (state_bounded (state_after b l) ≡ true) × (state_ordered b l ≡ true)
unfolding state_fault state_tests first_failed
state_fault_none b l h = go (state_bounded (state_after b l)) (state_ordered b l) refl refl h
  where
    rest : List (ℕ × Bool)
    rest = (6, state_named b l) ∷ (5, state_sets_fit b l) ∷ (8, state_link_fits b l) ∷ []

    go : (x y : Bool) → state_bounded (state_after b l) ≡ x → state_ordered b l ≡ y → first_failed ((9, x) ∷ (7, y) ∷ rest) ≡ none
        → (state_bounded (state_after b l) ≡ true) × (state_ordered b l ≡ true)
    go true true p q f = (p, q)
    go true false p q f = absurd (none-ne-some 7 (sym f))
    go false y p q f = absurd (none-ne-some 9 (sym f))
