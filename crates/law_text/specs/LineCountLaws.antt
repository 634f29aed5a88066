-- How many lines an accepted text has: no more than a workload value has cells.
use Rattle.std.specs.Prelude.{◌≡◌, refl, Bool, true, false, not, ◌&&◌, ◌||◌, cond, List, [], ◌∷◌, ◌++◌, ◌⊎◌, ℕ, ◌+◌, ◌*◌, ◌≤◌, eqb, leb, length}
use Rattle.std.proofs.Common.{sym, ap, ◌∙◌, append_assoc, append-nil, inl, inr, arith, eqb-true, leb-true, length-append}
use Rattle.std.proofs.lemmas.Bool.{false≢true}
use Rattle.spec_base.specs.Basic.{any, all, count}
use Rattle.std.proofs.Math.Bool as B
use Rattle.law_base.specs.BoolLaws.{decide, and_true, or_left, or_right, or_of, or_true, true_false}
use Rattle.law_base.specs.ListLaws.{any_append, any_true, all_true, all_of, count_append}
use Rattle.spec_text.specs.declared.Line.{Line}
use Rattle.spec_text.specs.declared.LineKind.{LineKind}
use Rattle.spec_text.specs.declared.LineKind.TheVariants.{Rl, Fk, Pr, St, Lo, Br, El, En, Li}
use Rattle.spec_text.specs.Reading.{sort, is_relation, is_key, is_program, is_statement_or_flow, is_link, is_statement, program, open_blocks, blocks_after_lines}
use Rattle.spec_text.specs.Reading.{bounded, within_bounds, in_body, ordered, read}
use Rattle.spec_text.specs.Reading.Outcome.{accepted}
use Rattle.law_text.specs.ReadingLaws.{fault_none, Taken, read_taken}

-- T12: what the bounds say
pub record Bounded (lines : List Line) : Type 0 where
  pub relations : count is_relation lines ≤ 32
  pub keys : count is_key lines ≤ 32
  pub programs : count is_program lines ≤ 16
  pub statements : count is_statement (program lines) ≤ 32
  pub body : count is_statement_or_flow (program lines) ≤ 64
  pub links : count is_link (program lines) ≤ 32
  pub depth : length (open_blocks (program lines)) ≤ 8

pub bounded_true : (lines : List Line) → bounded lines ≡ true → Bounded lines
unfolding bounded
bounded_true lines h =
    let own = program lines in
    let g = and_true _ (leb (length (open_blocks own)) 8) h in
    let f = and_true _ (leb (count is_link own) 32) g.0 in
    let e = and_true _ (leb (count is_statement_or_flow own) 64) f.0 in
    let d = and_true _ (leb (count is_statement own) 32) e.0 in
    let c = and_true _ (leb (count is_program lines) 16) d.0 in
    let a = and_true (leb (count is_relation lines) 32) (leb (count is_key lines) 32) c.0 in
    record {
      relations = leb-true _ 32 a.0;
      keys = leb-true _ 32 a.1;
      programs = leb-true _ 16 c.1;
      statements = leb-true _ 32 d.1;
      body = leb-true _ 64 e.1;
      links = leb-true _ 32 f.1;
      depth = leb-true _ 8 g.1;
    }

-- a test of lines and one more
pub any_last : (p : Line → Bool) (before : List Line) (l : Line) → any p (before ++ (l ∷ [])) ≡ any p before || p l
any_last p before l = any_append p before (l ∷ []) ∙ ap (λ b. any p before || b) (B.or-false (p l))

-- a `pr` further back begins the program at hand
program_later : (x : Line) (lines : List Line) → any is_program lines ≡ true → program (x ∷ lines) ≡ program lines
unfolding program
program_later x lines h = rw (h, program)

-- where no `pr` is further back, this line begins it or there is none
program_here : (x : Line) (lines : List Line) → any is_program lines ≡ false → program (x ∷ lines) ≡ cond (is_program x) lines []
unfolding program
program_here x lines h = rw (h, program)

-- after a `pr` a program begins with no line
pub program_begins : (before : List Line) (l : Line) → is_program l ≡ true → program (before ++ (l ∷ [])) ≡ []
program_begins [] l h = program_here l [] refl ∙ ap (λ b. cond b [] []) h
program_begins (x ∷ before) l h =
    let found : any is_program (before ++ (l ∷ [])) ≡ true = any_last is_program before l ∙ or_right (any is_program before) h in
    program_later x (before ++ (l ∷ [])) found ∙ program_begins before l h

-- any other line joins the program at hand
pub program_joins : (before : List Line) (l : Line) → is_program l ≡ false → any is_program before ≡ true
    → program (before ++ (l ∷ [])) ≡ program before ++ (l ∷ [])
program_joins [] l h a = absurd (false≢true a)
program_joins (x ∷ before) l h a = go (decide (any is_program before)) (λ e. program_joins before l h e)
  where
    go : (any is_program before ≡ true) ⊎ (any is_program before ≡ false)
        → (any is_program before ≡ true → program (before ++ (l ∷ [])) ≡ program before ++ (l ∷ []))
        → program (x ∷ before ++ (l ∷ [])) ≡ program (x ∷ before) ++ (l ∷ [])
    go (inl e) next =
        let found : any is_program (before ++ (l ∷ [])) ≡ true = any_last is_program before l ∙ or_left (is_program l) e in
        rw (program_later x (before ++ (l ∷ [])) found, program_later x before e) (next e)
    go (inr e) next =
        let here : is_program x ≡ true = sym (B.or-false (is_program x)) ∙ (rw e at a) in
        let missing : any is_program (before ++ (l ∷ [])) ≡ false = any_last is_program before l ∙ or_of e h in
        rw (program_here x (before ++ (l ∷ [])) missing, program_here x before e, here)

-- how many lines there are: before any program relations and keys only; then at most 97 for each program but the last, of which the
-- lines so far count
pub data Size (lines : List Line) : Type 0 where
  none_begun : any is_program lines ≡ false → length lines ≡ count is_relation lines + count is_key lines → Size lines
  begun : any is_program lines ≡ true
      → length (program lines) ≡ count is_statement_or_flow (program lines) + count is_link (program lines)
      → length lines + 96 ≤ count is_relation lines + count is_key lines + 97 * count is_program lines + length (program lines)
      → Size lines

-- a count of lines and one more
count_last : (p : Line → Bool) (before : List Line) (l : Line) (b : Bool) → p l ≡ b
    → count p (before ++ (l ∷ [])) ≡ count p before + cond b 1 0
count_last p before l b h =
    let one : count p (l ∷ []) ≡ cond b 1 0 = rw h (go b) in
    count_append p before (l ∷ []) ∙ ap (λ n. count p before + n) one
  where
    go : (b : Bool) → cond b 1 0 + 0 ≡ cond b 1 0
    go true = refl
    go false = refl

-- the tests of a line of this sort
pub record OfSort (n : ℕ) (l : Line) : Type 0 where
  pub relation : is_relation l ≡ eqb n 0
  pub key : is_key l ≡ eqb n 1
  pub program : is_program l ≡ eqb n 2
  pub body : is_statement_or_flow l ≡ eqb n 3
  pub link : is_link l ≡ eqb n 4

pub of_sort : (l : Line) (n : ℕ) → sort l.kind ≡ n → OfSort n l
unfolding is_relation is_key is_program is_statement_or_flow is_link
of_sort l n h =
    record {
      relation = ap (λ m. eqb m 0) h;
      key = ap (λ m. eqb m 1) h;
      program = ap (λ m. eqb m 2) h;
      body = ap (λ m. eqb m 3) h;
      link = ap (λ m. eqb m 4) h;
    }

-- the counts of lines and one more of this sort
record Counts (before : List Line) (l : Line) (n : ℕ) : Type 0 where
  lines : length (before ++ (l ∷ [])) ≡ length before + 1
  relations : count is_relation (before ++ (l ∷ [])) ≡ count is_relation before + cond (eqb n 0) 1 0
  keys : count is_key (before ++ (l ∷ [])) ≡ count is_key before + cond (eqb n 1) 1 0
  programs : count is_program (before ++ (l ∷ [])) ≡ count is_program before + cond (eqb n 2) 1 0
  body : count is_statement_or_flow (before ++ (l ∷ [])) ≡ count is_statement_or_flow before + cond (eqb n 3) 1 0
  links : count is_link (before ++ (l ∷ [])) ≡ count is_link before + cond (eqb n 4) 1 0
  any_program : any is_program (before ++ (l ∷ [])) ≡ any is_program before || eqb n 2

counts : (before : List Line) (l : Line) (n : ℕ) → OfSort n l → Counts before l n
counts before l n s =
    record {
      lines = length-append before (l ∷ []);
      relations = count_last is_relation before l _ s.relation;
      keys = count_last is_key before l _ s.key;
      programs = count_last is_program before l _ s.program;
      body = count_last is_statement_or_flow before l _ s.body;
      links = count_last is_link before l _ s.link;
      any_program = any_last is_program before l ∙ ap (λ b. any is_program before || b) s.program;
    }

-- no line is of two sorts
sort_once : (l : Line) → is_program l ≡ true → is_relation l || is_key l ≡ true → ⊥
unfolding is_program is_relation is_key
sort_once l p h = go (or_true (is_relation l) (is_key l) h)
  where
    go : (is_relation l ≡ true) ⊎ (is_key l ≡ true) → ⊥
    go (inl e) = omega (arith, eqb-true (sort l.kind) 2 p, eqb-true (sort l.kind) 0 e)
    go (inr e) = omega (arith, eqb-true (sort l.kind) 2 p, eqb-true (sort l.kind) 1 e)

-- where relations and keys still may come, no program has begun
pub not_begun : (before : List Line) → all (λ b. is_relation b || is_key b) before ≡ true → any is_program before ≡ true → ⊥
not_begun before a p =
    let t = any_true is_program before p in
    sort_once t.0 t.2 (all_true (λ b. is_relation b || is_key b) a t.1)

-- relations only are relations or keys
pub relations_early : (before : List Line) → all is_relation before ≡ true → all (λ b. is_relation b || is_key b) before ≡ true
relations_early before h =
    all_of (λ b. is_relation b || is_key b) before (λ x m. or_left (is_key x) (all_true is_relation h m))

-- a relation or a key more
size_early : (before : List Line) (l : Line) (n : ℕ) → Counts before l n → eqb n 2 ≡ false → cond (eqb n 0) 1 0 + cond (eqb n 1) 1 0 ≡ 1
    → (any is_program before ≡ true → ⊥) → Size before → Size (before ++ (l ∷ []))
size_early before l n c p one early (begun a e h) = absurd (early a)
size_early before l n c p one early (none_begun a h) = none_begun (c.any_program ∙ or_of a p) (omega arith)

-- a program more
size_program : (before : List Line) (l : Line) → is_program l ≡ true → Counts before l 2 → Bounded before → Size before
    → Size (before ++ (l ∷ []))
size_program before l p c b z =
    let fresh = program_begins before l p in
    begun (c.any_program ∙ or_right (any is_program before) refl) (rw fresh) (rw fresh (go z))
  where
    go : Size before
        → length (before ++ (l ∷ [])) + 96
        ≤ count is_relation (before ++ (l ∷ [])) + count is_key (before ++ (l ∷ [])) + 97 * count is_program (before ++ (l ∷ [])) + 0
    go (none_begun a h) = omega arith
    go (begun a e h) = omega arith

-- a line of a program more
size_own : (before : List Line) (l : Line) (n : ℕ) → is_program l ≡ false → Counts before l n → Counts (program before) l n
    → cond (eqb n 0) 1 0 + cond (eqb n 1) 1 0 ≡ 0
    → cond (eqb n 3) 1 0 + cond (eqb n 4) 1 0 ≡ 1
    → any is_program before ≡ true → Size before → Size (before ++ (l ∷ []))
size_own before l n p c d early one there (none_begun a h) = absurd (true_false there a)
size_own before l n p c d early one there (begun a e h) =
    let joins = program_joins before l p there in
    begun (c.any_program ∙ or_left (eqb n 2) there) (rw joins (omega arith)) (rw joins (omega arith))

-- one line more keeps to the sizes
size_step : (before : List Line) (l : Line) → Bounded before → ordered before l ≡ true → Size before → Size (before ++ (l ∷ []))
unfolding ordered sort in_body
size_step before l b o z = go l.kind refl
  where
    own : any is_program before && not (any is_link (program before)) ≡ true → sort l.kind ≡ 3 → Size (before ++ (l ∷ []))
    own h e =
        let s = of_sort l 3 e in
        size_own before l 3 s.program (counts before l 3 s) (counts (program before) l 3 s) refl refl
        (and_true (any is_program before) _ h).0 z

    go : (k : LineKind) → l.kind ≡ k → Size (before ++ (l ∷ []))
    go Rl e =
        let s = of_sort l 0 (ap sort e) in
        size_early before l 0 (counts before l 0 s) refl refl (not_begun before (relations_early before (rw (e, ordered) at o))) z
    go Fk e =
        let s = of_sort l 1 (ap sort e) in
        size_early before l 1 (counts before l 1 s) refl refl (not_begun before (rw (e, ordered) at o)) z
    go Pr e = let s = of_sort l 2 (ap sort e) in size_program before l s.program (counts before l 2 s) b z
    go (St k) e = own (rw (e, ordered) at o) (ap sort e)
    go Lo e = own (rw (e, ordered) at o) (ap sort e)
    go Br e = own (rw (e, ordered) at o) (ap sort e)
    go El e = own (and_true (in_body before) _ (rw (e, ordered) at o)).0 (ap sort e)
    go En e = own (and_true (in_body before) _ (rw (e, ordered) at o)).0 (ap sort e)
    go Li e =
        let s = of_sort l 4 (ap sort e) in
        size_own before l 4 s.program (counts before l 4 s) (counts (program before) l 4 s) refl refl
        (and_true (any is_program before) _ (rw (e, ordered) at o)).0 z

-- lines that are taken keep to the sizes
size_taken : (before lines : List Line) → Bounded before → Size before → Taken before lines → Size (before ++ lines) × Bounded (before ++ lines)
unfolding within_bounds
size_taken before [] b z t = rw append-nil (z, b)
size_taken before (l ∷ lines) b z t =
    let p = fault_none before l t.1 in
    let next = bounded_true (before ++ (l ∷ [])) p.bounds in
    rw append_assoc at (size_taken (before ++ (l ∷ [])) lines next (size_step before l b p.order z) t.2)

-- lines that are taken are at most as many as a workload value has cells
pub taken_length : (lines : List Line) → Taken [] lines → length lines ≤ 1616
unfolding bounded program open_blocks blocks_after_lines
taken_length lines t =
    let r = size_taken [] lines (bounded_true [] refl) (none_begun refl refl) t in
    go r.0 r.1
  where
    go : Size lines → Bounded lines → length lines ≤ 1616
    go (none_begun a h) b = omega arith
    go (begun a e h) b = omega arith

-- T12: an accepted text has at most 1616 lines after the names line
pub accepted_length : (text : List ℕ) {lines : List Line} → read text ≡ accepted lines → length lines ≤ 1616
accepted_length text {lines} h = taken_length lines (read_taken text lines h)
