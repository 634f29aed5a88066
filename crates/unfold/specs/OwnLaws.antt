-- In an accepted workload the run of a program is read off the own lines of its statements.
use Rattle.std.specs.Prelude.{Bool, true, false, cond, ◌&&◌, List, [], ◌∷◌, ◌++◌, ◌≡◌, refl}
use Rattle.std.specs.Prelude.{ℕ, zero, suc, ◌+◌, ◌-◌, eqb, leb, length, get_or, take, drop}
use Rattle.std.proofs.lemmas.Bool.{false≢true}
use Rattle.std.proofs.Common.{sym, ap, ◌∙◌, add-one, arith, length-append, length-drop, take-append-drop, eq-eqb, ne_eqb, leb-true, leb-false}
use Rattle.std.proofs.Math.ListN.{get_or-eq_default}
use Rattle.law_base.specs.BoolLaws.{and_of}
use Rattle.law_base.specs.ListLaws.{some_injective}
use Rattle.spec_text.specs.declared.Line.{Line}
use Rattle.spec_text.specs.declared.LineKind.{LineKind}
use Rattle.spec_text.specs.declared.LineKind.TheVariants.{Rl, Fk, Pr, St, Lo, Br, El, En, Li}
use Rattle.spec_text.specs.declared.StatementKind.{StatementKind}
use Rattle.spec_text.specs.Reading.{sort, is_program, is_statement, is_statement_of}
use Rattle.spec_text.specs.Reading.{before_statement, read}
use Rattle.spec_text.specs.Reading.Outcome.{accepted}
use Rattle.unfold_laws.specs.Along.{OwnHere}
use Rattle.node_laws.specs.Bodies.{Body, accepted_body}
use Rattle.unfold_laws.specs.AlongLaws.{Below, body_along}
use Rattle.unfold_laws.specs.Codes.{code_of, codes_of}
use Rattle.unfold_laws.specs.CodesLaws.{length_codes, first_line_lem}
use Rattle.unfold_laws.specs.Pieces.{line_programs, programs_before}
use Rattle.unfold_laws.specs.PiecesLaws.{AlongPrograms}
use Rattle.unfold_laws.specs.Places.{first_line, own_line}
use Rattle.unfold_laws.specs.WritingLaws.{line_there}

-- ---- T7: the first line of a program, and the statements before one with its id

-- a `pr` line has the number 3
pub program_code : (l : Line) → is_program l ≡ eqb (code_of l.kind) 3
unfolding is_program sort code_of
program_code l = go l.kind
  where
    go : (c : LineKind) → eqb (sort c) 2 ≡ eqb (code_of c) 3
    go Pr = refl
    go (St k) = refl
    go Lo = refl
    go Br = refl
    go Rl = refl
    go Fk = refl
    go El = refl
    go En = refl
    go Li = refl

-- the programs before a line, counted from the first line on
pub programs_first : (c : ℕ) (codes : List ℕ) (i : ℕ) → programs_before (c ∷ codes) (suc i) ≡ cond (eqb c 3) 1 0 + programs_before codes i
unfolding programs_before line_programs
programs_first c codes zero = go (eqb c 3)
  where
    go : (b : Bool) → cond b (0 + 1) 0 ≡ cond b 1 0 + 0
    go true = refl
    go false = refl
programs_first c codes (suc i) =
    rw (programs_first c codes i) (go (eqb (get_or codes i 0) 3) (cond (eqb c 3) 1 0) (programs_before codes i))
  where
    go : (b : Bool) (m n : ℕ) → cond b (m + n + 1) (m + n) ≡ m + cond b (n + 1) n
    go true m n = omega arith
    go false m n = refl

pub first_there : (lines : List Line) (i : ℕ) → get_or (codes_of lines) i 0 ≡ 3 → first_line (programs_before (codes_of lines) i) lines ≡ i + 1
unfolding codes_of first_line programs_before
first_there [] i e = let z : ◌≡◌ {A = ℕ} 0 3 = e in absurd (omega arith)
first_there (l ∷ lines) zero e = rw (program_code l ∙ eq-eqb (code_of l.kind) 3 e) refl
first_there (l ∷ lines) (suc i) e =
    go (is_program l) _ (programs_first (code_of l.kind) (codes_of lines) i ∙ rw (← program_code l)) ∙ ap suc (first_there lines i e) ∙ omega arith
  where
    more : ℕ
    more = programs_before (codes_of lines) i

    go : (b : Bool) (n : ℕ) → n ≡ cond b 1 0 + more
        → suc (elim b [ true ↦ elim n [ zero ↦ 0 | suc j ↦ first_line j lines ] | false ↦ first_line n lines ]) ≡ suc (first_line more lines)
    go true n h = let one : n ≡ suc more = omega arith in rw one refl
    go false n h = let none : n ≡ more = omega arith in rw none refl

before_own : (passed : List Line) (l : Line) (lines : List Line) (k : StatementKind) → Below l.id passed → l.kind ≡ St k
    → before_statement l.id (passed ++ (l ∷ lines)) ≡ passed
unfolding before_statement Below is_statement is_statement_of
before_own [] l lines k b e =
    let one : is_statement l ≡ true = rw e refl in
    stop (is_statement l && eqb l.id l.id) (and_of one (eq-eqb l.id l.id refl))
  where
    stop : (t : Bool) → t ≡ true → ◌≡◌ {A = List Line} (elim t [ true ↦ [] | false ↦ l ∷ before_statement l.id lines ]) []
    stop true h = refl
    stop false h = absurd (false≢true h)
before_own (x ∷ passed) l lines k b e = go (is_statement x) refl (before_own passed l lines k b.1 e)
  where
    go : (t : Bool) → is_statement x ≡ t → before_statement l.id (passed ++ (l ∷ lines)) ≡ passed
        → elim (is_statement x && eqb x.id l.id) [ true ↦ [] | false ↦ x ∷ before_statement l.id (passed ++ (l ∷ lines)) ] ≡ x ∷ passed
    go true h again =
        rw (h, ne_eqb x.id l.id (λ (z : x.id ≡ l.id). let less = b.0 h in omega arith)) (ap (λ (r : List Line). x ∷ r) again)
    go false h again = rw h (ap (λ (r : List Line). x ∷ r) again)

-- a statement of the program after line i stands on its own line
own_here : (lines : List Line) (i : ℕ) → get_or (codes_of lines) i 0 ≡ 3 → (passed : List Line) (l : Line) (rest : List Line) (k : StatementKind)
    → drop (i + 1) lines ≡ passed ++ (l ∷ rest) → Below l.id passed → l.kind ≡ St k
    → OwnHere lines (programs_before (codes_of lines) i) (l ∷ rest)
unfolding OwnHere own_line
own_here lines i begins passed l rest k joined below e at m d there =
    let same : l ≡ m = some_injective (sym (line_there lines at d) ∙ there) in
    let own : own_line lines (programs_before (codes_of lines) i) l.id ≡ i + 1 + length passed =
    rw (first_there lines i begins, joined, before_own passed l rest k below e) refl in
    ap (λ (x : Line). own_line lines (programs_before (codes_of lines) i) x.id) (sym same)
    ∙ own
    ∙ omega (arith, length-drop at lines, length-drop (i + 1) lines, ap length d, ap length joined, length-append passed (l ∷ rest))

-- ---- T7, T8: the lines after a `pr`

module _ (text : List ℕ) (lines : List Line) (taken : read text ≡ accepted lines) where
  -- the lines after a `pr` line
  pub body_there : (i : ℕ) → get_or (codes_of lines) i 0 ≡ 3 → Body [] 0 (drop (i + 1) lines)
  body_there i begins = there (leb (length lines) i) refl
    where
      there : (b : Bool) → leb (length lines) i ≡ b → Body [] 0 (drop (i + 1) lines)
      there true h =
          let z = get_or-eq_default (codes_of lines) 0 {n = i} (omega (arith, length_codes lines, leb-true (length lines) i h)) in
          absurd (omega arith)
      there false h =
          let f = first_line_lem lines i (leb-false (length lines) i h) in
          let l = f.0 in
          let back = drop (suc i) lines in
          let pr : is_program l ≡ true = program_code l ∙ eq-eqb (code_of l.kind) 3 (sym f.2 ∙ begins) in
          let front = take i lines in
          let whole : front ++ (l ∷ back) ≡ lines = ap (λ (r : List Line). front ++ r) (sym f.1) ∙ take-append-drop i lines in
          rw (add-one i) (accepted_body text lines taken front l back (sym whole) pr)

  -- along the run of each program its statements stand on their own lines
  pub own_along : AlongPrograms (OwnHere lines) lines
  own_along i begins =
      body_along (drop (i + 1) lines) (OwnHere lines (programs_before (codes_of lines) i)) (own_here lines i begins)
      (length (codes_of lines) - (i + 1))
      (omega (arith, length-drop (i + 1) lines, length_codes lines)) (body_there i begins)
