-- What holds along a run, and that the run of a program is read off the program's lines alone.
use mathlib.Core.List.{List, [], ◌∷◌, ◌++◌, tail, append_assoc}
use Rattle.std.proofs.Math.Bool.{true, false}
use Rattle.std.proofs.lemmas.Bool.{false≢true}
use Rattle.std.specs.Prelude.{◌≡◌}
use Rattle.std.proofs.Math.Path.{refl, subst}
use Rattle.std.proofs.Common.{sym, ap, ◌∙◌}
use Prim.Native.Nat.{ℕ, zero, suc, ◌≤◌, ◌<◌}
use native.Mathlib.Omega.{arith}
use Rattle.std.proofs.Math.ListN.{length}
use Rattle.spec_text.specs.declared.Line.{Line}
use Rattle.spec_text.specs.declared.LineKind.{LineKind}
use Rattle.spec_text.specs.declared.LineKind.TheVariants.{Rl, Fk, Pr, St, Lo, Br, El, En, Li}
use Rattle.spec_text.specs.declared.StatementKind.{StatementKind}
use Rattle.spec_text.specs.Reading.{is_statement, is_statement_of, loop, first_arm, second_arm}
use Rattle.spec_graph.specs.Program.{Parsed, run_of, in_front_of}
use Rattle.node_laws.specs.Bodies.{Body, Stops, Ended, tail_fewer, run_stops, run_statement, run_loop, run_branch}
use Rattle.node_laws.specs.Bodies.{body_statement, body_loop, body_branch, body_closed, body_second}
use Rattle.unfold_laws.specs.Along.{Asks, Along}

module _ (P : List Line → Type 0) where
  abbrev Asked : ℕ → Line → List Line → LineKind → Type 0
  Asked n l lines c =
      let more = tail (run_of n lines).rest in
      Asks c (P (l ∷ lines)) (Along P n lines) (Along P n more) (Along P n (tail (run_of n more).rest))

  asked_along : (n : ℕ) (l : Line) (lines : List Line) (c : LineKind) → l.kind ≡ c → Asked n l lines c → Along P (suc n) (l ∷ lines)
  unfolding Along
  asked_along n l lines c e h = subst (Asked n l lines) (sym e) h

  pub along_statement : (n : ℕ) (l : Line) (lines : List Line) (k : StatementKind) → l.kind ≡ St k → Along P (suc n) (l ∷ lines)
      → P (l ∷ lines) × Along P n lines
  unfolding Along Asks
  along_statement n l lines k e h = subst (Asked n l lines) e h

  pub along_loop : (n : ℕ) (l : Line) (lines : List Line) → l.kind ≡ Lo → Along P (suc n) (l ∷ lines)
      → Along P n lines × Along P n (tail (run_of n lines).rest)
  unfolding Along Asks
  along_loop n l lines e h = subst (Asked n l lines) e h

  pub along_branch : (n : ℕ) (l : Line) (lines : List Line) → l.kind ≡ Br → Along P (suc n) (l ∷ lines)
      → Along P n lines × Along P n (tail (run_of n lines).rest) × Along P n (tail (run_of n (tail (run_of n lines).rest)).rest)
  unfolding Along Asks
  along_branch n l lines e h = subst (Asked n l lines) e h

  asked : (c : LineKind) (here first second third : Type 0) → here → first → second → third → Asks c here first second third
  unfolding Asks
  asked (St k) here first second third h a b d = (h, a)
  asked Lo here first second third h a b d = (a, b)
  asked Br here first second third h a b d = (a, b, d)
  asked Rl here first second third h a b d = _
  asked Fk here first second third h a b d = _
  asked Pr here first second third h a b d = _
  asked El here first second third h a b d = _
  asked En here first second third h a b d = _
  asked Li here first second third h a b d = _

  -- what is so of all lines is so along every run
  pub along_all : ((lines : List Line) → P lines) → (n : ℕ) (lines : List Line) → Along P n lines
  unfolding Along
  along_all h zero lines = _
  along_all h (suc n) [] = _
  along_all h (suc n) (l ∷ lines) =
      let more = tail (run_of n lines).rest in
      asked l.kind _ _ _ _ (h (l ∷ lines)) (along_all h n lines) (along_all h n more) (along_all h n (tail (run_of n more).rest))

-- every statement among these lines has an id below the number
unfoldable pub Below : ℕ → List Line → Type 0
Below count [] = Unit {0}
Below count (l ∷ lines) = (is_statement l ≡ true → l.id < count) × Below count lines

below_more : (count more : ℕ) (lines : List Line) → count ≤ more → Below count lines → Below more lines
unfolding Below
below_more count more [] h b = b
below_more count more (l ∷ lines) h b = (λ e. let less = b.0 e in omega arith, below_more count more lines h b.1)

below_last : (count : ℕ) (lines : List Line) (l : Line) → Below count lines → (is_statement l ≡ true → l.id < count)
    → Below count (lines ++ (l ∷ []))
unfolding Below
below_last count [] l b h = (h, _)
below_last count (x ∷ lines) l b h = (b.0, below_last count lines l b.1 h)

-- lines of a program's body, those passed before them, and what is open there
record Inside (body : List Line) (parts : List ℕ) (lines : List Line) : Type 0 where
  passed : List Line
  count : ℕ
  joined : body ≡ passed ++ lines
  below : Below count passed
  onward : Body parts count lines

-- no statement
abbrev NoStatement : LineKind → Type 0
NoStatement kind = is_statement_of (λ k. true) kind ≡ true → ⊥

module _ (body : List Line) where
  -- a line more is passed
  passed_on : (parts next : List ℕ) (l : Line) (lines : List Line) (h : Inside body parts (l ∷ lines)) (more : ℕ) → h.count ≤ more
      → (is_statement l ≡ true → l.id < more) → Body next more lines → Inside body next lines
  passed_on parts next l lines h more less small onward =
      record {
        passed = h.passed ++ (l ∷ []);
        count = more;
        joined = h.joined ∙ sym (append_assoc h.passed (l ∷ []) lines);
        below = below_last more h.passed l (below_more h.count more h.passed less h.below) small;
        onward = onward;
      }

  other_passed : (parts next : List ℕ) (l : Line) (lines : List Line) (h : Inside body parts (l ∷ lines)) → NoStatement l.kind
      → Body next h.count lines → Inside body next lines
  unfolding is_statement
  other_passed parts next l lines h not onward = passed_on parts next l lines h h.count (omega arith) (λ e. absurd (not e)) onward

  statement_passed : (parts : List ℕ) (l : Line) (lines : List Line) (k : StatementKind) → l.kind ≡ St k → (h : Inside body parts (l ∷ lines))
      → (l.id ≡ h.count) × Inside body parts lines
  statement_passed parts l lines k e h =
      let at_once = body_statement parts h.count l lines k e h.onward in
      (at_once.0, passed_on parts parts l lines h (suc h.count) (omega arith) (λ q. omega (arith, at_once.0)) at_once.1)

  loop_passed : (parts : List ℕ) (l : Line) (lines : List Line) → l.kind ≡ Lo → Inside body parts (l ∷ lines) → Inside body (loop ∷ parts) lines
  unfolding is_statement_of
  loop_passed parts l lines e h =
      other_passed parts (loop ∷ parts) l lines h (λ q. let z : false ≡ true = rw e at q in absurd (false≢true z))
      (body_loop parts h.count l lines e h.onward)

  branch_passed : (parts : List ℕ) (l : Line) (lines : List Line) → l.kind ≡ Br → Inside body parts (l ∷ lines)
      → Inside body (first_arm ∷ parts) lines
  unfolding is_statement_of
  branch_passed parts l lines e h =
      other_passed parts (first_arm ∷ parts) l lines h (λ q. let z : false ≡ true = rw e at q in absurd (false≢true z))
      (body_branch parts h.count l lines e h.onward)

  -- a run in a loop or a second arm ends at its `en`, one in a first arm at its `el`, and that line is passed
  closed : (part : ℕ) (parts : List ℕ) (lines : List Line) → (part ≡ first_arm → ⊥) → Ended lines → Inside body (part ∷ parts) lines
      → Inside body parts (tail lines)
  unfolding is_statement_of
  closed part parts lines f e h =
      let c = body_closed part parts h.count lines f e h.onward in
      other_passed (part ∷ parts) parts c.0 (tail lines) (subst (λ (x : List Line). Inside body (part ∷ parts) x) c.1 h)
      (λ q. let z : false ≡ true = rw c.2 at q in absurd (false≢true z)) c.3

  second : (parts : List ℕ) (lines : List Line) → Ended lines → Inside body (first_arm ∷ parts) lines → Inside body (second_arm ∷ parts) (tail lines)
  unfolding is_statement_of
  second parts lines e h =
      let c = body_second parts h.count lines e h.onward in
      other_passed (first_arm ∷ parts) (second_arm ∷ parts) c.0 (tail lines) (subst (λ (x : List Line). Inside body (first_arm ∷ parts) x) c.1 h)
      (λ q. let z : false ≡ true = rw c.2 at q in absurd (false≢true z)) c.3

  module _ (P : List Line → Type 0)
      (here : (passed : List Line) (l : Line) (lines : List Line) (k : StatementKind) → body ≡ passed ++ (l ∷ lines) → Below l.id passed
      → l.kind ≡ St k → P (l ∷ lines)) where
    -- a run that is read off lines of a body: it holds along it, and it ends in the body with the same blocks open
    record Stays (n : ℕ) (parts : List ℕ) (lines : List Line) : Type 0 where
      along : Along P n lines
      inside : Inside body parts (run_of n lines).rest
      ended : Ended (run_of n lines).rest
      fewer : length (run_of n lines).rest ≤ length lines

    stays_on : (n : ℕ) (parts : List ℕ) (l : Line) (lines more : List Line) → (run_of (suc n) (l ∷ lines)).rest ≡ (run_of n more).rest
        → Along P (suc n) (l ∷ lines) → length more ≤ suc (length lines) → Stays n parts more → Stays (suc n) parts (l ∷ lines)
    stays_on n parts l lines more same along less s =
        record { along = along; inside = rw same s.inside; ended = rw same s.ended; fewer = rw same (omega (arith, s.fewer)) }

    stays_here : (n : ℕ) (parts : List ℕ) (l : Line) (lines : List Line) → Stops l.kind → Inside body parts (l ∷ lines)
        → Along P (suc n) (l ∷ lines) → Stays (suc n) parts (l ∷ lines)
    stays_here n parts l lines stop h along =
        let same : (run_of (suc n) (l ∷ lines)).rest ≡ l ∷ lines = ap (λ (p : Parsed). p.rest) (run_stops n l lines l.kind refl stop) in
        record { along = along; inside = rw same h; ended = rw same stop; fewer = rw same (omega arith) }

    run_stays : (n : ℕ) (parts : List ℕ) (lines : List Line) → length lines ≤ n → Inside body parts lines → Stays n parts lines
    unfolding run_of Along Asks Stops in_front_of
    run_stays zero parts [] m h = record { along = _; inside = h; ended = _; fewer = omega arith }
    run_stays zero parts (l ∷ lines) m h = absurd (omega arith)
    run_stays (suc n) parts [] m h = record { along = _; inside = h; ended = _; fewer = omega arith }
    run_stays (suc n) parts (l ∷ lines) m h = go l.kind refl (λ parts lines m h. run_stays n parts lines m h)
      where
        go : (c : LineKind) → l.kind ≡ c
            → ((parts : List ℕ) (lines : List Line) → length lines ≤ n → Inside body parts lines → Stays n parts lines)
            → Stays (suc n) parts (l ∷ lines)
        go (St k) e again =
            let s = statement_passed parts l lines k e h in
            let then = again parts lines (omega arith) s.1 in
            stays_on n parts l lines lines (ap (λ (p : Parsed). p.rest) (run_statement n l lines k e))
            (asked_along P n l lines (St k) e (here h.passed l lines k h.joined (rw s.0 h.below) e, then.along)) (omega arith) then
        go Lo e again =
            let inner = again (loop ∷ parts) lines (omega arith) (loop_passed parts l lines e h) in
            let more = tail (run_of n lines).rest in
            let less : length more ≤ length lines = omega (arith, tail_fewer (run_of n lines).rest, inner.fewer) in
            let then = again parts more (omega arith) (closed loop parts (run_of n lines).rest (λ z. omega arith) inner.ended inner.inside) in
            stays_on n parts l lines more (ap (λ (p : Parsed). p.rest) (run_loop n l lines e))
            (asked_along P n l lines Lo e (inner.along, then.along)) (omega arith) then
        go Br e again =
            let one = again (first_arm ∷ parts) lines (omega arith) (branch_passed parts l lines e h) in
            let other = tail (run_of n lines).rest in
            let fewer : length other ≤ length lines = omega (arith, tail_fewer (run_of n lines).rest, one.fewer) in
            let two = again (second_arm ∷ parts) other (omega arith) (second parts (run_of n lines).rest one.ended one.inside) in
            let more = tail (run_of n other).rest in
            let less : length more ≤ length lines = omega (arith, tail_fewer (run_of n other).rest, two.fewer) in
            let then = again parts more (omega arith) (closed second_arm parts (run_of n other).rest (λ z. omega arith) two.ended two.inside) in
            stays_on n parts l lines more (ap (λ (p : Parsed). p.rest) (run_branch n l lines e))
            (asked_along P n l lines Br e (one.along, two.along, then.along)) (omega arith) then
        go Rl e again = stays_here n parts l lines (rw e _) h (asked_along P n l lines Rl e _)
        go Fk e again = stays_here n parts l lines (rw e _) h (asked_along P n l lines Fk e _)
        go Pr e again = stays_here n parts l lines (rw e _) h (asked_along P n l lines Pr e _)
        go El e again = stays_here n parts l lines (rw e _) h (asked_along P n l lines El e _)
        go En e again = stays_here n parts l lines (rw e _) h (asked_along P n l lines En e _)
        go Li e again = stays_here n parts l lines (rw e _) h (asked_along P n l lines Li e _)

    -- it holds along the run of the whole body
    pub body_along : (n : ℕ) → length body ≤ n → Body [] 0 body → Along P n body
    unfolding Below
    body_along n m h = (run_stays n [] body m (record { passed = []; count = 0; joined = refl; below = _; onward = h })).along
