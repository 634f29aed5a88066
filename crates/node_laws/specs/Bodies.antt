-- What the lines of a program of an accepted text are: statements and flow with every block closed, then links; and the run that is read off them.
use Rattle.std.specs.Prelude.{Bool, true, false, ◌||◌, ◌⊎◌, ◌≡◌, refl, ℕ, suc, ◌+◌, ◌≤◌, eqb, ltb, length}
use Rattle.std.proofs.lemmas.Bool.{false≢true}
use mathlib.Core.List.{List, [], ◌∷◌, ◌++◌, map, tail, append_assoc, append-nil}
use Rattle.std.proofs.Common.{inl, inr, ⊎_elim, sym, ap, subst, ◌∙◌, zero-add, add-zero, add-one, arith, eqb-true, ne_eqb}
use Rattle.spec_base.specs.Basic.{any, all, count}
use Rattle.law_base.specs.BoolLaws.{and_true, or_true, or_left, or_right, or_of, true_false, not_true}
use Rattle.law_base.specs.ListLaws.{any_true, all_true, any_append, count_append}
use Rattle.spec_text.specs.declared.Line.{Line}
use Rattle.spec_text.specs.declared.LineKind.{LineKind}
use Rattle.spec_text.specs.declared.LineKind.TheVariants.{Rl, Fk, Pr, St, Lo, Br, El, En, Li}
use Rattle.spec_text.specs.declared.StatementKind.{StatementKind}
use Rattle.spec_text.specs.Reading.{sort, is_relation, is_key, is_program, is_link, is_statement, is_statement_of, program, Block, to_second_arm, blocks_after}
use Rattle.spec_text.specs.Reading.{blocks_after_lines, open_blocks, loop, first_arm, second_arm, in_body, none_open, innermost, ordered, named, read}
use Rattle.spec_text.specs.Reading.Outcome.{accepted}
use Rattle.law_text.specs.ReadingLaws.{Passes, Taken, fault_none, read_taken, read_closed}
use Rattle.law_text.specs.LineCountLaws.{program_begins, program_joins}
use Rattle.law_text.specs.ReaderStateLaws.{blocks_after_lines_append}
use Rattle.spec_graph.specs.Program.{Item, run_of, in_front_of, statement_of}
use Rattle.spec_graph.specs.Program.Run.{done}

-- T6: only links come, up to the next program
unfoldable pub LinksOnly : List Line → Type 0
LinksOnly [] = Unit {0}
LinksOnly (l ∷ lines) =
    elim l.kind [
      | Li ↦ LinksOnly lines
      | Pr ↦ Unit {0}
      | Rl ↦ ⊥
      | Fk ↦ ⊥
      | St k ↦ ⊥
      | Lo ↦ ⊥
      | Br ↦ ⊥
      | El ↦ ⊥
      | En ↦ ⊥
    ]

-- T6, T7, T8: the lines of a program from a place on, where blocks of these parts are open, innermost first, and so many statements stand before:
-- ids count on, `el` ends a first arm, `en` a loop or a second arm, and where the statements and flow end no block is open and only links come
unfoldable pub Body : List ℕ → ℕ → List Line → Type 0
Body parts count [] = parts ≡ []
Body parts count (l ∷ lines) =
    elim l.kind [
      | St k ↦ (l.id ≡ count) × Body parts (suc count) lines
      | Lo ↦ Body (loop ∷ parts) count lines
      | Br ↦ Body (first_arm ∷ parts) count lines
      | El ↦ (around : List ℕ) × (parts ≡ first_arm ∷ around) × Body (second_arm ∷ around) count lines
      | En ↦ (part : ℕ) × (around : List ℕ) × (parts ≡ part ∷ around) × (part ≡ first_arm → ⊥) × Body around count lines
      | Li ↦ (parts ≡ []) × LinksOnly lines
      | Pr ↦ parts ≡ []
      | Rl ↦ ⊥
      | Fk ↦ ⊥
    ]

-- T6: the statements and flow of a program: its lines before its first link
unfoldable pub body_of : List Line → List Line
body_of [] = []
body_of (l ∷ lines) =
    elim l.kind [
      | Li ↦ []
      | Pr ↦ []
      | Rl ↦ l ∷ body_of lines
      | Fk ↦ l ∷ body_of lines
      | St k ↦ l ∷ body_of lines
      | Lo ↦ l ∷ body_of lines
      | Br ↦ l ∷ body_of lines
      | El ↦ l ∷ body_of lines
      | En ↦ l ∷ body_of lines
    ]

-- it ends before a `pr` or a link, and has every other line
pub body_of_end : (l : Line) (lines : List Line) → (l.kind ≡ Pr) ⊎ (l.kind ≡ Li) → body_of (l ∷ lines) ≡ []
unfolding body_of
body_of_end l lines (inl e) = rw (e, body_of) refl
body_of_end l lines (inr e) = rw (e, body_of) refl

pub body_of_later : (l : Line) (lines : List Line) → (l.kind ≡ Pr → ⊥) → (l.kind ≡ Li → ⊥) → body_of (l ∷ lines) ≡ l ∷ body_of lines
unfolding body_of
body_of_later l lines p q = go l.kind refl
  where
    found : LineKind → List Line
    found c =
        elim c [
          | Li ↦ []
          | Pr ↦ []
          | Rl ↦ l ∷ body_of lines
          | Fk ↦ l ∷ body_of lines
          | St k ↦ l ∷ body_of lines
          | Lo ↦ l ∷ body_of lines
          | Br ↦ l ∷ body_of lines
          | El ↦ l ∷ body_of lines
          | En ↦ l ∷ body_of lines
        ]

    go : (c : LineKind) → l.kind ≡ c → found c ≡ l ∷ body_of lines
    go Li e = absurd (q e)
    go Pr e = absurd (p e)
    go (St k) e = refl
    go Rl e = refl
    go Fk e = refl
    go Lo e = refl
    go Br e = refl
    go El e = refl
    go En e = refl

-- ---- the run at a line

-- a run ends before a line of this kind
unfoldable pub Stops : LineKind → Type 0
Stops (St k) = ⊥
Stops Lo = ⊥
Stops Br = ⊥
Stops Rl = Unit {0}
Stops Fk = Unit {0}
Stops Pr = Unit {0}
Stops El = Unit {0}
Stops En = Unit {0}
Stops Li = Unit {0}

-- past one line more
pub tail_fewer : (lines : List Line) → length (tail lines) ≤ length lines
tail_fewer [] = omega arith
tail_fewer (l ∷ lines) = omega arith

-- the run has ended before these lines
abbrev pub Ended : List Line → Type 0
Ended [] = Unit {0}
Ended (l ∷ lines) = Stops l.kind

-- what `run_of` says of each kind of line
pub run_stops : (n : ℕ) (l : Line) (lines : List Line) (k : LineKind) → l.kind ≡ k → Stops k
    → run_of (suc n) (l ∷ lines) ≡ record { run = done; rest = l ∷ lines }
unfolding run_of Stops
run_stops n l lines (St k) e h = absurd h
run_stops n l lines Lo e h = absurd h
run_stops n l lines Br e h = absurd h
run_stops n l lines Pr e h = rw (e, run_of) (rw (← e) refl)
run_stops n l lines Rl e h = rw (e, run_of) (rw (← e) refl)
run_stops n l lines Fk e h = rw (e, run_of) (rw (← e) refl)
run_stops n l lines El e h = rw (e, run_of) (rw (← e) refl)
run_stops n l lines En e h = rw (e, run_of) (rw (← e) refl)
run_stops n l lines Li e h = rw (e, run_of) (rw (← e) refl)

pub run_statement : (n : ℕ) (l : Line) (lines : List Line) (k : StatementKind) → l.kind ≡ St k
    → run_of (suc n) (l ∷ lines) ≡ in_front_of (Item.statement (statement_of k l)) (run_of n lines)
unfolding run_of
run_statement n l lines k e = rw (e, run_of) (rw (← e) refl)

pub run_loop : (n : ℕ) (l : Line) (lines : List Line) → l.kind ≡ Lo
    → run_of (suc n) (l ∷ lines) ≡ in_front_of (Item.loop (run_of n lines).run) (run_of n (tail (run_of n lines).rest))
unfolding run_of
run_loop n l lines e = rw (e, run_of)

pub run_branch : (n : ℕ) (l : Line) (lines : List Line) → l.kind ≡ Br
    → run_of (suc n) (l ∷ lines)
    ≡ in_front_of (Item.branch (run_of n lines).run (run_of n (tail (run_of n lines).rest)).run)
    (run_of n (tail (run_of n (tail (run_of n lines).rest)).rest))
unfolding run_of
run_branch n l lines e = rw (e, run_of)

-- ---- the steps of a body

module _ (parts : List ℕ) (count : ℕ) (l : Line) (lines : List Line) where
  -- what `Body` says of a statement, a loop, a branch, and of what never comes
  pub body_statement : (k : StatementKind) → l.kind ≡ St k → Body parts count (l ∷ lines) → (l.id ≡ count) × Body parts (suc count) lines
  unfolding Body
  body_statement k e h = rw (e, Body) at h

  pub body_loop : l.kind ≡ Lo → Body parts count (l ∷ lines) → Body (loop ∷ parts) count lines
  unfolding Body
  body_loop e h = rw (e, Body) at h

  pub body_branch : l.kind ≡ Br → Body parts count (l ∷ lines) → Body (first_arm ∷ parts) count lines
  unfolding Body
  body_branch e h = rw (e, Body) at h

  pub body_relation : l.kind ≡ Rl → Body parts count (l ∷ lines) → ⊥
  unfolding Body
  body_relation e h = rw (e, Body) at h

  pub body_key : l.kind ≡ Fk → Body parts count (l ∷ lines) → ⊥
  unfolding Body
  body_key e h = rw (e, Body) at h

-- no block is open where the statements and flow end
some_open : {part : ℕ} {parts : List ℕ} → ◌≡◌ {A = List ℕ} (part ∷ parts) [] → ⊥
some_open e = let z = ap length e in omega arith

-- what `Body` says of an `el` and of an `en` in a block
else_ends : (part : ℕ) (parts around : List ℕ) (count : ℕ) (lines : List Line) → ◌≡◌ {A = List ℕ} (part ∷ parts) (first_arm ∷ around)
    → Body (second_arm ∷ around) count lines → (part ≡ first_arm) × Body (second_arm ∷ parts) count lines
else_ends part parts around count lines e h = let same : parts ≡ around = cc in (cc, rw same h)

end_ends : (part other : ℕ) (parts around : List ℕ) (count : ℕ) (lines : List Line) → ◌≡◌ {A = List ℕ} (part ∷ parts) (other ∷ around)
    → (other ≡ first_arm → ⊥) → Body around count lines → (part ≡ first_arm → ⊥) × Body parts count lines
end_ends part other parts around count lines e f h =
    let same : part ≡ other = cc in
    let rest : parts ≡ around = cc in
    (λ z. f (sym same ∙ z), rw rest h)

-- a run in a block ends at the first arm's `el`, or at the `en` of a loop or a second arm: `Body` has no other line there
abbrev Closed : ℕ → List ℕ → ℕ → List Line → Type 0
Closed part parts count lines =
    (l : Line) × (lines ≡ l ∷ tail lines)
    × (((l.kind ≡ El) × (part ≡ first_arm) × Body (second_arm ∷ parts) count (tail lines))
    ⊎ ((l.kind ≡ En) × (part ≡ first_arm → ⊥) × Body parts count (tail lines)))

block_ends : (part : ℕ) (parts : List ℕ) (count : ℕ) (lines : List Line) → Ended lines → Body (part ∷ parts) count lines
    → Closed part parts count lines
unfolding Body Stops
block_ends part parts count [] e h = absurd (some_open h)
block_ends part parts count (l ∷ lines) e h = go l.kind refl
  where
    go : (c : LineKind) → l.kind ≡ c → Closed part parts count (l ∷ lines)
    go El d =
        let t : (around : List ℕ) × (part ∷ parts ≡ first_arm ∷ around) × Body (second_arm ∷ around) count lines = rw (d, Body) at h in
        let both = else_ends part parts t.0 count lines t.1 t.2 in
        (l, refl, inl (d, both.0, both.1))
    go En d =
        let t : (p : ℕ) × (around : List ℕ) × (part ∷ parts ≡ p ∷ around) × (p ≡ first_arm → ⊥) × Body around count lines = rw (d, Body) at h in
        let both = end_ends part t.0 parts t.1 count lines t.2 t.3 t.4 in
        (l, refl, inr (d, both.0, both.1))
    go Li d = let t : (part ∷ parts ≡ []) × LinksOnly lines = rw (d, Body) at h in absurd (some_open t.0)
    go Pr d = absurd (some_open (rw (d, Body) at h))
    go Rl d = absurd (body_relation (part ∷ parts) count l lines d h)
    go Fk d = absurd (body_key (part ∷ parts) count l lines d h)
    go (St k) d = let z : ⊥ = rw d at e in absurd z
    go Lo d = let z : ⊥ = rw d at e in absurd z
    go Br d = let z : ⊥ = rw d at e in absurd z

-- a loop's or a second arm's run ends at its `en`
pub body_closed : (part : ℕ) (parts : List ℕ) (count : ℕ) (lines : List Line) → (part ≡ first_arm → ⊥) → Ended lines → Body (part ∷ parts) count lines
    → (l : Line) × (lines ≡ l ∷ tail lines) × (l.kind ≡ En) × Body parts count (tail lines)
body_closed part parts count lines f e h =
    let c = block_ends part parts count lines e h in
    ⊎_elim (λ t. absurd (f t.1)) (λ t. (c.0, c.1, t.0, t.2)) c.2

-- a first arm's run ends at its `el`
pub body_second : (parts : List ℕ) (count : ℕ) (lines : List Line) → Ended lines → Body (first_arm ∷ parts) count lines
    → (l : Line) × (lines ≡ l ∷ tail lines) × (l.kind ≡ El) × Body (second_arm ∷ parts) count (tail lines)
body_second parts count lines e h =
    let c = block_ends first_arm parts count lines e h in
    ⊎_elim (λ t. (c.0, c.1, t.0, t.2)) (λ t. absurd (t.1 refl)) c.2

-- ---- T6, T7, T8: the lines after a `pr` of an accepted text

abbrev parts_of : List Block → List ℕ
parts_of blocks = map (λ b. b.part) blocks

-- no block is open
none_open_lem : (blocks : List Block) → eqb (length blocks) 0 ≡ true → parts_of blocks ≡ []
none_open_lem [] h = refl
none_open_lem (b ∷ blocks) h = let z = eqb-true (length (b ∷ blocks)) 0 h in absurd (omega arith)

-- a first arm, or a loop or a second arm, is innermost
first_arm_lem : (blocks : List Block) (c : ℕ) (lines : List Line) → elim blocks [ [] ↦ false | b ∷ around ↦ eqb b.part first_arm ] ≡ true
    → Body (parts_of (to_second_arm blocks)) c lines → (around : List ℕ) × (parts_of blocks ≡ first_arm ∷ around) × Body (second_arm ∷ around) c lines
unfolding to_second_arm
first_arm_lem [] c lines h body = absurd (false≢true h)
first_arm_lem (b ∷ blocks) c lines h body = (parts_of blocks, ap (λ (p : ℕ). p ∷ parts_of blocks) (eqb-true b.part first_arm h), body)

last_part : (blocks : List Block) (c : ℕ) (lines : List Line)
    → elim blocks [ [] ↦ false | b ∷ around ↦ eqb b.part loop ] || elim blocks [ [] ↦ false | b ∷ around ↦ eqb b.part second_arm ] ≡ true
    → Body (parts_of (tail blocks)) c lines
    → (part : ℕ) × (around : List ℕ) × (parts_of blocks ≡ part ∷ around) × (part ≡ first_arm → ⊥) × Body around c lines
last_part [] c lines h body = absurd (false≢true h)
last_part (b ∷ blocks) c lines h body = (b.part, parts_of blocks, refl, other (or_true (eqb b.part loop) (eqb b.part second_arm) h), body)
  where
    other : (eqb b.part loop ≡ true) ⊎ (eqb b.part second_arm ≡ true) → b.part ≡ first_arm → ⊥
    other (inl e) z = omega (arith, eqb-true b.part loop e)
    other (inr e) z = omega (arith, eqb-true b.part second_arm e)

-- after a `pr` no relation and no key comes
begun_not : (before : List Line) (p : Line → Bool) → any is_program before ≡ true → all p before ≡ true
    → ((x : Line) → is_program x ≡ true → p x ≡ false) → ⊥
begun_not before p begun h never =
    let found = any_true is_program before begun in
    true_false (all_true p h found.1) (never found.0 found.2)

program_not : (x : Line) → is_program x ≡ true → is_relation x ≡ false
unfolding is_program is_relation
program_not x h = ne_eqb (sort x.kind) 0 (λ (z : sort x.kind ≡ 0). omega (arith, eqb-true (sort x.kind) 2 h))

program_nor : (x : Line) → is_program x ≡ true → is_relation x || is_key x ≡ false
unfolding is_program is_key
program_nor x h = or_of (program_not x h) (ne_eqb (sort x.kind) 1 (λ (z : sort x.kind ≡ 1). omega (arith, eqb-true (sort x.kind) 2 h)))

-- after a link neither a statement nor flow comes before the next program, for `ordered` asks that the links have not begun
taken_links : (before lines : List Line) → Taken before lines → any is_program before ≡ true → any is_link (program before) ≡ true → LinksOnly lines
unfolding LinksOnly is_program sort ordered in_body
taken_links before [] t begun linked = _
taken_links before (l ∷ lines) t begun linked = go l.kind refl
    (λ joins. taken_links (before ++ (l ∷ [])) lines t.2 (any_append is_program before (l ∷ []) ∙ or_left _ begun)
    (ap (any is_link) joins ∙ any_append is_link (program before) (l ∷ []) ∙ or_left _ linked))
  where
    passes : Passes before l
    passes = fault_none before l t.1

    never : in_body before ≡ true → ⊥
    never h = true_false linked (not_true _ (and_true (any is_program before) _ h).1)

    go : (c : LineKind) → l.kind ≡ c → (program (before ++ (l ∷ [])) ≡ program before ++ (l ∷ []) → LinksOnly lines) → LinksOnly (l ∷ lines)
    go Li e again = rw (e, LinksOnly) (again (program_joins before l (rw e refl) begun))
    go Pr e again = rw (e, LinksOnly) _
    go (St k) e again = absurd (never (rw (e, ordered) at passes.order))
    go Lo e again = absurd (never (rw (e, ordered) at passes.order))
    go Br e again = absurd (never (rw (e, ordered) at passes.order))
    go El e again = absurd (never (and_true (in_body before) _ (rw (e, ordered) at passes.order)).0)
    go En e again = absurd (never (and_true (in_body before) _ (rw (e, ordered) at passes.order)).0)
    go Rl e again = absurd (begun_not before is_relation begun (rw (e, ordered) at passes.order) program_not)
    go Fk e again = absurd (begun_not before (λ b. is_relation b || is_key b) begun (rw (e, ordered) at passes.order) program_nor)

-- the lines that are taken after those before, where a program has begun: each passed `ordered` and `named`, which say this of it
taken_body : (before lines : List Line) → Taken before lines → none_open (before ++ lines) ≡ true → any is_program before ≡ true
    → Body (parts_of (open_blocks (program before))) (count is_statement (program before)) lines
unfolding Body none_open is_program is_link is_statement is_statement_of sort blocks_after ordered named in_body innermost open_blocks
taken_body before [] t end begun = none_open_lem (open_blocks (program before)) (rw append-nil at end)
taken_body before (l ∷ lines) t end begun =
    go l.kind refl (taken_body (before ++ (l ∷ [])) lines t.2 (rw append_assoc end) (any_append is_program before (l ∷ []) ∙ or_left _ begun))
  where
    passes : Passes before l
    passes = fault_none before l t.1

    own : List Line
    own = program before

    -- a line of the program more
    step : (c : LineKind) → l.kind ≡ c → eqb (sort c) 2 ≡ false → (n : ℕ) → count is_statement (l ∷ []) ≡ n
        → Body (parts_of (open_blocks (program (before ++ (l ∷ []))))) (count is_statement (program (before ++ (l ∷ [])))) lines
        → Body (parts_of (blocks_after c (length own) (open_blocks own))) (count is_statement own + n) lines
    step c e other n one h =
        let joins = program_joins before l (rw e other) begun in
        let blocks : open_blocks (program (before ++ (l ∷ []))) ≡ blocks_after c (length own) (open_blocks own) =
        ap open_blocks joins ∙ blocks_after_lines_append 0 [] own l ∙ rw (zero-add (length own), e) refl in
        let many : count is_statement (program (before ++ (l ∷ []))) ≡ count is_statement own + n =
        ap (count is_statement) joins ∙ count_append is_statement own (l ∷ []) ∙ ap (λ (m : ℕ). count is_statement own + m) one in
        rw (blocks, many) at h

    -- only links after a link
    links : l.kind ≡ Li → LinksOnly lines
    links e =
        let this : is_link l ≡ true = rw e refl in
        taken_links (before ++ (l ∷ [])) lines t.2 (any_append is_program before (l ∷ []) ∙ or_left _ begun)
        (ap (any is_link) (program_joins before l (rw e refl) begun)
        ∙ any_append is_link own (l ∷ [])
        ∙ or_right (any is_link own) (or_left false this))

    go : (c : LineKind) → l.kind ≡ c
        → Body (parts_of (open_blocks (program (before ++ (l ∷ []))))) (count is_statement (program (before ++ (l ∷ [])))) lines
        → Body (parts_of (open_blocks own)) (count is_statement own) (l ∷ lines)
    go (St k) e h =
        rw (e, Body) (
          eqb-true l.id (count is_statement own)
              (and_true (eqb l.id (count is_statement own)) (ltb l.rel (count is_relation before)) (rw (e, named) at passes.names)).0,
          rw add-one at (step (St k) e refl 1 (rw e refl) h),
        )
    go Lo e h = rw (e, Body) (rw add-zero at (step Lo e refl 0 (rw e refl) h))
    go Br e h = rw (e, Body) (rw add-zero at (step Br e refl 0 (rw e refl) h))
    go El e h =
        rw (e, Body) (first_arm_lem (open_blocks own) (count is_statement own) lines
        (and_true (in_body before) (innermost before first_arm) (rw (e, ordered) at passes.order)).1
        (rw add-zero at (step El e refl 0 (rw e refl) h)))
    go En e h =
        rw (e, Body) (last_part (open_blocks own) (count is_statement own) lines
        (and_true (in_body before) (innermost before loop || innermost before second_arm) (rw (e, ordered) at passes.order)).1
        (rw add-zero at (step En e refl 0 (rw e refl) h)))
    go Pr e h = rw (e, Body) (none_open_lem (open_blocks own) (rw (e, ordered) at passes.order))
    go Li e h =
        rw (e, Body)
        (none_open_lem (open_blocks own) (and_true (any is_program before) (none_open before) (rw (e, ordered) at passes.order)).1, links e)
    go Rl e h = absurd (begun_not before is_relation begun (rw (e, ordered) at passes.order) program_not)
    go Fk e h = absurd (begun_not before (λ b. is_relation b || is_key b) begun (rw (e, ordered) at passes.order) program_nor)

-- the lines after some that are taken are taken after them
taken_after : (before front back : List Line) → Taken before (front ++ back) → Taken (before ++ front) back
taken_after before [] back t = rw append-nil t
taken_after before (x ∷ front) back t =
    subst (λ (b : List Line). Taken b back) (append_assoc before (x ∷ []) front) (taken_after (before ++ (x ∷ [])) front back t.2)

-- the lines after a `pr` line, where at their end no block is open
pub taken_own : (front : List Line) (pr : Line) (own : List Line) → is_program pr ≡ true → Taken [] (front ++ (pr ∷ own))
    → none_open (front ++ (pr ∷ own)) ≡ true → Body [] 0 own
unfolding open_blocks blocks_after_lines
taken_own front pr own h t end =
    let split : (front ++ (pr ∷ [])) ++ own ≡ front ++ (pr ∷ own) = append_assoc front (pr ∷ []) own in
    let after = taken_after [] (front ++ (pr ∷ [])) own (rw split t) in
    let begun : any is_program (front ++ (pr ∷ [])) ≡ true =
    any_append is_program front (pr ∷ []) ∙ or_right (any is_program front) (or_left false h) in
    rw (program_begins front pr h) at (taken_body (front ++ (pr ∷ [])) own after (rw split end) begun)

-- T6, T7, T8: the lines after a `pr` line of an accepted text
pub accepted_body : (text : List ℕ) (lines : List Line) → read text ≡ accepted lines → (front : List Line) (pr : Line) (own : List Line)
    → lines ≡ front ++ (pr ∷ own) → is_program pr ≡ true → Body [] 0 own
accepted_body text lines taken front pr own e h =
    taken_own front pr own h (rw e at (read_taken text lines taken)) (rw e at (read_closed text lines taken))
