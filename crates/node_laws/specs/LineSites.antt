-- The sites of a program's statements, read off its lines: the sites of the run that the lines give, and what a statement's id says of its site.
use Rattle.std.specs.Prelude.{Bool, true, cond, ◌&&◌, ◌||◌, ◌⊎◌, ◌≡◌, ℕ, suc, ◌+◌, ◌≤◌, ◌<◌}
use Rattle.std.proofs.Math.Bool.{false}
use Rattle.std.proofs.Math.Bool as B
use mathlib.Core.List.{List, [], ◌∷◌, ◌++◌, Memᴰ}
use mathlib.Core.List.Memᴰ
use Rattle.std.proofs.Common.{inl, inr, sym, ap₂, subst, ◌∙◌, add-one, arith, eq-eqb, ne_eqb}
use Rattle.std.proofs.Math.Logic.{⊎_elim}
use Rattle.std.proofs.Math.Path.{refl, ap}
use Rattle.std.proofs.Math.Decide.{ℕ_discrete}
use Rattle.std.proofs.Math.Dec.{eqb}
use Rattle.spec_base.specs.Basic.{any, count}
use Rattle.law_base.specs.BoolLaws.{and_of, and_right, or_of, or_false, true_false}
use Rattle.spec_text.specs.declared.Line.{Line}
use Rattle.spec_text.specs.declared.LineKind.{LineKind}
use Rattle.spec_text.specs.declared.LineKind.TheVariants.{Rl, Fk, Pr, St, Lo, Br, El, En, Li}
use Rattle.spec_text.specs.declared.StatementKind.{StatementKind}
use Rattle.spec_text.specs.Reading.{sort, is_program, is_statement, is_statement_of, Block, blocks_after, blocks_after_lines, before_statement}
use Rattle.spec_text.specs.Reading.{loop, first_arm, second_arm}
use Rattle.spec_graph.specs.Program.{Statement, statement_of}
use Rattle.node_laws.specs.Bodies.{Body, LinksOnly, body_of}
use Rattle.node_laws.specs.Bodies.{body_statement, body_loop, body_branch, body_relation, body_key}

-- a statement on a line and the blocks around it as `Reading` has them, innermost first
abbrev pub LineSite : Type 0
LineSite = Statement × List Block

-- T8: the statements on a program's lines, from the blocks around the first line and its place, up to the program's links
unfoldable pub line_sites : ℕ → List Block → List Line → List LineSite
line_sites place blocks [] = []
line_sites place blocks (l ∷ lines) =
    elim l.kind [
      | St k ↦ (statement_of k l, blocks) ∷ line_sites (place + 1) blocks lines
      | Lo ↦ line_sites (place + 1) (blocks_after Lo place blocks) lines
      | Br ↦ line_sites (place + 1) (blocks_after Br place blocks) lines
      | El ↦ line_sites (place + 1) (blocks_after El place blocks) lines
      | En ↦ line_sites (place + 1) (blocks_after En place blocks) lines
      | Rl ↦ []
      | Fk ↦ []
      | Pr ↦ []
      | Li ↦ []
    ]

-- a member of the same list
pub carried : {m : LineSite} {a b : List LineSite} → a ≡ b → Memᴰ m a → Memᴰ m b
carried {m} e h = subst (λ (x : List LineSite). Memᴰ m x) e h

-- ---- the lines by their kinds

-- a line of flow
unfoldable pub Flow : LineKind → Type 0
Flow Lo = Unit {0}
Flow Br = Unit {0}
Flow El = Unit {0}
Flow En = Unit {0}
Flow Rl = ⊥
Flow Fk = ⊥
Flow Pr = ⊥
Flow (St k) = ⊥
Flow Li = ⊥

-- the statements and flow end at this line: a `pr`, or an `li` after which only links come
abbrev pub Ends : Line → List Line → Type 0
Ends l lines = (l.kind ≡ Pr) ⊎ ((l.kind ≡ Li) × LinksOnly lines)

-- what `line_sites` says of each kind of line
module _ (place : ℕ) (blocks : List Block) (l : Line) (lines : List Line) where
  pub statement_sites : (k : StatementKind) → l.kind ≡ St k
      → line_sites place blocks (l ∷ lines) ≡ (statement_of k l, blocks) ∷ line_sites (place + 1) blocks lines
  unfolding line_sites
  statement_sites k e = rw (e, line_sites) (rw (← e) refl)

  pub flow_sites : (c : LineKind) → l.kind ≡ c → Flow c
      → line_sites place blocks (l ∷ lines) ≡ line_sites (place + 1) (blocks_after c place blocks) lines
  unfolding line_sites Flow
  flow_sites Lo e h = rw (e, line_sites)
  flow_sites Br e h = rw (e, line_sites)
  flow_sites El e h = rw (e, line_sites)
  flow_sites En e h = rw (e, line_sites)
  flow_sites Rl e h = absurd h
  flow_sites Fk e h = absurd h
  flow_sites Pr e h = absurd h
  flow_sites (St k) e h = absurd h
  flow_sites Li e h = absurd h

  pub program_sites : l.kind ≡ Pr → line_sites place blocks (l ∷ lines) ≡ []
  unfolding line_sites
  program_sites e = rw (e, line_sites)

  pub link_sites : l.kind ≡ Li → line_sites place blocks (l ∷ lines) ≡ []
  unfolding line_sites
  link_sites e = rw (e, line_sites)

  end_sites : Ends l lines → line_sites place blocks (l ∷ lines) ≡ []
  end_sites (inl e) = program_sites e
  end_sites (inr t) = link_sites t.0

module _ (l : Line) (lines : List Line) where
  -- the lines before a statement stop at it, and go past every other line
  before_here : (s : ℕ) → is_statement l && eqb l.id s ≡ true → before_statement s (l ∷ lines) ≡ []
  unfolding before_statement
  before_here s h = rw (h, before_statement)

  before_later : (s : ℕ) → is_statement l && eqb l.id s ≡ false → before_statement s (l ∷ lines) ≡ l ∷ before_statement s lines
  unfolding before_statement
  before_later s h = rw (h, before_statement)

  -- a statement and flow belong to the statements and flow, a `pr` and an `li` end them
  statement_joins : (k : StatementKind) → l.kind ≡ St k → body_of (l ∷ lines) ≡ l ∷ body_of lines
  unfolding body_of
  statement_joins k e = rw (e, body_of) (rw (← e) refl)

  flow_joins : (c : LineKind) → l.kind ≡ c → Flow c → body_of (l ∷ lines) ≡ l ∷ body_of lines
  unfolding body_of Flow
  flow_joins Lo e h = rw (e, body_of) (rw (← e) refl)
  flow_joins Br e h = rw (e, body_of) (rw (← e) refl)
  flow_joins El e h = rw (e, body_of) (rw (← e) refl)
  flow_joins En e h = rw (e, body_of) (rw (← e) refl)
  flow_joins Rl e h = absurd h
  flow_joins Fk e h = absurd h
  flow_joins Pr e h = absurd h
  flow_joins (St k) e h = absurd h
  flow_joins Li e h = absurd h

  body_stops : Ends l lines → body_of (l ∷ lines) ≡ []
  unfolding body_of
  body_stops (inl e) = rw (e, body_of)
  body_stops (inr t) = rw (t.0, body_of)

-- a line of flow is no statement of any kind
flow_not : (test : StatementKind → Bool) (c : LineKind) → Flow c → is_statement_of test c ≡ false
unfolding is_statement_of Flow
flow_not test Lo h = refl
flow_not test Br h = refl
flow_not test El h = refl
flow_not test En h = refl
flow_not test Rl h = absurd h
flow_not test Fk h = absurd h
flow_not test Pr h = absurd h
flow_not test (St k) h = absurd h
flow_not test Li h = absurd h

-- what is so of the lines of a body, from the last line on: of none, of what follows the statements and flow, with a statement more, with flow more
module _ (Q : ℕ → List Block → ℕ → List Line → Type 0)
    (none : (place : ℕ) (blocks : List Block) (n : ℕ) → Q place blocks n [])
    (ends : (place : ℕ) (blocks : List Block) (n : ℕ) (l : Line) (lines : List Line) → Ends l lines → Q place blocks n (l ∷ lines))
    (statement : (place : ℕ) (blocks : List Block) (n : ℕ) (l : Line) (lines : List Line) (k : StatementKind) → l.kind ≡ St k → l.id ≡ n
    → Q (place + 1) blocks (suc n) lines → Q place blocks n (l ∷ lines))
    (flow : (place : ℕ) (blocks : List Block) (n : ℕ) (l : Line) (lines : List Line) → Flow l.kind
    → Q (place + 1) (blocks_after l.kind place blocks) n lines → Q place blocks n (l ∷ lines)) where
  body_holds : (parts : List ℕ) (place : ℕ) (blocks : List Block) (n : ℕ) (lines : List Line) → Body parts n lines → Q place blocks n lines
  unfolding Body Flow
  body_holds parts place blocks n [] h = none place blocks n
  body_holds parts place blocks n (l ∷ lines) h = go l.kind refl (λ parts blocks n h. body_holds parts (place + 1) blocks n lines h)
    where
      Again : Type 0
      Again = (parts : List ℕ) (blocks : List Block) (n : ℕ) → Body parts n lines → Q (place + 1) blocks n lines

      go : (c : LineKind) → l.kind ≡ c → Again → Q place blocks n (l ∷ lines)
      go (St k) e again =
          let b = body_statement parts n l lines k e h in
          statement place blocks n l lines k e b.0 (again parts blocks (suc n) b.1)
      go Lo e again = flow place blocks n l lines (rw e _) (again (loop ∷ parts) _ n (body_loop parts n l lines e h))
      go Br e again = flow place blocks n l lines (rw e _) (again (first_arm ∷ parts) _ n (body_branch parts n l lines e h))
      go El e again =
          let t : (around : List ℕ) × (parts ≡ first_arm ∷ around) × Body (second_arm ∷ around) n lines = rw (e, Body) at h in
          flow place blocks n l lines (rw e _) (again (second_arm ∷ t.0) _ n t.2)
      go En e again =
          let t : (p : ℕ) × (around : List ℕ) × (parts ≡ p ∷ around) × (p ≡ first_arm → ⊥) × Body around n lines = rw (e, Body) at h in
          flow place blocks n l lines (rw e _) (again t.1 _ n t.4)
      go Li e again = let t : (parts ≡ []) × LinksOnly lines = rw (e, Body) at h in ends place blocks n l lines (inr (e, t.1))
      go Pr e again = ends place blocks n l lines (inl e)
      go Rl e again = absurd (body_relation parts n l lines e h)
      go Fk e again = absurd (body_key parts n l lines e h)

-- ---- T7: the site of an id

-- no site has an id below the number, and the blocks around a site are those around the statement of its id
abbrev AroundHere : ℕ → List Block → ℕ → List Line → Type 0
AroundHere place blocks n lines =
    (m : LineSite) → Memᴰ m (line_sites place blocks lines)
    → (n ≤ m.0.id) × (blocks_after_lines place blocks (before_statement m.0.id lines) ≡ m.1)

module _ (place : ℕ) (blocks : List Block) (n : ℕ) (l : Line) (lines : List Line) where
  -- past a line that is not the statement
  past_line : (s : ℕ) (c : LineKind) → l.kind ≡ c → is_statement l && eqb l.id s ≡ false
      → blocks_after_lines place blocks (before_statement s (l ∷ lines))
      ≡ blocks_after_lines (place + 1) (blocks_after c place blocks) (before_statement s lines)
  unfolding blocks_after_lines
  past_line s c e h = ap (blocks_after_lines place blocks) (before_later l lines s h) ∙ rw (e, add-one) refl

  -- the statement of this line has the blocks of this place, and each later one a greater id
  around_statement : (k : StatementKind) → l.kind ≡ St k → l.id ≡ n → AroundHere (place + 1) blocks (suc n) lines
      → AroundHere place blocks n (l ∷ lines)
  unfolding is_statement is_statement_of statement_of blocks_after_lines blocks_after
  around_statement k e d again m h = ⊎_elim here later (Memᴰ.cases_cons (carried (statement_sites place blocks l lines k e) h))
    where
      Goal : Type 0
      Goal = (n ≤ m.0.id) × (blocks_after_lines place blocks (before_statement m.0.id (l ∷ lines)) ≡ m.1)

      this : is_statement l ≡ true
      this = rw e refl

      here : m ≡ (statement_of k l, blocks) → Goal
      here z =
          let id : l.id ≡ m.0.id = ap (λ (x : LineSite). x.0.id) (sym z) in (
            omega arith,
            ap (blocks_after_lines place blocks) (before_here l lines m.0.id (and_of this (eq-eqb l.id m.0.id id)))
                ∙ ap (λ (x : LineSite). x.1) (sym z),
          )

      later : Memᴰ m (line_sites (place + 1) blocks lines) → Goal
      later z =
          let t = again m z in
          let differ = and_right (is_statement l) (ne_eqb l.id m.0.id (λ (y : l.id ≡ m.0.id). omega arith)) in
          (omega arith, past_line m.0.id (St k) e differ ∙ t.1)

  -- flow opens or closes a block for the lines after it
  around_flow : Flow l.kind → AroundHere (place + 1) (blocks_after l.kind place blocks) n lines → AroundHere place blocks n (l ∷ lines)
  unfolding is_statement
  around_flow f again m h =
      let t = again m (carried (flow_sites place blocks l lines l.kind refl f) h) in
      let other : is_statement l && eqb l.id m.0.id ≡ false = rw (flow_not (λ k. true) l.kind f) refl in
      (t.0, past_line m.0.id l.kind refl other ∙ t.1)

-- the blocks around a site are those around the statement of its id: the statements before it have other ids, for ids count on
pub site_around : (parts : List ℕ) (place : ℕ) (blocks : List Block) (n : ℕ) (lines : List Line) → Body parts n lines
    → (m : LineSite) → Memᴰ m (line_sites place blocks lines)
    → (n ≤ m.0.id) × (blocks_after_lines place blocks (before_statement m.0.id lines) ≡ m.1)
unfolding line_sites
site_around =
    body_holds AroundHere
    (λ place blocks n m h. absurd (Memᴰ.not-nil h))
    (λ place blocks n l lines e m h. absurd (Memᴰ.not-nil (carried (end_sites place blocks l lines e) h)))
    around_statement
    around_flow

-- the kind of a site
module _ (test : StatementKind → Bool) where
  -- a statement of this id passes the test
  abbrev passing : ℕ → List Line → Bool
  passing s lines = any (λ x. is_statement_of test x.kind && eqb x.id s) (body_of lines)

  -- no statement has an id below the number, and a site's kind passes the test where the statement of its id does
  abbrev KindHere : ℕ → List Block → ℕ → List Line → Type 0
  KindHere place blocks n lines =
      ((s : ℕ) → s < n → passing s lines ≡ false)
      × ((m : LineSite) → Memᴰ m (line_sites place blocks lines)
      → (n ≤ m.0.id) × (test m.0.kind ≡ passing m.0.id lines))

  module _ (place : ℕ) (blocks : List Block) (n : ℕ) (l : Line) (lines : List Line) where
    -- where the statements have ended there is none
    kind_ends : Ends l lines → KindHere place blocks n (l ∷ lines)
    kind_ends e = (
      λ s h. ap (any (λ x. is_statement_of test x.kind && eqb x.id s)) (body_stops l lines e),
      λ m h. absurd (Memᴰ.not-nil (carried (end_sites place blocks l lines e) h)),
    )

    -- the statement of this line, and none after it, has this id
    kind_statement : (k : StatementKind) → l.kind ≡ St k → l.id ≡ n → KindHere (place + 1) blocks (suc n) lines
        → KindHere place blocks n (l ∷ lines)
    unfolding is_statement_of statement_of
    kind_statement k e d again = (lower, same)
      where
        first : (s : ℕ) → passing s (l ∷ lines) ≡ test k && eqb l.id s || passing s lines
        first s = ap (any (λ x. is_statement_of test x.kind && eqb x.id s)) (statement_joins l lines k e) ∙ rw e refl

        lower : (s : ℕ) → s < n → passing s (l ∷ lines) ≡ false
        lower s h = first s ∙ or_of (and_right (test k) (ne_eqb l.id s (λ (z : l.id ≡ s). omega arith))) (again.0 s (omega arith))

        Goal : LineSite → Type 0
        Goal m = (n ≤ m.0.id) × (test m.0.kind ≡ passing m.0.id (l ∷ lines))

        here : Goal (statement_of k l, blocks)
        here = (
          omega arith,
          sym (
              first l.id
              ∙ ap₂ ◌||◌ (ap (λ (b : Bool). test k && b) (eq-eqb l.id l.id refl) ∙ B.and-true (test k)) (again.0 l.id (omega arith))
              ∙ B.or-false (test k)
              ),
        )

        later : (m : LineSite) → Memᴰ m (line_sites (place + 1) blocks lines) → Goal m
        later m h =
            let t = again.1 m h in
            let other = and_right (test k) (ne_eqb l.id m.0.id (λ (z : l.id ≡ m.0.id). omega arith)) in
            (omega arith, t.1 ∙ sym (first m.0.id ∙ ap (λ (b : Bool). b || passing m.0.id lines) other))

        same : (m : LineSite) → Memᴰ m (line_sites place blocks (l ∷ lines)) → Goal m
        same m h =
            ⊎_elim
            (λ z. subst Goal (sym z) here)
            (λ z. later m z)
            (Memᴰ.cases_cons (carried (statement_sites place blocks l lines k e) h))

    -- flow has no id
    kind_flow : Flow l.kind → KindHere (place + 1) (blocks_after l.kind place blocks) n lines → KindHere place blocks n (l ∷ lines)
    kind_flow f again = (λ s h. past s ∙ again.0 s h, same)
      where
        past : (s : ℕ) → passing s (l ∷ lines) ≡ passing s lines
        past s =
            ap (any (λ x. is_statement_of test x.kind && eqb x.id s)) (flow_joins l lines l.kind refl f)
            ∙ rw (flow_not test l.kind f) refl

        same : (m : LineSite) → Memᴰ m (line_sites place blocks (l ∷ lines))
            → (n ≤ m.0.id) × (test m.0.kind ≡ passing m.0.id (l ∷ lines))
        same m h =
            let t = again.1 m (carried (flow_sites place blocks l lines l.kind refl f) h) in
            (t.0, t.1 ∙ sym (past m.0.id))

  -- the kind of a site is that of the statement line of its id, for no two statement lines of a body have one id
  pub site_kind : (parts : List ℕ) (place : ℕ) (blocks : List Block) (n : ℕ) (lines : List Line) → Body parts n lines
      → (m : LineSite) → Memᴰ m (line_sites place blocks lines)
      → test m.0.kind ≡ any (λ x. is_statement_of test x.kind && eqb x.id m.0.id) (body_of lines)
  unfolding line_sites body_of
  site_kind parts place blocks n lines b m h =
      ((body_holds KindHere
      (λ place blocks n. (λ s h. refl, λ m h. absurd (Memᴰ.not-nil h)))
      kind_ends
      kind_statement
      kind_flow
      parts place blocks n lines b).1 m h).1

-- where no other program follows, each id of the statements from the number on has its site
abbrev FoundHere : ℕ → List Block → ℕ → List Line → Type 0
FoundHere place blocks n lines =
    any is_program lines ≡ false → (s : ℕ) → n ≤ s → s < n + count is_statement lines
    → (m : LineSite) × Memᴰ m (line_sites place blocks lines) × (m.0.id ≡ s)

-- no statement among links
links_none : (lines : List Line) → LinksOnly lines → any is_program lines ≡ false → count is_statement lines ≡ 0
unfolding LinksOnly is_statement is_statement_of is_program sort
links_none [] h none = refl
links_none (l ∷ lines) h none = go l.kind refl (λ h. links_none lines h (or_false (is_program l) _ none).1)
  where
    go : (c : LineKind) → l.kind ≡ c → (LinksOnly lines → count is_statement lines ≡ 0) → count is_statement (l ∷ lines) ≡ 0
    go Li e again = rw e (omega (arith, again (rw (e, LinksOnly) at h)))
    go Pr e again = absurd (true_false (rw e refl) (or_false (is_program l) _ none).0)
    go (St k) e again = absurd (rw (e, LinksOnly) at h)
    go Lo e again = absurd (rw (e, LinksOnly) at h)
    go Br e again = absurd (rw (e, LinksOnly) at h)
    go El e again = absurd (rw (e, LinksOnly) at h)
    go En e again = absurd (rw (e, LinksOnly) at h)
    go Rl e again = absurd (rw (e, LinksOnly) at h)
    go Fk e again = absurd (rw (e, LinksOnly) at h)

module _ (place : ℕ) (blocks : List Block) (n : ℕ) (l : Line) (lines : List Line) where
  -- where the statements have ended no id is left
  found_ends : Ends l lines → FoundHere place blocks n (l ∷ lines)
  unfolding is_program is_statement is_statement_of sort
  found_ends (inl e) none s least most = absurd (true_false (rw e refl) (or_false (is_program l) _ none).0)
  found_ends (inr t) none s least most =
      let other : is_statement l ≡ false = rw t.0 refl in
      let many : s < n + (cond false 1 0 + count is_statement lines) = rw other at most in
      absurd (omega (arith, many, links_none lines t.1 (or_false (is_program l) _ none).1))

  -- the first id is this line's, the others are the later lines'
  found_statement : (k : StatementKind) → l.kind ≡ St k → l.id ≡ n → FoundHere (place + 1) blocks (suc n) lines
      → FoundHere place blocks n (l ∷ lines)
  unfolding is_statement is_statement_of statement_of
  found_statement k e d again none s least most = go (ℕ_discrete s n)
    where
      Goal : Type 0
      Goal = (m : LineSite) × Memᴰ m (line_sites place blocks (l ∷ lines)) × (m.0.id ≡ s)

      listed : {m : LineSite} → Memᴰ m ((statement_of k l, blocks) ∷ line_sites (place + 1) blocks lines)
          → Memᴰ m (line_sites place blocks (l ∷ lines))
      listed {m} h = carried (sym (statement_sites place blocks l lines k e)) h

      one : is_statement l ≡ true
      one = rw e refl

      go : Dec (s ≡ n) → Goal
      go (yes z) = ((statement_of k l, blocks), listed (Memᴰ.head refl), d ∙ sym z)
      go (no z) =
          let many : s < n + (cond true 1 0 + count is_statement lines) = rw one at most in
          let t = again (or_false (is_program l) _ none).1 s (omega arith) (omega arith) in
          (t.0, listed (Memᴰ.tail t.1), t.2)

  -- flow has no id
  found_flow : Flow l.kind → FoundHere (place + 1) (blocks_after l.kind place blocks) n lines → FoundHere place blocks n (l ∷ lines)
  unfolding is_statement
  found_flow f again none s least most =
      let other : is_statement l ≡ false = flow_not (λ k. true) l.kind f in
      let many : s < n + (cond false 1 0 + count is_statement lines) = rw other at most in
      let t = again (or_false (is_program l) _ none).1 s least (omega arith) in (
        t.0,
        carried (sym (flow_sites place blocks l lines l.kind refl f)) t.1,
        t.2,
      )

-- each number below that of the statements has its site, for ids count on without a gap
pub site_found : (parts : List ℕ) (place : ℕ) (blocks : List Block) (n : ℕ) (lines : List Line) → Body parts n lines
    → any is_program lines ≡ false → (s : ℕ) → n ≤ s → s < n + count is_statement lines
    → (m : LineSite) × Memᴰ m (line_sites place blocks lines) × (m.0.id ≡ s)
site_found =
    body_holds FoundHere
    (λ place blocks n none s least most. absurd (omega arith))
    found_ends
    found_statement
    found_flow

-- the sites before a link are the sites, for they end at the first link
pub sites_cut : (place : ℕ) (blocks : List Block) (passed : List Line) (link : Line) (after : List Line) → link.kind ≡ Li
    → line_sites place blocks (passed ++ (link ∷ after)) ≡ line_sites place blocks passed
unfolding line_sites
sites_cut place blocks [] link after h = link_sites place blocks link after h
sites_cut place blocks (l ∷ passed) link after h =
    go l.kind (sites_cut (place + 1) blocks passed link after h) (λ c. sites_cut (place + 1) (blocks_after c place blocks) passed link after h)
  where
    Cut : List Block → Type 0
    Cut blocks = line_sites (place + 1) blocks (passed ++ (link ∷ after)) ≡ line_sites (place + 1) blocks passed

    found : LineKind → List Line → List LineSite
    found c lines =
        elim c [
          | St k ↦ (statement_of k l, blocks) ∷ line_sites (place + 1) blocks lines
          | Lo ↦ line_sites (place + 1) (blocks_after Lo place blocks) lines
          | Br ↦ line_sites (place + 1) (blocks_after Br place blocks) lines
          | El ↦ line_sites (place + 1) (blocks_after El place blocks) lines
          | En ↦ line_sites (place + 1) (blocks_after En place blocks) lines
          | Rl ↦ []
          | Fk ↦ []
          | Pr ↦ []
          | Li ↦ []
        ]

    go : (c : LineKind) → Cut blocks → ((c : LineKind) → Cut (blocks_after c place blocks)) → found c (passed ++ (link ∷ after)) ≡ found c passed
    go (St k) plain deeper = ap {B = List LineSite} (λ x. (statement_of k l, blocks) ∷ x) plain
    go Lo plain deeper = deeper Lo
    go Br plain deeper = deeper Br
    go El plain deeper = deeper El
    go En plain deeper = deeper En
    go Rl plain deeper = refl
    go Fk plain deeper = refl
    go Pr plain deeper = refl
    go Li plain deeper = refl
