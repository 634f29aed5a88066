-- The programs of a part of a workload: the chosen programs. A program stands on its own lines, those up to the next `pr`.
use Rattle.std.specs.Prelude.{Bool, true, false, cond, ◌⊎◌, ◌≡◌, ℕ, zero, suc, ◌≤◌, length}
use mathlib.Core.List.{List, [], ◌∷◌, ◌++◌, map, tail, append-nil, Memᴰ}
use mathlib.Core.List.Memᴰ
use Rattle.std.proofs.Common.{inl, inr, sym, ap, ap₂, subst, ◌∙◌, arith}
use Rattle.std.proofs.Math.Path.{refl}
use Rattle.spec_base.specs.Basic.{has}
use Rattle.spec_text.specs.declared.Line.{Line}
use Rattle.spec_text.specs.declared.LineKind.{LineKind}
use Rattle.spec_text.specs.declared.LineKind.TheVariants.{Rl, Fk, Pr, St, Lo, Br, El, En, Li}
use Rattle.spec_text.specs.Text.{line_with}
use Rattle.spec_text.specs.Reading.{sort, is_program, none_open, loop, first_arm, second_arm}
use Rattle.law_text.specs.ReadingLaws.{Taken}
use Rattle.spec_graph.specs.Program.{Item, Run, Link, Parsed, Program, run_of, in_front_of, links_of, programs_of, statement_of}
use Rattle.spec_graph.specs.Program.Run.{done, next}
use Rattle.node_laws.specs.Bodies.{LinksOnly, Body, Stops, Ended, tail_fewer, run_stops, run_statement, run_loop, run_branch}
use Rattle.node_laws.specs.Bodies.{body_statement, body_loop, body_branch, body_relation, body_key, body_closed, body_second, taken_own}
use Rattle.node_laws.specs.LineCases.{LineCase, line_case, link_program, no_program, program_kind, programs_here, programs_later}
use Rattle.node_laws.specs.LineCases.{links_here, links_end, links_later}
use Rattle.node_laws.specs.LineCases.LineCase.{is_program_lem, is_link_lem, is_other}
use Rattle.spec_part.specs.Group.{chosen_from, until_program, program_lines, joined_from, part_lines}
use Rattle.law_part.specs.PartLines.{until_ends, until_goes, programs_begin, programs_go}

-- ---- T6: the lines up to the next `pr`

-- they end before a `pr`
until_program_lem : (l : Line) (lines : List Line) → l.kind ≡ Pr → until_program (l ∷ lines) ≡ []
until_program_lem l lines e = until_ends l lines (program_kind l e)

-- and have every other line
until_other : (l : Line) (lines : List Line) → (l.kind ≡ Pr → ⊥) → until_program (l ∷ lines) ≡ l ∷ until_program lines
until_other l lines d = until_goes l lines (no_program l d)

-- the sort tells a `pr` from every other kind
other_kind : {c d : LineKind} → c ≡ d → (sort d ≡ 2 → ⊥) → c ≡ Pr → ⊥
unfolding sort
other_kind e differ p = differ (ap sort (sym e ∙ p))

-- the lines after the first of them
until_tail : (lines own : List Line) (l : Line) → until_program lines ≡ own → own ≡ l ∷ tail own → until_program (tail lines) ≡ tail own
unfolding until_program
until_tail [] own l e f = let z = ap length (e ∙ f) in absurd (omega arith)
until_tail (x ∷ lines) own l e f = go (is_program x) (e ∙ f)
  where
    go : (b : Bool) → cond b [] (x ∷ until_program lines) ≡ l ∷ tail own → until_program lines ≡ tail own
    go true e = let z = ap length e in absurd (omega arith)
    go false e = cc

-- ---- the run and the links depend on these lines alone

-- only links come up to there too
links_only_until : (lines : List Line) → LinksOnly lines → LinksOnly (until_program lines)
unfolding LinksOnly until_program is_program sort
links_only_until [] h = _
links_only_until (l ∷ lines) h = go l.kind refl (λ t. links_only_until lines t)
  where
    go : (c : LineKind) → l.kind ≡ c → (LinksOnly lines → LinksOnly (until_program lines)) → LinksOnly (until_program (l ∷ lines))
    go Li e again = rw (until_other l lines (link_program e), e, LinksOnly) (again (rw (e, LinksOnly) at h))
    go Pr e again = rw (until_program_lem l lines e) _
    go (St k) e again = let z : ⊥ = rw (e, LinksOnly) at h in absurd z
    go Lo e again = let z : ⊥ = rw (e, LinksOnly) at h in absurd z
    go Br e again = let z : ⊥ = rw (e, LinksOnly) at h in absurd z
    go El e again = let z : ⊥ = rw (e, LinksOnly) at h in absurd z
    go En e again = let z : ⊥ = rw (e, LinksOnly) at h in absurd z
    go Rl e again = let z : ⊥ = rw (e, LinksOnly) at h in absurd z
    go Fk e again = let z : ⊥ = rw (e, LinksOnly) at h in absurd z

-- and these are a body where all are
body_until : (parts : List ℕ) (count : ℕ) (lines : List Line) → Body parts count lines → Body parts count (until_program lines)
unfolding Body until_program sort
body_until parts count [] h = h
body_until parts count (l ∷ lines) h = go l.kind refl (λ parts count t. body_until parts count lines t)
  where
    Again : Type 0
    Again = (parts : List ℕ) (count : ℕ) → Body parts count lines → Body parts count (until_program lines)

    go : (c : LineKind) → l.kind ≡ c → Again → Body parts count (until_program (l ∷ lines))
    go (St k) e again =
        let t = body_statement parts count l lines k e h in
        rw (until_other l lines (other_kind e (λ z. omega arith)), e, Body) (t.0, again parts (suc count) t.1)
    go Lo e again =
        rw (until_other l lines (other_kind e (λ z. omega arith)), e, Body) (again (loop ∷ parts) count (body_loop parts count l lines e h))
    go Br e again =
        rw (until_other l lines (other_kind e (λ z. omega arith)), e, Body) (again (first_arm ∷ parts) count (body_branch parts count l lines e h))
    go El e again =
        let t : (around : List ℕ) × (parts ≡ first_arm ∷ around) × Body (second_arm ∷ around) count lines = rw (e, Body) at h in
        rw (until_other l lines (other_kind e (λ z. omega arith)), e, Body) (t.0, t.1, again (second_arm ∷ t.0) count t.2)
    go En e again =
        let t : (p : ℕ) × (around : List ℕ) × (parts ≡ p ∷ around) × (p ≡ first_arm → ⊥) × Body around count lines = rw (e, Body) at h in
        rw (until_other l lines (other_kind e (λ z. omega arith)), e, Body) (t.0, t.1, t.2, t.3, again t.1 count t.4)
    go Li e again =
        let t : (parts ≡ []) × LinksOnly lines = rw (e, Body) at h in
        rw (until_other l lines (link_program e), e, Body) (t.0, links_only_until lines t.1)
    go Pr e again = rw (until_program_lem l lines e) (rw (e, Body) at h)
    go Rl e again = absurd (body_relation parts count l lines e h)
    go Fk e again = absurd (body_key parts count l lines e h)

-- T6: so do the links
links_own : (lines : List Line) → links_of lines ≡ links_of (until_program lines)
unfolding until_program links_of
links_own [] = refl
links_own (l ∷ lines) = go (line_case l.kind) (links_own lines)
  where
    go : LineCase l.kind → links_of lines ≡ links_of (until_program lines) → links_of (l ∷ lines) ≡ links_of (until_program (l ∷ lines))
    go (is_program_lem e) again = links_end l lines e ∙ ap links_of (sym (until_program_lem l lines e))
    go (is_link_lem e) again =
        links_here l lines e
        ∙ ap {B = List Link} (λ t. record { key = l.id; child = l.rel; parent = l.to } ∷ t) again
        ∙ sym (links_here l (until_program lines) e)
        ∙ ap links_of (sym (until_other l lines (link_program e)))
    go (is_other p q) again =
        links_later l lines p q
        ∙ again
        ∙ sym (links_later l (until_program lines) p q)
        ∙ ap links_of (sym (until_other l lines p))

-- T8: a run read off lines and one read off those up to the next `pr`, where blocks of these parts are open: the runs are the same, and so are the
-- lines left up to there, which go on as a body with the same parts open
record Same (p q : Parsed) (parts : List ℕ) (lines own : List Line) : Type 0 where
  run : p.run ≡ q.run
  rest : until_program p.rest ≡ q.rest
  number : ℕ
  onward : Body parts number q.rest
  ended : Ended q.rest
  fewer : length p.rest ≤ length lines
  fewer_own_lem : length q.rest ≤ length own

-- nothing is read
same_none : (parts : List ℕ) (n : ℕ) (lines own : List Line) → until_program lines ≡ own → Ended own → Body parts n own
    → Same (record { run = done; rest = lines }) (record { run = done; rest = own }) parts lines own
same_none parts n lines own e s h =
    record { run = refl; rest = e; number = n; onward = h; ended = s; fewer = omega arith; fewer_own_lem = omega arith }

-- the same item in front of both
same_front : (x y : Item) (p q : Parsed) (parts : List ℕ) (lines own after own_after : List Line) → x ≡ y → length after ≤ length lines
    → length own_after ≤ length own → Same p q parts after own_after → Same (in_front_of x p) (in_front_of y q) parts lines own
unfolding in_front_of
same_front x y p q parts lines own after own_after e less short s =
    record {
      run = ap₂ {C = Run} (λ i r. next i r) e s.run;
      rest = s.rest;
      number = s.number;
      onward = s.onward;
      ended = s.ended;
      fewer = omega (arith, s.fewer);
      fewer_own_lem = omega (arith, s.fewer_own_lem);
    }

-- a run where no line of its own is left
run_none : (n : ℕ) (lines : List Line) → until_program lines ≡ [] → run_of n lines ≡ record { run = done; rest = lines }
unfolding run_of Stops
run_none zero lines e = refl
run_none (suc n) [] e = refl
run_none (suc n) (l ∷ lines) e = go (line_case l.kind)
  where
    never : (l.kind ≡ Pr → ⊥) → ⊥
    never d = let z = ap length (sym e ∙ until_other l lines d) in omega arith

    go : LineCase l.kind → run_of (suc n) (l ∷ lines) ≡ record { run = done; rest = l ∷ lines }
    go (is_program_lem k) = run_stops n l lines Pr k _
    go (is_link_lem k) = absurd (never (link_program k))
    go (is_other p q) = absurd (never p)

-- what is known of the runs of lesser lines
abbrev Again : ℕ → ℕ → Type 0
Again n m =
    (parts : List ℕ) (count : ℕ) (lines own : List Line) → until_program lines ≡ own → length lines ≤ n → length own ≤ m → Body parts count own
    → Same (run_of n lines) (run_of m own) parts lines own

-- the run at a line that is no `pr`: a block's run ends at the block's own line, which is before the next `pr`
module _ (n m : ℕ) (again : Again n m) (parts : List ℕ) (count : ℕ) (l : Line) (lines own : List Line) where
  same_line : (l.kind ≡ Pr → ⊥) → until_program lines ≡ own → length lines ≤ n → length own ≤ m → Body parts count (l ∷ own)
      → Same (run_of (suc n) (l ∷ lines)) (run_of (suc m) (l ∷ own)) parts (l ∷ lines) (l ∷ own)
  unfolding Stops
  same_line other same less short h = go l.kind refl
    where
      Goal : Parsed → Parsed → Type 0
      Goal p q = Same p q parts (l ∷ lines) (l ∷ own)

      by : {p r q s : Parsed} → p ≡ r → q ≡ s → Goal r s → Goal p q
      by {p} {r} {q} {s} d e g = subst (λ (a : Parsed). Goal a q) (sym d) (subst (λ (b : Parsed). Goal r b) (sym e) g)

      stop : (c : LineKind) → l.kind ≡ c → Stops c → Goal (run_of (suc n) (l ∷ lines)) (run_of (suc m) (l ∷ own))
      stop c e s =
          by (run_stops n l lines c e s) (run_stops m l own c e s)
          (same_none parts count (l ∷ lines) (l ∷ own)
          (until_other l lines other ∙ ap {B = List Line} (λ t. l ∷ t) same) (subst Stops (sym e) s) h)

      go : (c : LineKind) → l.kind ≡ c → Goal (run_of (suc n) (l ∷ lines)) (run_of (suc m) (l ∷ own))
      go (St k) e =
          let x = Item.statement (statement_of k l) in
          by (run_statement n l lines k e) (run_statement m l own k e)
          (same_front x x (run_of n lines) (run_of m own) parts (l ∷ lines) (l ∷ own) lines own refl (omega arith) (omega arith)
          (again parts (suc count) lines own same less short (body_statement parts count l own k e h).1))
      go Lo e =
          let p = run_of n lines in
          let q = run_of m own in
          let inner = again (loop ∷ parts) count lines own same less short (body_loop parts count l own e h) in
          let c = body_closed loop parts inner.number q.rest (λ z. omega arith) inner.ended inner.onward in
          let after = tail p.rest in
          let own_after = tail q.rest in
          let fewer : length after ≤ length lines = omega (arith, tail_fewer p.rest, inner.fewer) in
          let fewer_own : length own_after ≤ length own = omega (arith, tail_fewer q.rest, inner.fewer_own_lem) in
          let same_after : until_program after ≡ own_after = until_tail p.rest q.rest c.0 inner.rest c.1 in
          by (run_loop n l lines e) (run_loop m l own e)
          (same_front (Item.loop p.run) (Item.loop q.run) (run_of n after) (run_of m own_after) parts (l ∷ lines) (l ∷ own) after own_after
          (ap Item.loop inner.run) (omega arith) (omega arith)
          (again parts inner.number after own_after same_after (omega arith) (omega arith) c.3))
      go Br e =
          let p = run_of n lines in
          let q = run_of m own in
          let one = again (first_arm ∷ parts) count lines own same less short (body_branch parts count l own e h) in
          let c = body_second parts one.number q.rest one.ended one.onward in
          let middle = tail p.rest in
          let own_middle = tail q.rest in
          let fewer : length middle ≤ length lines = omega (arith, tail_fewer p.rest, one.fewer) in
          let fewer_own : length own_middle ≤ length own = omega (arith, tail_fewer q.rest, one.fewer_own_lem) in
          let same_middle : until_program middle ≡ own_middle = until_tail p.rest q.rest c.0 one.rest c.1 in
          let r = run_of n middle in
          let s = run_of m own_middle in
          let two = again (second_arm ∷ parts) one.number middle own_middle same_middle (omega arith) (omega arith) c.3 in
          let d = body_closed second_arm parts two.number s.rest (λ z. omega arith) two.ended two.onward in
          let after = tail r.rest in
          let own_after = tail s.rest in
          let fewest : length after ≤ length lines = omega (arith, tail_fewer r.rest, two.fewer) in
          let fewest_own : length own_after ≤ length own = omega (arith, tail_fewer s.rest, two.fewer_own_lem) in
          let same_after : until_program after ≡ own_after = until_tail r.rest s.rest d.0 two.rest d.1 in
          by (run_branch n l lines e) (run_branch m l own e)
          (same_front (Item.branch p.run r.run) (Item.branch q.run s.run) (run_of n after) (run_of m own_after) parts
          (l ∷ lines) (l ∷ own) after own_after (ap₂ {C = Item} (λ a b. Item.branch a b) one.run two.run) (omega arith) (omega arith)
          (again parts two.number after own_after same_after (omega arith) (omega arith) d.3))
      go Pr e = absurd (other e)
      go El e = stop El e _
      go En e = stop En e _
      go Li e = stop Li e _
      go Rl e = stop Rl e _
      go Fk e = stop Fk e _

-- the first of the own lines is the first line, which is no `pr`
until_head : (l x : Line) (lines own : List Line) → until_program (l ∷ lines) ≡ x ∷ own → (x ≡ l) × (l.kind ≡ Pr → ⊥)
until_head l x lines own e = (go (line_case l.kind), never)
  where
    never : l.kind ≡ Pr → ⊥
    never d = let z = ap length (sym (until_program_lem l lines d) ∙ e) in omega arith

    first : l ∷ until_program lines ≡ x ∷ own → x ≡ l
    first z = cc

    go : LineCase l.kind → x ≡ l
    go (is_program_lem d) = absurd (never d)
    go (is_link_lem d) = first (sym (until_other l lines (link_program d)) ∙ e)
    go (is_other d k) = first (sym (until_other l lines d) ∙ e)

-- no own line is left
same_empty : (n m : ℕ) (parts : List ℕ) (count : ℕ) (lines : List Line) → until_program lines ≡ [] → Body parts count []
    → Same (run_of n lines) (run_of m []) parts lines []
unfolding until_program
same_empty n m parts count lines same h = rw (run_none n lines same, run_none m [] refl) (same_none parts count lines [] same _ h)

-- the run at any line
same_run : (n m : ℕ) → Again n m
unfolding until_program
same_run zero m parts count lines [] same less short h = same_empty zero m parts count lines same h
same_run zero m parts count [] (x ∷ own) same less short h = let z = ap length same in absurd (omega arith)
same_run zero m parts count (l ∷ lines) (x ∷ own) same less short h = absurd (omega arith)
same_run (suc n) m parts count lines [] same less short h = same_empty (suc n) m parts count lines same h
same_run (suc n) m parts count [] (x ∷ own) same less short h = let z = ap length same in absurd (omega arith)
same_run (suc n) zero parts count (l ∷ lines) (x ∷ own) same less short h = absurd (omega arith)
same_run (suc n) (suc m) parts count (l ∷ lines) (x ∷ own) same less short h =
    let first = until_head l x lines own same in
    rw first.0 (same_line n m (λ parts count lines own same less short h. same_run n m parts count lines own same less short h)
    parts count l lines own first.1 (until_tail (l ∷ lines) (x ∷ own) x same refl) (omega arith) (omega arith) (rw first.0 at h))

-- T6, T8: the run of a program is read off its own lines: only that these are a body is asked, which they are where all the lines are (`body-until`)
run_own : (n m : ℕ) (own : List Line) → length own ≤ n → length (until_program own) ≤ m → Body [] 0 (until_program own)
    → (run_of n own).run ≡ (run_of m (until_program own)).run
run_own n m own less short h = (same_run n m [] 0 own (until_program own) refl less short h).run

-- ---- T6: each program on its own lines

-- the program that stands on its own lines
unfoldable pub program_on : List Line → Program
program_on own = record { body = (run_of (length own) own).run; links = links_of own }

-- the programs are those on the lines of each, where these are bodies
programs_bodies : (lines : List Line) → ((own : List Line) → Memᴰ own (program_lines lines) → Body [] 0 own)
    → programs_of lines ≡ map program_on (program_lines lines)
unfolding programs_of program_lines program_on
programs_bodies [] f = refl
programs_bodies (l ∷ lines) f = go (line_case l.kind) (λ g. programs_bodies lines g)
  where
    Again : Type 0
    Again = ((own : List Line) → Memᴰ own (program_lines lines) → Body [] 0 own) → programs_of lines ≡ map program_on (program_lines lines)

    own : List Line
    own = until_program lines

    later : (l.kind ≡ Pr → ⊥) → Again → programs_of (l ∷ lines) ≡ map program_on (program_lines (l ∷ lines))
    later d again =
        let e = programs_go l lines (no_program l d) in
        programs_later l lines d ∙ again (λ x m. f x (rw e m)) ∙ ap (map program_on) (sym e)

    go : LineCase l.kind → Again → programs_of (l ∷ lines) ≡ map program_on (program_lines (l ∷ lines))
    go (is_program_lem d) again =
        let e = programs_begin l lines (program_kind l d) in
        let body = run_own (length lines) (length own) lines (omega arith) (omega arith) (f own (rw e (Memᴰ.head refl))) in
        programs_here l lines d
        ∙ ap₂ {C = List Program} (λ p t. p ∷ t)
        (ap₂ {C = Program} (λ b k. record { body = b; links = k }) body (links_own lines))
        (again (λ x m. f x (rw e (Memᴰ.tail m))))
        ∙ ap (map program_on) (sym e)
    go (is_link_lem d) again = later (link_program d) again
    go (is_other d k) again = later d again

-- where the lines of a program stand
record Stands (own lines : List Line) : Type 0 where
  front : List Line
  pr : Line
  back : List Line
  split : lines ≡ front ++ (pr ∷ back)
  begins : is_program pr ≡ true
  until : own ≡ until_program back

-- each program's lines stand after a `pr`
stands : (lines : List Line) {own : List Line} → Memᴰ own (program_lines lines) → Stands own lines
unfolding program_lines
stands [] m = absurd (Memᴰ.not-nil m)
stands (l ∷ lines) {own} m = go (λ n. stands lines n) (is_program l) refl m
  where
    later : Stands own lines → Stands own (l ∷ lines)
    later s =
        record {
          front = l ∷ s.front;
          pr = s.pr;
          back = s.back;
          split = ap {B = List Line} (λ t. l ∷ t) s.split;
          begins = s.begins;
          until = s.until;
        }

    here : (Memᴰ own (program_lines lines) → Stands own lines) → is_program l ≡ true
        → (own ≡ until_program lines) ⊎ Memᴰ own (program_lines lines) → Stands own (l ∷ lines)
    here again h (inl e) = record { front = []; pr = l; back = lines; split = refl; begins = h; until = e }
    here again h (inr n) = later (again n)

    go : (Memᴰ own (program_lines lines) → Stands own lines) → (b : Bool) → is_program l ≡ b
        → Memᴰ own (cond b (until_program lines ∷ program_lines lines) (program_lines lines)) → Stands own (l ∷ lines)
    go again true h n = here again h (Memᴰ.cases_cons n)
    go again false h n = later (again n)

-- T6, T7, T8: the lines of each program of lines that are taken are a body
taken_bodies : (lines : List Line) → Taken [] lines → none_open lines ≡ true → (own : List Line) → Memᴰ own (program_lines lines) → Body [] 0 own
taken_bodies lines taken closed own m =
    let s = stands lines m in
    rw s.until
    (body_until [] 0 s.back (taken_own s.front s.pr s.back s.begins (rw s.split at taken) (rw s.split at closed)))

-- T6: the programs of lines that are taken are those on the lines of each
pub programs_on : (lines : List Line) → Taken [] lines → none_open lines ≡ true → programs_of lines ≡ map program_on (program_lines lines)
programs_on lines taken closed = programs_bodies lines (taken_bodies lines taken closed)

-- ---- Req 06: the part

-- what is chosen is an element
chosen_member : {A : Type 0} (group k : ℕ) (l : List A) {x : A} → Memᴰ x (chosen_from group k l) → Memᴰ x l
unfolding chosen_from
chosen_member group k [] m = absurd (Memᴰ.not-nil m)
chosen_member {A} group k (y ∷ l) {x} m = go (λ n. chosen_member group (suc k) l n) (has group k) m
  where
    Rest : Type 0
    Rest = Memᴰ x (chosen_from group (suc k) l) → Memᴰ x l

    here : Rest → (x ≡ y) ⊎ Memᴰ x (chosen_from group (suc k) l) → Memᴰ x (y ∷ l)
    here again (inl e) = Memᴰ.head e
    here again (inr n) = Memᴰ.tail (again n)

    go : Rest → (b : Bool) → Memᴰ x (cond b (y ∷ chosen_from group (suc k) l) (chosen_from group (suc k) l)) → Memᴰ x (y ∷ l)
    go again true n = here again (Memᴰ.cases_cons n)
    go again false n = Memᴰ.tail (again n)

-- the images of what is chosen are chosen of the images
chosen_map : {A B : Type 0} (f : A → B) (group k : ℕ) (l : List A) → map f (chosen_from group k l) ≡ chosen_from group k (map f l)
unfolding chosen_from
chosen_map f group k [] = refl
chosen_map {A} {B} f group k (x ∷ l) = go (chosen_map f group (suc k) l) (has group k)
  where
    go : map f (chosen_from group (suc k) l) ≡ chosen_from group (suc k) (map f l)
        → (b : Bool)
        → map f (cond b (x ∷ chosen_from group (suc k) l) (chosen_from group (suc k) l))
        ≡ cond b (f x ∷ chosen_from group (suc k) (map f l)) (chosen_from group (suc k) (map f l))
    go again true = ap {B = List B} (λ t. f x ∷ t) again
    go again false = again

-- lines up to a `pr`, then lines that are empty or begin with a `pr`: the first are those up to a `pr`
pub until_again : (lines after : List Line) → until_program after ≡ [] → until_program (until_program lines ++ after) ≡ until_program lines
unfolding until_program
until_again [] after e = e
until_again (l ∷ lines) after e = go (until_again lines after e) (is_program l) refl
  where
    go : until_program (until_program lines ++ after) ≡ until_program lines
        → (b : Bool) → is_program l ≡ b
        → until_program (cond b [] (l ∷ until_program lines) ++ after) ≡ cond b [] (l ∷ until_program lines)
    go again true h = e
    go again false h =
        ap (λ (b : Bool). cond b [] (l ∷ until_program (until_program lines ++ after))) h ∙ ap {B = List Line} (λ t. l ∷ t) again

-- and the second have all the programs
lines_after : (lines after : List Line) → program_lines (until_program lines ++ after) ≡ program_lines after
unfolding until_program
lines_after [] after = refl
lines_after (l ∷ lines) after = go (lines_after lines after) (is_program l) refl
  where
    go : program_lines (until_program lines ++ after) ≡ program_lines after
        → (b : Bool) → is_program l ≡ b → program_lines (cond b [] (l ∷ until_program lines) ++ after) ≡ program_lines after
    go again true h = refl
    go again false h = programs_go l (until_program lines ++ after) h ∙ again

-- joined programs are empty or begin with a `pr`
pub until_joined : (n : ℕ) (programs : List (List Line)) → until_program (joined_from n programs) ≡ []
unfolding joined_from until_program line_with
until_joined n [] = refl
until_joined n (own ∷ programs) = until_program_lem (line_with Pr (n ∷ [])) (own ++ joined_from (suc n) programs) refl

-- joined programs have the lines of each, where these have no `pr`
lines_joined : (n : ℕ) (programs : List (List Line)) → ((own : List Line) → Memᴰ own programs → until_program own ≡ own)
    → program_lines (joined_from n programs) ≡ programs
unfolding joined_from program_lines line_with
lines_joined n [] f = refl
lines_joined n (own ∷ programs) f =
    let after = joined_from (suc n) programs in
    let same = f own (Memᴰ.head refl) in
    programs_begin (line_with Pr (n ∷ [])) (own ++ after) (program_kind (line_with Pr (n ∷ [])) refl)
    ∙ ap₂ {C = List (List Line)} (λ p t. p ∷ t)
    (ap (λ (l : List Line). until_program (l ++ after)) (sym same) ∙ until_again own after (until_joined (suc n) programs) ∙ same)
    (ap (λ (l : List Line). program_lines (l ++ after)) (sym same)
    ∙ lines_after own after
    ∙ lines_joined (suc n) programs (λ x m. f x (Memᴰ.tail m)))

-- Req 06: the lines of the part's programs are those of the chosen programs
pub program_lines_part : (group : ℕ) (lines : List Line) → program_lines (part_lines group lines) ≡ chosen_from group 0 (program_lines lines)
unfolding part_lines until_program
program_lines_part group lines =
    let chosen = chosen_from group 0 (program_lines lines) in
    lines_after lines (joined_from 0 chosen)
    ∙ lines_joined 0 chosen (λ own m. let s = stands lines (chosen_member group 0 (program_lines lines) m) in
    rw s.until (ap until_program (sym (append-nil (until_program s.back))) ∙ until_again s.back [] refl))

-- Req 06: the programs of the part are the chosen programs, for each stands on its own lines, which are kept
pub part_programs : (group : ℕ) (lines : List Line) → Taken [] lines → none_open lines ≡ true
    → programs_of (part_lines group lines) ≡ chosen_from group 0 (programs_of lines)
part_programs group lines taken closed =
    let same = program_lines_part group lines in
    programs_bodies (part_lines group lines)
    (λ own m. taken_bodies lines taken closed own (chosen_member group 0 (program_lines lines) (rw same at m)))
    ∙ ap (map program_on) same
    ∙ chosen_map program_on group 0 (program_lines lines)
    ∙ ap (chosen_from group 0) (sym (programs_on lines taken closed))
