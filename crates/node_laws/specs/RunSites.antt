-- The run that is read off a program's lines has the sites of the lines.
use mathlib.Core.List.{List, [], ◌∷◌, ◌++◌, map, tail, reverse_aux, append_assoc, append-nil, map-append}
use Rattle.std.specs.Prelude.{◌≡◌, refl, ℕ, zero, suc, ◌+◌, ◌≤◌, length}
use Rattle.std.proofs.Math.Path.{sym, ap}
use Rattle.std.proofs.Common.{ap₂, subst, ◌∙◌, arith}
use Rattle.spec_text.specs.declared.Line.{Line}
use Rattle.spec_text.specs.declared.LineKind.{LineKind}
use Rattle.spec_text.specs.declared.LineKind.TheVariants.{Rl, Fk, Pr, St, Lo, Br, El, En, Li}
use Rattle.spec_text.specs.declared.StatementKind.{StatementKind}
use Rattle.spec_text.specs.Reading.{Block, to_second_arm, blocks_after}
use Rattle.spec_text.specs.Reading.{loop, first_arm, second_arm}
use Rattle.spec_graph.specs.Program.{Item, Parsed, run_lines, item_lines, run_of, in_front_of, statement_of}
use Rattle.spec_graph.specs.Program.Run.{done}
use Rattle.node_laws.specs.Bodies.{Body, Stops, Ended, tail_fewer, run_stops, run_statement, run_loop, run_branch}
use Rattle.node_laws.specs.Bodies.{body_statement, body_loop, body_branch, body_relation, body_key, body_closed, body_second}
use Rattle.node_laws.specs.Sites.{Site, within, sites, item_sites}
use Rattle.node_laws.specs.LineSites.{LineSite, line_sites, Flow, statement_sites, flow_sites, program_sites, link_sites}

-- a site of a run inside these blocks, as the lines have it
unfoldable pub seen : List Block → Site → LineSite
seen blocks s = (s.statement, reverse_aux s.blocks blocks)

-- one block more is the innermost of those around
seen_within : (blocks : List Block) (b : Block) (l : List Site) → map (seen blocks) (map (within b) l) ≡ map (seen (b ∷ blocks)) l
unfolding seen within
seen_within blocks b [] = refl
seen_within blocks b (s ∷ l) =
    ap {B = List LineSite} (λ x. (s.statement, reverse_aux s.blocks (b ∷ blocks)) ∷ x) (seen_within blocks b l)

-- a run read off lines of a body, where blocks of these parts are open and these blocks stand around: it ends in the body with the same parts open,
-- and the lines have the sites of the run, then those of the lines after it
record Read (p : Parsed) (parts : List ℕ) (place : ℕ) (blocks : List Block) (lines : List Line) : Type 0 where
  number : ℕ
  onward : Body parts number p.rest
  ended : Ended p.rest
  fewer : length p.rest ≤ length lines
  same : line_sites place blocks lines ≡ map (seen blocks) (sites p.run place) ++ line_sites (place + run_lines p.run) blocks p.rest

-- nothing is read
read_none : (parts : List ℕ) (place : ℕ) (blocks : List Block) (n : ℕ) (lines : List Line) → Ended lines → Body parts n lines
    → Read (record { run = done; rest = lines }) parts place blocks lines
unfolding sites run_lines
read_none parts place blocks n lines e h =
    record { number = n; onward = h; ended = e; fewer = omega arith; same = ap (λ (p : ℕ). line_sites p blocks lines) (omega arith) }

-- an item and a run after it, where the lines have the sites of the item, then those of the lines where the run begins
read_front : (x : Item) (p : Parsed) (parts : List ℕ) (place : ℕ) (blocks : List Block) (lines more : List Line) → length more ≤ length lines
    → line_sites place blocks lines ≡ map (seen blocks) (item_sites x place) ++ line_sites (place + item_lines x) blocks more
    → Read p parts (place + item_lines x) blocks more → Read (in_front_of x p) parts place blocks lines
unfolding sites run_lines in_front_of
read_front x p parts place blocks lines more less same r =
    record {
      number = r.number;
      onward = r.onward;
      ended = r.ended;
      fewer = omega (arith, r.fewer);
      same =
          same
          ∙ ap (λ (t : List LineSite). map (seen blocks) (item_sites x place) ++ t) r.same
          ∙ sym (append_assoc (map (seen blocks) (item_sites x place)) _ _)
          ∙ ap₂ {C = List LineSite} (λ s q. s ++ line_sites q blocks p.rest)
          (sym (map-append (seen blocks) (item_sites x place) (sites p.run (place + item_lines x))))
          (omega arith);
    }

-- a block's run in front of the line that ends it: the sites of the run are inside the block, and the line takes the block away or turns it
inner_sites : (p : Parsed) (parts : List ℕ) (place next : ℕ) (blocks around : List Block) (b : Block) (lines : List Line) (l : Line) (c : LineKind)
    → Read p parts place (b ∷ blocks) lines → p.rest ≡ l ∷ tail p.rest → l.kind ≡ c → Flow c
    → ((at : ℕ) → blocks_after c at (b ∷ blocks) ≡ around) → place + run_lines p.run + 1 ≡ next
    → line_sites place (b ∷ blocks) lines ≡ map (seen blocks) (map (within b) (sites p.run place)) ++ line_sites next around (tail p.rest)
inner_sites p parts place next blocks around b lines l c r split kind flow after number =
    let at = place + run_lines p.run in
    r.same
    ∙ ap₂ {C = List LineSite} (λ s t. s ++ t)
    (sym (seen_within blocks b (sites p.run place)))
    (ap (λ (x : List Line). line_sites at (b ∷ blocks) x) split
    ∙ flow_sites at (b ∷ blocks) l (tail p.rest) c kind flow
    ∙ ap₂ {C = List LineSite} (λ n x. line_sites n x (tail p.rest)) number (after at))

-- the sites of the lines of an item: a statement is its site; a loop's `lo` opens a block around its run and its `en` closes it, and a branch's
-- lines do so with two
module _ (place : ℕ) (blocks : List Block) (l : Line) (lines : List Line) where
  statement_item : (k : StatementKind) → l.kind ≡ St k
      → line_sites place blocks (l ∷ lines)
      ≡ map (seen blocks) (item_sites (Item.statement (statement_of k l)) place)
      ++ line_sites (place + item_lines (Item.statement (statement_of k l))) blocks lines
  unfolding item_sites item_lines seen
  statement_item k e = statement_sites place blocks l lines k e

  loop_item : (p : Parsed) (parts : List ℕ) (last : Line) → l.kind ≡ Lo
      → Read p parts (place + 1) (record { place = place; part = loop } ∷ blocks) lines → p.rest ≡ last ∷ tail p.rest → last.kind ≡ En
      → line_sites place blocks (l ∷ lines)
      ≡ map (seen blocks) (item_sites (Item.loop p.run) place) ++ line_sites (place + item_lines (Item.loop p.run)) blocks (tail p.rest)
  unfolding item_sites item_lines blocks_after Flow
  loop_item p parts last e r split kind =
      flow_sites place blocks l lines Lo e _
      ∙ inner_sites p parts (place + 1) (place + (run_lines p.run + 2)) blocks blocks (record { place = place; part = loop }) lines last En
      r split kind _ (λ at. refl) (omega arith)

  branch_item : (p q : Parsed) (parts others : List ℕ) (middle last : Line) → l.kind ≡ Br
      → Read p parts (place + 1) (record { place = place; part = first_arm } ∷ blocks) lines → p.rest ≡ middle ∷ tail p.rest → middle.kind ≡ El
      → Read q others (place + run_lines p.run + 2) (record { place = place; part = second_arm } ∷ blocks) (tail p.rest)
      → q.rest ≡ last ∷ tail q.rest → last.kind ≡ En
      → line_sites place blocks (l ∷ lines)
      ≡ map (seen blocks) (item_sites (Item.branch p.run q.run) place)
      ++ line_sites (place + item_lines (Item.branch p.run q.run)) blocks (tail q.rest)
  unfolding item_sites item_lines blocks_after to_second_arm Flow
  branch_item p q parts others middle last e r split kind s cut end =
      let one : Block = record { place = place; part = first_arm } in
      let two : Block = record { place = place; part = second_arm } in
      let at = place + run_lines p.run + 2 in
      let next = place + (run_lines p.run + run_lines q.run + 3) in
      let first = map (within one) (sites p.run (place + 1)) in
      let second = map (within two) (sites q.run at) in
      flow_sites place blocks l lines Br e _
      ∙ inner_sites p parts (place + 1) at blocks (two ∷ blocks) one lines middle El r split kind _ (λ n. refl) (omega arith)
      ∙ ap (λ (t : List LineSite). map (seen blocks) first ++ t)
      (inner_sites q others at next blocks blocks two (tail p.rest) last En s cut end _ (λ n. refl) (omega arith))
      ∙ sym (append_assoc (map (seen blocks) first) (map (seen blocks) second) (line_sites next blocks (tail q.rest)))
      ∙ ap (λ (t : List LineSite). t ++ line_sites next blocks (tail q.rest)) (sym (map-append (seen blocks) first second))

-- the run at the first line has the sites of its lines, item by item
read_run : (n : ℕ) (parts : List ℕ) (place : ℕ) (blocks : List Block) (m : ℕ) (lines : List Line) → length lines ≤ n → Body parts m lines
    → Read (run_of n lines) parts place blocks lines
unfolding run_of Stops
read_run zero parts place blocks m [] less h = read_none parts place blocks m [] _ h
read_run zero parts place blocks m (l ∷ lines) less h = absurd (omega arith)
read_run (suc n) parts place blocks m [] less h = read_none parts place blocks m [] _ h
read_run (suc n) parts place blocks m (l ∷ lines) less h =
    go l.kind refl (λ parts place blocks m lines less h. read_run n parts place blocks m lines less h)
  where
    Again : Type 0
    Again =
        (parts : List ℕ) (place : ℕ) (blocks : List Block) (m : ℕ) (lines : List Line) → length lines ≤ n → Body parts m lines
        → Read (run_of n lines) parts place blocks lines

    Goal : Parsed → Type 0
    Goal p = Read p parts place blocks (l ∷ lines)

    stop : (c : LineKind) → l.kind ≡ c → Stops c → Goal (run_of (suc n) (l ∷ lines))
    stop c e s =
        subst Goal (sym (run_stops n l lines c e s)) (read_none parts place blocks m (l ∷ lines) (subst Stops (sym e) s) h)

    go : (c : LineKind) → l.kind ≡ c → Again → Goal (run_of (suc n) (l ∷ lines))
    go (St k) e again =
        let b = body_statement parts m l lines k e h in
        let x = Item.statement (statement_of k l) in
        subst Goal (sym (run_statement n l lines k e))
        (read_front x (run_of n lines) parts place blocks (l ∷ lines) lines (omega arith)
        (statement_item place blocks l lines k e) (again parts (place + item_lines x) blocks (suc m) lines (omega arith) b.1))
    go Lo e again =
        let p = run_of n lines in
        let inner = again (loop ∷ parts) (place + 1) (record { place = place; part = loop } ∷ blocks) m lines (omega arith)
        (body_loop parts m l lines e h) in
        let c = body_closed loop parts inner.number p.rest (λ z. omega arith) inner.ended inner.onward in
        let more = tail p.rest in
        let short : length more ≤ length lines = omega (arith, tail_fewer p.rest, inner.fewer) in
        subst Goal (sym (run_loop n l lines e))
        (read_front (Item.loop p.run) (run_of n more) parts place blocks (l ∷ lines) more (omega arith)
        (loop_item place blocks l lines p (loop ∷ parts) c.0 e inner c.1 c.2)
        (again parts (place + item_lines (Item.loop p.run)) blocks inner.number more (omega arith) c.3))
    go Br e again =
        let p = run_of n lines in
        let one = again (first_arm ∷ parts) (place + 1) (record { place = place; part = first_arm } ∷ blocks) m lines (omega arith)
        (body_branch parts m l lines e h) in
        let c = body_second parts one.number p.rest one.ended one.onward in
        let other = tail p.rest in
        let short : length other ≤ length lines = omega (arith, tail_fewer p.rest, one.fewer) in
        let q = run_of n other in
        let two = again (second_arm ∷ parts) (place + run_lines p.run + 2) (record { place = place; part = second_arm } ∷ blocks) one.number other
        (omega arith) c.3 in
        let d = body_closed second_arm parts two.number q.rest (λ z. omega arith) two.ended two.onward in
        let more = tail q.rest in
        let shorter : length more ≤ length lines = omega (arith, tail_fewer q.rest, two.fewer) in
        subst Goal (sym (run_branch n l lines e))
        (read_front (Item.branch p.run q.run) (run_of n more) parts place blocks (l ∷ lines) more (omega arith)
        (branch_item place blocks l lines p q (first_arm ∷ parts) (second_arm ∷ parts) c.0 d.0 e one c.1 c.2 two d.1 d.2)
        (again parts (place + item_lines (Item.branch p.run q.run)) blocks two.number more (omega arith) d.3))
    go Pr e again = stop Pr e _
    go El e again = stop El e _
    go En e again = stop En e _
    go Li e again = stop Li e _
    go Rl e again = stop Rl e _
    go Fk e again = stop Fk e _

-- where a program's run has ended no block is open, so its statements and flow have ended
ended_sites : (place : ℕ) (blocks : List Block) (n : ℕ) (lines : List Line) → Ended lines → Body [] n lines → line_sites place blocks lines ≡ []
unfolding line_sites Stops Body
ended_sites place blocks n [] e h = refl
ended_sites place blocks n (l ∷ lines) e h = go l.kind refl
  where
    none : (part : ℕ) (around : List ℕ) → ◌≡◌ {A = List ℕ} [] (part ∷ around) → ⊥
    none part around z = let y = ap length z in omega arith

    go : (c : LineKind) → l.kind ≡ c → line_sites place blocks (l ∷ lines) ≡ []
    go Li d = link_sites place blocks l lines d
    go Pr d = program_sites place blocks l lines d
    go El d =
        let t : (around : List ℕ) × ([] ≡ first_arm ∷ around) × Body (second_arm ∷ around) n lines = rw (d, Body) at h in
        absurd (none first_arm t.0 t.1)
    go En d =
        let t : (p : ℕ) × (around : List ℕ) × ([] ≡ p ∷ around) × (p ≡ first_arm → ⊥) × Body around n lines = rw (d, Body) at h in
        absurd (none t.0 t.1 t.2)
    go Rl d = absurd (body_relation [] n l lines d h)
    go Fk d = absurd (body_key [] n l lines d h)
    go (St k) d = let z : ⊥ = rw d at e in absurd z
    go Lo d = let z : ⊥ = rw d at e in absurd z
    go Br d = let z : ⊥ = rw d at e in absurd z

-- T8: a program's run has the sites of the program's lines
pub run_sites : (n : ℕ) (own : List Line) → length own ≤ n → Body [] 0 own → line_sites 0 [] own ≡ map (seen []) (sites (run_of n own).run 0)
run_sites n own less h =
    let r = read_run n [] 0 [] 0 own less h in
    r.same
    ∙ ap (λ (t : List LineSite). map (seen []) (sites (run_of n own).run 0) ++ t)
    (ended_sites (0 + run_lines (run_of n own).run) [] r.number (run_of n own).rest r.ended r.onward)
    ∙ append-nil (map (seen []) (sites (run_of n own).run 0))
