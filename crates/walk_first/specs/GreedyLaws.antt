-- The least steps that count, one after the other, are the greedy choices of the search.
use Rattle.std.specs.Prelude.{◌≡◌, Bool, false, cond, ◌&&◌, List, eqb}
use Rattle.std.proofs.Math.Path.{refl, sym, ap}
use Rattle.std.proofs.Common.{subst, ◌∙◌, not-suc-le-zero, arith, eqb-true, ltb-true, lt-ltb, leb-true, le-leb}
use Rattle.std.proofs.Math.Bool.{true}
use Rattle.std.proofs.lemmas.Bool.{false≢true}
use Prim.Native.Nat.{ℕ, zero, suc, ◌≤◌, ◌<◌, min}
use Rattle.spec_base.specs.Basic.{has}
use Rattle.law_base.specs.BoolLaws.{and_true, and_of}
use Rattle.spec_graph.specs.Graph.{Flow, Graph, is_back}
use Rattle.spec_graph.specs.Walk.{Step}
use Rattle.law_walk.specs.Reach.{Regular}
use Rattle.law_walk.specs.Parts.{only, only_edge}
use Rattle.law_walk.specs.Phases.{Phase, ended}
use Rattle.law_walk.specs.Phases.Phase.{starting, opening, closing, ending}
use Rattle.law_walk.specs.Greedy.{choice_numbers, Least, Greedy}
use Rattle.law_walk.specs.Greedy.Greedy.{stop, go}
use Rattle.pick_laws.specs.declared.Going.{Going}
use Rattle.pick_laws.specs.Pick.{Picks}
use Rattle.pick_laws.specs.PickLaws.{Picked}
use Rattle.pick_laws.specs.Completing.{exactly, needed}
use Rattle.pick_laws.specs.Opening.{open_below, open_most}
use Rattle.pick_laws.specs.CompletingLaws.{SmallPlaces}
use Rattle.pick_laws.specs.Demands.{needs_in, limits_in, counts, going_in, going_after, begun, fits, can_end, can_finish}
use Rattle.pick_laws.specs.DemandLaws.{choice_counts}
use Rattle.pick_laws.specs.ChoiceLaws.{Chosen, counts_choice, Counted, finish_counted}
use Rattle.edge_word.specs.Coding.{backs_in}
use Rattle.walk_need.specs.Needs.{needs_of}
use Rattle.walk_limit.specs.Limits.{limits_of}
use Rattle.walk_first.specs.NeedLaws.{Worked, PlaceKept, needs_at, limits_at}
use Rattle.step_word.specs.declared.Taken.{Taken}
use Rattle.step_word.specs.StepWord.{flow_of, step_word, step_of}
use Rattle.step_word.specs.StepWordLaws.{word_small, word_order}
use Rattle.walk_step.specs.LeastStepLaws.{counts_same}
use Rattle.walk_step.specs.LeastStep.{Counts, least_step, loose_at}
use Rattle.walk_step.specs.Tabled.{FoundStep, Tabled}
use Rattle.walk_first.specs.FirstSteps.{Prepared, opens_at, taken, step_taken, going_on, steps_from}

-- the flow of a step taken
flow_taken : (b : Bool) → is_back (flow_of b) ≡ b
flow_taken true = refl
flow_taken false = refl

-- a phase keeps a place below 1024
kept_place : (g : Graph) (ph : Phase) → PlaceKept (going_in g ph)
unfolding going_in
kept_place g starting k e = let z : ◌≡◌ {A = ℕ} 0 1 = cc in absurd (omega arith)
kept_place g (opening s) k e = let z : ◌≡◌ {A = ℕ} 0 1 = cc in absurd (omega arith)
kept_place g closing k e = let z : ◌≡◌ {A = ℕ} 0 1 = cc in absurd (omega arith)
kept_place g (ending f s) k e = let same : min f.leaves 1023 ≡ k = cc in omega arith

-- a step that counts, as numbers and as a test
counts_facts : (g : Graph) (needs limits : ℕ → ℕ) (step : Step) (y : ℕ) (flow : Flow) → step.flow ≡ flow → step.enters < 1024
    → counts g needs limits step y ≡ true → Counts (needs y) (limits y) flow (g.loose step.node step.leaves) step.leaves step.enters
unfolding counts open_below
counts_facts g needs limits step y Flow.forward f few h = by_loose (g.loose step.node step.leaves) (leb-true _ _ (rw f at h))
  where
    by_loose : (l : Bool) → needs y ≤ cond l 1024 (min step.enters 1024) → needs y ≤ cond l 1024 step.enters
    by_loose true k = k
    by_loose false k = omega arith
counts_facts g needs limits step y Flow.back f few h = ltb-true step.leaves (limits y) (rw f at h)

facts_counts : (g : Graph) (needs limits : ℕ → ℕ) (step : Step) (y : ℕ) (flow : Flow) → step.flow ≡ flow → step.enters < 1024
    → Counts (needs y) (limits y) flow (g.loose step.node step.leaves) step.leaves step.enters → counts g needs limits step y ≡ true
unfolding counts open_below
facts_counts g needs limits step y Flow.forward f few h = rw f (le-leb _ _ (by_loose (g.loose step.node step.leaves) h))
  where
    by_loose : (l : Bool) → needs y ≤ cond l 1024 step.enters → needs y ≤ cond l 1024 (min step.enters 1024)
    by_loose true k = k
    by_loose false k = omega arith
facts_counts g needs limits step y Flow.back f few h = rw f (lt-ltb step.leaves (limits y) h)

-- what counts among the nodes of a word enters one of them
among_has : (b : Bool) (flow : Flow) (loose : Bool) (need limit i j : ℕ) → j < 1024
    → Counts (cond b need 1025) (cond b limit 0) flow loose i j → (b ≡ true) × Counts need limit flow loose i j
among_has true flow loose need limit i j few h = (refl, h)
among_has false Flow.forward loose need limit i j few h = by_loose loose h
  where
    by_loose : (l : Bool) → 1025 ≤ cond l 1024 j → (false ≡ true) × (need ≤ cond l 1024 j)
    by_loose true k = let z : ⊥ = omega arith in absurd z
    by_loose false k = let z : ⊥ = omega arith in absurd z
among_has false Flow.back loose need limit i j few h = absurd (not-suc-le-zero h)

has_among : (b : Bool) (flow : Flow) (loose : Bool) (need limit i j : ℕ) → b ≡ true → Counts need limit flow loose i j
    → Counts (cond b need 1025) (cond b limit 0) flow loose i j
has_among true flow loose need limit i j e h = h
has_among false flow loose need limit i j e h = absurd (false≢true e)

-- how far a step opens counts only where it is forward
going_same : (going : Going) (b : Bool) (o o' l : ℕ) → (b ≡ false → o ≡ o') → going_after going b o l ≡ going_after going b o' l
unfolding going_after
going_same Going.Starting true o o' l h = refl
going_same Going.Starting false o o' l h = ap Going.Opening (h refl)
going_same (Going.Opening k) true o o' l h = refl
going_same (Going.Opening k) false o o' l h = ap Going.Opening (h refl)
going_same Going.Closing b o o' l h = refl
going_same (Going.Ending k) b o o' l h = refl

-- how far a forward step opens
step_opens : (whole : Graph) (chosen : ℕ → Bool) (x : ℕ) (t : Taken) → t.back ≡ false → t.enters < 1024
    → cond (whole.loose x t.leaves) 1024 t.enters ≡ open_below (only chosen whole) (step_taken x t)
unfolding open_below only
step_opens whole chosen x t f few =
    rw f
    (let least : t.enters ≡ min t.enters 1024 = omega arith in ap (λ (k : ℕ). cond (whole.loose x t.leaves) 1024 k) least)

-- with no step left the walk has ended at its start
finish_last : (g : Graph) (forwards backs : Picks) (n s : ℕ) (ph : Phase) (x : ℕ) → begun ph ≡ true → can_finish g forwards backs n s zero ph x ≡ true
    → (x ≡ s) × (ended g ph ≡ true)
unfolding can_finish can_end begun needed exactly ended
finish_last g forwards backs n s starting x on c = absurd (false≢true on)
finish_last g forwards backs n s (opening e) x on c =
    let past = leb-true 1025 (open_below g e) c in
    let most = open_most g e in let z : ⊥ = omega arith in absurd z
finish_last g forwards backs n s closing x on c = (eqb-true x s c, refl)
finish_last g forwards backs n s (ending f e) x on c = let both = and_true (eqb x s) _ c in (eqb-true x s both.0, both.1)

module _ {whole : Graph} {table : List ℕ} (tabled : Tabled table whole) {forwards : Picks} {backs : List ℕ} (n : ℕ) (full : n ≡ 64)
    (p : Prepared) (regular : Regular (only (has p.nodes) whole)) (inside : whole.size ≤ n)
    (few_places : SmallPlaces (only (has p.nodes) whole))
    (picks : Picked (only (has p.nodes) whole) n forwards (backs_in backs)) (in_s : p.start < n)
    {most : ℕ} (worked : Worked forwards backs n p.start p.ways p.opened p.wide most) where
  abbrev g : Graph
  g = only (has p.nodes) whole

  abbrev can : ℕ → Phase → ℕ → Bool
  can = can_finish g forwards (backs_in backs) n p.start

  abbrev needs_now : ℕ → Going → ℕ → ℕ
  needs_now r going = needs_in forwards (backs_in backs) n p.start r going

  abbrev limits_now : ℕ → Going → ℕ → ℕ
  limits_now r going = limits_in forwards n p.start r going

  abbrev needs_there : ℕ → Going → List ℕ
  needs_there r going = needs_of backs p.ways p.opened p.wide p.start p.nodes r going

  abbrev limits_there : ℕ → Going → List ℕ
  limits_there r going = limits_of p.ways p.wide p.nodes r going

  abbrev word_there : ℕ → Going → ℕ → ℕ
  word_there r going x = least_step table x (needs_there r going) (limits_there r going)

  -- an edge that counts has no lesser word
  edge_least : (r : ℕ) (ph : Phase) (x : ℕ) (step : Step) (y : ℕ) → r ≤ most → step.node ≡ x
      → g.edge x step.leaves y step.enters step.flow ≡ true
      → counts g (needs_now r (going_in g ph)) (limits_now r (going_in g ph)) step y ≡ true
      → word_there r (going_in g ph) x ≤ step_word step.leaves step.enters step.flow y
  unfolding only
  edge_least r ph x step y h node edge c =
      let e = only_edge (has p.nodes) whole x step.leaves y step.enters step.flow edge in
      let few = few_places x step.leaves y step.enters step.flow edge in
      let into = (regular.in_nodes x step.leaves y step.enters step.flow edge).1 in
      let in_y : y < n = omega (arith, into) in
      let facts = counts_facts g (needs_now r (going_in g ph)) (limits_now r (going_in g ph)) step y step.flow refl few.1 c in
      let among = has_among (has p.nodes y) step.flow (whole.loose step.node step.leaves) (needs_now r (going_in g ph) y)
      (limits_now r (going_in g ph) y) step.leaves step.enters e.1 facts in
      tabled.least x (needs_there r (going_in g ph)) (limits_there r (going_in g ph)) step.leaves y step.enters step.flow e.2
      (counts_same step.flow (sym (needs_at n full worked p.nodes r y (going_in g ph) (kept_place g ph) h in_y))
      (sym (limits_at n full worked p.nodes r y (going_in g ph) h in_y)) (ap (λ (m : ℕ). whole.loose m step.leaves) node) refl refl among)

  -- the step taken is the least choice
  record Taking (r : ℕ) (ph : Phase) (x : ℕ) (t : Taken) : Type 0 where
    pub in_into : t.into < n
    pub chosen : Chosen picks few_places p.start r ph x (step_taken x t) t.into
    pub least : Least g can r ph x (step_taken x t) t.into
    pub going : going_on table (going_in g ph) x t ≡ going_in g chosen.next

  taken_choice : (r : ℕ) (ph : Phase) (x : ℕ) → r ≤ most → fits ph ≡ true → Counted picks few_places p.start r (going_in g ph) x
      → Taking r ph x (taken table backs p r (going_in g ph) x)
  unfolding taken only choice_numbers going_on opens_at
  taken_choice r ph x h fit counted =
      record {
        in_into = omega (arith, found.into_small);
        chosen = choice;
        least = λ other z after c.
            let le = edge_least r ph x other z h c.node c.edge (choice_counts regular picks inside few_places p.start ph c) in
            let few = few_places x other.leaves z other.enters other.flow c.edge in
            let into = (regular.in_nodes x other.leaves z other.enters other.flow c.edge).1 in
            word_order t.leaves t.enters (flow_of t.back) t.into other.leaves other.enters other.flow z
            found.leaves_small found.enters_small found.into_small few.0 few.1 (omega (arith, into))
            (let same = found.same in omega arith);
        going = going_same (going_in g ph) t.back (cond (loose_at table x t.leaves) 1024 t.enters) (open_below g (step_taken x t)) t.leaves
            opens
            ∙ ap (λ (b : Bool). going_after (going_in g ph) b (open_below g (step_taken x t)) t.leaves) (sym (flow_taken t.back))
            ∙ sym choice.going;
      }
    where
      word : ℕ
      word = word_there r (going_in g ph) x

      t : Taken
      t = step_of word

      below : word < 134217728
      below =
          let le = edge_least r ph x counted.step counted.into h counted.node counted.edge counted.passes in
          let most_word = word_small counted.step.leaves counted.step.enters counted.step.flow counted.into in omega arith

      found : FoundStep whole x (needs_there r (going_in g ph)) (limits_there r (going_in g ph)) word t
      found = tabled.found x (needs_there r (going_in g ph)) (limits_there r (going_in g ph)) below

      in_into_lem : t.into < n
      in_into_lem = omega (arith, found.into_small)

      among : (has p.nodes t.into ≡ true)
          × Counts (needs_now r (going_in g ph) t.into) (limits_now r (going_in g ph) t.into) (flow_of t.back) (whole.loose x t.leaves)
          t.leaves t.enters
      among =
          among_has (has p.nodes t.into) (flow_of t.back) (whole.loose x t.leaves) (needs_now r (going_in g ph) t.into)
          (limits_now r (going_in g ph) t.into) t.leaves t.enters found.enters_small
          (counts_same (flow_of t.back) (needs_at n full worked p.nodes r t.into (going_in g ph) (kept_place g ph) h in_into_lem)
          (limits_at n full worked p.nodes r t.into (going_in g ph) h in_into_lem) refl refl refl found.counts)

      here : has p.nodes x ≡ true
      here =
          (only_edge (has p.nodes) whole x counted.step.leaves counted.into counted.step.enters counted.step.flow counted.edge).0

      edge : g.edge x t.leaves t.into t.enters (flow_of t.back) ≡ true
      edge = and_of {a = has p.nodes x && has p.nodes t.into} (and_of here among.0) found.edge

      passes : counts g (needs_now r (going_in g ph)) (limits_now r (going_in g ph)) (step_taken x t) t.into ≡ true
      passes =
          facts_counts g (needs_now r (going_in g ph)) (limits_now r (going_in g ph)) (step_taken x t) t.into (flow_of t.back) refl
          found.enters_small among.1

      choice : Chosen picks few_places p.start r ph x (step_taken x t) t.into
      choice = counts_choice picks few_places p.start r ph x t.into (step_taken x t) refl edge fit passes

      opens : t.back ≡ false → cond (loose_at table x t.leaves) 1024 t.enters ≡ open_below g (step_taken x t)
      opens f =
          let loose = tabled.loose x t.leaves t.into t.enters (flow_of t.back) found.edge in
          ap (λ (b : Bool). cond b 1024 t.enters) loose ∙ step_opens whole (has p.nodes) x t f found.enters_small

  -- where the walk can be completed in so many steps, the least steps complete it
  steps_greedy : (r : ℕ) (ph : Phase) (x : ℕ) → r ≤ suc most → x < n → fits ph ≡ true → begun ph ≡ true → can r ph x ≡ true
      → Greedy g p.start can r ph x (steps_from table backs p r (going_in g ph) x)
  unfolding steps_from
  steps_greedy zero ph x h in-x fit on c = let t = finished ph on c in stop t.0 t.1
    where
      finished : (q : Phase) → begun q ≡ true → can zero q x ≡ true → (x ≡ p.start) × (ended g q ≡ true)
      finished q o c = finish_last g forwards (backs_in backs) n p.start q x o c
  steps_greedy (suc r) ph x h in-x fit on c =
      let taking = taken_choice r ph x (omega arith) fit (finish_counted picks few_places p.start r ph x in-x in_s on c) in
      let t = taken table backs p r (going_in g ph) x in
      let next = taking.chosen.next in
      go (step_taken x t) t.into taking.chosen.choice taking.least
      (subst (λ (k : Going). Greedy g p.start can r next t.into (steps_from table backs p r k t.into)) (sym taking.going)
      (steps_greedy r next t.into (omega arith) taking.in_into taking.chosen.fit taking.chosen.more taking.chosen.choice.rest))

  -- and so from the start, where some first step counts
  pub start_greedy : (r : ℕ) → r ≤ most → Counted picks few_places p.start r Going.Starting p.start
      → Greedy g p.start can (suc r) starting p.start (steps_from table backs p (suc r) Going.Starting p.start)
  unfolding steps_from going_in fits
  start_greedy r h counted =
      let taking = taken_choice r starting p.start h refl counted in
      let t = taken table backs p r Going.Starting p.start in
      let next = taking.chosen.next in
      go (step_taken p.start t) t.into taking.chosen.choice taking.least
      (subst (λ (k : Going). Greedy g p.start can r next t.into (steps_from table backs p r k t.into)) (sym taking.going)
      (steps_greedy r next t.into (omega arith) taking.in_into taking.chosen.fit taking.chosen.more taking.chosen.choice.rest))
