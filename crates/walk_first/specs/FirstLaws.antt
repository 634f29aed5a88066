-- The walk of the tables is the first dangerous walk among the nodes of the word, and where there is none there is no dangerous walk.
use Rattle.std.specs.Prelude.{◌≡◌, false, ◌&&◌, ◌⊎◌, eqb, ltb, get_or}
use Rattle.std.proofs.Math.Path.{refl, ap, subst}
use Rattle.std.proofs.Common.{sym, ◌∙◌, inl, inr, eqb-true, ltb-true, ltb-false, lt-ltb}
use Rattle.std.proofs.Math.Bool.{true}
use Rattle.std.proofs.lemmas.Bool.{false≢true}
use mathlib.Core.List.{List, [], ◌∷◌}
use Prim.Native.Nat.{ℕ, suc, ◌+◌, ◌≤◌, ◌<◌}
use native.Mathlib.Omega.{arith}
use Rattle.std.proofs.Math.ListN.{length}
use Rattle.spec_base.specs.Basic.{any, numbers, has}
use Rattle.law_base.specs.BoolLaws.{decide, and_true, and_of, or_right}
use Rattle.law_base.specs.ListLaws.{any_numbers, any_numbers_of}
use Rattle.spec_graph.specs.Graph.{Graph}
use Rattle.spec_graph.specs.Walk.{Step, is_dangerous, DangerousWalk, FirstWalk}
use Rattle.law_walk.specs.Reach.{Regular, rounds_for}
use Rattle.law_walk.specs.Parts.{only, only_edge}
use Rattle.law_walk.specs.Phases.{Phase, Accepted, normal}
use Rattle.law_walk.specs.Phases.Phase.{starting}
use Rattle.law_walk.specs.Phases.Accepted.{go}
use Rattle.law_walk.specs.Greedy.{Greedy}
use Rattle.law_walk.proofs.GreedyFirst.{greedy_first}
use Rattle.pick_laws.specs.declared.Going.{Going}
use Rattle.pick_laws.specs.Pick.{Picks, dangerous_picks, onward_to, reaches, returns_at, node_test}
use Rattle.pick_laws.specs.PickLaws.{Picked, dangerous_some}
use Rattle.pick_laws.proofs.NodeComplete.{node_complete}
use Rattle.pick_laws.specs.Completing.{exactly, needed, leads, leaves_at}
use Rattle.pick_laws.specs.ExactLaws.{exactly_reaches, reaches_exactly}
use Rattle.pick_laws.specs.NeededLaws.{needed_later}
use Rattle.pick_laws.specs.CompletingLaws.{SmallPlaces}
use Rattle.pick_laws.specs.Demands.{limits_in, starting_limit, can_finish}
use Rattle.pick_laws.proofs.WalksFinish.{can_complete}
use Rattle.pick_laws.specs.ChoiceLaws.{Counted, back_counted_lem, start_counted}
use Rattle.pick_laws.specs.LeadLaws.{dangerous_below, exactly_widest}
use Rattle.pick_laws.proofs.WalkLeads.{accepted_leads}
use Rattle.edge_word.specs.Coding.{entry, forwards_in, backs_in}
use Rattle.walk_reach.specs.Layers.{joined_rows, wide_at}
use Rattle.walk_lead.specs.Leads.{lead_rows, wrap_start}
use Rattle.walk_lead.specs.WrapLaws.{leads_has, wrap_found, wrap_least, wrap_bound}
use Rattle.walk_ways.specs.Ways.{first_start}
use Rattle.edge_opens.specs.OpensLaws.{word_opens, word_leaves}
use Rattle.walk_ways.specs.WaysLaws.{ways_has, openings_has, start_found, start_least}
use Rattle.walk_wide.specs.WideLaws.{widest_at_lem}
use Rattle.walk_first.specs.NeedLaws.{Worked}
use Rattle.walk_step.specs.Tabled.{Tabled}
use Rattle.walk_first.specs.FirstSteps.{return_in, steps_from, start_of, prepared_for, walk_of}
use Rattle.walk_first.specs.ReturnLaws.{return_found, return_least}
use Rattle.walk_first.specs.GreedyLaws.{start_greedy}

-- a walk without a step is not dangerous
empty_safe : (g : Graph) → is_dangerous g [] ≡ true → false ≡ true
unfolding is_dangerous
empty_safe g h = h

module _ (table forwards backs : List ℕ) (nodes n : ℕ) (full : n ≡ 64) {whole : Graph} (tabled : Tabled table whole)
    (regular : Regular (only (has nodes) whole)) (inside : whole.size ≤ n) (small : SmallPlaces whole)
    (picks : Picked (only (has nodes) whole) n (forwards_in forwards) (backs_in backs)) where
  abbrev g : Graph
  g = only (has nodes) whole

  abbrev F : Picks
  F = forwards_in forwards

  abbrev B : Picks
  B = backs_in backs

  abbrev d : ℕ
  d = return_in forwards backs

  places : SmallPlaces g
  places m i k j flow h = small m i k j flow (only_edge (has nodes) whole m i k j flow h).2

  -- where some dangerous walk is, some dangerous pair has a way back
  pub danger_returns : DangerousWalk g → d < 64
  unfolding node_test returns_at leads only
  danger_returns walk =
      let test = node_complete regular picks inside walk in
      let a = any_numbers (λ u. any (λ v. any (returns_at F B n u v) (numbers n)) (numbers n)) n test in
      let b = any_numbers (λ v. any (returns_at F B n a.0 v) (numbers n)) n a.2 in
      let c = any_numbers (returns_at F B n a.0 b.0) n b.2 in
      let both = and_true (dangerous_picks (F a.0 b.0) (B b.0 c.0)) (reaches F n a.0 (rounds_for n) c.0) c.2 in
      let rounds : rounds_for n ≡ 63 = ap rounds_for full in
      let least = return_least forwards backs n full a.0 c.0 63 a.1 c.1 (omega arith)
      (any_numbers_of (λ v. dangerous_picks (F a.0 v) (B v c.0)) n b.0 b.1 both.0)
      (subst (λ (k : ℕ). reaches F n a.0 k c.0 ≡ true) rounds both.1) in
      omega arith

  -- what is accepted with a step begins at a node
  accepted_inside : {s r x : ℕ} {ph : Phase} {walk : List Step} → Accepted g s (suc r) ph x walk → x < n
  unfolding only
  accepted_inside {x = x} (go step y node edge after rest) =
      let out = (regular.in_nodes x step.leaves y step.enters step.flow edge).0 in omega (arith, out)

  -- a way back is of no fewer steps
  exact_least : (u w r : ℕ) → u < n → w < n → leads F B n u w ≡ true → exactly F n u r w ≡ true → d < 64 → d ≤ r
  exact_least u w r in-u in-w lead way below = by_size (decide (ltb r 64))
    where
      by_size : (ltb r 64 ≡ true) ⊎ (ltb r 64 ≡ false) → d ≤ r
      by_size (inl e) =
          return_least forwards backs n full u w r in-u in-w (ltb-true r 64 e) lead (exactly_reaches F n u r r w way (omega arith))
      by_size (inr e) = let l = ltb-false r 64 e in omega arith

  -- a way back of at most d steps has exactly d
  exact_way : (u w : ℕ) → u < n → w < n → leads F B n u w ≡ true → reaches F n u d w ≡ true → d < 64 → exactly F n u d w ≡ true
  exact_way u w in-u in-w lead way below =
      let t = reaches_exactly F n u d w way in
      let least = exact_least u w t.0 in-u in-w lead t.2 below in
      let most = t.1 in
      let same : t.0 ≡ d = omega arith in subst (λ (r : ℕ). exactly F n u r w ≡ true) same t.2

  -- the start
  abbrev later : ℕ
  later = first_start (joined_rows forwards) (lead_rows forwards backs) (d + 2)

  abbrev s : ℕ
  s = wrap_start forwards backs (joined_rows forwards) d later

  lead_premise : (u w : ℕ) → u < n → w < n → has (get_or (lead_rows forwards backs) u 0) w ≡ leads F B n u w
  lead_premise = leads_has forwards backs n full

  -- where a pair leads to a node from which d steps go back, a walk of d + 2 steps can start
  lead_needed : (u w : ℕ) → w < n → leads F B n u w ≡ true → exactly F n u d w ≡ true → needed F B n u (d + 2) u ≡ 0
  lead_needed u w in-w lead way =
      let two : d + 2 ≡ suc (suc d) = omega arith in
      let test = needed_later F B n u (λ a b. word_opens (entry forwards a b)) (λ a b. word_leaves (entry backs a b)) d u in
      rw two
      (eqb-true _ 0
      (test
      ∙ or_right (any (onward_to F (λ y. eqb (needed F B n u (suc d) y) 0) u) (numbers n))
      (any_numbers_of (λ z. leads F B n u z && exactly F n u d z) n w in-w (and_of lead way))))

  module _ (below : d < 64) where
    later_below : later < 64
    later_below =
        let t = return_found forwards backs n full below in
        let lead = t.4 in
        let way = exact_way t.0 t.1 t.2 t.3 lead t.5 below in
        let least = start_least forwards backs n full (lead_rows forwards backs) lead_premise (d + 2) t.0 (omega arith)
        (let small_u = t.2 in omega arith) (lead_needed t.0 t.1 t.3 lead way) in
        let small_u = t.2 in omega arith

    s_most : s ≤ later
    s_most = wrap_bound forwards backs n full d later

    in_s : s < n
    in_s = let a = later_below in let b = s_most in omega arith

    -- what is worked out for the walk
    worked : let p = prepared_for forwards backs nodes d s in Worked F backs n s p.ways p.opened p.wide (d + 1)
    unfolding prepared_for wide_at
    worked = record {
      ends = λ r x h l. ways_has forwards n full s (d + 2) r x (omega arith) (omega arith) l;
      opens = λ r x h l.
          openings_has forwards backs n full (lead_rows forwards backs) lead_premise s (d + 2) r x (omega arith) (omega arith) l;
      widths = λ r x h l.
          let inside_rounds : r < 64 = omega arith in
          rw (lt-ltb r 64 inside_rounds) (widest_at_lem forwards n full s (d + 1) r x in_s (omega arith) inside_rounds l);
    }

    -- some first step counts
    counted : Counted picks places s (d + 1) Going.Starting s
    unfolding limits_in starting_limit leads
    counted = by_start (decide (ltb s later))
      where
        two : d + 2 ≡ suc (d + 1)
        two = omega arith

        by_start : (ltb s later ≡ true) ⊎ (ltb s later ≡ false) → Counted picks places s (d + 1) Going.Starting s
        by_start (inr e) =
            let l = ltb-false s later e in
            let most = s_most in
            let same : s ≡ later = omega arith in
            let zero_needed = start_found forwards backs n full (lead_rows forwards backs) lead_premise (d + 2) s (omega arith) same
            (let few = in_s in omega arith) in
            start_counted picks places s (d + 1) s in_s (subst (λ (k : ℕ). needed F B n s k s ≡ 0) two zero_needed)
        by_start (inl e) =
            let t = wrap_found forwards backs n full d later (ltb-true s later e) (let l = later_below in omega arith) in
            let pair = dangerous_some (F t.0 s) (B s t.1) t.4 in
            let q = pair.1 in
            let lead = any_numbers_of (λ v. dangerous_picks (F t.0 v) (B v t.1)) n s in_s t.4 in
            let way = exact_way t.0 t.1 t.2 t.3 lead t.5 below in
            let few = word_leaves (entry backs s t.1) q pair.3 in
            let leaves : leaves_at (B s t.1) ≡ q.leaves = ap leaves_at pair.3 in
            let opens = dangerous_below (F t.0 s) (B s t.1) t.4 (omega arith) in
            let wide = exactly_widest F n t.0 s q.leaves d t.1 (omega arith) way in
            let one : d + 1 ≡ suc d = omega arith in
            back_counted_lem picks places s (d + 1) Going.Starting s t.1 q in_s t.3 pair.3
            (subst (λ (k : ℕ). q.leaves < starting_limit F n s k t.1) (sym one) wide)

    -- the least steps are greedy choices
    greedy : Greedy g s (can_finish g F B n s) (suc (d + 1)) starting s
        (steps_from table backs (prepared_for forwards backs nodes d s) (suc (d + 1)) Going.Starting s)
    unfolding prepared_for
    greedy =
        start_greedy tabled n full (prepared_for forwards backs nodes d s) regular inside places picks in_s worked (d + 1) (omega arith) counted

    -- what a dangerous walk tells of its length and its start
    walk_told : (first : Step) (rest : List Step) → is_dangerous g (first ∷ rest) ≡ true
        → (first.node < n) × ((r : ℕ) × (length rest ≡ suc r) × (d ≤ r) × (r ≡ d → s ≤ first.node))
    unfolding only
    walk_told first rest h =
        let other = normal regular first rest h in
        let t = accepted_leads regular picks inside places first.node refl other.1 in
        let in_first = accepted_inside other.1 in
        let back = t.2 in
        let least = exact_least back.0 back.1 t.0 back.2 back.3 back.4 back.5 below in
        (in_first, (t.0, t.1, least, λ e. start_told in_first t.0 e t.3))
      where
        x : ℕ
        x = first.node

        before : later ≤ x → s ≤ x
        before l = let most = s_most in omega arith

        start_told : x < n → (r : ℕ) → r ≡ d
            → (needed F B n x (suc (suc r)) x ≡ 0)
            ⊎ ((u : ℕ) × (w : ℕ) × (u < n) × (w < n) × (dangerous_picks (F u x) (B x w) ≡ true) × (exactly F n u r w ≡ true))
            → s ≤ x
        start_told in-x r e (inl z) =
            let two : suc (suc r) ≡ d + 2 = omega arith in
            before
            (start_least forwards backs n full (lead_rows forwards backs) lead_premise (d + 2) x (omega arith) (omega arith)
            (subst (λ (k : ℕ). needed F B n x k x ≡ 0) two z))
        start_told in-x r e (inr (u, w, in-u, in-w, pair, way)) = by_later (decide (ltb x later))
          where
            by_later : (ltb x later ≡ true) ⊎ (ltb x later ≡ false) → s ≤ x
            by_later (inl l) =
                wrap_least forwards backs n full d later x u w (ltb-true x later l) in-x in-u in-w pair
                (exactly_reaches F n u r d w way (omega arith))
            by_later (inr l) = before (ltb-false x later l)

    -- Req 01: the walk is the first
    pub walk_first : FirstWalk g (walk_of table forwards backs nodes d)
    unfolding walk_of start_of only
    walk_first =
        let two : suc (d + 1) ≡ d + 2 = omega arith in
        subst (λ (k : ℕ). FirstWalk g (steps_from table backs (prepared_for forwards backs nodes d s) k Going.Starting s)) two
        (greedy_first regular (can_complete regular picks inside places s) greedy fewest lowest)
      where
        fewest : (other : List Step) → is_dangerous g other ≡ true → suc (d + 1) ≤ length other
        fewest [] h = absurd (false≢true (empty_safe g h))
        fewest (first ∷ rest) h = let t = walk_told first rest h in let long = t.1.1 in let least = t.1.2 in omega arith

        lowest : (first : Step) (rest : List Step) → is_dangerous g (first ∷ rest) ≡ true → length rest ≡ d + 1 → s ≤ first.node
        lowest first rest h e = let t = walk_told first rest h in let long = t.1.1 in t.1.3 (omega arith)
