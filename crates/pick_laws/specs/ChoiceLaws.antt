-- A step that counts is a choice, and where the walk can be completed some step counts.
use Rattle.std.specs.Prelude.{◌≡◌, true, false, cond, not, ◌&&◌, eqb, ltb, leb}
use Rattle.std.proofs.Math.Path.{refl, sym}
use Rattle.std.proofs.Common.{ap, ◌∙◌, not-suc-le-zero, eq-eqb, ltb-true, lt-ltb, leb-true, le-leb}
use Rattle.std.proofs.Math.Bool.{Bool}
use Rattle.std.proofs.lemmas.Bool.{false≢true}
use Rattle.std.proofs.Math.Option.{Option, none, some}
use Prim.Native.Nat.{ℕ, zero, suc, ◌≤◌, ◌<◌, min}
use native.Mathlib.Omega.{arith}
use Rattle.spec_base.specs.Basic.{any, numbers}
use Rattle.law_base.specs.BoolLaws.{and_true, and_of, not_of_false}
use Rattle.law_base.specs.ListLaws.{any_numbers}
use Rattle.spec_graph.specs.Graph.{Flow, Graph, is_back}
use Rattle.spec_graph.specs.Walk.{Step, dangerous_pair}
use Rattle.law_walk.specs.Phases.{Phase, after_step, ended}
use Rattle.law_walk.specs.Phases.Phase.{starting, opening, closing, ending}
use Rattle.law_walk.specs.Greedy.{Choice}
use Rattle.pick_laws.specs.declared.Going.{Going}
use Rattle.pick_laws.specs.declared.Pick.{Pick}
use Rattle.pick_laws.specs.Pick.{Picks, picked, onward_to, step_of}
use Rattle.pick_laws.specs.PickLaws.{Picked, picked_some}
use Rattle.pick_laws.specs.Completing.{least_below, opens_below, leaves_at, exactly, leaves_first, opens_into, needed, widest}
use Rattle.pick_laws.specs.Opening.{open_below, open_most, below_pair}
use Rattle.pick_laws.specs.LeastLaws.{least_some, greatest_some}
use Rattle.pick_laws.specs.CompletingLaws.{SmallPlaces}
use Rattle.pick_laws.specs.Demands.{ending_needs, needs_in, starting_limit, limits_in, counts, going_in, going_after, begun, fits, can_end}
use Rattle.pick_laws.specs.Demands.{can_finish}
use Rattle.pick_laws.specs.DemandLaws.{passed_only, counts_forward, counts_back}

-- a step that counts
forward_counts_lem : (g : Graph) (needs limits : ℕ → ℕ) (step : Step) (y : ℕ) → step.flow ≡ Flow.forward → counts g needs limits step y ≡ true
    → leb (needs y) (open_below g step) ≡ true
unfolding counts
forward_counts_lem g needs limits step y f h =
    sym (ap (λ (b : Bool). cond b (ltb step.leaves (limits y)) (leb (needs y) (open_below g step))) (ap is_back f)) ∙ h

back_counts_lem : (g : Graph) (needs limits : ℕ → ℕ) (step : Step) (y : ℕ) → step.flow ≡ Flow.back → counts g needs limits step y ≡ true
    → step.leaves < limits y
unfolding counts
back_counts_lem g needs limits step y f h =
    ltb-true step.leaves (limits y)
    (sym (ap (λ (b : Bool). cond b (ltb step.leaves (limits y)) (leb (needs y) (open_below g step))) (ap is_back f)) ∙ h)

module _ {g : Graph} {n : ℕ} {forwards backs : Picks} (picks : Picked g n forwards backs) (small : SmallPlaces g) (s : ℕ) where
  abbrev can : ℕ → Phase → ℕ → Bool
  can = can_finish g forwards backs n s

  -- the choice, and what the search keeps after it
  pub record Chosen (r : ℕ) (ph : Phase) (x : ℕ) (step : Step) (y : ℕ) : Type 0 where
    pub next : Phase
    pub choice : Choice g can r ph x step y next
    pub going : going_in g next ≡ going_after (going_in g ph) (is_back step.flow) (open_below g step) step.leaves
    pub fit : fits next ≡ true
    pub more : begun next ≡ true

  chosen : (r : ℕ) (ph next : Phase) (x : ℕ) (step : Step) (y : ℕ) → step.node ≡ x → g.edge x step.leaves y step.enters step.flow ≡ true
      → after_step g ph step ≡ some next → can r next y ≡ true
      → going_in g next ≡ going_after (going_in g ph) (is_back step.flow) (open_below g step) step.leaves → fits next ≡ true
      → begun next ≡ true → Chosen r ph x step y
  chosen r ph next x step y node edge after rest going fit more =
      record { next = next; choice = record { node = node; edge = edge; after = after; rest = rest }; going = going; fit = fit; more = more }

  -- a step that counts is a choice
  pub counts_choice : (r : ℕ) (ph : Phase) (x y : ℕ) (step : Step) → step.node ≡ x
      → g.edge x step.leaves y step.enters step.flow ≡ true → fits ph ≡ true
      → counts g (needs_in forwards backs n s r (going_in g ph)) (limits_in forwards n s r (going_in g ph)) step y ≡ true → Chosen r ph x step y
  unfolding can_finish can_end ended going_in going_after begun fits needs_in ending_needs limits_in starting_limit after_step
  counts_choice r starting x y step node edge fit h = by_flow step.flow refl
    where
      few : step.leaves < 1024
      few = (small x step.leaves y step.enters step.flow edge).0

      turned : (k : ℕ) → step.flow ≡ Flow.back → step.leaves < starting_limit forwards n s k y → can_end g forwards n s step step k y ≡ true
      turned zero f l = absurd (not-suc-le-zero l)
      turned (suc k) f l = and_of (ap is_back f) (lt-ltb (min step.leaves 1023) (widest forwards n s k y) (omega arith))

      least : min step.leaves 1023 ≡ step.leaves
      least = omega (arith, few)

      by_flow : (f : Flow) → step.flow ≡ f → Chosen r starting x step y
      by_flow Flow.forward f =
          chosen r starting (opening step) x step y node edge (rw (ap is_back f) refl)
          (forward_counts_lem g (needs_in forwards backs n s r Going.Starting) (limits_in forwards n s r Going.Starting) step y f h)
          (rw (ap is_back f) refl) refl refl
      by_flow Flow.back f =
          let l = back_counts_lem g (needs_in forwards backs n s r Going.Starting) (limits_in forwards n s r Going.Starting) step y f h in
          chosen r starting (ending step step) x step y node edge (rw (ap is_back f) refl) (turned r f l)
          (rw (ap is_back f) (ap Going.Ending least)) (and_of (ap is_back f) (lt-ltb step.leaves 1024 few)) refl
  counts_choice r (opening e) x y step node edge fit h = by_flow step.flow refl
    where
      going : Going
      going = Going.Opening (open_below g e)

      limited : (b : Bool) → step.leaves < cond b (open_below g e) 0 → (b ≡ true) × (step.leaves < open_below g e)
      limited true l = (refl, l)
      limited false l = absurd (not-suc-le-zero l)

      by_flow : (f : Flow) → step.flow ≡ f → Chosen r (opening e) x step y
      by_flow Flow.forward f =
          chosen r (opening e) (opening step) x step y node edge (rw (ap is_back f) refl)
          (forward_counts_lem g (needs_in forwards backs n s r going) (limits_in forwards n s r going) step y f h) (rw (ap is_back f) refl) refl refl
      by_flow Flow.back f =
          let l = limited (exactly forwards n s r y)
          (back_counts_lem g (needs_in forwards backs n s r going) (limits_in forwards n s r going) step y f h) in
          let pair = below_pair g e step (ap is_back f) l.1 in
          chosen r (opening e) closing x step y node edge (rw (ap is_back f, pair) refl) l.0 (rw (ap is_back f) refl) refl refl
  counts_choice r closing x y step node edge fit h = by_flow step.flow refl
    where
      by_flow : (f : Flow) → step.flow ≡ f → Chosen r closing x step y
      by_flow Flow.forward f =
          chosen r closing closing x step y node edge (rw (ap is_back f) refl)
          (passed_only (exactly forwards n s r y) (open_below g step) (open_most g step)
          (forward_counts_lem g (needs_in forwards backs n s r Going.Closing) (limits_in forwards n s r Going.Closing) step y f h)) refl refl refl
      by_flow Flow.back f =
          absurd
          (not-suc-le-zero (back_counts_lem g (needs_in forwards backs n s r Going.Closing) (limits_in forwards n s r Going.Closing) step y f h))
  counts_choice r (ending first e) x y step node edge fit h = by_flow step.flow refl
    where
      k : ℕ
      k = min first.leaves 1023

      going : Going
      going = Going.Ending k

      begun : (is_back first.flow ≡ true) × (ltb first.leaves 1024 ≡ true)
      begun = and_true (is_back first.flow) (ltb first.leaves 1024) fit

      same : k ≡ first.leaves
      same = let few = ltb-true first.leaves 1024 begun.1 in omega arith

      last : step.flow ≡ Flow.forward → (b : Bool) → eqb y s ≡ b → leb (cond b (suc k) 1025) (open_below g step) ≡ true
          → eqb y s && (not (is_back step.flow) && dangerous_pair g (step, first)) ≡ true
      last f true q l =
          let below = leb-true (suc k) (open_below g step) l in
          and_of q (and_of (not_of_false (ap is_back f)) (below_pair g step first begun.0 (omega (arith, same))))
      last f false q l =
          let most = open_most g step in
          let past = leb-true 1025 (open_below g step) l in let z : ⊥ = omega arith in absurd z

      met : (m : ℕ) → step.flow ≡ Flow.forward → leb (ending_needs forwards n s k m y) (open_below g step) ≡ true
          → can_end g forwards n s first step m y ≡ true
      met zero f l = last f (eqb y s) refl l
      met (suc m) f l = and_of begun.0 (passed_only (ltb k (widest forwards n s m y)) (open_below g step) (open_most g step) l)

      by_flow : (f : Flow) → step.flow ≡ f → Chosen r (ending first e) x step y
      by_flow Flow.forward f =
          chosen r (ending first e) (ending first step) x step y node edge (rw (ap is_back f) refl)
          (met r f (forward_counts_lem g (needs_in forwards backs n s r going) (limits_in forwards n s r going) step y f h)) refl fit refl
      by_flow Flow.back f =
          absurd (not-suc-le-zero (back_counts_lem g (needs_in forwards backs n s r going) (limits_in forwards n s r going) step y f h))

  -- ---- some step counts

  -- the step along a forward edge that is picked opens as far as the pick tells
  pick_opens : (x y : ℕ) (p : Pick) → x < n → y < n → forwards x y ≡ some p
      → (g.edge x p.leaves y p.enters Flow.forward ≡ true) × (open_below g (step_of x Flow.forward p) ≡ opens_below (forwards x y))
  unfolding open_below
  pick_opens x y p in-x in_y e =
      let t = picks.forward_edge x y p in-x in_y e in
      let few = (small x p.leaves y p.enters Flow.forward t.0).1 in
      let least : min p.enters 1024 ≡ p.enters = omega arith in
      (t.0, rw (e, sym t.1, least) refl)

  -- a step from x into some node that counts
  pub record Counted (r : ℕ) (going : Going) (x : ℕ) : Type 0 where
    pub step : Step
    pub into : ℕ
    pub node : step.node ≡ x
    pub inside : into < n
    pub edge : g.edge x step.leaves into step.enters step.flow ≡ true
    pub passes : counts g (needs_in forwards backs n s r going) (limits_in forwards n s r going) step into ≡ true

  -- a forward edge that opens far enough
  forward_counted : (r : ℕ) (going : Going) (x y : ℕ) → x < n → y < n → picked (forwards x y) ≡ true
      → needs_in forwards backs n s r going y ≤ opens_below (forwards x y) → Counted r going x
  forward_counted r going x y in-x in_y there h =
      let p = picked_some (forwards x y) there in
      let t = pick_opens x y p.0 in-x in_y p.1 in
      let wide = t.1 in
      record {
        step = step_of x Flow.forward p.0;
        into = y;
        node = refl;
        inside = in_y;
        edge = t.0;
        passes = counts_forward g (needs_in forwards backs n s r going) (limits_in forwards n s r going) (step_of x Flow.forward p.0) y refl
            (le-leb (needs_in forwards backs n s r going y) (open_below g (step_of x Flow.forward p.0)) (omega arith));
      }

  -- a back edge that leaves early enough
  pub back_counted_lem : (r : ℕ) (going : Going) (x y : ℕ) (q : Pick) → x < n → y < n → backs x y ≡ some q
      → q.leaves < limits_in forwards n s r going y → Counted r going x
  back_counted_lem r going x y q in-x in_y e h =
      record {
        step = step_of x Flow.back q;
        into = y;
        node = refl;
        inside = in_y;
        edge = picks.back_edge x y q in-x in_y e;
        passes = counts_back g (needs_in forwards backs n s r going) (limits_in forwards n s r going) (step_of x Flow.back q) y refl
            (lt-ltb q.leaves (limits_in forwards n s r going y) h);
      }

  -- some edge opens as far as the node that it enters needs
  any_opens : (r : ℕ) (going : Going) (x : ℕ) → x < n → ((y : ℕ) → needs_in forwards backs n s r going y ≡ needed forwards backs n s r y)
      → any (opens_into forwards (needed forwards backs n s r) x) (numbers n) ≡ true → Counted r going x
  any_opens r going x in-x same h =
      let t = any_numbers (opens_into forwards (needed forwards backs n s r) x) n h in
      let y = t.0 in
      let both = and_true (picked (forwards x y)) (leb (needed forwards backs n s r y) (opens_below (forwards x y))) t.2 in
      let far = leb-true (needed forwards backs n s r y) (opens_below (forwards x y)) both.1 in
      let here = same y in
      forward_counted r going x y in-x t.1 both.0 (omega arith)

  -- at the start: the pair is still to come
  pub start_counted : (r x : ℕ) → x < n → needed forwards backs n s (suc r) x ≡ 0 → Counted r Going.Starting x
  unfolding needed needs_in
  start_counted r x in-x h = by_later later refl h
    where
      later : Bool
      later = any (opens_into forwards (needed forwards backs n s r) x) (numbers n)

      by_later : (b : Bool) → later ≡ b → cond b 0 (suc (leaves_first backs n (exactly forwards n s r) x)) ≡ 0 → Counted r Going.Starting x
      by_later true e k = any_opens r Going.Starting x in-x (λ y. refl) e
      by_later false e k = let z : ⊥ = omega arith in absurd z

  -- where the walk can be completed some step counts
  pub finish_counted : (r : ℕ) (ph : Phase) (x : ℕ) → x < n → s < n → begun ph ≡ true → can (suc r) ph x ≡ true → Counted r (going_in g ph) x
  unfolding can_finish can_end going_in begun needs_in ending_needs limits_in needed exactly widest leaves_first
  finish_counted r starting x in-x in_s on h = absurd (false≢true on)
  finish_counted r (opening e) x in-x in_s on h = by_later later refl (leb-true _ (open_below g e) h)
    where
      going : Going
      going = Going.Opening (open_below g e)

      later : Bool
      later = any (opens_into forwards (needed forwards backs n s r) x) (numbers n)

      early : ℕ
      early = least_below (λ y. cond (exactly forwards n s r y) (leaves_at (backs x y)) 1024) 1024 n

      by_pick : (y : ℕ) → y < n → (o : Option Pick) → backs x y ≡ o → (b : Bool) → exactly forwards n s r y ≡ b
          → cond b (leaves_at o) 1024 ≡ early → early < open_below g e → Counted r going x
      by_pick y in_y none q b w k l =
          let most = open_most g e in
          let none_there = both_most b in let z : ⊥ = omega arith in absurd z
        where
          both_most : (c : Bool) → ◌≡◌ {A = ℕ} (cond c 1024 1024) 1024
          both_most true = refl
          both_most false = refl
      by_pick y in_y (some p) q false w k l = let most = open_most g e in let z : ⊥ = omega arith in absurd z
      by_pick y in_y (some p) q true w k l =
          let limit : limits_in forwards n s r going y ≡ open_below g e = rw w refl in
          back_counted_lem r going x y p in-x in_y q (omega arith)

      by_later : (b : Bool) → later ≡ b → cond b 0 (suc early) ≤ open_below g e → Counted r going x
      by_later true q k = any_opens r going x in-x (λ y. refl) q
      by_later false q k =
          let most = open_most g e in
          let t = least_some (λ y. cond (exactly forwards n s r y) (leaves_at (backs x y)) 1024) 1024 n (omega arith) in
          by_pick t.0 t.1 (backs x t.0) refl (exactly forwards n s r t.0) refl t.2 (omega arith)
  finish_counted r closing x in-x in_s on h =
      let t = any_numbers (onward_to forwards (exactly forwards n s r) x) n h in
      let both = and_true (picked (forwards x t.0)) (exactly forwards n s r t.0) t.2 in
      let nothing : needs_in forwards backs n s r Going.Closing t.0 ≡ 0 = rw both.1 refl in
      forward_counted r Going.Closing x t.0 in-x t.1 both.0 (omega arith)
  finish_counted zero (ending first e) x in-x in_s on h = by_pick (forwards x s) refl (ltb-true k (opens_below (forwards x s)) below)
    where
      k : ℕ
      k = min first.leaves 1023

      below : ltb k (opens_below (forwards x s)) ≡ true
      below = (and_true (is_back first.flow) _ h).1

      by_pick : (o : Option Pick) → forwards x s ≡ o → k < opens_below (forwards x s) → Counted zero (Going.Ending k) x
      by_pick none q l = absurd (not-suc-le-zero (rw q at l))
      by_pick (some p) q l =
          let here : needs_in forwards backs n s zero (Going.Ending k) s ≡ suc k = rw (eq-eqb s s refl) refl in
          forward_counted zero (Going.Ending k) x s in-x in_s (ap picked q) (omega arith)
  finish_counted (suc r) (ending first e) x in-x in_s on h =
      let t = greatest_some (λ y. cond (picked (forwards x y)) (widest forwards n s r y) 0) n k
      (ltb-true k _ (and_true (is_back first.flow) _ h).1) in
      by_pick t.0 t.1 (picked (forwards x t.0)) refl t.2
    where
      k : ℕ
      k = min first.leaves 1023

      by_pick : (y : ℕ) → y < n → (b : Bool) → picked (forwards x y) ≡ b → k < cond b (widest forwards n s r y) 0 → Counted (suc r) (Going.Ending k) x
      by_pick y in_y false q l = absurd (not-suc-le-zero l)
      by_pick y in_y true q l =
          let here : needs_in forwards backs n s (suc r) (Going.Ending k) y ≡ 0 = rw (lt-ltb k (widest forwards n s r y) l) refl in
          forward_counted (suc r) (Going.Ending k) x y in-x in_y q (omega arith)
