-- Walks in normal form: one back step alone, and the step before it (before the first comes the last) opens it. Read from the first step on, a walk
-- goes from phase to phase. A dangerous walk of a regular graph has one in normal form that is not after it: each step but the dangerous pair's
-- second becomes its forward twin, which leaves and enters at the same places.
use Rattle.std.proofs.Math.Bool.{Bool, true, false, cond, not}
use Rattle.std.specs.Prelude.{◌&&◌, ◌||◌, ◌⊎◌, ◌≡◌, ℕ, zero, suc, ◌≤◌, length}
use Rattle.std.proofs.lemmas.Bool.{false≢true}
use mathlib.Core.List.{List, [], ◌∷◌, ◌++◌, flat_map}
use Rattle.std.proofs.Common.{inl, ap, ◌∙◌, arith}
use Rattle.std.proofs.Math.Logic.{inr}
use Rattle.std.proofs.Math.Option.{Option, none, some, none-ne-some}
use Rattle.std.proofs.Math.Path.{refl, sym}
use Rattle.std.proofs.Math.Dec.{ltb}
use Rattle.spec_base.specs.Basic.{any, all, around, pairs_to}
use Rattle.law_base.specs.BoolLaws.{and_true, and_of, or_true, or_left, or_right, not_of_false}
use Rattle.law_base.specs.ListLaws.{some_injective}
use Rattle.spec_graph.specs.Graph.{Flow, Graph, is_back}
use Rattle.spec_graph.specs.Walk.{Step, is_edge, dangerous_pair, is_dangerous, flow_number, step_numbers, smaller}
use Rattle.law_walk.specs.Before.{walk_numbers, smaller_not}
use Rattle.law_walk.specs.Parts.{Dangerous, dangerous_parts, dangerous_of}
use Rattle.law_walk.specs.Reach.{Regular, forward_twin}

-- how far a walk has come
pub data Phase : Type 0 where
  -- no step yet
  starting : Phase
  -- forward steps so far, the last of them
  opening : Step → Phase
  -- the dangerous pair is behind: forward steps alone from here on
  closing : Phase
  -- the walk's first step, a back one, and the step before: the walk's last step must open the first
  ending : Step → Step → Phase

-- the phase after a step
unfoldable pub after_step : Graph → Phase → Step → Option Phase
after_step g starting s = cond (is_back s.flow) (some (ending s s)) (some (opening s))
after_step g (opening e) s = cond (is_back s.flow) (cond (dangerous_pair g (e, s)) (some closing) none) (some (opening s))
after_step g closing s = cond (is_back s.flow) none (some closing)
after_step g (ending f e) s = cond (is_back s.flow) none (some (ending f s))

-- a walk may end in this phase
unfoldable pub ended : Graph → Phase → Bool
ended g starting = false
ended g (opening e) = false
ended g closing = true
ended g (ending f e) = not (is_back e.flow) && dangerous_pair g (e, f)

-- so many steps lead from node x in that phase to node s and end the walk there
pub data Accepted (g : Graph) (s : ℕ) : ℕ → Phase → ℕ → List Step → Type 0 where
  stop : {ph : Phase} {x : ℕ} → x ≡ s → ended g ph ≡ true → Accepted g s zero ph x []
  go : {r : ℕ} {ph next : Phase} {x : ℕ} {rest : List Step} (step : Step) (y : ℕ) → step.node ≡ x
      → g.edge x step.leaves y step.enters step.flow ≡ true → after_step g ph step ≡ some next → Accepted g s r next y rest
      → Accepted g s (suc r) ph x (step ∷ rest)

module _ {g : Graph} {s : ℕ} where
  -- the number is that of the steps
  pub accepted_length : {r : ℕ} {ph : Phase} {x : ℕ} {walk : List Step} → Accepted g s r ph x walk → length walk ≡ r
  accepted_length (stop e h) = refl
  accepted_length (go step y n e a rest) = ap suc (accepted_length rest)

  -- after a step, each step is an edge into the next, and the last one into the walk's first
  accepted_edges : (first : Step) → first.node ≡ s → (step : Step) {y : ℕ} → g.edge step.node step.leaves y step.enters step.flow ≡ true
      → {r : ℕ} {ph : Phase} {rest : List Step} → Accepted g s r ph y rest → all (is_edge g) (pairs_to first (step ∷ rest)) ≡ true
  unfolding is_edge
  accepted_edges first f step e (stop h i) = and_of {a = is_edge g (step, first)} (rw (f ∙ sym h) e) refl
  accepted_edges first f step e (go t z n d a way) = and_of {a = is_edge g (step, t)} (rw n e) (accepted_edges first f t (rw n d) way)

-- what a phase promises of the steps that follow, in a walk with this first step: a dangerous pair, and a forward step where none has been yet
abbrev promised : Graph → Step → Phase → List Step → Bool
promised g first starting rest = true
promised g first (opening e) rest = any (dangerous_pair g) (pairs_to first (e ∷ rest))
promised g first closing rest = true
promised g first (ending f e) rest = any (dangerous_pair g) (pairs_to f (e ∷ rest)) && any (λ t. not (is_back t.flow)) (e ∷ rest)

module _ (g : Graph) where
  -- the promise is kept at the end
  promise_end : (first : Step) (ph : Phase) → ended g ph ≡ true → promised g first ph [] ≡ true
  unfolding ended
  promise_end first starting h = refl
  promise_end first (opening e) h = absurd (false≢true h)
  promise_end first closing h = refl
  promise_end first (ending f e) h =
      let a = and_true (not (is_back e.flow)) (dangerous_pair g (e, f)) h in and_of (or_left false a.1) (or_left false a.0)

  -- and from step to step
  promise_step : (first : Step) (ph : Phase) {next : Phase} (step : Step) (rest : List Step) → after_step g ph step ≡ some next
      → promised g first next rest ≡ true → promised g first ph (step ∷ rest) ≡ true
  unfolding after_step
  promise_step first starting step rest h p = refl
  promise_step first (opening e) {next} step rest h p = from (is_back step.flow) (dangerous_pair g (e, step)) h
    where
      others : Bool
      others = any (dangerous_pair g) (pairs_to first (step ∷ rest))

      from : (b d : Bool) → cond b (cond d (some closing) none) (some (opening step)) ≡ some next → d || others ≡ true
      from b true q = refl
      from true false q = absurd (none-ne-some next q)
      from false false q = ap (λ (ph : Phase). promised g first ph rest) (some_injective q) ∙ p
  promise_step first closing step rest h p = refl
  promise_step first (ending f e) {next} step rest h p = from (is_back step.flow) h
    where
      Goal : Type 0
      Goal = promised g first (ending f e) (step ∷ rest) ≡ true

      from : (b : Bool) → cond b none (some (ending f step)) ≡ some next → Goal
      from true q = absurd (none-ne-some next q)
      from false q =
          let a = and_true _ _ (ap (λ (ph : Phase). promised g first ph rest) (some_injective q) ∙ p) in
          and_of (or_right (dangerous_pair g (e, step)) a.0) (or_right (not (is_back e.flow)) a.1)

  -- so it is kept
  promise_kept : (first : Step) {s r : ℕ} {ph : Phase} {x : ℕ} {rest : List Step} → Accepted g s r ph x rest → promised g first ph rest ≡ true
  promise_kept first (stop {ph} e h) = promise_end first ph h
  promise_kept first (go {ph} {rest} step y n e a way) = promise_step first ph step rest a (promise_kept first way)

module _ {g : Graph} where
  -- a walk in normal form is dangerous
  pub accepted_dangerous : {s n : ℕ} {walk : List Step} → Accepted g s (suc n) starting s walk → is_dangerous g walk ≡ true
  unfolding after_step
  accepted_dangerous (go {next} {rest} step y n e a way) =
      let t = from (is_back step.flow) refl a in
      dangerous_of (record { edges = accepted_edges step n step (rw n e) way; pair = t.0; forward = t.1 })
    where
      from : (b : Bool) → is_back step.flow ≡ b → cond b (some (ending step step)) (some (opening step)) ≡ some next
          → (any (dangerous_pair g) (around (step ∷ rest)) ≡ true) × (any (λ t. not (is_back t.flow)) (step ∷ rest) ≡ true)
      from true i q = and_true _ _ (ap (λ (ph : Phase). promised g step ph rest) (some_injective q) ∙ promise_kept g step way)
      from false i q =
          (ap (λ (ph : Phase). promised g step ph rest) (some_injective q) ∙ promise_kept g step way, or_left _ (not_of_false i))

-- ---- from a dangerous walk to one in normal form

-- the step with another flow
unfoldable with_flow : Flow → Step → Step
with_flow flow s = record { node = s.node; leaves = s.leaves; enters = s.enters; flow = flow }

-- the step forward
abbrev forwarded : Step → Step
forwarded s = with_flow Flow.forward s

-- a step is not before the same with a lower flow, if the rest is not
not_before : (flow : Flow) (s : Step) (k l : List ℕ) → flow_number flow ≤ flow_number s.flow → smaller k l ≡ false
    → smaller (step_numbers s ++ k) (step_numbers (with_flow flow s) ++ l) ≡ false
unfolding step_numbers with_flow
not_before flow s k l low h =
    smaller_not s.node _ s.node _ (omega arith)
    (λ p. smaller_not s.leaves _ s.leaves _ (omega arith)
    (λ q. smaller_not s.enters _ s.enters _ (omega arith)
    (λ t. smaller_not (flow_number s.flow) k (flow_number flow) l low (λ u. h))))

-- the walk's last step opens `end`
abbrev last_opens : Graph → Step → Step → List Step → Bool
last_opens g end x [] = dangerous_pair g (x, end)
last_opens g end x (y ∷ l) = last_opens g end y l

-- then `end` is back
last_back : (g : Graph) (end x : Step) (l : List Step) → last_opens g end x l ≡ true → is_back end.flow ≡ true
unfolding dangerous_pair
last_back g end x [] h = (and_true (is_back end.flow) _ h).0
last_back g end x (y ∷ l) h = last_back g end y l h

-- steps from x in the phase to s, as many as the walk has, and not after it
record Reduced (g : Graph) (s : ℕ) (ph : Phase) (x : ℕ) (walk : List Step) : Type 0 where
  other : List Step
  way : Accepted g s (length walk) ph x other
  low : smaller (walk_numbers walk) (walk_numbers other) ≡ false

module _ {g : Graph} (regular : Regular g) where
  -- a step that stays
  keep_step : {s : ℕ} (ph : Phase) {next : Phase} (x : Step) (rest : List Step) (y : ℕ) → after_step g ph x ≡ some next
      → g.edge x.node x.leaves y x.enters x.flow ≡ true → Reduced g s next y rest → Reduced g s ph x.node (x ∷ rest)
  unfolding flat_map with_flow
  keep_step ph x rest y a e t =
      record {
        other = x ∷ t.other;
        way = go x y refl e a t.way;
        low = not_before x.flow x (walk_numbers rest) (walk_numbers t.other) (omega arith) t.low;
      }

  -- a step that becomes its forward twin
  turn_step : {s : ℕ} (ph : Phase) {next : Phase} (x : Step) (rest : List Step) (y : ℕ) → after_step g ph (forwarded x) ≡ some next
      → g.edge x.node x.leaves y x.enters x.flow ≡ true → Reduced g s next y rest → Reduced g s ph x.node (x ∷ rest)
  unfolding flat_map with_flow
  turn_step ph x rest y a e t =
      record {
        other = forwarded x ∷ t.other;
        way = go (forwarded x) y refl (forward_twin g regular x.flow x.node x.leaves y x.enters e) a t.way;
        low = not_before Flow.forward x (walk_numbers rest) (walk_numbers t.other) (omega arith) t.low;
      }

  -- a dangerous pair stays dangerous with the forward twin of its first step: a back step leaves a loose place
  pair_turned : (e c : Step) {y : ℕ} → g.edge e.node e.leaves y e.enters e.flow ≡ true → dangerous_pair g (e, c) ≡ true
      → dangerous_pair g (forwarded e, c) ≡ true
  unfolding dangerous_pair with_flow
  pair_turned e c {y} h d = let a = and_true (is_back c.flow) _ d in and_of {a = is_back c.flow} a.0 (from e.flow h a.1)
    where
      from : (f : Flow) → g.edge e.node e.leaves y e.enters f ≡ true
          → is_back f || ltb c.leaves e.enters || g.loose e.node e.leaves ≡ true
          → ltb c.leaves e.enters || g.loose e.node e.leaves ≡ true
      from Flow.forward i q = q
      from Flow.back i q = or_right (ltb c.leaves e.enters) (regular.back_loose e.node e.leaves y e.enters i)

  -- the step enters a node from which the rest is reduced
  abbrev Onward : (s : ℕ) (ph : Phase) (step : Step) (rest : List Step) → Type 0
  Onward s ph step rest =
      (y : ℕ) × (g.edge step.node step.leaves y step.enters step.flow ≡ true) × Reduced g s ph y rest

  -- behind the pair each step becomes forward
  closing_rest : (end c : Step) (l : List Step) → all (is_edge g) (pairs_to end (c ∷ l)) ≡ true → Onward end.node closing c l
  unfolding is_edge after_step ended smaller flat_map with_flow
  closing_rest end c [] h = (end.node, (and_true (is_edge g (c, end)) true h).0, record { other = []; way = stop refl refl; low = refl })
  closing_rest end c (x ∷ l) h =
      let a = and_true (is_edge g (c, x)) (all (is_edge g) (pairs_to end (x ∷ l))) h in
      let t = closing_rest end x l a.1 in (x.node, a.0, turn_step closing x l t.0 refl t.1 t.2)

  -- behind a back step that the last step opens, too
  ending_rest : (first e : Step) (l : List Step) → all (is_edge g) (pairs_to first (e ∷ l)) ≡ true → last_opens g first e l ≡ true
      → Onward first.node (ending first (forwarded e)) e l
  unfolding is_edge after_step ended smaller flat_map with_flow
  ending_rest first e [] h o =
      let edge = (and_true (is_edge g (e, first)) true h).0 in
      (first.node, edge, record { other = []; way = stop refl (pair_turned e first edge o); low = refl })
  ending_rest first e (x ∷ l) h o =
      let a = and_true (is_edge g (e, x)) (all (is_edge g) (pairs_to first (x ∷ l))) h in
      let t = ending_rest first x l a.1 o in
      (x.node, a.0, turn_step (ending first (forwarded e)) x l t.0 refl t.1 t.2)

  -- a dangerous pair closes the opening
  pair_after : (e c : Step) → dangerous_pair g (e, c) ≡ true → after_step g (opening e) c ≡ some closing
  unfolding after_step
  pair_after e c d = rw (last_back g c e [] d, d) refl

  -- up to the pair each step becomes forward, unless it is the last step that opens the first
  opening_walk : (end x : Step) (l : List Step) (ph : Phase) → after_step g ph (forwarded x) ≡ some (opening (forwarded x))
      → all (is_edge g) (pairs_to end (x ∷ l)) ≡ true → any (dangerous_pair g) (pairs_to end (x ∷ l)) ≡ true
      → Reduced g end.node ph x.node (x ∷ l) ⊎ (last_opens g end x l ≡ true)
  unfolding is_edge after_step with_flow
  opening_walk end x [] ph a h d = from (or_true (dangerous_pair g (x, end)) false d)
    where
      from : (dangerous_pair g (x, end) ≡ true) ⊎ (false ≡ true) → Reduced g end.node ph x.node (x ∷ []) ⊎ (dangerous_pair g (x, end) ≡ true)
      from (inl i) = inr i
      from (inr i) = absurd (false≢true i)
  opening_walk end x (y ∷ l) ph a h d =
      from (λ i. opening_walk end y l (opening (forwarded x)) refl edges.1 i)
      (or_true (dangerous_pair g (x, y)) (any (dangerous_pair g) (pairs_to end (y ∷ l))) d)
    where
      edges : (is_edge g (x, y) ≡ true) × (all (is_edge g) (pairs_to end (y ∷ l)) ≡ true)
      edges = and_true (is_edge g (x, y)) (all (is_edge g) (pairs_to end (y ∷ l))) h

      onward : Reduced g end.node (opening (forwarded x)) y.node (y ∷ l) → Reduced g end.node ph x.node (x ∷ y ∷ l)
      onward t = turn_step ph x (y ∷ l) y.node a edges.0 t

      later : Reduced g end.node (opening (forwarded x)) y.node (y ∷ l) ⊎ (last_opens g end y l ≡ true)
          → Reduced g end.node ph x.node (x ∷ y ∷ l) ⊎ (last_opens g end y l ≡ true)
      later (inl t) = inl (onward t)
      later (inr o) = inr o

      from : (any (dangerous_pair g) (pairs_to end (y ∷ l)) ≡ true
          → Reduced g end.node (opening (forwarded x)) y.node (y ∷ l) ⊎ (last_opens g end y l ≡ true))
          → (dangerous_pair g (x, y) ≡ true) ⊎ (any (dangerous_pair g) (pairs_to end (y ∷ l)) ≡ true)
          → Reduced g end.node ph x.node (x ∷ y ∷ l) ⊎ (last_opens g end y l ≡ true)
      from others (inl i) =
          let t = closing_rest end y l edges.1 in
          let after = pair_after (forwarded x) y (pair_turned x y edges.0 i) in
          inl (onward (keep_step (opening (forwarded x)) y l t.0 after t.1 t.2))
      from others (inr i) = later (others i)

  -- a walk whose last step opens its first, a back one
  ending_walk : (first : Step) (rest : List Step) → Dangerous g (first ∷ rest) → last_opens g first first rest ≡ true
      → Reduced g first.node starting first.node (first ∷ rest)
  unfolding is_edge after_step with_flow
  ending_walk first [] d o = absurd (false≢true (ap (λ b. not b || false) (sym (last_back g first first [] o)) ∙ d.forward))
  ending_walk first (x ∷ l) d o =
      let a = and_true (is_edge g (first, x)) (all (is_edge g) (pairs_to first (x ∷ l))) d.edges in
      let t = ending_rest first x l a.1 o in
      keep_step starting first (x ∷ l) x.node begins a.0 (turn_step (ending first first) x l t.0 refl t.1 t.2)
    where
      begins : after_step g starting first ≡ some (ending first first)
      begins = rw (last_back g first x l o) refl

  -- a dangerous walk has one in normal form, with as many steps, that begins at the same node and is not after it
  pub normal : (first : Step) (rest : List Step) → is_dangerous g (first ∷ rest) ≡ true
      → (other : List Step) × Accepted g first.node (suc (length rest)) starting first.node other
      × (smaller (walk_numbers (first ∷ rest)) (walk_numbers other) ≡ false)
  unfolding after_step with_flow
  normal first rest h =
      let d = dangerous_parts (first ∷ rest) h in
      let t = from d (opening_walk first first rest starting refl d.edges d.pair) in (t.other, t.way, t.low)
    where
      from : Dangerous g (first ∷ rest) → Reduced g first.node starting first.node (first ∷ rest) ⊎ (last_opens g first first rest ≡ true)
          → Reduced g first.node starting first.node (first ∷ rest)
      from d (inl t) = t
      from d (inr o) = ending_walk first rest d o
