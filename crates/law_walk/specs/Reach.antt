-- A dangerous closed walk of any length exists exactly if a dangerous pair can be closed, and a computed test finds that.
use Rattle.std.specs.Prelude.{◌≡◌, Bool, cond, not, ◌&&◌, ◌||◌, ◌⊎◌, ◌↔◌, eqb}
use Rattle.std.proofs.Math.Path.{refl, ap}
use Rattle.std.proofs.Common.{sym, ◌∙◌, not-suc-le-zero, zero-add, eqb-true, eq-eqb}
use Rattle.std.proofs.Math.Bool.{true, false}
use Rattle.std.proofs.lemmas.Bool.{false≢true}
use Rattle.std.proofs.Math.Logic.{inl, inr}
use mathlib.Core.List.{List, [], ◌∷◌, Memᴰ}
use mathlib.Core.List.Memᴰ
use Rattle.std.proofs.Math.Option.{Option, none, some, none-ne-some}
use Prim.Native.Nat.{ℕ, zero, suc, ◌+◌, ◌≤◌, ◌<◌, zero-le, suc-le-suc}
use native.Mathlib.Omega.{arith}
use Rattle.std.proofs.Math.Dec.{ltb}
use Rattle.std.proofs.Math.ListN.{length, get_elem?}
use Rattle.spec_base.specs.Basic.{any, all, keep, first, around, pairs_to, numbers}
use Rattle.law_base.specs.BoolLaws.{decide, true_false, and_true, and_of, or_true, or_left, or_right, not_of_false, not_of_true}
use Rattle.law_base.specs.ListLaws.{any_true, any_of, all_true, any_numbers, any_numbers_of, member_numbers}
use Rattle.law_base.specs.ListLaws.{length_numbers, keep_no, member_keep, length_keep, first_some, first_none, get_elem?_lt}
use Rattle.law_base.specs.ListLaws.{around_member, around_next}
use Rattle.spec_text.specs.declared.StatementKind.{StatementKind}
use Rattle.spec_graph.specs.Graph.{Flow, Graph, is_back}
use Rattle.spec_graph.specs.Unfolding.{Node, Occurrence}
use Rattle.spec_graph.specs.Edge.{Place, Letter, at, holds, has_tests, selects, loosens, same_relation, forward, back, shielded, stands, both_pass}
use Rattle.spec_graph.specs.Edge.{loosens_at, place_at, graph_of}
use Rattle.spec_graph.specs.Walk.{Step, is_edge, dangerous_pair, is_dangerous, DangerousWalk}
use Rattle.law_kinds.specs.EveryKind.{kind_implies}

-- what every summary graph has
pub record Regular (g : Graph) : Type 0 where
  -- an edge is between places of nodes
  pub in_nodes : (m i n j : ℕ) (flow : Flow) → g.edge m i n j flow ≡ true
      → (m < g.size) × (n < g.size) × (i < g.places m) × (j < g.places n)
  -- a back edge has a forward twin
  pub twin : (m i n j : ℕ) → g.edge m i n j Flow.back ≡ true → g.edge m i n j Flow.forward ≡ true
  -- a back edge leaves a loose place
  pub back_loose : (m i n j : ℕ) → g.edge m i n j Flow.back ≡ true → g.loose m i ≡ true

-- ---- the summary graph is regular

-- a kind with tests is loose, and so is a select
tests_loose : (k : StatementKind) → has_tests k ≡ true → loosens k ≡ true
tests_loose = kind_implies has_tests loosens refl

selects_loose : (k : StatementKind) → selects k ≡ true → loosens k ≡ true
selects_loose = kind_implies selects loosens refl

-- a back edge is of letter E, or of letter D from a select
back_letter : (s t : Place) → back s t ≡ true
    → (same_relation (at s) (at t) ≡ true)
    × ((holds Letter.E (at s) (at t) ≡ true) ⊎ ((selects (at s).kind ≡ true) × (holds Letter.D (at s) (at t) ≡ true)))
unfolding back
back_letter s t h = let a = and_true _ _ h in (a.0, go (or_true _ _ a.1))
  where
    go : (holds Letter.E (at s) (at t) ≡ true) ⊎ (selects (at s).kind && holds Letter.D (at s) (at t) && not (shielded s t) ≡ true)
        → (holds Letter.E (at s) (at t) ≡ true) ⊎ ((selects (at s).kind ≡ true) × (holds Letter.D (at s) (at t) ≡ true))
    go (inl e) = inl e
    go (inr e) = inr (and_true _ _ (and_true _ _ e).0)

-- a back edge has a forward twin
back_forward : (s t : Place) → back s t ≡ true → forward s t ≡ true
unfolding forward
back_forward s t h = let a = back_letter s t h in and_of a.0 (go a.1)
  where
    earlier : Bool
    earlier = holds Letter.A (at s) (at t) || holds Letter.B (at s) (at t) || holds Letter.C (at s) (at t)

    go : (holds Letter.E (at s) (at t) ≡ true) ⊎ ((selects (at s).kind ≡ true) × (holds Letter.D (at s) (at t) ≡ true))
        → earlier || holds Letter.D (at s) (at t) || holds Letter.E (at s) (at t) ≡ true
    go (inl e) = or_right (earlier || holds Letter.D (at s) (at t)) e
    go (inr e) = or_left (holds Letter.E (at s) (at t)) (or_right earlier e.1)

-- a back edge leaves a loose kind
back_loose_lem : (s t : Place) → back s t ≡ true → loosens (at s).kind ≡ true
unfolding holds
back_loose_lem s t h = go (back_letter s t h).1
  where
    go : (holds Letter.E (at s) (at t) ≡ true) ⊎ ((selects (at s).kind ≡ true) × (holds Letter.D (at s) (at t) ≡ true))
        → loosens (at s).kind ≡ true
    go (inl e) = tests_loose (at s).kind (and_true _ _ e).0
    go (inr e) = selects_loose (at s).kind e.0

-- where both pass, there are both
pub both_pass_lem : (test : Place → Place → Bool) (s t : Option Place) → both_pass test s t ≡ true
    → (a : Place) × (b : Place) × (s ≡ some a) × (t ≡ some b)
both_pass_lem test none t h = absurd (false≢true h)
both_pass_lem test (some s) none h = absurd (false≢true h)
both_pass_lem test (some s) (some t) h = (s, t, refl, refl)

-- a weaker test passes too
both_weaker : (test weaker : Place → Place → Bool) → ((s t : Place) → test s t ≡ true → weaker s t ≡ true)
    → (s t : Option Place) → both_pass test s t ≡ true → both_pass weaker s t ≡ true
both_weaker test weaker f none t h = h
both_weaker test weaker f (some s) none h = h
both_weaker test weaker f (some s) (some t) h = f s t h

-- where a back edge stands, a loose place is left
both_loose : (s t : Option Place) → both_pass back s t ≡ true → loosens_at s ≡ true
both_loose none t h = h
both_loose (some s) none h = absurd (false≢true h)
both_loose (some s) (some t) h = back_loose_lem s t h

-- a place that is found is one of a node that there is
place_found : (nodes : List Node) (m i : ℕ) {s : Place} → place_at nodes m i ≡ some s
    → (m < (graph_of nodes).size) × (i < (graph_of nodes).places m)
unfolding place_at graph_of
place_found nodes m i {s} h = node (get_elem? nodes m) refl h
  where
    found : (n : Node) (o : Option Occurrence) → get_elem? n.places i ≡ o
        → ◌≡◌ {A = Option Place}
        (elim o [ none ↦ none | some x ↦ some (record { number = m; node = n; place = i; occurrence = x }) ])
        (some s)
        → i < length n.places
    found n none e q = absurd (none-ne-some s q)
    found n (some x) e q = get_elem?_lt n.places i e

    node : (o : Option Node) → get_elem? nodes m ≡ o
        → ◌≡◌ {A = Option Place}
        (elim o [
          | none ↦ none
          | some n ↦
              elim (get_elem? n.places i) [ none ↦ none | some x ↦ some (record { number = m; node = n; place = i; occurrence = x }) ]
        ])
        (some s)
        → (m < length nodes) × (i < elim o [ none ↦ 0 | some n ↦ length n.places ])
    node none e q = absurd (none-ne-some s q)
    node (some n) e q = (get_elem?_lt nodes m e, found n (get_elem? n.places i) refl q)

-- the summary graph of any nodes is regular
pub regular : (nodes : List Node) → Regular (graph_of nodes)
unfolding graph_of
regular nodes =
    record {
      in_nodes = λ m i n j flow h.
          let p = both_pass_lem (stands flow) (place_at nodes m i) (place_at nodes n j) h in
          let s = place_found nodes m i p.2 in
          let t = place_found nodes n j p.3 in (s.0, t.0, s.1, t.1);
      twin = λ m i n j h. both_weaker back forward back_forward (place_at nodes m i) (place_at nodes n j) h;
      back_loose = λ m i n j h. both_loose (place_at nodes m i) (place_at nodes n j) h;
    }

-- ---- reachability

-- a node is reached from a node along edges
pub data Reachable (g : Graph) : ℕ → ℕ → Type 0 where
  here : {m n : ℕ} → m ≡ n → Reachable g m n
  along : {m n : ℕ} (i k j : ℕ) (flow : Flow) → g.edge m i k j flow ≡ true → Reachable g k n → Reachable g m n

module _ {g : Graph} where
  -- the steps of the way
  unfoldable pub steps_of : {m n : ℕ} → Reachable g m n → List Step
  steps_of (here e) = []
  steps_of (along {m} i k j flow h r) = record { node = m; leaves = i; enters = j; flow = flow } ∷ steps_of r

  -- a way may begin at an equal node
  pub begin : {m n k : ℕ} → m ≡ n → Reachable g n k → Reachable g m k
  begin e (here h) = here (e ∙ h)
  begin {m} e (along i k j flow h r) = along {m = m} i k j flow (rw e h) r

  -- one way after another
  pub reach_trans : {m n k : ℕ} → Reachable g m n → Reachable g n k → Reachable g m k
  reach_trans (here e) s = begin e s
  reach_trans (along a b c f h r) s = along a b c f h (reach_trans r s)

  -- one edge more at the end
  pub onward : {m n : ℕ} → Reachable g m n → (i k j : ℕ) (flow : Flow) → g.edge n i k j flow ≡ true → Reachable g m k
  onward {m} (here e) i k j flow h = along {m = m} i k j flow (rw e h) (here refl)
  onward (along a b c f h r) i k j flow q = along a b c f h (onward r i k j flow q)

  -- is one step more
  pub length_onward : {m n : ℕ} (r : Reachable g m n) (i k j : ℕ) (flow : Flow) (h : g.edge n i k j flow ≡ true)
      → length (steps_of (onward r i k j flow h)) ≡ suc (length (steps_of r))
  unfolding steps_of onward
  length_onward (here e) i k j flow h = refl
  length_onward (along a b c f h r) i k j flow q = ap suc (length_onward r i k j flow q)

  -- a step into the first node of a way closes the walk at the step that the way ends in
  pub closes : {w u : ℕ} (r : Reachable g w u) (c e : Step) → g.edge c.node c.leaves w c.enters c.flow ≡ true
      → u ≡ e.node → all (is_edge g) (pairs_to e (c ∷ steps_of r)) ≡ true
  unfolding steps_of is_edge
  closes (here q) c e h k = and_of (rw (q ∙ k) at h) refl
  closes (along {m} i n j flow q r) c e h k = and_of h (closes r (record { node = m; leaves = i; enters = j; flow = flow }) e q k)

  -- a step of a walk comes before a way from the next
  pub step_first : (s next : Step) {k : ℕ} → is_edge g (s, next) ≡ true → Reachable g next.node k → Reachable g s.node k
  unfolding is_edge
  step_first s next h r = along s.leaves next.node s.enters s.flow h r

  -- each step of a walk is reached from the first, and reaches the end
  pub walk_ends : (end x : Step) (l : List Step) → all (is_edge g) (pairs_to end (x ∷ l)) ≡ true
      → {y : Step} → Memᴰ y (x ∷ l) → Reachable g x.node y.node × Reachable g y.node end.node
  walk_ends end x [] h {y} m = go (Memᴰ.cases_cons m)
    where
      go : (y ≡ x) ⊎ Memᴰ y [] → Reachable g x.node y.node × Reachable g y.node end.node
      go (inl e) =
          let same : y.node ≡ x.node = ap (λ (s : Step). s.node) e in
          (here (sym same), begin same (step_first x end (and_true (is_edge g (x, end)) true h).0 (here refl)))
      go (inr n) = absurd (Memᴰ.not-nil n)
  walk_ends end x (z ∷ l) h {y} m = go (λ k n. walk_ends end z l parts.1 {y = k} n) (Memᴰ.cases_cons m)
    where
      parts : (is_edge g (x, z) ≡ true) × (all (is_edge g) (pairs_to end (z ∷ l)) ≡ true)
      parts = and_true (is_edge g (x, z)) (all (is_edge g) (pairs_to end (z ∷ l))) h

      go : ((k : Step) → Memᴰ k (z ∷ l) → Reachable g z.node k.node × Reachable g k.node end.node)
          → (y ≡ x) ⊎ Memᴰ y (z ∷ l) → Reachable g x.node y.node × Reachable g y.node end.node
      go rest (inl e) =
          let same : y.node ≡ x.node = ap (λ (s : Step). s.node) e in
          (here (sym same), begin same (step_first x z parts.0 (rest z (Memᴰ.head refl)).1))
      go rest (inr n) = let t = rest y n in (step_first x z parts.0 t.0, t.1)

  -- in a closed walk each step reaches each
  pub walk_reaches : (walk : List Step) → all (is_edge g) (around walk) ≡ true
      → {a b : Step} → Memᴰ a walk → Memᴰ b walk → Reachable g a.node b.node
  walk_reaches [] h m n = absurd (Memᴰ.not-nil m)
  walk_reaches (x ∷ l) h m n = reach_trans (walk_ends x x l h m).1 (walk_ends x x l h n).0

-- a dangerous closed walk with at most one step more than there are nodes
abbrev pub ShortWalk : Graph → Type 0
ShortWalk g = (walk : List Step) × (is_dangerous g walk ≡ true) × (length walk ≤ g.size + 1)

-- a dangerous pair that can be closed: e: u → v, a back c: v → w, and u is reached from w
pub record DangerousReturn (g : Graph) : Type 0 where
  pub e : Step
  pub c : Step
  pub into : ℕ
  pub first : is_edge g (e, c) ≡ true
  pub second : g.edge c.node c.leaves into c.enters c.flow ≡ true
  pub dangerous : dangerous_pair g (e, c) ≡ true
  pub returns : Reachable g into e.node

-- a dangerous closed walk, of any length, has such a pair
pub walk_return : {g : Graph} → DangerousWalk g → DangerousReturn g
unfolding is_dangerous is_edge
walk_return {g} (walk, h) =
    let parts = and_true _ _ h in
    let walked = and_true (all (is_edge g) (around walk)) (any (dangerous_pair g) (around walk)) parts.0 in
    let pair = any_true (dangerous_pair g) (around walk) walked.1 in
    let both = around_member walk pair.1 in
    let next = around_next walk both.1 in
    record {
      e = pair.0.0;
      c = pair.0.1;
      into = next.0.node;
      first = all_true (is_edge g) walked.0 pair.1;
      second = all_true (is_edge g) walked.0 next.1;
      dangerous = pair.2;
      returns = walk_reaches walk walked.0 (around_member walk next.1).1 both.0;
    }

-- ---- the computed test

-- an edge with this flow leaves m at place i and enters n
unfoldable pub leaves_for : Graph → Flow → ℕ → ℕ → ℕ → Bool
leaves_for g flow m i n = any (λ j. g.edge m i n j flow) (numbers (g.places n))

-- a forward edge goes from m to n
unfoldable pub joins : Graph → ℕ → ℕ → Bool
joins g m n = any (λ i. leaves_for g Flow.forward m i n) (numbers (g.places m))

-- the numbers but n
abbrev pub without : ℕ → List ℕ → List ℕ
without n l = keep (λ k. not (eqb k n)) l

-- a forward edge goes into n from one of the nodes
unfoldable pub joined_to : Graph → List ℕ → ℕ → Bool
joined_to g nodes n = any (λ m. joins g m n) nodes

-- the nodes reached, more and more, one in each round, until no node that is left is joined to
unfoldable pub grow : Graph → ℕ → List ℕ → List ℕ → List ℕ
grow g zero reached left = reached
grow g (suc rounds) reached left =
    elim (first (joined_to g reached) left) [ none ↦ reached | some n ↦ grow g rounds (n ∷ reached) (without n left) ]

-- how many rounds find all of n nodes: one node is there at the start, and each round finds one more
abbrev pub rounds_for : ℕ → ℕ
rounds_for zero = 0
rounds_for (suc n) = n

-- the nodes that forward edges reach from w in fewer steps than there are nodes
unfoldable pub reached_from : Graph → ℕ → List ℕ
reached_from g w = grow g (rounds_for g.size) (w ∷ []) (without w (numbers g.size))

-- the forward edge that leaves u at i and enters v at j is dangerous with a back edge that leaves v at k
abbrev pub opens_at : Graph → ℕ → ℕ → ℕ → ℕ → ℕ → Bool
opens_at g k v u i j = g.edge u i v j Flow.forward && (ltb k j || g.loose u i)

-- some forward edge from u into v is dangerous with a back edge that leaves v at k
unfoldable pub opens : Graph → ℕ → ℕ → ℕ → Bool
opens g k v u = any (λ i. any (opens_at g k v u i) (numbers (g.places v))) (numbers (g.places u))

-- a back edge that leaves v at k enters w, and a forward edge that is dangerous with it leaves a node that w reaches
unfoldable pub closes_at : Graph → ℕ → ℕ → ℕ → Bool
closes_at g w v k = elim (leaves_for g Flow.back v k w) [ true ↦ any (opens g k v) (reached_from g w) | false ↦ false ]

-- some dangerous pair can be closed
unfoldable pub danger_test : Graph → Bool
danger_test g = any (λ w. any (λ v. any (closes_at g w v) (numbers (g.places v))) (numbers g.size)) (numbers g.size)

-- dropping a member makes a list shorter
keep_shorter : {A : Type 0} (p : A → Bool) {x : A} {l : List A} → Memᴰ x l → p x ≡ false → length (keep p l) < length l
keep_shorter p (Memᴰ.head {x = y} {xs = l} e) h = rw (keep_no p y l (ap p (sym e) ∙ h)) (suc-le-suc (length_keep p l))
keep_shorter {A} p (Memᴰ.tail {x = y} {xs = l} m) h = go (keep_shorter p m h) (p y)
  where
    go : length (keep p l) < length l → (b : Bool) → length (cond b (y ∷ keep p l) (keep p l)) < suc (length l)
    go k true = suc-le-suc k
    go k false = omega arith

-- a number of the list is n or is not dropped with n
without_cases : (n : ℕ) (l : List ℕ) {k : ℕ} → Memᴰ k l → (k ≡ n) ⊎ Memᴰ k (without n l)
without_cases n l {k} m = go (decide (eqb k n))
  where
    go : (eqb k n ≡ true) ⊎ (eqb k n ≡ false) → (k ≡ n) ⊎ Memᴰ k (without n l)
    go (inl e) = inl (eqb-true k n e)
    go (inr e) = inr (member_keep (λ i. not (eqb i n)) m (not_of_false e))

-- dropping a number of the list makes it shorter
without_shorter : (n : ℕ) (l : List ℕ) → Memᴰ n l → length (without n l) < length l
without_shorter n l m = keep_shorter (λ k. not (eqb k n)) m (not_of_true (eq-eqb n n refl))

-- the rounds are enough to find all
rounds_enough : (n : ℕ) → n ≤ suc (rounds_for n)
rounds_enough zero = zero-le
rounds_enough (suc n) = omega arith

-- and fewer than there are nodes
rounds_fewer : (n : ℕ) → 0 < n → rounds_for n < n
rounds_fewer zero h = h
rounds_fewer (suc n) h = omega arith

-- the flow that is back
pub back_of : (flow : Flow) → is_back flow ≡ true → flow ≡ Flow.back
back_of Flow.forward h = absurd (false≢true h)
back_of Flow.back h = refl

module _ (g : Graph) where
  -- every node is reached or left
  Covers : List ℕ → List ℕ → Type 0
  Covers reached left = (n : ℕ) → n < g.size → Memᴰ n reached ⊎ Memᴰ n left

  -- what is reached stays reached
  grow_keeps : (rounds : ℕ) (reached left : List ℕ) {m : ℕ} → Memᴰ m reached → Memᴰ m (grow g rounds reached left)
  unfolding grow
  grow_keeps zero reached left k = k
  grow_keeps (suc rounds) reached left {m} k =
      go (λ n. grow_keeps rounds (n ∷ reached) (without n left) (Memᴰ.tail k)) (first (joined_to g reached) left)
    where
      go : ((n : ℕ) → Memᴰ m (grow g rounds (n ∷ reached) (without n left))) → (o : Option ℕ)
          → Memᴰ m (elim o [ none ↦ reached | some n ↦ grow g rounds (n ∷ reached) (without n left) ])
      go rest none = k
      go rest (some n) = rest n

  -- every node is reached or left after a round too
  covers_on : (n : ℕ) (reached left : List ℕ) → Covers reached left → Covers (n ∷ reached) (without n left)
  unfolding Covers
  covers_on n reached left cover k s = go (cover k s)
    where
      found : (k ≡ n) ⊎ Memᴰ k (without n left) → Memᴰ k (n ∷ reached) ⊎ Memᴰ k (without n left)
      found (inl e) = inl (Memᴰ.head e)
      found (inr m) = inr m

      go : Memᴰ k reached ⊎ Memᴰ k left → Memᴰ k (n ∷ reached) ⊎ Memᴰ k (without n left)
      go (inl m) = inl (Memᴰ.tail m)
      go (inr m) = found (without_cases n left m)

  -- what is reached in the end is closed: a node that it is joined to is in it
  grow_closed : (rounds : ℕ) (reached left : List ℕ) → length left ≤ rounds → Covers reached left
      → {m n : ℕ} → Memᴰ m (grow g rounds reached left) → joins g m n ≡ true → n < g.size
      → Memᴰ n (grow g rounds reached left)
  unfolding grow joined_to Covers
  grow_closed zero reached [] h cover {m} {n} k j s = go (cover n s)
    where
      go : Memᴰ n reached ⊎ Memᴰ n [] → Memᴰ n reached
      go (inl i) = i
      go (inr i) = absurd (Memᴰ.not-nil i)
  grow_closed zero reached (x ∷ left) h cover k j s = absurd (not-suc-le-zero h)
  grow_closed (suc rounds) reached left h cover {m} {n} k j s =
      go
      (λ x i o. grow_closed rounds (x ∷ reached) (without x left) (shorter x i) (covers_on x reached left cover) {m = m} {n = n} o j s)
      (first (joined_to g reached) left) refl k
    where
      Rest : Type 0
      Rest = (x : ℕ) → Memᴰ x left → Memᴰ m (grow g rounds (x ∷ reached) (without x left))
          → Memᴰ n (grow g rounds (x ∷ reached) (without x left))

      shorter : (x : ℕ) → Memᴰ x left → length (without x left) ≤ rounds
      shorter x i = let q = without_shorter x left i in omega arith

      already : first (joined_to g reached) left ≡ none → Memᴰ m reached → Memᴰ n reached ⊎ Memᴰ n left → Memᴰ n reached
      already e i (inl o) = o
      already e i (inr o) = absurd (true_false (any_of (λ m. joins g m n) i j) (first_none (joined_to g reached) e o))

      go : Rest → (o : Option ℕ) → first (joined_to g reached) left ≡ o
          → Memᴰ m (elim o [ none ↦ reached | some x ↦ grow g rounds (x ∷ reached) (without x left) ])
          → Memᴰ n (elim o [ none ↦ reached | some x ↦ grow g rounds (x ∷ reached) (without x left) ])
      go rest none e i = already e i (cover n s)
      go rest (some x) e i = rest x (first_some (joined_to g reached) left e).0 i

  -- nodes that are joined have a forward edge
  joins_edge : (m n : ℕ) → joins g m n ≡ true → (i : ℕ) × (j : ℕ) × (g.edge m i n j Flow.forward ≡ true)
  unfolding joins leaves_for
  joins_edge m n h =
      let a = any_numbers (λ i. leaves_for g Flow.forward m i n) (g.places m) h in
      let b = any_numbers (λ j. g.edge m a.0 n j Flow.forward) (g.places n) a.2 in (a.0, b.0, b.2)

  -- there is a way of at most d steps
  Within : ℕ → ℕ → ℕ → Type 0
  Within w d n = (r : Reachable g w n) × (length (steps_of r) ≤ d)

  -- each node reached has a way with at most one step for each round
  grow_within : (w rounds d : ℕ) (reached left : List ℕ) → ((n : ℕ) → Memᴰ n reached → Within w d n)
      → {n : ℕ} → Memᴰ n (grow g rounds reached left) → Within w (d + rounds) n
  unfolding grow joined_to Within
  grow_within w zero d reached left ways {n} m = let t = ways n m in (t.0, omega arith)
  grow_within w (suc rounds) d reached left ways {n} m =
      go (λ x h k. grow_within w rounds (suc d) (x ∷ reached) (without x left) (λ y i. more x h y (Memᴰ.cases_cons i)) {n = n} k)
      (first (joined_to g reached) left) refl m
    where
      Rest : Type 0
      Rest = (x : ℕ) → joined_to g reached x ≡ true → Memᴰ n (grow g rounds (x ∷ reached) (without x left))
          → Within w (suc d + rounds) n

      more : (x : ℕ) → joined_to g reached x ≡ true → (y : ℕ) → (y ≡ x) ⊎ Memᴰ y reached → Within w (suc d) y
      more x h y (inl e) =
          let a = any_true (λ k. joins g k x) reached h in
          let t = ways a.0 a.1 in
          let q = joins_edge a.0 x a.2 in
          let o = length_onward t.0 q.0 x q.1 Flow.forward q.2 in
          rw e (onward t.0 q.0 x q.1 Flow.forward q.2, omega arith)
      more x h y (inr i) = let t = ways y i in (t.0, omega arith)

      go : Rest → (o : Option ℕ) → first (joined_to g reached) left ≡ o
          → Memᴰ n (elim o [ none ↦ reached | some x ↦ grow g rounds (x ∷ reached) (without x left) ])
          → Within w (d + suc rounds) n
      go rest none e i = let t = ways n i in (t.0, omega arith)
      go rest (some x) e i = let t = rest x (first_some (joined_to g reached) left e).1 i in (t.0, omega arith)

  -- a node that the test finds reached is reached in fewer steps than there are nodes
  reached_within : (w : ℕ) {n : ℕ} → Memᴰ n (reached_from g w) → Within w (rounds_for g.size) n
  unfolding reached_from Within steps_of
  reached_within w {n} m = rw (zero-add (rounds_for g.size)) at (grow_within w (rounds_for g.size) 0 (w ∷ []) _ first_way {n = n} m)
    where
      first_way : (k : ℕ) → Memᴰ k (w ∷ []) → Within w 0 k
      first_way k i = go (Memᴰ.cases_cons i)
        where
          go : (k ≡ w) ⊎ Memᴰ k [] → Within w 0 k
          go (inl e) = (here (sym e), zero-le)
          go (inr n) = absurd (Memᴰ.not-nil n)

  -- an edge that there is leaves its place for the node that it enters
  leaves_for_of : Regular g → (flow : Flow) (m i n j : ℕ) → g.edge m i n j flow ≡ true → leaves_for g flow m i n ≡ true
  unfolding leaves_for
  leaves_for_of regular flow m i n j h = any_numbers_of (λ j. g.edge m i n j flow) (g.places n) j (regular.in_nodes m i n j flow h).3 h

  -- an edge of either flow has a forward one between the same places
  pub forward_twin : Regular g → (flow : Flow) (m i n j : ℕ) → g.edge m i n j flow ≡ true → g.edge m i n j Flow.forward ≡ true
  forward_twin regular Flow.forward m i n j h = h
  forward_twin regular Flow.back m i n j h = regular.twin m i n j h

  -- an edge that there is joins
  joins_of : Regular g → (flow : Flow) (m i n j : ℕ) → g.edge m i n j flow ≡ true → joins g m n ≡ true
  unfolding joins
  joins_of regular flow m i n j h =
      any_numbers_of (λ i. leaves_for g Flow.forward m i n) (g.places m) i (regular.in_nodes m i n j flow h).2
      (leaves_for_of regular Flow.forward m i n j (forward_twin regular flow m i n j h))

  -- at the start every node is reached or left
  covers_first : (w : ℕ) → Covers (w ∷ []) (without w (numbers g.size))
  unfolding Covers
  covers_first w n s = go (without_cases w (numbers g.size) (member_numbers g.size n s))
    where
      go : (n ≡ w) ⊎ Memᴰ n (without w (numbers g.size)) → Memᴰ n (w ∷ []) ⊎ Memᴰ n (without w (numbers g.size))
      go (inl e) = inl (Memᴰ.head e)
      go (inr m) = inr m

  -- the nodes found reached are closed
  reached_closed : (w : ℕ) → w < g.size → {m n : ℕ} → Memᴰ m (reached_from g w) → joins g m n ≡ true → n < g.size
      → Memᴰ n (reached_from g w)
  unfolding reached_from
  reached_closed w s k j h = grow_closed (rounds_for g.size) (w ∷ []) (without w (numbers g.size)) left (covers_first w) k j h
    where
      left : length (without w (numbers g.size)) ≤ rounds_for g.size
      left =
          let a = without_shorter w (numbers g.size) (member_numbers g.size w s) in
          let b = length_numbers g.size in
          let c = rounds_enough g.size in omega arith

  -- the first node is found reached
  reached_first : (w : ℕ) → Memᴰ w (reached_from g w)
  unfolding reached_from
  reached_first w = grow_keeps (rounds_for g.size) (w ∷ []) (without w (numbers g.size)) (Memᴰ.head refl)

  -- a node that a way of any length reaches is found reached
  reached_all : Regular g → (w : ℕ) → w < g.size → {m n : ℕ} → Reachable g m n
      → Memᴰ m (reached_from g w) → Memᴰ n (reached_from g w)
  reached_all regular w s (here e) k = rw e at k
  reached_all regular w s (along {m} i x j flow h r) k =
      reached_all regular w s r (reached_closed w s k (joins_of regular flow m i x j h) (regular.in_nodes m i x j flow h).1)

  -- a node that a way of any length reaches is reached in fewer steps than there are nodes
  pub reach_short : Regular g → (w : ℕ) → w < g.size → {n : ℕ} → Reachable g w n
      → (r : Reachable g w n) × (length (steps_of r) ≤ rounds_for g.size)
  unfolding Within
  reach_short regular w s r = reached_within w (reached_all regular w s r (reached_first w))

  -- both parts of what closes
  closes_at_both : (w v k : ℕ) → closes_at g w v k ≡ leaves_for g Flow.back v k w && any (opens g k v) (reached_from g w)
  unfolding closes_at
  closes_at_both w v k = go (leaves_for g Flow.back v k w)
    where
      go : (b : Bool) → elim b [ true ↦ any (opens g k v) (reached_from g w) | false ↦ false ] ≡ b && any (opens g k v) (reached_from g w)
      go true = refl
      go false = refl

  -- an edge that opens: where it leaves and enters
  opens_found : (k v u : ℕ) → opens g k v u ≡ true
      → (i : ℕ) × (j : ℕ) × (g.edge u i v j Flow.forward ≡ true) × (ltb k j || g.loose u i ≡ true)
  unfolding opens
  opens_found k v u h =
      let a = any_numbers (λ i. any (opens_at g k v u i) (numbers (g.places v))) (g.places u) h in
      let b = any_numbers (opens_at g k v u a.0) (g.places v) a.2 in
      let c = and_true (g.edge u a.0 v b.0 Flow.forward) (ltb k b.0 || g.loose u a.0) b.2 in
      (a.0, b.0, c.0, c.1)

  -- an edge that is dangerous with a back edge that leaves v at k opens, be it forward or back
  opens_of : Regular g → (k v u i j : ℕ) (flow : Flow) → g.edge u i v j flow ≡ true
      → is_back flow || ltb k j || g.loose u i ≡ true → opens g k v u ≡ true
  unfolding opens
  opens_of regular k v u i j flow h d =
      let inside = regular.in_nodes u i v j flow h in
      any_numbers_of (λ i. any (opens_at g k v u i) (numbers (g.places v))) (g.places u) i inside.2
      (any_numbers_of (opens_at g k v u i) (g.places v) j inside.3 (and_of (forward_twin regular flow u i v j h) (go flow h d)))
    where
      go : (f : Flow) → g.edge u i v j f ≡ true → is_back f || ltb k j || g.loose u i ≡ true → ltb k j || g.loose u i ≡ true
      go Flow.forward q e = e
      go Flow.back q e = or_right (ltb k j) (regular.back_loose u i v j q)

  -- a way from w to u closes the walk along e: u → v and the back c: v → w
  return_walk : (u i v j k w l : ℕ) → g.edge u i v j Flow.forward ≡ true → ltb k j || g.loose u i ≡ true
      → g.edge v k w l Flow.back ≡ true → (d : ℕ) → Within w d u
      → (walk : List Step) × (is_dangerous g walk ≡ true) × (length walk ≤ d + 2)
  unfolding is_dangerous is_edge dangerous_pair Within
  return_walk u i v j k w l first dangerous second d way =
      (e ∷ c ∷ steps_of way.0, and_of (and_of edges (or_left rest dangerous)) refl, omega arith)
    where
      e : Step
      e = record { node = u; leaves = i; enters = j; flow = Flow.forward }

      c : Step
      c = record { node = v; leaves = k; enters = l; flow = Flow.back }

      edges : all (is_edge g) (around (e ∷ c ∷ steps_of way.0)) ≡ true
      edges = and_of first (closes way.0 c e second refl)

      rest : Bool
      rest = any (dangerous_pair g) (pairs_to e (c ∷ steps_of way.0))

  -- what closes at a place is a dangerous closed walk
  closes_at_walk : (w v k : ℕ) → closes_at g w v k ≡ true
      → (walk : List Step) × (is_dangerous g walk ≡ true) × (length walk ≤ rounds_for g.size + 2)
  unfolding leaves_for
  closes_at_walk w v k h =
      let a = and_true (leaves_for g Flow.back v k w) (any (opens g k v) (reached_from g w)) (sym (closes_at_both w v k) ∙ h) in
      let b = any_numbers (λ l. g.edge v k w l Flow.back) (g.places w) a.0 in
      let c = any_true (opens g k v) (reached_from g w) a.1 in
      let d = opens_found k v c.0 c.2 in
      return_walk c.0 d.0 v d.1 k w b.0 d.2 d.3 b.2 (rounds_for g.size) (reached_within w c.1)

  -- where the test passes there is a dangerous closed walk, a short one
  pub danger_found : danger_test g ≡ true → ShortWalk g
  unfolding danger_test
  danger_found h =
      let a = any_numbers (λ w. any (λ v. any (closes_at g w v) (numbers (g.places v))) (numbers g.size)) g.size h in
      let b = any_numbers (λ v. any (closes_at g a.0 v) (numbers (g.places v))) g.size a.2 in
      let c = any_numbers (closes_at g a.0 b.0) (g.places b.0) b.2 in
      let found = closes_at_walk a.0 b.0 c.0 c.2 in
      let inside = a.1 in
      let few = rounds_fewer g.size (omega arith) in (found.0, found.1, omega arith)

  -- a back edge into w closes where w reaches, by a way of any length, a node that opens
  closes_at_of : Regular g → (u v k w l : ℕ) → g.edge v k w l Flow.back ≡ true → Reachable g w u → opens g k v u ≡ true
      → closes_at g w v k ≡ true
  closes_at_of regular u v k w l h r o =
      let inside = regular.in_nodes v k w l Flow.back h in
      closes_at_both w v k
      ∙ and_of (leaves_for_of regular Flow.back v k w l h)
      (any_of (opens g k v) (reached_all regular w inside.1 r (reached_first w)) o)

  -- a dangerous pair that can be closed passes the test
  pub return_tested : Regular g → DangerousReturn g → danger_test g ≡ true
  unfolding danger_test is_edge dangerous_pair
  return_tested regular r =
      any_numbers_of (λ w. any (λ v. any (closes_at g w v) (numbers (g.places v))) (numbers g.size)) g.size r.into inside.1
      (any_numbers_of (λ v. any (closes_at g r.into v) (numbers (g.places v))) g.size r.c.node inside.0
      (any_numbers_of (closes_at g r.into r.c.node) (g.places r.c.node) r.c.leaves inside.2
      (closes_at_of regular r.e.node r.c.node r.c.leaves r.into r.c.enters second r.returns
      (opens_of regular r.c.leaves r.c.node r.e.node r.e.leaves r.e.enters r.e.flow r.first parts.1))))
    where
      parts : (is_back r.c.flow ≡ true)
          × (is_back r.e.flow || ltb r.c.leaves r.e.enters || g.loose r.e.node r.e.leaves ≡ true)
      parts = and_true _ _ r.dangerous

      second : g.edge r.c.node r.c.leaves r.into r.c.enters Flow.back ≡ true
      second = rw (back_of r.c.flow parts.0) at r.second

      inside : (r.c.node < g.size) × (r.into < g.size) × (r.c.leaves < g.places r.c.node) × (r.c.enters < g.places r.into)
      inside = regular.in_nodes r.c.node r.c.leaves r.into r.c.enters Flow.back second

  -- a dangerous closed walk, of any length, passes the test
  pub danger_complete : Regular g → DangerousWalk g → danger_test g ≡ true
  danger_complete regular walk = return_tested regular (walk_return walk)

  -- where the test fails there is no dangerous closed walk of any length
  pub danger_none : Regular g → danger_test g ≡ false → DangerousWalk g → ⊥
  danger_none regular h walk = true_false (danger_complete regular walk) h

  -- a dangerous closed walk exists exactly if the test passes
  pub danger_iff : Regular g → DangerousWalk g ↔ (danger_test g ≡ true)
  danger_iff regular = (danger_complete regular, λ h. let t = danger_found h in (t.0, t.1))

  -- where there is a dangerous closed walk there is a short one
  pub short_walk : Regular g → DangerousWalk g → ShortWalk g
  short_walk regular walk = danger_found (danger_complete regular walk)

  -- a dangerous closed walk of any length exists exactly if a dangerous pair can be closed
  pub walk_iff_return : Regular g → DangerousWalk g ↔ DangerousReturn g
  walk_iff_return regular = (walk_return, λ r. let t = danger_found (return_tested regular r) in (t.0, t.1))
