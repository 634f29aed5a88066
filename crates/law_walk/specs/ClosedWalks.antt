-- A closed walk of dependencies, each with what Read Committed says of its commits, gives a dangerous closed walk.
use Rattle.std.specs.Prelude.{◌≡◌, refl, Bool, true, false, cond, not, ◌||◌, ◌⊎◌, ℕ, ◌≤◌, ◌<◌, ltb}
use Rattle.std.proofs.Common.{sym, ap, ◌∙◌, inl, inr, arith, ltb-true, ltb-false, lt-ltb, le-ltb}
use mathlib.Core.List.{List, [], ◌∷◌, map, Memᴰ}
use mathlib.Core.List.Memᴰ
use Rattle.std.proofs.Math.Decide.{dec_le}
use Rattle.spec_base.specs.Basic.{any, all, around, pairs_to}
use Rattle.law_base.specs.BoolLaws.{true_of, and_of, or_false}
use Rattle.law_base.specs.ListLaws.{any_of, all_of, any_map, all_map, around_member, around_next, around_previous}
use Rattle.spec_graph.specs.Graph.{Flow, Graph, is_back}
use Rattle.spec_graph.specs.Walk.{Step, is_edge, dangerous_pair, is_dangerous, DangerousWalk}

-- one dependency of a closed walk, from a transaction x to a transaction y
pub record Hop : Type 0 where
  -- the node that stands for x here
  pub node : ℕ
  -- the place left in it
  pub leaves : ℕ
  -- the place entered in the next hop's node
  pub enters : ℕ
  -- when x commits
  pub commit : ℕ
  -- when the event left happens
  pub left : ℕ
  -- when the event entered, of y, happens
  pub entered : ℕ

-- what holds of a dependency and the next: it has an edge with its flow, and its events keep the commits' order
pub record Fits (g : Graph) (h next : Hop) : Type 0 where
  -- the two transactions are different
  pub differ : h.commit ≡ next.commit → ⊥
  pub is_forward : h.commit < next.commit → g.edge h.node h.leaves next.node h.enters Flow.forward ≡ true
  pub is_back : next.commit < h.commit → g.edge h.node h.leaves next.node h.enters Flow.back ≡ true
  -- what leaves no loose place waits for the commit
  pub firm : g.loose h.node h.leaves ≡ false → h.commit < h.entered
  -- a back dependency leaves before the other commits
  pub early : next.commit < h.commit → h.left < next.commit
  -- where the place entered is not after the place left, what is left comes after that commit too
  pub after : h.commit < h.entered → h.enters ≤ next.leaves → h.commit < next.left

-- ---- closed walks of pairs

module _ {A : Type 0} where
  -- the pairs of a walk are linked: where one ends, the next begins
  pub pairs_to_linked : (end x : A) (l : List A) (last : A × A) → last.0 ≡ end
      → {q : (A × A) × (A × A)} → Memᴰ q (pairs_to last (pairs_to end (x ∷ l))) → q.0.1 ≡ q.1.0
  pairs_to_linked end x [] last e {q} m = go (Memᴰ.cases_cons m)
    where
      go : (q ≡ ((x, end), last)) ⊎ Memᴰ q [] → q.0.1 ≡ q.1.0
      go (inl h) = rw h (sym e)
      go (inr n) = absurd (Memᴰ.not-nil n)
  pairs_to_linked end x (y ∷ []) last e {q} m = go (λ n. pairs_to_linked end y [] last e n) (Memᴰ.cases_cons m)
    where
      go : (Memᴰ q (pairs_to last (pairs_to end (y ∷ []))) → q.0.1 ≡ q.1.0)
          → (q ≡ ((x, y), (y, end))) ⊎ Memᴰ q (pairs_to last (pairs_to end (y ∷ []))) → q.0.1 ≡ q.1.0
      go rest (inl h) = rw h
      go rest (inr n) = rest n
  pairs_to_linked end x (y ∷ z ∷ l) last e {q} m = go (λ n. pairs_to_linked end y (z ∷ l) last e n) (Memᴰ.cases_cons m)
    where
      go : (Memᴰ q (pairs_to last (pairs_to end (y ∷ z ∷ l))) → q.0.1 ≡ q.1.0)
          → (q ≡ ((x, y), (y, z))) ⊎ Memᴰ q (pairs_to last (pairs_to end (y ∷ z ∷ l))) → q.0.1 ≡ q.1.0
      go rest (inl h) = rw h
      go rest (inr n) = rest n

  -- so are the pairs of a closed walk
  pub around_linked : (l : List A) {q : (A × A) × (A × A)} → Memᴰ q (around (around l)) → q.0.1 ≡ q.1.0
  around_linked [] m = absurd (Memᴰ.not-nil m)
  around_linked (x ∷ []) m = pairs_to_linked x x [] (x, x) refl m
  around_linked (x ∷ y ∷ l) m = pairs_to_linked x x (y ∷ l) (x, y) refl m

  -- some element has the least number of all
  pub least : (f : A → ℕ) (x : A) (l : List A) → (k : A) × Memᴰ k (x ∷ l) × ((y : A) → Memᴰ y (x ∷ l) → f k ≤ f y)
  least f x [] = (x, Memᴰ.head refl, λ y m. go (Memᴰ.cases_cons m))
    where
      go : {y : A} → (y ≡ x) ⊎ Memᴰ y [] → f x ≤ f y
      go (inl e) = rw e (omega arith)
      go (inr n) = absurd (Memᴰ.not-nil n)
  least f x (y ∷ l) = go (least f y l)
    where
      Least : A → List A → Type 0
      Least k s = (z : A) → Memᴰ z s → f k ≤ f z

      wider : (k : A) → f k ≤ f x → Least k (y ∷ l) → {z : A} → (z ≡ x) ⊎ Memᴰ z (y ∷ l) → f k ≤ f z
      wider k h t (inl e) = rw e h
      wider k h t {z} (inr n) = t z n

      pick : (k : A) → Memᴰ k (y ∷ l) → Least k (y ∷ l) → Dec (f k ≤ f x)
          → (k : A) × Memᴰ k (x ∷ y ∷ l) × Least k (x ∷ y ∷ l)
      pick k m t (yes h) = (k, Memᴰ.tail m, λ z n. wider k h t (Memᴰ.cases_cons n))
      pick k m t (no h) =
          (x, Memᴰ.head refl, λ z n. wider x (omega arith) (λ w o. let q = t w o in omega arith) (Memᴰ.cases_cons n))

      go : (k : A) × Memᴰ k (y ∷ l) × Least k (y ∷ l) → (k : A) × Memᴰ k (x ∷ y ∷ l) × Least k (x ∷ y ∷ l)
      go t = pick t.0 t.1 t.2 (dec_le (f t.0) (f x))

module _ {A B : Type 0} where
  -- a map goes along a walk
  pub pairs_to_map : (f : A → B) (end : A) (l : List A)
      → pairs_to (f end) (map f l) ≡ map (λ (q : A × A). (f q.0, f q.1)) (pairs_to end l)
  pairs_to_map f end [] = refl
  pairs_to_map f end (x ∷ []) = refl
  pairs_to_map f end (x ∷ y ∷ l) = ap {B = List (B × B)} (λ s. (f x, f y) ∷ s) (pairs_to_map f end (y ∷ l))

  -- a map goes along a closed walk
  pub around_map : (f : A → B) (l : List A) → around (map f l) ≡ map (λ (q : A × A). (f q.0, f q.1)) (around l)
  around_map f [] = refl
  around_map f (x ∷ l) = pairs_to_map f x (x ∷ l)

-- ---- from hops to steps

-- the step of a hop: its flow is back exactly if the next hop's transaction commits earlier
unfoldable pub step_of : Hop × Hop → Step
step_of (h, next) =
    record
    { node = h.node; leaves = h.leaves; enters = h.enters; flow = cond (ltb next.commit h.commit) Flow.back Flow.forward }

-- a hop that fits is an edge of the walk
hop_edge : (g : Graph) (h next : Hop) → Fits g h next → (q : Hop × Hop) → next ≡ q.0 → is_edge g (step_of (h, next), step_of q) ≡ true
unfolding is_edge step_of
hop_edge g h next fits q e = rw (← e) (go (ltb next.commit h.commit) refl)
  where
    go : (b : Bool) → ltb next.commit h.commit ≡ b
        → g.edge h.node h.leaves next.node h.enters (cond b Flow.back Flow.forward) ≡ true
    go true t = fits.is_back (ltb-true next.commit h.commit t)
    go false t = let d = fits.differ in let o = ltb-false next.commit h.commit t in fits.is_forward (omega arith)

-- a hop into the first commit of all is back, and dangerous with the hop before it
hop_pair : (g : Graph) (h next : Hop) → Fits g h next → (q : Hop × Hop) → next ≡ q.0 → Fits g q.0 q.1
    → q.1.commit ≤ h.commit → q.1.commit ≤ q.0.commit → dangerous_pair g (step_of (h, next), step_of q) ≡ true
unfolding dangerous_pair step_of
hop_pair g h next fits q e fits' first first' =
    and_of (ap (λ (b : Bool). is_back (cond b Flow.back Flow.forward)) is_earlier) (true_of _ (λ f. never (or_false _ _ f)))
  where
    earlier : q.1.commit < q.0.commit
    earlier = let d = fits'.differ in omega arith

    is_earlier : ltb q.1.commit q.0.commit ≡ true
    is_earlier = lt-ltb q.1.commit q.0.commit earlier

    passed : Bool
    passed = is_back (step_of (h, next)).flow || ltb q.0.leaves h.enters

    never : (passed ≡ false) × (g.loose h.node h.leaves ≡ false) → ⊥
    never (a, b) =
        let not_earlier = ltb-false q.0.leaves h.enters (or_false (is_back (step_of (h, next)).flow) _ a).1 in
        let waits = fits.firm b in
        let left : h.commit < next.left = fits.after waits (rw e not_earlier) in
        let before = fits'.early earlier in
        let same = ap (λ (x : Hop). x.left) e in
        omega arith

-- a hop from the first commit of all is forward
hop_forward : (h next : Hop) → h.commit ≤ next.commit → not (is_back (step_of (h, next)).flow) ≡ true
unfolding step_of
hop_forward h next first =
    ap (λ (b : Bool). not (is_back (cond b Flow.back Flow.forward))) (le-ltb next.commit h.commit first)

-- a closed walk of dependencies that fit gives a dangerous closed walk
pub closed_dependencies : (g : Graph) (hops : List Hop) → (hops ≡ [] → ⊥)
    → ((pair : Hop × Hop) → Memᴰ pair (around hops) → Fits g pair.0 pair.1) → DangerousWalk g
unfolding is_dangerous
closed_dependencies g [] h fits = absurd (h refl)
closed_dependencies g (x ∷ l) h fits = (map step_of (around hops), and_of (and_of edges pair) goes)
  where
    hops : List Hop
    hops = x ∷ l

    k : (k : Hop) × Memᴰ k hops × ((y : Hop) → Memᴰ y hops → k.commit ≤ y.commit)
    k = least (λ (y : Hop). y.commit) x l

    both : {q : (Hop × Hop) × (Hop × Hop)} → Memᴰ q (around (around hops))
        → Memᴰ q.0 (around hops) × Memᴰ q.1 (around hops)
    both m = around_member (around hops) m

    edges : all (is_edge g) (around (map step_of (around hops))) ≡ true
    edges =
        ap (all (is_edge g)) (around_map step_of (around hops)) ∙ all_map (is_edge g) _ (around (around hops))
        ∙ all_of _ (around (around hops)) (λ q m. hop_edge g q.0.0 q.0.1 (fits q.0 (both m).0) q.1 (around_linked hops m))

    pair : any (dangerous_pair g) (around (map step_of (around hops))) ≡ true
    pair =
        let p = around_previous hops k.1 in
        let q = around_previous (around hops) p.1 in
        let m = around_member hops (both q.1).0 in
        ap (any (dangerous_pair g)) (around_map step_of (around hops)) ∙ any_map (dangerous_pair g) _ (around (around hops))
        ∙ any_of _ q.1
        (hop_pair g q.0.0 q.0.1 (fits q.0 (both q.1).0) (p.0, k.0) (around_linked hops q.1) (fits (p.0, k.0) p.1)
        (k.2 q.0.0 m.0) (k.2 p.0 (around_member hops p.1).0))

    goes : any (λ s. not (is_back s.flow)) (map step_of (around hops)) ≡ true
    goes =
        let n = around_next hops k.1 in
        any_map _ step_of (around hops) ∙ any_of _ n.1 (hop_forward k.0 n.0 (k.2 n.0 (around_member hops n.1).1))
