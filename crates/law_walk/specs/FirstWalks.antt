-- Where there is a dangerous walk there is a first: of the short ones, finitely many, one that none comes before; and longer ones come after.
-- So a test over the short ones decides whether a walk is the first.
use Rattle.std.specs.Prelude.{Bool, false, cond, not, ◌&&◌, ◌⊎◌, ◌≡◌, ℕ, zero, suc, ◌+◌, ◌≤◌}
use Rattle.std.proofs.Math.Bool.{true}
use mathlib.Core.List.{List, [], ◌∷◌, flat_map, Memᴰ}
use mathlib.Core.List.Memᴰ
use Rattle.std.proofs.Common.{inl, inr, arith}
use Rattle.std.proofs.Math.Path.{refl}
use Rattle.std.proofs.Math.Decide.{dec_le}
use Rattle.std.proofs.Math.ListN.{length}
use Rattle.spec_base.specs.Basic.{all, keep, numbers}
use Rattle.law_base.specs.BoolLaws.{decide, false_of, true_false, and_true, and_of, not_true}
use Rattle.law_base.specs.ListLaws.{all_true, keep_member, member_keep, member_numbers, member_flat_map, around_next}
use Rattle.spec_graph.specs.Graph.{Flow, Graph}
use Rattle.spec_graph.specs.Walk.{Step, is_edge, dangerous_pair, is_dangerous, DangerousWalk, step_numbers, smaller, comes_before, FirstWalk}
use Rattle.law_walk.specs.Before.{before_parts, before_not, before_itself, before_trans}
use Rattle.law_walk.specs.Parts.{dangerous_parts}
use Rattle.law_walk.specs.Reach.{Regular, short_walk}

-- ---- an element that none comes before

module _ {A : Type 0} (before : A → A → Bool) (itself : (a : A) → before a a ≡ false)
    (trans : (a b c : A) → before a b ≡ true → before b c ≡ true → before a c ≡ true) where
  -- no element of the list comes before this one
  abbrev NoneBefore : List A → A → Type 0
  NoneBefore l k = (y : A) → Memᴰ y l → before y k ≡ false

  -- a list that is not empty has such an element
  none_before : (x : A) (l : List A) → (k : A) × Memᴰ k (x ∷ l) × NoneBefore (x ∷ l) k
  none_before x [] = (x, Memᴰ.head refl, λ y m. go (Memᴰ.cases_cons m))
    where
      go : {y : A} → (y ≡ x) ⊎ Memᴰ y [] → before y x ≡ false
      go (inl e) = rw e (itself x)
      go (inr n) = absurd (Memᴰ.not-nil n)
  none_before x (z ∷ l) = let t = none_before z l in pick t.0 t.1 t.2 (decide (before x t.0))
    where
      wider : (k : A) → before x k ≡ false → NoneBefore (z ∷ l) k → {y : A} → (y ≡ x) ⊎ Memᴰ y (z ∷ l) → before y k ≡ false
      wider k h none (inl e) = rw e h
      wider k h none {y} (inr n) = none y n

      pick : (k : A) → Memᴰ k (z ∷ l) → NoneBefore (z ∷ l) k → (before x k ≡ true) ⊎ (before x k ≡ false)
          → (k : A) × Memᴰ k (x ∷ z ∷ l) × NoneBefore (x ∷ z ∷ l) k
      pick k m none (inr h) = (k, Memᴰ.tail m, λ y n. wider k h none (Memᴰ.cases_cons n))
      pick k m none (inl h) =
          let beaten : NoneBefore (z ∷ l) x = λ y n. false_of (before y x) (λ b. true_false (trans y x k b h) (none y n)) in
          (x, Memᴰ.head refl, λ y n. wider x (itself x) beaten (Memᴰ.cases_cons n))

-- ---- the short walks

-- the edges between these places as steps, in both flows
edges_at : Graph → ℕ → ℕ → ℕ → ℕ → List Step
edges_at g m i n j =
    flat_map (λ f. cond (g.edge m i n j f) (record { node = m; leaves = i; enters = j; flow = f } ∷ []) []) (Flow.forward ∷ Flow.back ∷ [])

-- each edge between places of nodes
all_steps : Graph → List Step
all_steps g =
    flat_map (λ m. flat_map (λ i. flat_map (λ n. flat_map (λ j. edges_at g m i n j) (numbers (g.places n))) (numbers g.size)) (numbers (g.places m)))
    (numbers g.size)

-- each list of at most so many of the steps
lists_of : List Step → ℕ → List (List Step)
lists_of steps zero = [] ∷ []
lists_of steps (suc n) = [] ∷ flat_map (λ s. flat_map (λ walk. (s ∷ walk) ∷ []) (lists_of steps n)) steps

-- is among them
member_lists : (steps : List Step) (n : ℕ) (walk : List Step) → ((s : Step) → Memᴰ s walk → Memᴰ s steps) → length walk ≤ n
    → Memᴰ walk (lists_of steps n)
unfolding lists_of
member_lists steps zero [] h l = Memᴰ.head refl
member_lists steps zero (s ∷ walk) h l = absurd (omega arith)
member_lists steps (suc n) [] h l = Memᴰ.head refl
member_lists steps (suc n) (s ∷ walk) h l =
    Memᴰ.tail (member_flat_map _ (h s (Memᴰ.head refl))
    (member_flat_map _ (member_lists steps n walk (λ t m. h t (Memᴰ.tail m)) (omega arith)) (Memᴰ.head refl)))

module _ {g : Graph} (regular : Regular g) where
  -- a step that is an edge is among all steps
  edge_step : (s next : Step) → is_edge g (s, next) ≡ true → Memᴰ s (all_steps g)
  unfolding is_edge all_steps edges_at
  edge_step s next h =
      let b = regular.in_nodes s.node s.leaves next.node s.enters s.flow h in
      member_flat_map _ (member_numbers g.size s.node b.0)
      (member_flat_map _ (member_numbers (g.places s.node) s.leaves b.2)
      (member_flat_map _ (member_numbers g.size next.node b.1)
      (member_flat_map _ (member_numbers (g.places next.node) s.enters b.3)
      (member_flat_map _ (flow s.flow) (rw h (Memᴰ.head refl))))))
    where
      flow : (f : Flow) → Memᴰ f (Flow.forward ∷ Flow.back ∷ [])
      flow Flow.forward = Memᴰ.head refl
      flow Flow.back = Memᴰ.tail (Memᴰ.head refl)

  -- so a dangerous walk of at most n steps is among the lists of so many
  member_walks : (n : ℕ) (walk : List Step) → is_dangerous g walk ≡ true → length walk ≤ n → Memᴰ walk (lists_of (all_steps g) n)
  member_walks n walk h l = member_lists (all_steps g) n walk steps l
    where
      steps : (s : Step) → Memᴰ s walk → Memᴰ s (all_steps g)
      steps s m = let next = around_next walk m in edge_step s next.0 (all_true (is_edge g) (dangerous_parts walk h).edges next.1)

  -- the dangerous walks of at most n steps
  short_ones : ℕ → List (List Step)
  short_ones n = keep (is_dangerous g) (lists_of (all_steps g) n)

  -- each is among them
  member_short : (n : ℕ) (walk : List Step) → is_dangerous g walk ≡ true → length walk ≤ n → Memᴰ walk (short_ones n)
  unfolding short_ones
  member_short n walk h l = member_keep (is_dangerous g) (member_walks n walk h l) h

  -- one that no dangerous walk of at most n steps comes before is the first, if there is one of at most n steps
  first_of : (n : ℕ) (short : List Step) → is_dangerous g short ≡ true → length short ≤ n
      → (l : List (List Step)) → short_ones n ≡ l → (walk : List Step) × FirstWalk g walk × (length walk ≤ n)
  unfolding short_ones
  first_of n short h few [] e = absurd (Memᴰ.not-nil (rw e at (member_short n short h few)))
  first_of n short h few (x ∷ l) e = first (none_before comes_before before_itself before_trans x l)
    where
      among : (other : List Step) → is_dangerous g other ≡ true → length other ≤ n → Memᴰ other (x ∷ l)
      among other i j = rw e at (member_short n other i j)

      first : (k : List Step) × Memᴰ k (x ∷ l) × ((y : List Step) → Memᴰ y (x ∷ l) → comes_before y k ≡ false)
          → (walk : List Step) × FirstWalk g walk × (length walk ≤ n)
      first (k, m, none) = (k, record { dangerous = (keep_member (is_dangerous g) (lists_of (all_steps g) n) (rw (← e) at m)).1; first = least }, within)
        where
          within : length k ≤ n
          within = let low = (before_parts short k (none short (among short h few))).0 in omega arith

          least : (other : List Step) → is_dangerous g other ≡ true → comes_before other k ≡ false
          least other i = cases (dec_le (length other) n)
            where
              cases : Dec (length other ≤ n) → comes_before other k ≡ false
              cases (yes j) = none other (among other i j)
              cases (no j) = before_not other k (omega (arith, within)) (λ q. absurd (omega (arith, within)))

-- Req 01: a graph with a dangerous walk has a first one, with at most one step more than there are nodes
pub first_exists : {g : Graph} → Regular g → DangerousWalk g → (walk : List Step) × FirstWalk g walk × (length walk ≤ g.size + 1)
first_exists {g} regular walk =
    let short = short_walk g regular walk in first_of regular (g.size + 1) short.0 short.1 short.2 _ refl

-- ---- a computed test

-- Req 01: the walk is dangerous, and no list of as many edges or fewer is dangerous and comes before it
unfoldable pub is_first : Graph → List Step → Bool
unfolding edges_at all_steps lists_of is_dangerous is_edge dangerous_pair step_numbers smaller comes_before flat_map
is_first g walk = is_dangerous g walk && all (λ other. not (is_dangerous g other && comes_before other walk)) (lists_of (all_steps g) (length walk))

-- a walk that passes is the first
pub first_tested : {g : Graph} → Regular g → (walk : List Step) → is_first g walk ≡ true → FirstWalk g walk
unfolding is_first
first_tested {g} regular walk h = record { dangerous = both.0; first = none }
  where
    both : (is_dangerous g walk ≡ true)
        × (all (λ other. not (is_dangerous g other && comes_before other walk)) (lists_of (all_steps g) (length walk)) ≡ true)
    both = and_true (is_dangerous g walk) _ h

    none : (other : List Step) → is_dangerous g other ≡ true → comes_before other walk ≡ false
    none other d = cases (dec_le (length other) (length walk))
      where
        cases : Dec (length other ≤ length walk) → comes_before other walk ≡ false
        cases (no j) = before_not other walk (omega arith) (λ q. absurd (omega arith))
        cases (yes j) =
            let test = all_true (λ v. not (is_dangerous g v && comes_before v walk)) both.1 (member_walks regular (length walk) other d j) in
            false_of (comes_before other walk)
            (λ b. true_false (and_of d b) (not_true (is_dangerous g other && comes_before other walk) test))
