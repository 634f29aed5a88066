-- The order of walks: of two lists the numbers at their first difference decide, so that of two lists of one length, one is smaller or they are
-- the same; and the numbers tell the walk. So no two walks are both the first dangerous one.
use Rattle.std.specs.Prelude.{Bool, true, false, ◌&&◌, ◌||◌, ◌⊎◌, ◌≡◌, refl, ℕ, ◌*◌, ◌≤◌, ◌<◌, eqb, ltb, length}
use Rattle.std.proofs.lemmas.Bool.{false≢true}
use mathlib.Core.List.{List, [], ◌∷◌, flat_map}
use Rattle.std.proofs.Common.{inl, inr, sym, ap, ap₂, ◌∙◌, arith, ltb-true, ltb-false, lt-ltb, le-ltb, eqb-true, eq-eqb}
use Rattle.law_base.specs.BoolLaws.{false_of, true_false, and_true, and_of, or_true, or_left, or_right, or_false, or_of}
use Rattle.spec_graph.specs.Graph.{Flow, Graph}
use Rattle.spec_graph.specs.Walk.{Step, flow_number, step_numbers, smaller, comes_before, FirstWalk}

-- ---- a number first, then a test

-- the first numbers decide, and where they are the same the test
abbrev number_then : ℕ → ℕ → Bool → Bool
number_then x y b = ltb x y || (eqb x y && b)

-- what a passed one says
then_true : (x y : ℕ) (b : Bool) → number_then x y b ≡ true → (x < y) ⊎ ((x ≡ y) × (b ≡ true))
then_true x y b h = go (or_true (ltb x y) (eqb x y && b) h)
  where
    go : (ltb x y ≡ true) ⊎ (eqb x y && b ≡ true) → (x < y) ⊎ ((x ≡ y) × (b ≡ true))
    go (inl e) = inl (ltb-true x y e)
    go (inr e) = let a = and_true (eqb x y) b e in inr (eqb-true x y a.0, a.1)

-- what a failed one says
then_false : (x y : ℕ) (b : Bool) → number_then x y b ≡ false → (y ≤ x) × (x ≡ y → b ≡ false)
then_false x y b h =
    let a = or_false (ltb x y) (eqb x y && b) h in
    (ltb-false x y a.0, λ e. false_of b (λ t. true_false (and_of (eq-eqb x y e) t) a.1))

-- a smaller number passes
then_less : (x y : ℕ) (b : Bool) → x < y → number_then x y b ≡ true
then_less x y b h = or_left (eqb x y && b) (lt-ltb x y h)

-- the same number and a passed test pass
then_same : (x y : ℕ) (b : Bool) → x ≡ y → b ≡ true → number_then x y b ≡ true
then_same x y b e t = or_right (ltb x y) (and_of (eq-eqb x y e) t)

-- a number that is not smaller fails, unless it is the same and the test passes
then_not : (x y : ℕ) (b : Bool) → y ≤ x → (x ≡ y → b ≡ false) → number_then x y b ≡ false
then_not x y b h f =
    or_of (le-ltb x y h) (false_of (eqb x y && b) (λ t. let a = and_true (eqb x y) b t in true_false a.1 (f (eqb-true x y a.0))))

-- ---- the smaller list

-- a list that is not smaller: what its first number and the rest are
pub smaller_parts : (x : ℕ) (k : List ℕ) (y : ℕ) (l : List ℕ) → smaller (x ∷ k) (y ∷ l) ≡ false → (y ≤ x) × (x ≡ y → smaller k l ≡ false)
unfolding smaller
smaller_parts x k y l h = then_false x y (smaller k l) h

-- and a list with such parts is not smaller
pub smaller_not : (x : ℕ) (k : List ℕ) (y : ℕ) (l : List ℕ) → y ≤ x → (x ≡ y → smaller k l ≡ false) → smaller (x ∷ k) (y ∷ l) ≡ false
unfolding smaller
smaller_not x k y l h f = then_not x y (smaller k l) h f

-- no list is smaller than itself
pub smaller_itself : (l : List ℕ) → smaller l l ≡ false
unfolding smaller
smaller_itself [] = refl
smaller_itself (x ∷ l) = smaller_not x l x l (omega arith) (λ e. smaller_itself l)

-- a list smaller than a smaller one is smaller
pub smaller_trans : (k l m : List ℕ) → smaller k l ≡ true → smaller l m ≡ true → smaller k m ≡ true
unfolding smaller
smaller_trans [] l m h i = absurd (false≢true h)
smaller_trans (x ∷ k) [] m h i = absurd (false≢true h)
smaller_trans (x ∷ k) (y ∷ l) [] h i = absurd (false≢true i)
smaller_trans (x ∷ k) (y ∷ l) (z ∷ m) h i = go (then_true x y (smaller k l) h) (then_true y z (smaller l m) i)
    (λ p q. smaller_trans k l m p q)
  where
    go : (x < y) ⊎ ((x ≡ y) × (smaller k l ≡ true)) → (y < z) ⊎ ((y ≡ z) × (smaller l m ≡ true))
        → (smaller k l ≡ true → smaller l m ≡ true → smaller k m ≡ true) → number_then x z (smaller k m) ≡ true
    go (inl a) (inl b) rest = then_less x z (smaller k m) (omega arith)
    go (inl a) (inr b) rest = let e = b.0 in then_less x z (smaller k m) (omega arith)
    go (inr a) (inl b) rest = let e = a.0 in then_less x z (smaller k m) (omega arith)
    go (inr a) (inr b) rest = then_same x z (smaller k m) (a.0 ∙ b.0) (rest a.1 b.1)

-- of two lists of one length, neither smaller, both are the same
pub smaller_total : (k l : List ℕ) → length k ≡ length l → smaller k l ≡ false → smaller l k ≡ false → k ≡ l
smaller_total [] [] e h i = refl
smaller_total [] (y ∷ l) e h i = absurd (omega arith)
smaller_total (x ∷ k) [] e h i = absurd (omega arith)
smaller_total (x ∷ k) (y ∷ l) e h i =
    let a = smaller_parts x k y l h in
    let b = smaller_parts y l x k i in
    let low = a.0 in
    let high = b.0 in
    let same : x ≡ y = omega arith in
    ap₂ ◌∷◌ same (smaller_total k l (omega arith) (a.1 same) (b.1 (sym same)))

-- of lists of one length: what is not smaller than one that is not smaller is not smaller
pub smaller_on : (k l m : List ℕ) → length k ≡ length l → length l ≡ length m → smaller k l ≡ false → smaller l m ≡ false → smaller k m ≡ false
unfolding smaller
smaller_on [] l m d e h i = refl
smaller_on (x ∷ k) [] m d e h i = absurd (omega arith)
smaller_on (x ∷ k) (y ∷ l) [] d e h i = refl
smaller_on (x ∷ k) (y ∷ l) (z ∷ m) d e h i =
    let a = smaller_parts x k y l h in
    let b = smaller_parts y l z m i in
    let first = a.0 in
    let second = b.0 in
    smaller_not x k z m (omega arith)
    (λ q. smaller_on k l m (omega arith) (omega arith) (a.1 (omega arith)) (b.1 (omega arith)))

-- ---- the numbers of a walk

-- the numbers of a walk, step by step
abbrev pub walk_numbers : List Step → List ℕ
walk_numbers walk = flat_map step_numbers walk

-- are four for each step
pub length_walk_numbers : (walk : List Step) → length (walk_numbers walk) ≡ length walk * 4
unfolding flat_map step_numbers
length_walk_numbers [] = refl
length_walk_numbers (s ∷ walk) = let e = length_walk_numbers walk in omega arith

-- the number tells the flow
flow_same : (f h : Flow) → flow_number f ≡ flow_number h → f ≡ h
flow_same Flow.forward Flow.forward e = refl
flow_same Flow.forward Flow.back e = absurd (omega arith)
flow_same Flow.back Flow.forward e = absurd (omega arith)
flow_same Flow.back Flow.back e = refl

-- the four numbers tell the step
pub step_same : (s t : Step) → s.node ≡ t.node → s.leaves ≡ t.leaves → s.enters ≡ t.enters → flow_number s.flow ≡ flow_number t.flow → s ≡ t
step_same s t node leaves enters flow = let f = flow_same s.flow t.flow flow in rw (node, leaves, enters, f) refl

-- the numbers tell the walk
pub walk_same : (v w : List Step) → walk_numbers v ≡ walk_numbers w → v ≡ w
unfolding flat_map step_numbers
walk_same [] [] e = refl
walk_same [] (t ∷ w) e = let z : ◌≡◌ {A = ℕ} 0 1 = cc in absurd (omega arith)
walk_same (s ∷ v) [] e = let z : ◌≡◌ {A = ℕ} 0 1 = cc in absurd (omega arith)
walk_same (s ∷ v) (t ∷ w) e =
    let node : s.node ≡ t.node = cc in
    let leaves : s.leaves ≡ t.leaves = cc in
    let enters : s.enters ≡ t.enters = cc in
    let flow : flow_number s.flow ≡ flow_number t.flow = cc in
    let rest : walk_numbers v ≡ walk_numbers w = cc in
    ap₂ ◌∷◌ (step_same s t node leaves enters flow) (walk_same v w rest)

-- a walk from a higher node has no smaller list
pub higher_first : (s t : Step) (v w : List Step) → t.node < s.node → smaller (walk_numbers (s ∷ v)) (walk_numbers (t ∷ w)) ≡ false
unfolding flat_map step_numbers
higher_first s t v w h = smaller_not s.node _ t.node _ (omega arith) (λ e. absurd (omega arith))

-- ---- what comes before

-- a walk that does not come before another has as many steps or more, and if as many, no smaller list
pub before_parts : (a b : List Step) → comes_before a b ≡ false
    → (length b ≤ length a) × (length a ≡ length b → smaller (walk_numbers a) (walk_numbers b) ≡ false)
unfolding comes_before
before_parts a b h = then_false (length a) (length b) (smaller (walk_numbers a) (walk_numbers b)) h

-- and such a walk does not come before it
pub before_not : (a b : List Step) → length b ≤ length a → (length a ≡ length b → smaller (walk_numbers a) (walk_numbers b) ≡ false)
    → comes_before a b ≡ false
unfolding comes_before
before_not a b h f = then_not (length a) (length b) (smaller (walk_numbers a) (walk_numbers b)) h f

-- no walk comes before itself
pub before_itself : (a : List Step) → comes_before a a ≡ false
before_itself a = before_not a a (omega arith) (λ e. smaller_itself (walk_numbers a))

-- a walk before one that comes before another comes before that
pub before_trans : (a b c : List Step) → comes_before a b ≡ true → comes_before b c ≡ true → comes_before a c ≡ true
unfolding comes_before
before_trans a b c h i =
    go (then_true (length a) (length b) (smaller (walk_numbers a) (walk_numbers b)) h)
    (then_true (length b) (length c) (smaller (walk_numbers b) (walk_numbers c)) i)
  where
    Earlier : List Step → List Step → Type 0
    Earlier v w = (length v < length w) ⊎ ((length v ≡ length w) × (smaller (walk_numbers v) (walk_numbers w) ≡ true))

    last : Bool
    last = smaller (walk_numbers a) (walk_numbers c)

    go : Earlier a b → Earlier b c → number_then (length a) (length c) last ≡ true
    go (inl p) (inl q) = then_less (length a) (length c) last (omega arith)
    go (inl p) (inr q) = let e = q.0 in then_less (length a) (length c) last (omega arith)
    go (inr p) (inl q) = let e = p.0 in then_less (length a) (length c) last (omega arith)
    go (inr p) (inr q) =
        then_same (length a) (length c) last (p.0 ∙ q.0) (smaller_trans (walk_numbers a) (walk_numbers b) (walk_numbers c) p.1 q.1)

-- Req 01: the first dangerous walk is one alone, in any graph
pub first_unique : {g : Graph} (a b : List Step) → FirstWalk g a → FirstWalk g b → a ≡ b
first_unique a b p q =
    let c = before_parts b a (p.first b q.dangerous) in
    let d = before_parts a b (q.first a p.dangerous) in
    let low = c.0 in
    let high = d.0 in
    let same : length a ≡ length b = omega arith in
    let m = length_walk_numbers a in
    let n = length_walk_numbers b in
    walk_same a b (smaller_total (walk_numbers a) (walk_numbers b) (m ∙ ap (λ (k : ℕ). k * 4) same ∙ sym n) (d.1 same) (c.1 (sym same)))
