-- Small walks that pin the order in which the first dangerous walk is first (Req 01).
use Rattle.std.specs.Prelude.{Bool, true, false, ◌≡◌, refl, ℕ, zero, suc, ◌<◌, length}
use Rattle.std.proofs.Common.{true≢false, sym, ap, ◌∙◌, arith, le-ltb, ne_eqb}
use Rattle.std.proofs.lemmas.Bool.{false≢true}
use mathlib.Core.List.{List, [], ◌∷◌, flat_map}
use Rattle.spec_graph.specs.Graph.{Flow, Graph}
use Rattle.spec_graph.specs.Graph.Flow.{forward, back}
use Rattle.spec_graph.specs.Walk.{Step, is_edge, dangerous_pair, is_dangerous, step_numbers, smaller, comes_before, FirstWalk}
use Rattle.spec_graph.specs.ExampleText.{step}

-- does a come before b, and b before a?
order : List Step → List Step → Bool × Bool
unfolding comes_before smaller step_numbers flat_map
order a b = (comes_before a b, comes_before b a)

-- the order of walks of one step
steps : Step → Step → Bool × Bool
unfolding order
steps s t = order (s ∷ []) (t ∷ [])

-- Req 01: node, then place left, then place entered, then flow, forward first; a smaller number later on does not count
Req01_numbers : (steps (step 0 9 9 back) (step 1 0 0 forward) ≡ (true, false))
    × (steps (step 5 0 9 back) (step 5 1 0 forward) ≡ (true, false))
    × (steps (step 5 5 0 back) (step 5 5 1 forward) ≡ (true, false))
    × (steps (step 5 5 5 forward) (step 5 5 5 back) ≡ (true, false))
    × (steps (step 5 5 5 back) (step 5 5 5 back) ≡ (false, false))
unfolding steps
Req01_numbers = (refl, refl, refl, refl, refl)

-- Req 01: fewer steps come first, whatever their numbers
Req01_fewest : (order (step 9 9 9 back ∷ []) (step 0 0 0 forward ∷ step 0 0 0 forward ∷ []) ≡ (true, false))
    × (order [] (step 0 0 0 forward ∷ []) ≡ (true, false))
unfolding order
Req01_fewest = (refl, refl)

-- Req 01: step by step: an earlier step decides before a later one, by any of its numbers
Req01_steps : (order (step 0 0 0 forward ∷ step 9 9 9 back ∷ []) (step 0 0 0 back ∷ step 0 0 0 forward ∷ []) ≡ (true, false))
    × (order (step 0 0 0 forward ∷ step 1 9 9 back ∷ []) (step 0 0 0 forward ∷ step 2 0 0 forward ∷ []) ≡ (true, false))
unfolding order
Req01_steps = (refl, refl)

-- Req 01: in the example with `ps` twice the same walk may begin at either node: the lower comes first
Req01_begin : order (step 0 1 1 forward ∷ step 1 0 1 back ∷ []) (step 1 0 1 back ∷ step 0 1 1 forward ∷ []) ≡ (true, false)
unfolding order
Req01_begin = refl

-- ---- a graph with every edge, each leaving a loose place

abbrev pub every : Graph
every = record { size = 1; places = λ m. 1; edge = λ m i n j flow. true; loose = λ m i. true }

abbrev pub forth : Step
forth = step 0 0 0 forward

abbrev pub return : Step
return = step 0 0 0 back

-- Req 01: a dangerous walk that another one comes before is not the first
Req01_not_first : FirstWalk every (return ∷ forth ∷ []) → ⊥
unfolding is_dangerous is_edge dangerous_pair comes_before smaller step_numbers flat_map
Req01_not_first h = true≢false (h.first (forth ∷ return ∷ []) refl)

-- Req 01: nor is a walk that is not dangerous
Req01_not_dangerous : FirstWalk every [] → ⊥
unfolding is_dangerous
Req01_not_dangerous h = false≢true h.dangerous

-- a list is not smaller than one that begins with 0, if the rest is not
from_zero : (x : ℕ) (k l : List ℕ) → smaller k l ≡ false → smaller (x ∷ k) (0 ∷ l) ≡ false
unfolding smaller
from_zero zero k l h = h
from_zero (suc x) k l h = rw (le-ltb (suc x) 0 (omega arith), ne_eqb (suc x) 0 (λ e. omega arith)) refl

-- nor than one that begins with the numbers of `forth` but the flow
from_zeros : (s : Step) (k l : List ℕ) → smaller k l ≡ false → smaller (s.node ∷ s.leaves ∷ s.enters ∷ k) (0 ∷ 0 ∷ 0 ∷ l) ≡ false
from_zeros s k l h = from_zero s.node _ _ (from_zero s.leaves _ _ (from_zero s.enters k l h))

-- and a list that begins with 1 is not
from_one : (k l : List ℕ) → smaller (1 ∷ k) (0 ∷ l) ≡ false
unfolding smaller
from_one k l = refl

-- nor is a list smaller than itself
one_one : smaller (1 ∷ []) (1 ∷ []) ≡ false
unfolding smaller
one_one = refl

-- a longer walk does not come before
pub longer : (a b : List Step) → length b < length a → comes_before a b ≡ false
unfolding comes_before
longer a b h = rw (le-ltb (length a) (length b) (omega arith), ne_eqb (length a) (length b) (λ e. omega arith)) refl

-- the step with this flow
abbrev pub with_flow : Step → Flow → Step
with_flow s f = step s.node s.leaves s.enters f

-- Req 01: of the walks of two steps with both flows none comes before `forth` and `return`: no number is below 0
pub both_flows : (x y : Step) (f h : Flow) → (f ≡ h → ⊥) → comes_before (with_flow x f ∷ with_flow y h ∷ []) (forth ∷ return ∷ []) ≡ false
unfolding comes_before step_numbers flat_map
both_flows x y forward forward apart = absurd (apart refl)
both_flows x y forward back apart = from_zeros x _ _ (from_zero 0 _ _ (from_zeros y _ _ one_one))
both_flows x y back forward apart = from_zeros x _ _ (from_one _ _)
both_flows x y back back apart = absurd (apart refl)
