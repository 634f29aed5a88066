-- The walk whose numbers are the smallest that a dangerous walk can have is the first in each graph in which it is dangerous (Req 01): a dangerous
-- walk has a forward and a back edge.
use Rattle.std.specs.Prelude.{true, false, not, ◌&&◌, List, [], ◌∷◌, ◌⊎◌, ◌≡◌, refl}
use Rattle.std.proofs.Common.{inl, inr, ap, ◌∙◌, arith}
use Rattle.spec_base.specs.Basic.{any, all, around}
use Rattle.law_base.specs.BoolLaws.{true_false, and_true}
use Rattle.spec_graph.specs.Graph.{Flow, Graph, is_back}
use Rattle.spec_graph.specs.Walk.{Step, is_edge, dangerous_pair, is_dangerous, comes_before, FirstWalk}
use Rattle.spec_graph.specs.FirstWalkExamples.{forth, return, with_flow, both_flows, longer}

-- a walk without a dangerous pair, or without a forward edge, is not dangerous
not_dangerous : (g : Graph) (walk : List Step) → is_dangerous g walk ≡ true
    → (any (dangerous_pair g) (around walk) ≡ false) ⊎ (any (λ s. not (is_back s.flow)) walk ≡ false) → ⊥
unfolding is_dangerous
not_dangerous g walk h e = go e
  where
    parts : (all (is_edge g) (around walk) && any (dangerous_pair g) (around walk) ≡ true) × (any (λ s. not (is_back s.flow)) walk ≡ true)
    parts = and_true (all (is_edge g) (around walk) && any (dangerous_pair g) (around walk)) (any (λ s. not (is_back s.flow)) walk) h

    go : (any (dangerous_pair g) (around walk) ≡ false) ⊎ (any (λ s. not (is_back s.flow)) walk ≡ false) → ⊥
    go (inl none) = true_false (and_true (all (is_edge g) (around walk)) (any (dangerous_pair g) (around walk)) parts.0).1 none
    go (inr none) = true_false parts.1 none

-- so none of one step is
one_step : (g : Graph) (s : Step) (f : Flow) → is_dangerous g (with_flow s f ∷ []) ≡ true → ⊥
unfolding dangerous_pair
one_step g s Flow.forward h = not_dangerous g (with_flow s Flow.forward ∷ []) h (inl refl)
one_step g s Flow.back h = not_dangerous g (with_flow s Flow.back ∷ []) h (inr refl)

-- nor one of two steps with one flow
one_flow : (g : Graph) (x y : Step) (f : Flow) → is_dangerous g (with_flow x f ∷ with_flow y f ∷ []) ≡ true → ⊥
unfolding dangerous_pair
one_flow g x y Flow.forward h = not_dangerous g (with_flow x Flow.forward ∷ with_flow y Flow.forward ∷ []) h (inl refl)
one_flow g x y Flow.back h = not_dangerous g (with_flow x Flow.back ∷ with_flow y Flow.back ∷ []) h (inr refl)

pub smallest_first : (g : Graph) → is_dangerous g (forth ∷ return ∷ []) ≡ true → FirstWalk g (forth ∷ return ∷ [])
unfolding dangerous_pair
smallest_first g dangerous = record { dangerous = dangerous; first = none }
  where
    none : (other : List Step) → is_dangerous g other ≡ true → comes_before other (forth ∷ return ∷ []) ≡ false
    none [] d = absurd (not_dangerous g [] d (inl refl))
    none (x ∷ []) d = absurd (one_step g x x.flow d)
    none (x ∷ y ∷ []) d =
        both_flows x y x.flow y.flow (λ e. one_flow g x y x.flow (ap (λ f. is_dangerous g (x ∷ with_flow y f ∷ [])) e ∙ d))
    none (x ∷ y ∷ z ∷ l) d = longer (x ∷ y ∷ z ∷ l) (forth ∷ return ∷ []) (omega arith)
