-- There is a first dangerous walk in the graph that has every edge (Req 01). It rests on the examples of specs/, so it stands here.
use Rattle.std.specs.Prelude.{true, false, ◌≡◌, refl}
use Rattle.std.proofs.Common.{true≢false, sym, ap, ◌∙◌, arith}
use Rattle.std.proofs.lemmas.Bool.{false≢true}
use mathlib.Core.List.{List, [], ◌∷◌}
use Rattle.spec_graph.specs.Graph.{Flow}
use Rattle.spec_graph.specs.Graph.Flow.{forward, back}
use Rattle.spec_graph.specs.Walk.{Step, is_edge, dangerous_pair, is_dangerous, comes_before, FirstWalk}
use Rattle.spec_graph.specs.FirstWalkExamples.{every, forth, return, with_flow, both_flows, longer}

-- a walk of one step is not dangerous, nor is one of two steps with one flow
one_step : (s : Step) (f : Flow) → is_dangerous every (with_flow s f ∷ []) ≡ false
unfolding is_dangerous is_edge dangerous_pair
one_step s forward = refl
one_step s back = refl

one_flow : (x y : Step) (f : Flow) → is_dangerous every (with_flow x f ∷ with_flow y f ∷ []) ≡ false
unfolding is_dangerous is_edge dangerous_pair
one_flow x y forward = refl
one_flow x y back = refl

-- Req 01: there is a first walk in it, forward and back
pub Req01_first : FirstWalk every (forth ∷ return ∷ [])
unfolding is_dangerous is_edge dangerous_pair
Req01_first = record { dangerous = refl; first = none }
  where
    none : (other : List Step) → is_dangerous every other ≡ true → comes_before other (forth ∷ return ∷ []) ≡ false
    none [] d = absurd (false≢true d)
    none (x ∷ []) d = absurd (true≢false (sym d ∙ one_step x x.flow))
    none (x ∷ y ∷ []) d =
        both_flows x y x.flow y.flow
        (λ e. true≢false (sym d ∙ ap (λ f. is_dangerous every (x ∷ with_flow y f ∷ [])) (sym e) ∙ one_flow x y x.flow))
    none (x ∷ y ∷ z ∷ l) d = longer (x ∷ y ∷ z ∷ l) (forth ∷ return ∷ []) (omega arith)
