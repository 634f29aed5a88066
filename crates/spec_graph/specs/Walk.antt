-- The dangerous walk (docs/MODEL.md, "The dangerous walk") and the first of them (Req 01), over any graph. Believed.
use Rattle.std.specs.Prelude.{Bool, true, false, not, ◌&&◌, ◌||◌, ◌≡◌, ℕ, eqb, ltb, length}
use mathlib.Core.List.{List, [], ◌∷◌, flat_map}
use Rattle.spec_base.specs.Basic.{any, all, around}
use Rattle.spec_graph.specs.Graph.{Flow, Graph, is_back}

-- a step of a walk: the node left, the place left, the place entered and the flow; the next step's node is entered
pub record Step : Type 0 where
  pub node : ℕ
  pub leaves : ℕ
  pub enters : ℕ
  pub flow : Flow

-- the step is an edge into the next step's node
unfoldable pub is_edge : Graph → Step × Step → Bool
is_edge g (s, next) = g.edge s.node s.leaves next.node s.enters s.flow

-- W4: the edge c after the edge e is back, and the two are dangerous
unfoldable pub dangerous_pair : Graph → Step × Step → Bool
dangerous_pair g (e, c) =
    is_back c.flow && (is_back e.flow || ltb c.leaves e.enters || g.loose e.node e.leaves)

-- W1, W2, W3: a closed walk (after the last step comes the first) that lists a dangerous pair and has some forward edge
unfoldable pub is_dangerous : Graph → List Step → Bool
is_dangerous g walk =
    all (is_edge g) (around walk) && any (dangerous_pair g) (around walk) && any (λ s. not (is_back s.flow)) walk

-- there is a dangerous closed walk, of any length
abbrev pub DangerousWalk : Graph → Type 0
DangerousWalk g = (walk : List Step) × (is_dangerous g walk ≡ true)

-- Req 01: a flow as a number, forward before back
abbrev pub flow_number : Flow → ℕ
flow_number Flow.forward = 0
flow_number Flow.back = 1

-- Req 01: the numbers of a step in the order in which they are compared: node, place left, place entered, flow
unfoldable pub step_numbers : Step → List ℕ
step_numbers s = s.node ∷ s.leaves ∷ s.enters ∷ flow_number s.flow ∷ []

-- Req 01: the smaller of two lists is the one with the smaller number where they first differ
unfoldable pub smaller : List ℕ → List ℕ → Bool
smaller [] l = false
smaller (x ∷ k) [] = false
smaller (x ∷ k) (y ∷ l) = ltb x y || (eqb x y && smaller k l)

-- Req 01: a walk comes before another: it has fewer steps, or as many and the smaller list
unfoldable pub comes_before : List Step → List Step → Bool
comes_before walk other =
    ltb (length walk) (length other)
    || (eqb (length walk) (length other) && smaller (flat_map step_numbers walk) (flat_map step_numbers other))

-- Req 01: the first dangerous walk: dangerous, and no dangerous walk comes before it
pub record FirstWalk (g : Graph) (walk : List Step) : Type 0 where
  pub dangerous : is_dangerous g walk ≡ true
  pub first : (other : List Step) → is_dangerous g other ≡ true → comes_before other walk ≡ false
