-- The least choice again and again gives the least walk in normal form. A step decides before the steps after it; where two steps are the
-- same but lead to different nodes, the next step's node decides, and after the last step both are at the walk's first node.
use Rattle.std.specs.Prelude.{Bool, true, ◌≡◌, ℕ, zero, suc, ◌≤◌, ◌<◌, length}
use Rattle.std.proofs.Math.Bool.{false}
use mathlib.Core.List.{List, [], ◌∷◌, flat_map}
use Rattle.std.proofs.Math.Option.{some}
use Rattle.std.proofs.Math.Path.{sym, ap}
use Rattle.std.proofs.Common.{◌∙◌, arith}
use Rattle.std.proofs.Math.Decide.{ℕ_discrete}
use Rattle.law_base.specs.ListLaws.{some_injective}
use Rattle.spec_graph.specs.Graph.{Graph}
use Rattle.spec_graph.specs.Walk.{Step, is_dangerous, flow_number, step_numbers, smaller, FirstWalk}
use Rattle.law_walk.specs.Before.{walk_numbers, length_walk_numbers, step_same, higher_first, before_not}
use Rattle.law_walk.specs.Before.{smaller_parts, smaller_not, smaller_itself, smaller_on}
use Rattle.law_walk.specs.Phases.{Phase, after_step, ended, Accepted, accepted_length, accepted_dangerous, normal}
use Rattle.law_walk.specs.Phases.Phase.{starting}
use Rattle.law_walk.specs.Phases.Accepted.{stop as stops, go as goes}
use Rattle.law_walk.specs.Reach.{Regular}

-- whatever steps lead to the end from a node in a phase, the test passes there for their number
abbrev pub Complete : Graph → ℕ → (ℕ → Phase → ℕ → Bool) → Type 0
Complete g s can = (r : ℕ) (ph : Phase) (x : ℕ) (walk : List Step) → Accepted g s r ph x walk → can r ph x ≡ true

-- what can be completed, exactly
pub record Exact (g : Graph) (s : ℕ) (can : ℕ → Phase → ℕ → Bool) : Type 0 where
  pub sound : (r : ℕ) (ph : Phase) (x : ℕ) → can r ph x ≡ true → (walk : List Step) × Accepted g s r ph x walk
  pub complete : Complete g s can

-- a step from x into y that can be completed in r more steps
pub record Choice (g : Graph) (can : ℕ → Phase → ℕ → Bool) (r : ℕ) (ph : Phase) (x : ℕ) (step : Step) (y : ℕ) (next : Phase) : Type 0 where
  pub node : step.node ≡ x
  pub edge : g.edge x step.leaves y step.enters step.flow ≡ true
  pub after : after_step g ph step ≡ some next
  pub rest : can r next y ≡ true

-- the numbers by which choices from one node are compared: place left, place entered, flow, next node
unfoldable pub choice_numbers : Step → ℕ → List ℕ
choice_numbers step y = step.leaves ∷ step.enters ∷ flow_number step.flow ∷ y ∷ []

-- no choice is smaller
abbrev pub Least : (g : Graph) (can : ℕ → Phase → ℕ → Bool) (r : ℕ) (ph : Phase) (x : ℕ) → Step → ℕ → Type 0
Least g can r ph x step y =
    (other : Step) (z : ℕ) (after : Phase) → Choice g can r ph x other z after → smaller (choice_numbers other z) (choice_numbers step y) ≡ false

-- the least choice again and again
pub data Greedy (g : Graph) (s : ℕ) (can : ℕ → Phase → ℕ → Bool) : ℕ → Phase → ℕ → List Step → Type 0 where
  stop : {ph : Phase} {x : ℕ} → x ≡ s → ended g ph ≡ true → Greedy g s can zero ph x []
  go : {r : ℕ} {ph next : Phase} {x : ℕ} {rest : List Step} (step : Step) (y : ℕ) → Choice g can r ph x step y next
      → Least g can r ph x step y → Greedy g s can r next y rest → Greedy g s can (suc r) ph x (step ∷ rest)

module _ {g : Graph} {s : ℕ} where
  -- of two ways of as many steps the one from the lower node is not after the other: after the last step both are at the end
  lower_node : {r : ℕ} {ph next : Phase} {y z : ℕ} {walk other : List Step} → Accepted g s r ph y walk → Accepted g s r next z other → y < z
      → smaller (walk_numbers other) (walk_numbers walk) ≡ false
  lower_node (stops d h) (stops e i) low = smaller_itself (walk_numbers [])
  lower_node (goes {rest = v} t y m d a walk) (goes {rest = w} o z n e b other) low = higher_first o t w v (omega arith)

module _ {g : Graph} {s : ℕ} {can : ℕ → Phase → ℕ → Bool} where
  -- what the choices give is a way to the end
  pub greedy_accepted : {r : ℕ} {ph : Phase} {x : ℕ} {walk : List Step} → Greedy g s can r ph x walk → Accepted g s r ph x walk
  greedy_accepted (stop e h) = stops e h
  greedy_accepted (go step y c least rest) = goes step y c.node c.edge c.after (greedy_accepted rest)

  -- and no way to the end has the smaller list
  pub greedy_least : Complete g s can → {r : ℕ} {ph : Phase} {x : ℕ} {walk : List Step} → Greedy g s can r ph x walk
      → {other : List Step} → Accepted g s r ph x other → smaller (walk_numbers other) (walk_numbers walk) ≡ false
  unfolding flat_map step_numbers choice_numbers
  greedy_least complete (stop d h) (stops e i) = smaller_itself (walk_numbers [])
  greedy_least complete (go {r} {ph} {next} {x} {rest} step y c least chosen) (goes {next = after} {rest = more} o z n e a way) =
      first (least o z after (record { node = n; edge = e; after = a; rest = complete r after z more way })) (λ b. greedy_least complete chosen b)
    where
      -- the same step into y or a higher node
      same : (Accepted g s r next y more → smaller (walk_numbers more) (walk_numbers rest) ≡ false) → o ≡ step → y ≤ z → Dec (y ≡ z)
          → smaller (walk_numbers more) (walk_numbers rest) ≡ false
      same others q low (yes p) =
          let phase : after ≡ next = some_injective (sym a ∙ ap (after_step g ph) q ∙ c.after) in others (rw (phase, sym p) at way)
      same others q low (no p) = lower_node (greedy_accepted chosen) way (omega arith)

      first : smaller (choice_numbers o z) (choice_numbers step y) ≡ false
          → (Accepted g s r next y more → smaller (walk_numbers more) (walk_numbers rest) ≡ false)
          → smaller (walk_numbers (o ∷ more)) (walk_numbers (step ∷ rest)) ≡ false
      first l others =
          let node : o.node ≡ step.node = n ∙ sym c.node in
          let leaves = smaller_parts o.leaves _ step.leaves _ l in
          smaller_not o.node _ step.node _ (omega arith)
          (λ p. smaller_not o.leaves _ step.leaves _ leaves.0
          (λ q.
          let enters = smaller_parts o.enters _ step.enters _ (leaves.1 q) in
          smaller_not o.enters _ step.enters _ enters.0
          (λ t.
          let flow = smaller_parts (flow_number o.flow) _ (flow_number step.flow) _ (enters.1 t) in
          smaller_not (flow_number o.flow) _ (flow_number step.flow) _ flow.0
          (λ u. same others (step_same o step node q t u) (smaller_parts z [] y [] (flow.1 u)).0 (ℕ_discrete y z)))))

  -- where the rest can be completed there is a choice
  pub choice_exists : Exact g s can → (r : ℕ) (ph : Phase) (x : ℕ) → can (suc r) ph x ≡ true
      → (step : Step) × (y : ℕ) × (next : Phase) × Choice g can r ph x step y next
  choice_exists exact r ph x h = first (exact.sound (suc r) ph x h).1
    where
      first : {walk : List Step} → Accepted g s (suc r) ph x walk → (step : Step) × (y : ℕ) × (next : Phase) × Choice g can r ph x step y next
      first (goes {next} {rest} step y n e a way) =
          (step, y, next, record { node = n; edge = e; after = a; rest = exact.complete r next y rest way })
