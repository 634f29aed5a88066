-- The least choices give the first dangerous walk (Greedy of specs/, on whose theorems this one rests).
use Rattle.std.specs.Prelude.{Bool, true, ◌≡◌, ℕ, zero, suc, ◌≤◌, ◌<◌, length}
use Rattle.std.proofs.Math.Bool.{false}
use mathlib.Core.List.{List, [], ◌∷◌, flat_map}
use Rattle.std.proofs.Math.Option.{some}
use Rattle.std.proofs.Math.Path.{sym, ap}
use Rattle.std.proofs.Common.{◌∙◌, arith}
use Rattle.std.proofs.Math.Decide.{ℕ_discrete}
use Rattle.law_base.specs.ListLaws.{some_injective}
use Rattle.spec_graph.specs.Graph.{Graph}
use Rattle.spec_graph.specs.Walk.{Step, is_dangerous, flow_number, step_numbers, smaller, FirstWalk}
use Rattle.law_walk.specs.Before.{walk_numbers, length_walk_numbers, step_same, higher_first, before_not}
use Rattle.law_walk.specs.Before.{smaller_parts, smaller_not, smaller_itself, smaller_on}
use Rattle.law_walk.specs.Phases.{Phase, after_step, ended, Accepted, accepted_length, accepted_dangerous, normal}
use Rattle.law_walk.specs.Phases.Phase.{starting}
use Rattle.law_walk.specs.Phases.Accepted.{stop as stops, go as goes}
use Rattle.law_walk.specs.Reach.{Regular}
use Rattle.law_walk.specs.Greedy.{Complete, Greedy, greedy_accepted, greedy_least}

module _ {g : Graph} {s : ℕ} {can : ℕ → Phase → ℕ → Bool} where
  -- Req 01: no dangerous walk has fewer steps, and none with as many steps begins at a lower node: then the least choices give the first of them
  pub greedy_first : Regular g → Complete g s can → {n : ℕ} {walk : List Step} → Greedy g s can (suc n) starting s walk
      → ((other : List Step) → is_dangerous g other ≡ true → suc n ≤ length other)
      → ((first : Step) (rest : List Step) → is_dangerous g (first ∷ rest) ≡ true → length rest ≡ n → s ≤ first.node)
      → FirstWalk g walk
  greedy_first regular complete {n} {walk} a fewest lowest =
      record {
        dangerous = accepted_dangerous accepted;
        first = λ other h. let few = fewest other h in before_not other walk (omega (arith, long)) (λ e. later other h e);
      }
    where
      accepted : Accepted g s (suc n) starting s walk
      accepted = greedy_accepted a

      long : length walk ≡ suc n
      long = accepted_length accepted

      -- a walk that begins at a higher node
      higher : {w : List Step} → Accepted g s (suc n) starting s w → (x : Step) (rest : List Step) → s < x.node
          → smaller (walk_numbers (x ∷ rest)) (walk_numbers w) ≡ false
      higher (goes {rest = w} t y m d b way) x rest low = higher_first x t rest w (omega arith)

      -- a walk that is not before one in normal form from s, which the choices beat
      beaten : (v w : List Step) → length v ≡ length walk → Accepted g s (suc n) starting s w → smaller (walk_numbers v) (walk_numbers w) ≡ false
          → smaller (walk_numbers v) (walk_numbers walk) ≡ false
      beaten v w e way low =
          let i = length_walk_numbers v in
          let j = length_walk_numbers w in
          let k = length_walk_numbers walk in
          let many = accepted_length way in
          smaller_on (walk_numbers v) (walk_numbers w) (walk_numbers walk) (omega (arith, long)) (omega (arith, long)) low (greedy_least complete a way)

      later : (other : List Step) → is_dangerous g other ≡ true → length other ≡ length walk
          → smaller (walk_numbers other) (walk_numbers walk) ≡ false
      later [] h e = absurd (omega (arith, long))
      later (x ∷ rest) h e = cases (ℕ_discrete x.node s)
        where
          many : length rest ≡ n
          many = omega (arith, long)

          cases : Dec (x.node ≡ s) → smaller (walk_numbers (x ∷ rest)) (walk_numbers walk) ≡ false
          cases (yes q) = let t = normal regular x rest h in beaten (x ∷ rest) t.0 e (from t.0 t.1) t.2
            where
              from : (w : List Step) → Accepted g x.node (suc (length rest)) starting x.node w → Accepted g s (suc n) starting s w
              from w way = rw (q, many) at way
          cases (no q) = let low = lowest x rest h many in higher accepted x rest (omega arith)
