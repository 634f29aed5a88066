-- Steps are told by the words of the rounds that are asked for, whatever stands past them.
use Rattle.std.specs.Prelude.{◌≡◌, ltb, set}
use Rattle.std.proofs.Math.Path.{refl, ap}
use Rattle.std.proofs.Common.{ap₂, ◌∙◌, arith}
use Rattle.std.proofs.Math.Bool.{cond}
use mathlib.Core.List.{List, ◌∷◌}
use Prim.Native.Nat.{ℕ, zero, suc, ◌≤◌, ◌<◌}
use Rattle.spec_base.specs.Basic.{has}
use Rattle.spec_graph.specs.Walk.{Step}
use Rattle.pick_laws.specs.declared.Going.{Going}
use Rattle.pick_laws.specs.Demands.{only_if}
use Rattle.walk_nodes.specs.Nodes.{list_below}
use Rattle.walk_reach.specs.Layers.{wide_at}
use Rattle.walk_need.specs.Needs.{ending_need, need_at, need_among, needs_of}
use Rattle.walk_limit.specs.Limits.{starting_limit_at, limit_at, limit_among, limits_of}
use Rattle.step_word.specs.declared.Taken.{Taken}
use Rattle.step_word.specs.StepWord.{step_of}
use Rattle.walk_step.specs.LeastStep.{least_step}
use Rattle.walk_first.specs.FirstSteps.{prepared, taken, step_taken, going_on, steps_from}

-- lists of the same numbers
list_same : (f h : ℕ → ℕ) (n : ℕ) → ((y : ℕ) → y < n → f y ≡ h y) → list_below f n ≡ list_below h n
unfolding list_below
list_same f h zero same = refl
list_same f h (suc n) same = ap₂ (λ (l : List ℕ) (x : ℕ). set l n x) (list_same f h n (λ y l. same y (omega arith))) (same n (omega arith))

module _ (table backs ways opened : List ℕ) (s nodes : ℕ) (wide other : List ℕ) (most : ℕ)
    (same : (r y : ℕ) → r < most → y < 64 → wide_at wide r y ≡ wide_at other r y) where
  ending_alike : (k r y : ℕ) → r ≤ most → y < 64 → ending_need wide s k r y ≡ ending_need other s k r y
  unfolding ending_need
  ending_alike k zero y h l = refl
  ending_alike k (suc r) y h l = ap (λ (x : ℕ). only_if (ltb k x)) (same r y h l)

  need_alike : (r : ℕ) (going : Going) (y : ℕ) → r ≤ most → y < 64
      → need_at backs ways opened wide s r going y ≡ need_at backs ways opened other s r going y
  unfolding need_at
  need_alike r Going.Starting y h l = refl
  need_alike r (Going.Opening k) y h l = refl
  need_alike r Going.Closing y h l = refl
  need_alike r (Going.Ending k) y h l = ending_alike k r y h l

  pub needs_alike : (r : ℕ) (going : Going) → r ≤ most
      → needs_of backs ways opened wide s nodes r going ≡ needs_of backs ways opened other s nodes r going
  unfolding needs_of need_among
  needs_alike r going h = list_same _ _ 64 (λ y l. ap (λ (x : ℕ). cond (has nodes y) x 1025) (need_alike r going y h l))

  starting_alike : (r y : ℕ) → r ≤ most → y < 64 → starting_limit_at wide r y ≡ starting_limit_at other r y
  unfolding starting_limit_at
  starting_alike zero y h l = refl
  starting_alike (suc r) y h l = same r y h l

  limit_alike : (r : ℕ) (going : Going) (y : ℕ) → r ≤ most → y < 64 → limit_at ways wide r going y ≡ limit_at ways other r going y
  unfolding limit_at
  limit_alike r Going.Starting y h l = starting_alike r y h l
  limit_alike r (Going.Opening k) y h l = refl
  limit_alike r Going.Closing y h l = refl
  limit_alike r (Going.Ending k) y h l = refl

  pub limits_alike : (r : ℕ) (going : Going) → r ≤ most → limits_of ways wide nodes r going ≡ limits_of ways other nodes r going
  unfolding limits_of limit_among
  limits_alike r going h = list_same _ _ 64 (λ y l. ap (λ (x : ℕ). cond (has nodes y) x 0) (limit_alike r going y h l))

  taken_alike : (r : ℕ) (going : Going) (x : ℕ) → r ≤ most
      → taken table backs (prepared nodes s ways opened wide) r going x ≡ taken table backs (prepared nodes s ways opened other) r going x
  unfolding taken
  taken_alike r going x h = ap step_of (ap₂ (least_step table x) (needs_alike r going h) (limits_alike r going h))

  -- the steps
  pub steps_alike : (r : ℕ) (going : Going) (x : ℕ) → r ≤ suc most
      → steps_from table backs (prepared nodes s ways opened wide) r going x ≡ steps_from table backs (prepared nodes s ways opened other) r going x
  unfolding steps_from
  steps_alike zero going x h = refl
  steps_alike (suc r) going x h =
      steps_alike_on r (taken table backs (prepared nodes s ways opened wide) r going x) (λ g y. steps_alike r g y (omega arith))
      ∙ ap (λ (t : Taken). step_taken x t ∷ steps_from table backs (prepared nodes s ways opened other) r (going_on table going x t) t.into)
      (taken_alike r going x (omega arith))
    where
      steps_alike_on : (r : ℕ) (t : Taken)
          → ((g : Going) (y : ℕ) → steps_from table backs (prepared nodes s ways opened wide) r g y
          ≡ steps_from table backs (prepared nodes s ways opened other) r g y)
          → step_taken x t ∷ steps_from table backs (prepared nodes s ways opened wide) r (going_on table going x t) t.into
          ≡ step_taken x t ∷ steps_from table backs (prepared nodes s ways opened other) r (going_on table going x t) t.into
      steps_alike_on r t rest = ap (λ (l : List Step). step_taken x t ∷ l) (rest (going_on table going x t) t.into)
