-- The steps that count are the choices: whatever step leads on in a phase in which the walk can be completed counts (`WalksFinish` of proofs/ and
-- ChoiceLaws say the rest).
use Rattle.std.specs.Prelude.{◌≡◌, Bool, false, cond, not, eqb, ltb, leb}
use Rattle.std.proofs.Math.Path.{refl}
use Rattle.std.proofs.Common.{sym, ap, subst, ◌∙◌}
use Rattle.std.proofs.Math.Bool.{true}
use Rattle.std.proofs.lemmas.Bool.{false≢true}
use Rattle.std.proofs.Math.Option.{Option, none, some, none-ne-some}
use Prim.Native.Nat.{ℕ, zero, suc, ◌≤◌, ◌<◌, min, zero-le}
use native.Mathlib.Omega.{arith}
use borrow.Author.Tests.{ltb-true, lt-ltb, leb-true, le-leb}
use Rattle.law_base.specs.BoolLaws.{and_true}
use Rattle.law_base.specs.ListLaws.{some_injective}
use Rattle.spec_graph.specs.Graph.{Flow, Graph, is_back}
use Rattle.spec_graph.specs.Walk.{Step, dangerous_pair}
use Rattle.law_walk.specs.Reach.{Regular}
use Rattle.law_walk.specs.Phases.{Phase, after_step, ended}
use Rattle.law_walk.specs.Phases.Phase.{starting, opening, closing, ending}
use Rattle.law_walk.specs.Greedy.{Choice}
use Rattle.pick_laws.specs.declared.Going.{Going}
use Rattle.pick_laws.specs.Pick.{Picks}
use Rattle.pick_laws.specs.PickLaws.{Picked}
use Rattle.pick_laws.specs.Completing.{exactly, widest}
use Rattle.pick_laws.specs.Opening.{open_below, pair_below}
use Rattle.pick_laws.specs.CompletingLaws.{SmallPlaces}
use Rattle.pick_laws.specs.Demands.{only_if, ending_needs, needs_in, starting_limit, limits_in, counts, going_in, can_end, can_finish}

-- what passes asks for nothing, and what does not is never met
pub only_passed : (b : Bool) (k : ℕ) → b ≡ true → leb (only_if b) k ≡ true
only_passed b k e = rw e (le-leb 0 k zero-le)

pub passed_only : (b : Bool) (k : ℕ) → k ≤ 1024 → leb (only_if b) k ≡ true → b ≡ true
passed_only true k h e = refl
passed_only false k h e = let l = leb-true 1025 k e in let z : ⊥ = omega arith in absurd z

-- which steps count
pub counts_forward : (g : Graph) (needs limits : ℕ → ℕ) (step : Step) (y : ℕ) → step.flow ≡ Flow.forward → leb (needs y) (open_below g step) ≡ true
    → counts g needs limits step y ≡ true
unfolding counts
counts_forward g needs limits step y f h =
    ap (λ (b : Bool). cond b (ltb step.leaves (limits y)) (leb (needs y) (open_below g step))) (ap is_back f) ∙ h

pub counts_back : (g : Graph) (needs limits : ℕ → ℕ) (step : Step) (y : ℕ) → step.flow ≡ Flow.back → ltb step.leaves (limits y) ≡ true
    → counts g needs limits step y ≡ true
unfolding counts
counts_back g needs limits step y f h =
    ap (λ (b : Bool). cond b (ltb step.leaves (limits y)) (leb (needs y) (open_below g step))) (ap is_back f) ∙ h

module _ {g : Graph} {n : ℕ} {forwards backs : Picks} (regular : Regular g) (picks : Picked g n forwards backs) (inside : g.size ≤ n)
    (small : SmallPlaces g) (s : ℕ) where
  abbrev can : ℕ → Phase → ℕ → Bool
  can = can_finish g forwards backs n s

  -- a choice of the phase that follows a step
  in_phase : (r : ℕ) (ph next : Phase) (y : ℕ) → ◌≡◌ {A = Option Phase} (some ph) (some next) → can r next y ≡ true → can r ph y ≡ true
  in_phase r ph next y e h = subst (λ (p : Phase). can r p y ≡ true) (sym (some_injective e)) h

  -- a choice counts
  pub choice_counts : {r : ℕ} {next : Phase} {x y : ℕ} {step : Step} (ph : Phase) → Choice g can r ph x step y next
      → counts g (needs_in forwards backs n s r (going_in g ph)) (limits_in forwards n s r (going_in g ph)) step y ≡ true
  unfolding can_finish can_end ended going_in needs_in ending_needs limits_in starting_limit after_step
  choice_counts {r} {next} {x} {y} {step} starting choice = by_flow step.flow refl choice.after
    where
      few : step.leaves < 1024
      few = (small x step.leaves y step.enters step.flow choice.edge).0

      limited : (k : ℕ) → step.flow ≡ Flow.back → can_end g forwards n s step step k y ≡ true
          → ltb step.leaves (starting_limit forwards n s k y) ≡ true
      limited zero f h = let forward = (and_true (not (is_back step.flow)) _ (and_true (eqb y s) _ h).1).0 in absurd (false≢true (rw f at forward))
      limited (suc k) f h =
          let w = ltb-true (min step.leaves 1023) (widest forwards n s k y) (and_true (is_back step.flow) _ h).1 in
          lt-ltb step.leaves (widest forwards n s k y) (omega (arith, few))

      by_flow : (f : Flow) → step.flow ≡ f → cond (is_back f) (some (ending step step)) (some (opening step)) ≡ some next
          → counts g (needs_in forwards backs n s r Going.Starting) (limits_in forwards n s r Going.Starting) step y ≡ true
      by_flow Flow.forward f k =
          counts_forward g (needs_in forwards backs n s r Going.Starting) (limits_in forwards n s r Going.Starting) step y f
          (in_phase r (opening step) next y k choice.rest)
      by_flow Flow.back f k =
          counts_back g (needs_in forwards backs n s r Going.Starting) (limits_in forwards n s r Going.Starting) step y f
          (limited r f (in_phase r (ending step step) next y k choice.rest))
  choice_counts {r} {next} {x} {y} {step} (opening e) choice = by_flow step.flow refl choice.after
    where
      going : Going
      going = Going.Opening (open_below g e)

      few : step.leaves < 1024
      few = (small x step.leaves y step.enters step.flow choice.edge).0

      by_pair : step.flow ≡ Flow.back → (b : Bool) → dangerous_pair g (e, step) ≡ b → cond b (some closing) none ≡ some next
          → counts g (needs_in forwards backs n s r going) (limits_in forwards n s r going) step y ≡ true
      by_pair f false d k = absurd (none-ne-some next k)
      by_pair f true d k =
          let below = pair_below g e step d in
          let way : exactly forwards n s r y ≡ true = in_phase r closing next y k choice.rest in
          let limit : limits_in forwards n s r going y ≡ open_below g e = rw way refl in
          counts_back g (needs_in forwards backs n s r going) (limits_in forwards n s r going) step y f
          (lt-ltb step.leaves (limits_in forwards n s r going y) (omega (arith, few)))

      by_flow : (f : Flow) → step.flow ≡ f
          → cond (is_back f) (cond (dangerous_pair g (e, step)) (some closing) none) (some (opening step)) ≡ some next
          → counts g (needs_in forwards backs n s r going) (limits_in forwards n s r going) step y ≡ true
      by_flow Flow.forward f k =
          counts_forward g (needs_in forwards backs n s r going) (limits_in forwards n s r going) step y f
          (in_phase r (opening step) next y k choice.rest)
      by_flow Flow.back f k = by_pair f (dangerous_pair g (e, step)) refl k
  choice_counts {r} {next} {x} {y} {step} closing choice = by_flow step.flow refl choice.after
    where
      by_flow : (f : Flow) → step.flow ≡ f → cond (is_back f) none (some closing) ≡ some next
          → counts g (needs_in forwards backs n s r Going.Closing) (limits_in forwards n s r Going.Closing) step y ≡ true
      by_flow Flow.forward f k =
          counts_forward g (needs_in forwards backs n s r Going.Closing) (limits_in forwards n s r Going.Closing) step y f
          (only_passed (exactly forwards n s r y) (open_below g step) (in_phase r closing next y k choice.rest))
      by_flow Flow.back f k = absurd (none-ne-some next k)
  choice_counts {r} {next} {x} {y} {step} (ending first e) choice = by_flow step.flow refl choice.after
    where
      going : Going
      going = Going.Ending (min first.leaves 1023)

      met : (k : ℕ) → can_end g forwards n s first step k y ≡ true
          → leb (ending_needs forwards n s (min first.leaves 1023) k y) (open_below g step) ≡ true
      met zero h =
          let a = and_true (eqb y s) _ h in
          let below = pair_below g step first (and_true (not (is_back step.flow)) (dangerous_pair g (step, first)) a.1).1 in
          rw a.0 (le-leb (suc (min first.leaves 1023)) (open_below g step) below)
      met (suc k) h =
          only_passed (ltb (min first.leaves 1023) (widest forwards n s k y)) (open_below g step) (and_true (is_back first.flow) _ h).1

      by_flow : (f : Flow) → step.flow ≡ f → cond (is_back f) none (some (ending first step)) ≡ some next
          → counts g (needs_in forwards backs n s r going) (limits_in forwards n s r going) step y ≡ true
      by_flow Flow.forward f k =
          counts_forward g (needs_in forwards backs n s r going) (limits_in forwards n s r going) step y f
          (met r (in_phase r (ending first step) next y k choice.rest))
      by_flow Flow.back f k = absurd (none-ne-some next k)
