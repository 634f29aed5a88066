-- What the edges that stand for all tell of single edges. That the tests of Completing pass for whatever steps complete a walk is in `WalksCompleted`
-- of proofs/.
use Rattle.std.specs.Prelude.{◌≡◌, ◌⊎◌}
use Rattle.std.proofs.Math.Path.{refl, ap}
use Rattle.std.proofs.Common.{inl, inr}
use Rattle.std.proofs.Math.Bool.{Bool, true, false, cond}
use Rattle.std.proofs.Math.Option.{none, some, none-ne-some}
use Prim.Native.Nat.{ℕ, ◌≤◌, ◌<◌, min}
use native.Mathlib.Omega.{arith}
use Rattle.law_base.specs.BoolLaws.{true_false}
use Rattle.law_base.specs.ListLaws.{some_injective}
use Rattle.spec_graph.specs.Graph.{Flow, Graph, is_back}
use Rattle.spec_graph.specs.Walk.{Step}
use Rattle.law_walk.specs.Reach.{Regular}
use Rattle.law_walk.specs.Phases.{Phase}
use Rattle.pick_laws.specs.declared.Pick.{Pick}
use Rattle.pick_laws.specs.Pick.{Picks, picked}
use Rattle.pick_laws.specs.PickLaws.{Picked}
use Rattle.pick_laws.specs.Opening.{open_below}
use Rattle.pick_laws.specs.Completing.{opens_below, leaves_at}

-- no edge leaves or enters at a place from 1024 on
abbrev pub SmallPlaces : Graph → Type 0
SmallPlaces g = (m i n j : ℕ) (flow : Flow) → g.edge m i n j flow ≡ true → (i < 1024) × (j < 1024)

-- a step that must be forward is
pub only_forward : (step : Step) (ph next : Phase) → cond (is_back step.flow) none (some ph) ≡ some next → (step.flow ≡ Flow.forward) × (ph ≡ next)
only_forward step ph next h = go_on step.flow refl h
  where
    go_on : (f : Flow) → step.flow ≡ f → cond (is_back f) none (some ph) ≡ some next → (step.flow ≡ Flow.forward) × (ph ≡ next)
    go_on Flow.forward e k = (e, some_injective k)
    go_on Flow.back e k = absurd (none-ne-some next k)

module _ {g : Graph} {n : ℕ} {forwards backs : Picks} (regular : Regular g) (picks : Picked g n forwards backs) (inside : g.size ≤ n)
    (small : SmallPlaces g) where
  -- a forward edge is picked, and the edge that stands for it opens no less
  pub edge_opens : (x i y j : ℕ) (step : Step) → step.node ≡ x → step.leaves ≡ i → step.enters ≡ j → step.flow ≡ Flow.forward
      → g.edge x i y j Flow.forward ≡ true → (y < n) × (picked (forwards x y) ≡ true) × (open_below g step ≤ opens_below (forwards x y))
  unfolding open_below
  edge_opens x i y j step a b c f h =
      let t = picks.forward_last x i y j h in
      let into = (regular.in_nodes x i y j Flow.forward h).1 in
      let few = (small x i y j Flow.forward h).1 in
      let loose : g.loose step.node step.leaves ≡ g.loose x i = rw (a, b) refl in (
        omega (arith, into),
        ap picked t.1,
        rw (t.1, f, loose, c) (go_on t.0 (g.loose x i) refl few t.2),
      )
    where
      go_on : (p : Pick) (l : Bool) → g.loose x i ≡ l → j < 1024 → (p.loose ≡ true) ⊎ ((g.loose x i ≡ false) × (j ≤ p.enters))
          → cond l 1024 (min j 1024) ≤ cond p.loose 1024 p.enters
      go_on p l e k (inl q) = rw q (most l)
        where
          most : (b : Bool) → cond b 1024 (min j 1024) ≤ 1024
          most true = omega arith
          most false = omega arith
      go_on p true e k (inr (firm, late)) = absurd (true_false e firm)
      go_on p false e k (inr (firm, late)) = wide p.loose
        where
          wide : (b : Bool) → min j 1024 ≤ cond b 1024 p.enters
          wide true = omega arith
          wide false = omega arith

  -- a back edge is picked, and the edge that stands for it leaves no later
  pub edge_leaves : (x i y j : ℕ) → g.edge x i y j Flow.back ≡ true → (y < n) × (leaves_at (backs x y) ≤ i)
  edge_leaves x i y j h =
      let t = picks.back_first x i y j h in
      let into = (regular.in_nodes x i y j Flow.back h).1 in (omega (arith, into), rw t.1 t.2)
