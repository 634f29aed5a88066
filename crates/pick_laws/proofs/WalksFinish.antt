-- Whatever completes a walk, the test of Demands passes. It rests on theorems that rest on `edge_opens` (WalksCompleted), so it stands here.
use Rattle.std.specs.Prelude.{◌≡◌, Bool}
use Rattle.std.proofs.Math.Path.{refl}
use Rattle.std.proofs.Math.Bool.{true}
use mathlib.Core.List.{List}
use Prim.Native.Nat.{ℕ, zero, suc, ◌≤◌, min}
use native.Mathlib.Omega.{arith}
use borrow.Author.Tests.{eq-eqb, lt-ltb, le-leb}
use Rattle.law_base.specs.BoolLaws.{and_of}
use Rattle.spec_graph.specs.Graph.{Graph}
use Rattle.spec_graph.specs.Walk.{Step}
use Rattle.law_walk.specs.Reach.{Regular}
use Rattle.law_walk.specs.Phases.{Phase, Accepted}
use Rattle.law_walk.specs.Phases.Phase.{starting, opening, closing, ending}
use Rattle.law_walk.specs.Phases.Accepted.{stop, go}
use Rattle.law_walk.specs.Greedy.{Complete}
use Rattle.pick_laws.specs.Pick.{Picks}
use Rattle.pick_laws.specs.PickLaws.{Picked}
use Rattle.pick_laws.specs.Completing.{needed, widest}
use Rattle.pick_laws.specs.Opening.{open_below}
use Rattle.pick_laws.specs.CompletingLaws.{SmallPlaces}
use Rattle.pick_laws.specs.Demands.{can_end, can_finish}
use Rattle.pick_laws.proofs.WalksCompleted.{closing_exactly, opening_needed, ending_widest}

module _ {g : Graph} {n : ℕ} {forwards backs : Picks} (regular : Regular g) (picks : Picked g n forwards backs) (inside : g.size ≤ n)
    (small : SmallPlaces g) (s : ℕ) where
  abbrev can : ℕ → Phase → ℕ → Bool
  can = can_finish g forwards backs n s

  -- whatever completes a walk, the test passes
  pub can_complete : Complete g s can
  unfolding can_finish can_end
  can_complete r starting x walk a = refl
  can_complete r (opening e) x walk a =
      le-leb (needed forwards backs n s r x) (open_below g e) (opening_needed regular picks inside small s e refl a)
  can_complete r closing x walk a = closing_exactly regular picks inside small s refl a
  can_complete zero (ending f e) x walk a = ended_at a refl refl
    where
      ended_at : {k : ℕ} {ph : Phase} {l : List Step} → Accepted g s k ph x l → k ≡ 0 → ph ≡ ending f e → can_end g forwards n s f e zero x ≡ true
      ended_at (stop q h) zeroed same = and_of (eq-eqb x s q) (rw same at h)
      ended_at (go step y node edge after rest) zeroed same = let no : ⊥ = omega arith in absurd no
  can_complete (suc r) (ending f e) x walk a =
      let w = ending_widest regular picks inside small s f e refl a in
      and_of w.0 (lt-ltb (min f.leaves 1023) (widest forwards n s r x) w.1)
