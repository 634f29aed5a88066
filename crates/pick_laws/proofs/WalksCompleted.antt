-- Whatever steps complete a walk in normal form, the tests of Completing pass. It rests on `edge_opens` (CompletingLaws of specs/), so it stands
-- here.
use Rattle.std.specs.Prelude.{◌≡◌, not, List}
use Rattle.std.proofs.Math.Path.{refl, subst}
use Rattle.std.proofs.Common.{sym}
use Rattle.std.proofs.Math.Bool.{Bool, true, false, cond}
use Rattle.std.proofs.lemmas.Bool.{false≢true}
use Rattle.std.proofs.Math.Option.{none, some, none-ne-some}
use Prim.Native.Nat.{ℕ, zero, suc, ◌≤◌, ◌<◌, min, zero-le}
use native.Mathlib.Omega.{arith}
use borrow.Author.Tests.{eq-eqb, le-leb}
use Rattle.spec_base.specs.Basic.{any, numbers}
use Rattle.law_base.specs.BoolLaws.{and_true, and_of}
use Rattle.law_base.specs.ListLaws.{any_numbers_of, some_injective}
use Rattle.spec_graph.specs.Graph.{Flow, Graph, is_back}
use Rattle.spec_graph.specs.Walk.{Step, dangerous_pair}
use Rattle.law_walk.specs.Reach.{Regular}
use Rattle.law_walk.specs.Phases.{Phase, after_step, ended, Accepted}
use Rattle.law_walk.specs.Phases.Phase.{opening, closing, ending}
use Rattle.law_walk.specs.Phases.Accepted.{stop, go}
use Rattle.pick_laws.specs.Pick.{Picks, picked, onward_to}
use Rattle.pick_laws.specs.PickLaws.{Picked}
use Rattle.pick_laws.specs.Opening.{open_below, pair_below, pair_back}
use Rattle.pick_laws.specs.LeastLaws.{least_at, greatest_at}
use Rattle.pick_laws.specs.Completing.{least_below, opens_below, leaves_at, exactly, leaves_first, opens_into, needed, widest}
use Rattle.pick_laws.specs.CompletingLaws.{SmallPlaces, only_forward, edge_opens, edge_leaves}

module _ {g : Graph} {n : ℕ} {forwards backs : Picks} (regular : Regular g) (picks : Picked g n forwards backs) (inside : g.size ≤ n)
    (small : SmallPlaces g) where
  module _ (s : ℕ) where
    -- the walk is completed by exactly so many forward steps
    pub closing_exactly : {r x : ℕ} {walk : List Step} {ph : Phase} → ph ≡ closing → Accepted g s r ph x walk → exactly forwards n s r x ≡ true
    unfolding exactly after_step
    closing_exactly same (stop {x = x} e h) = eq-eqb x s e
    closing_exactly {x = x} same (go {r = r} {ph = ph} {next = next} step y node edge after rest) =
        let one = only_forward step closing next (rw same at after) in
        let forward : g.edge x step.leaves y step.enters Flow.forward ≡ true = rw one.0 at edge in
        let opens = edge_opens regular picks inside small x step.leaves y step.enters step node refl refl one.0 forward in
        any_numbers_of (onward_to forwards (exactly forwards n s r) x) n y opens.0 (and_of opens.1 (closing_exactly (sym one.1) rest))

    -- the pair is still to come: the edge into x opens as far as x needs
    pub opening_needed : {r x : ℕ} {walk : List Step} {ph : Phase} (e : Step) → ph ≡ opening e → Accepted g s r ph x walk
        → needed forwards backs n s r x ≤ open_below g e
    unfolding needed after_step ended leaves_first
    opening_needed e same (stop q h) = absurd (false≢true (rw same at h))
    opening_needed {x = x} e same (go {r = r} {ph = ph} {next = next} step y node edge after rest) =
        by_flow (λ q. opening_needed step q rest) step.flow refl (rw same at after)
      where
        later : Bool
        later = any (opens_into forwards (needed forwards backs n s r) x) (numbers n)

        early : ℕ
        early = leaves_first backs n (exactly forwards n s r) x

        none_needed : later ≡ true → cond later 0 (suc early) ≤ open_below g e
        none_needed q = rw q zero-le

        at_most : suc early ≤ open_below g e → cond later 0 (suc early) ≤ open_below g e
        at_most q = go_on later
          where
            go_on : (b : Bool) → cond b 0 (suc early) ≤ open_below g e
            go_on true = zero-le
            go_on false = q

        by_pair : step.flow ≡ Flow.back → (b : Bool) → dangerous_pair g (e, step) ≡ b → cond b (some closing) none ≡ some next
            → cond later 0 (suc early) ≤ open_below g e
        by_pair f false d k = absurd (none-ne-some next k)
        by_pair f true d k =
            let backward : g.edge x step.leaves y step.enters Flow.back ≡ true = rw f at edge in
            let first = edge_leaves regular picks inside small x step.leaves y step.enters backward in
            let few = (small x step.leaves y step.enters Flow.back backward).0 in
            let way = closing_exactly (sym (some_injective k)) rest in
            let below = pair_below g e step d in
            let least = least_at (λ z. cond (exactly forwards n s r z) (leaves_at (backs x z)) 1024) 1024 n y first.0 in
            let here : cond (exactly forwards n s r y) (leaves_at (backs x y)) 1024 ≡ leaves_at (backs x y) = rw way refl in
            at_most (early_below least here few first.1 below)
          where
            early_below : least_below (λ z. cond (exactly forwards n s r z) (leaves_at (backs x z)) 1024) 1024 n
                ≤ cond (exactly forwards n s r y) (leaves_at (backs x y)) 1024
                → cond (exactly forwards n s r y) (leaves_at (backs x y)) 1024 ≡ leaves_at (backs x y) → step.leaves < 1024
                → leaves_at (backs x y) ≤ step.leaves → min step.leaves 1023 < open_below g e → suc early ≤ open_below g e
            early_below a b c d k = omega arith

        by_flow : (next ≡ opening step → needed forwards backs n s r y ≤ open_below g step) → (f : Flow) → step.flow ≡ f
            → cond (is_back f) (cond (dangerous_pair g (e, step)) (some closing) none) (some (opening step)) ≡ some next
            → cond later 0 (suc early) ≤ open_below g e
        by_flow onward Flow.forward f k =
            let forward : g.edge x step.leaves y step.enters Flow.forward ≡ true = rw f at edge in
            let opens = edge_opens regular picks inside small x step.leaves y step.enters step node refl refl f forward in
            let rest_needs = onward (sym (some_injective k)) in
            none_needed
            (any_numbers_of (opens_into forwards (needed forwards backs n s r) x) n y opens.0
            (and_of opens.1 (le-leb (needed forwards backs n s r y) (opens_below (forwards x y)) (let a = opens.2 in omega arith))))
        by_flow onward Flow.back f k = by_pair f (dangerous_pair g (e, step)) refl k

    -- the walk began with a back step f: the last step can open as far as f asks
    pub ending_widest : {r x : ℕ} {walk : List Step} {ph : Phase} (f e : Step) → ph ≡ ending f e → Accepted g s (suc r) ph x walk
        → (is_back f.flow ≡ true) × (min f.leaves 1023 < widest forwards n s r x)
    unfolding widest after_step ended
    ending_widest {x = x} f e same (go {r = zero} {ph = ph} {next = next} step y node edge after (stop q h)) =
        let one = only_forward step (ending f step) next (rw same at after) in
        let forward : g.edge x step.leaves y step.enters Flow.forward ≡ true = rw one.0 at edge in
        let opens = edge_opens regular picks inside small x step.leaves y step.enters step node refl refl one.0 forward in
        let done = and_true (not (is_back step.flow)) (dangerous_pair g (step, f)) (rw (sym one.1) at h) in
        let below = pair_below g step f done.1 in
        let wide : open_below g step ≤ opens_below (forwards x s) = subst (λ (z : ℕ). open_below g step ≤ opens_below (forwards x z)) q opens.2 in
        (back_second done.1, omega arith)
      where
        back_second : dangerous_pair g (step, f) ≡ true → is_back f.flow ≡ true
        back_second d = pair_back g step f d
    ending_widest {x = x} f e same (go {r = suc r} {ph = ph} {next = next} step y node edge after rest) =
        let one = only_forward step (ending f step) next (rw same at after) in
        let forward : g.edge x step.leaves y step.enters Flow.forward ≡ true = rw one.0 at edge in
        let opens = edge_opens regular picks inside small x step.leaves y step.enters step node refl refl one.0 forward in
        let later = ending_widest f step (sym one.1) rest in
        let most = greatest_at (λ z. cond (picked (forwards x z)) (widest forwards n s r z) 0) n y opens.0 in
        let here : cond (picked (forwards x y)) (widest forwards n s r y) 0 ≡ widest forwards n s r y = rw opens.1 refl in
        let below = later.1 in (later.0, omega arith)
