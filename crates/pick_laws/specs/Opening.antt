-- How far a step opens: it is dangerous with the back steps after it that leave at a place below a number.
use Rattle.std.specs.Prelude.{◌≡◌, Bool, ◌||◌, ◌⊎◌}
use Rattle.std.proofs.Math.Path.{refl}
use Rattle.std.proofs.Math.Bool.{true, false, cond}
use Rattle.std.proofs.lemmas.Bool.{false≢true}
use Rattle.std.proofs.Common.{inl, inr}
use Prim.Native.Nat.{ℕ, ◌≤◌, ◌<◌, min}
use native.Mathlib.Omega.{arith}
use Rattle.std.proofs.Math.Dec.{ltb}
use borrow.Author.Tests.{ltb-true, lt-ltb}
use Rattle.law_base.specs.BoolLaws.{and_true, and_of, or_true, or_left, or_right}
use Rattle.spec_graph.specs.Graph.{Graph, is_back}
use Rattle.spec_graph.specs.Walk.{Step, dangerous_pair}

-- W4: the step is dangerous with each back step after it that leaves at a place below this
unfoldable pub open_below : Graph → Step → ℕ
open_below g e = cond (is_back e.flow || g.loose e.node e.leaves) 1024 (min e.enters 1024)

module _ (g : Graph) where
  pub open_most : (e : Step) → open_below g e ≤ 1024
  unfolding open_below
  open_most e = go_on (is_back e.flow || g.loose e.node e.leaves)
    where
      go_on : (b : Bool) → cond b 1024 (min e.enters 1024) ≤ 1024
      go_on true = omega arith
      go_on false = omega arith

  -- a dangerous pair: the second leaves below what the first opens
  pub pair_below : (e c : Step) → dangerous_pair g (e, c) ≡ true → min c.leaves 1023 < open_below g e
  unfolding dangerous_pair open_below
  pair_below e c h = go_on (is_back e.flow) (g.loose e.node e.leaves) (and_true (is_back c.flow) _ h).1
    where
      go_on : (b l : Bool) → b || ltb c.leaves e.enters || l ≡ true → min c.leaves 1023 < cond (b || l) 1024 (min e.enters 1024)
      go_on true l k = omega arith
      go_on false true k = omega arith
      go_on false false k = early (or_true (ltb c.leaves e.enters) false k)
        where
          early : (ltb c.leaves e.enters ≡ true) ⊎ (false ≡ true) → min c.leaves 1023 < min e.enters 1024
          early (inl l) = let a = ltb-true c.leaves e.enters l in omega arith
          early (inr z) = absurd (false≢true z)

  -- its second is back
  pub pair_back : (e c : Step) → dangerous_pair g (e, c) ≡ true → is_back c.flow ≡ true
  unfolding dangerous_pair
  pair_back e c h = (and_true (is_back c.flow) _ h).0

  -- and a back step that leaves there makes the pair dangerous
  pub below_pair : (e c : Step) → is_back c.flow ≡ true → c.leaves < open_below g e → dangerous_pair g (e, c) ≡ true
  unfolding dangerous_pair open_below
  below_pair e c back h = and_of {a = is_back c.flow} back (go_on (is_back e.flow) (g.loose e.node e.leaves) h)
    where
      go_on : (b l : Bool) → c.leaves < cond (b || l) 1024 (min e.enters 1024) → b || ltb c.leaves e.enters || l ≡ true
      go_on true l k = refl
      go_on false true k = or_right (ltb c.leaves e.enters) refl
      go_on false false k = or_left false (lt-ltb c.leaves e.enters (omega arith))
