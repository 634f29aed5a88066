-- Dangerous pairs of the edges that stand for all, and ways of an exact length. Where a walk in normal form leads is in `WalkLeads` of proofs/.
use Rattle.std.specs.Prelude.{◌≡◌, Bool, ◌||◌, ◌⊎◌, ltb}
use Rattle.std.proofs.Math.Path.{refl, subst}
use Rattle.std.proofs.Common.{sym, not-suc-le-zero}
use Rattle.std.proofs.Math.Bool.{true, false, cond}
use Rattle.std.proofs.lemmas.Bool.{false≢true}
use Rattle.std.proofs.Math.Logic.{inl, inr}
use Rattle.std.proofs.Math.Option.{Option, none, some}
use Prim.Native.Nat.{ℕ, zero, suc, ◌+◌, ◌<◌}
use native.Mathlib.Omega.{arith}
use borrow.Author.Tests.{eqb-true, eq-eqb, ltb-true, lt-ltb}
use Rattle.law_base.specs.BoolLaws.{and_true, and_of, or_true, or_left, or_right}
use Rattle.law_base.specs.ListLaws.{any_numbers, any_numbers_of}
use Rattle.pick_laws.specs.declared.Pick.{Pick}
use Rattle.pick_laws.specs.Pick.{Picks, picked, dangerous_picks, onward_to}
use Rattle.pick_laws.specs.Completing.{opens_below, leaves_at, exactly, widest}
use Rattle.pick_laws.specs.LeastLaws.{greatest_at}

-- ---- edges that stand for all

-- a back edge that leaves below what a forward edge opens is dangerous with it
pub below_dangerous : (e c : Option Pick) → picked c ≡ true → leaves_at c < opens_below e → dangerous_picks e c ≡ true
below_dangerous none c there h = absurd (not-suc-le-zero h)
below_dangerous (some p) none there h = absurd (false≢true there)
below_dangerous (some p) (some q) there h = by_loose p.loose h
  where
    by_loose : (b : Bool) → q.leaves < cond b 1024 p.enters → ltb q.leaves p.enters || b ≡ true
    by_loose true l = or_right (ltb q.leaves p.enters) refl
    by_loose false l = or_left false (lt-ltb q.leaves p.enters l)

-- and what is dangerous leaves below
pub dangerous_below : (e c : Option Pick) → dangerous_picks e c ≡ true → leaves_at c < 1024 → leaves_at c < opens_below e
dangerous_below none c h few = absurd (false≢true h)
dangerous_below (some p) none h few = absurd (false≢true h)
dangerous_below (some p) (some q) h few = by_loose p.loose h
  where
    by_loose : (b : Bool) → ltb q.leaves p.enters || b ≡ true → q.leaves < cond b 1024 p.enters
    by_loose true l = few
    by_loose false l = early (or_true (ltb q.leaves p.enters) false l)
      where
        early : (ltb q.leaves p.enters ≡ true) ⊎ (false ≡ true) → q.leaves < p.enters
        early (inl k) = ltb-true q.leaves p.enters k
        early (inr z) = absurd (false≢true z)

-- ---- ways of an exact length

module _ (forwards : Picks) (n : ℕ) where
  -- one way after another
  pub exactly_on : (s u a b w : ℕ) → exactly forwards n s b w ≡ true → exactly forwards n u a s ≡ true → exactly forwards n u (b + a) w ≡ true
  unfolding exactly
  exactly_on s u a zero w h k =
      let all : 0 + a ≡ a = omega arith in
      rw all (subst (λ (z : ℕ). exactly forwards n u a z ≡ true) (sym (eqb-true w s h)) k)
  exactly_on s u a (suc b) w h k =
      let t = any_numbers (onward_to forwards (exactly forwards n s b) w) n h in
      let both = and_true (picked (forwards w t.0)) (exactly forwards n s b t.0) t.2 in
      let more : suc b + a ≡ suc (b + a) = omega arith in
      rw more
      (any_numbers_of (onward_to forwards (exactly forwards n u (b + a)) w) n t.0 t.1
      (and_of both.0 (exactly_on s u a b t.0 both.1 k)))

  -- no step
  pub exactly_itself : (u : ℕ) → exactly forwards n u 0 u ≡ true
  unfolding exactly
  exactly_itself u = eq-eqb u u refl

  -- one step more at the front
  pub exactly_first : (u a x y : ℕ) → y < n → picked (forwards x y) ≡ true → exactly forwards n u a y ≡ true → exactly forwards n u (suc a) x ≡ true
  unfolding exactly
  exactly_first u a x y inside there h = any_numbers_of (onward_to forwards (exactly forwards n u a) x) n y inside (and_of there h)

  -- a way from w to u, and an edge from u to v that opens k: the walk from w to v can end so
  pub exactly_widest : (u v k d w : ℕ) → k < opens_below (forwards u v) → exactly forwards n u d w ≡ true → k < widest forwards n v d w
  unfolding exactly widest
  exactly_widest u v k zero w l h = subst (λ (z : ℕ). k < opens_below (forwards z v)) (sym (eqb-true w u h)) l
  exactly_widest u v k (suc d) w l h =
      let t = any_numbers (onward_to forwards (exactly forwards n u d) w) n h in
      let both = and_true (picked (forwards w t.0)) (exactly forwards n u d t.0) t.2 in
      let later = exactly_widest u v k d t.0 l both.1 in
      let most = greatest_at (λ z. cond (picked (forwards w z)) (widest forwards n v d z) 0) n t.0 t.1 in
      let here : cond (picked (forwards w t.0)) (widest forwards n v d t.0) 0 ≡ widest forwards n v d t.0 = rw both.0 refl in
      omega arith
