-- Ways of exactly so many steps and of at most so many.
use Rattle.std.specs.Prelude.{◌≡◌, ◌⊎◌}
use Rattle.std.proofs.Math.Bool.{true}
use Rattle.std.proofs.Common.{inl, inr, not-suc-le-zero, le_of_suc-le-suc, arith, eqb-true}
use Prim.Native.Nat.{ℕ, zero, suc, ◌≤◌, zero-le, suc-le-suc}
use Rattle.spec_base.specs.Basic.{any, numbers}
use Rattle.law_base.specs.BoolLaws.{and_true, and_of, or_true, or_right}
use Rattle.law_base.specs.ListLaws.{any_numbers, any_numbers_of}
use Rattle.pick_laws.specs.Pick.{Picks, picked, onward_to, reaches}
use Rattle.pick_laws.specs.PickLaws.{reaches_here}
use Rattle.pick_laws.specs.Completing.{exactly}

module _ (forwards : Picks) (n u : ℕ) where
  -- a way of exactly r steps is one of at most d, for any d from r on
  pub exactly_reaches : (r d w : ℕ) → exactly forwards n u r w ≡ true → r ≤ d → reaches forwards n u d w ≡ true
  unfolding exactly reaches
  exactly_reaches zero d w h l = reaches_here forwards n u d w (eqb-true w u h)
  exactly_reaches (suc r) zero w h l = absurd (not-suc-le-zero l)
  exactly_reaches (suc r) (suc d) w h l =
      let t = any_numbers (onward_to forwards (exactly forwards n u r) w) n h in
      let b = and_true (picked (forwards w t.0)) (exactly forwards n u r t.0) t.2 in
      or_right (reaches forwards n u d w)
      (any_numbers_of (onward_to forwards (reaches forwards n u d) w) n t.0 t.1
      (and_of b.0 (exactly_reaches r d t.0 b.1 (le_of_suc-le-suc l))))

  -- a way of at most d steps has exactly some number of steps up to d
  pub reaches_exactly : (d w : ℕ) → reaches forwards n u d w ≡ true → (r : ℕ) × (r ≤ d) × (exactly forwards n u r w ≡ true)
  unfolding exactly reaches
  reaches_exactly zero w h = (0, zero-le, h)
  reaches_exactly (suc d) w h = go (λ x e. reaches_exactly d x e) (or_true (reaches forwards n u d w) _ h)
    where
      Rest : Type 0
      Rest = (x : ℕ) → reaches forwards n u d x ≡ true → (r : ℕ) × (r ≤ d) × (exactly forwards n u r x ≡ true)

      go : Rest → (reaches forwards n u d w ≡ true) ⊎ (any (onward_to forwards (reaches forwards n u d) w) (numbers n) ≡ true)
          → (r : ℕ) × (r ≤ suc d) × (exactly forwards n u r w ≡ true)
      go rest (inl e) = let t = rest w e in (t.0, omega arith, t.2)
      go rest (inr e) =
          let t = any_numbers (onward_to forwards (reaches forwards n u d) w) n e in
          let b = and_true (picked (forwards w t.0)) (reaches forwards n u d t.0) t.2 in
          let s = rest t.0 b.1 in (
            suc s.0,
            suc-le-suc s.1,
            any_numbers_of (onward_to forwards (exactly forwards n u s.0) w) n t.0 t.1 (and_of b.0 s.2),
          )
