-- A rule over all values of a type that has finitely many is one computed test over the list of them.
use Rattle.std.specs.Prelude.{Bool, true, false, cond, not, ◌||◌, ◌≡◌, refl}
use mathlib.Core.List.{List, Memᴰ}
use Rattle.std.proofs.Common.{sym}
use Rattle.spec_base.specs.Basic.{all}
use Rattle.law_base.specs.BoolLaws.{not_true, implied}
use Rattle.law_base.specs.ListLaws.{all_true}

module _ {A : Type 0} (values : List A) (listed : (x : A) → Memᴰ x values) where
  -- a test that the listed values pass, every value passes
  pub every_value : (test : A → Bool) → all test values ≡ true → (x : A) → test x ≡ true
  every_value test h x = all_true test h (listed x)

  -- a value that passes the first test passes the second
  pub value_implies : (f g : A → Bool) → all (λ x. not (f x) || g x) values ≡ true → (x : A) → f x ≡ true → g x ≡ true
  value_implies f g h x = implied (f x) (g x) (every_value (λ x. not (f x) || g x) h x)

  -- a value that passes the first test fails the second
  pub values_apart : (f g : A → Bool) → all (λ x. not (f x) || not (g x)) values ≡ true → (x : A) → f x ≡ true → g x ≡ false
  values_apart f g h x e = not_true (g x) (value_implies f (λ x. not (g x)) h x e)

  -- two tests that say the same of each listed value say the same of every value
  pub values_agree : (f g : A → Bool) → all (λ x. cond (f x) (g x) (not (g x))) values ≡ true → (x : A) → f x ≡ g x
  values_agree f g h x = same (f x) (g x) (every_value (λ x. cond (f x) (g x) (not (g x))) h x)
    where
      same : (a b : Bool) → cond a b (not b) ≡ true → a ≡ b
      same true b e = sym e
      same false true e = e
      same false false e = refl
