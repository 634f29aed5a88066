-- The steps of the function: a line's part in the links.
use mathlib.Core.List.{List}
use mathlib.Core.Path.{◌≡◌, refl, sym, ◌∙◌}
use Prim.Native.Nat.{ℕ, suc, ◌+◌, ◌*◌, ◌-◌, ◌≤◌, ◌<◌}
use native.Mathlib.Omega.{arith}
use lib.Bits.{bit_or}
use lib.ListN.{get_or}
use borrow.Author.Tests.{eq-eqb, ne_eqb}
use Rattle.value_tables.specs.Lines.{pr_number, li_number}
use Rattle.place_links.specs.LineLinks.{links_from}

module _ (lines : List ℕ) where
  pub links_next : (n i marks : ℕ) → i < n → (m : ℕ) → m ≡ get_or lines (i * 8) 0 → (m ≡ pr_number → ⊥) → (m ≡ li_number → ⊥) → (w : ℕ)
      → w ≡ get_or lines (i * 8 + 7) 0 → links_from (n - (i + 1)) lines (i + 1) (bit_or marks w) ≡ links_from (n - i) lines i marks
  unfolding links_from
  links_next n i marks h m e a b w k =
      let s : n - i ≡ suc (n - (i + 1)) = omega arith in
      rw (s, k, ne_eqb (get_or lines (i * 8) 0) pr_number (λ x. a (e ∙ x)), ne_eqb (get_or lines (i * 8) 0) li_number (λ x. b (e ∙ x))) refl

  pub links_program : (n i marks : ℕ) → i < n → (m : ℕ) → m ≡ get_or lines (i * 8) 0 → m ≡ pr_number
      → record { first = i; marks = marks } ≡ links_from (n - i) lines i marks
  unfolding links_from
  links_program n i marks h m e d =
      let s : n - i ≡ suc (n - (i + 1)) = omega arith in
      rw (s, eq-eqb (get_or lines (i * 8) 0) pr_number (sym e ∙ d)) refl

  pub links_link : (n i marks : ℕ) → i < n → (m : ℕ) → m ≡ get_or lines (i * 8) 0 → m ≡ li_number
      → record { first = i; marks = marks } ≡ links_from (n - i) lines i marks
  unfolding links_from
  links_link n i marks h m e d =
      let s : n - i ≡ suc (n - (i + 1)) = omega arith in
      let other : get_or lines (i * 8) 0 ≡ pr_number → ⊥ = λ x. omega arith in
      rw (s, ne_eqb (get_or lines (i * 8) 0) pr_number other, eq-eqb (get_or lines (i * 8) 0) li_number (sym e ∙ d)) refl

  pub links_end : (n i marks : ℕ) → n ≤ i → record { first = i; marks = marks } ≡ links_from (n - i) lines i marks
  unfolding links_from
  links_end n i marks h = let s : n - i ≡ 0 = omega arith in rw s refl

-- what the lines from one on give: one that is no `pr` and no `li` adds its marks, and at one of these or at the end the links begin
pub ruleset link_steps = (links_next, links_program, links_link, links_end)
