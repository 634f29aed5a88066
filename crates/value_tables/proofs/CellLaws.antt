-- The numbers below n, cell by cell.
use mathlib.Core.List.{List, [], ◌∷◌}
use mathlib.Core.Option.{Option, none, some}
use mathlib.Core.Path.{◌≡◌, sym, ◌∙◌}
use Prim.Native.Nat.{ℕ, zero, suc, ◌<◌}
use native.Mathlib.Nat.{zero-add}
use native.Mathlib.Omega.{arith}
use lib.ListN.{get_or, get_elem?}
use Rattle.spec_base.specs.Basic.{numbers}
use Rattle.law_base.specs.ListLaws.{some_injective, get_elem?_numbers_from}

get_d_there : (l : List ℕ) (i : ℕ) {x : ℕ} → get_elem? l i ≡ some x → get_or l i 0 ≡ x
get_d_there [] i {x} e = let z : ◌≡◌ {A = Option ℕ} none (some x) = e in let y : ◌≡◌ {A = ℕ} 0 1 = cc in absurd (omega arith)
get_d_there (y ∷ l) zero e = some_injective e
get_d_there (y ∷ l) (suc i) e = get_d_there l i e

pub number_at : (n i : ℕ) → i < n → i ≡ get_or (numbers n) i 0
number_at n i h = sym (get_d_there (numbers n) i (get_elem?_numbers_from 0 n i h) ∙ zero-add i)
