-- What the functions compute, one law for each path of the code.
use Rattle.std.specs.Prelude.{◌≡◌, Bool, true, false, List, ℕ, zero, suc, ◌+◌, ◌-◌, ◌*◌, ◌≤◌, ◌<◌, get_or}
use Rattle.std.proofs.Math.Path.{refl, sym, ap}
use Rattle.std.proofs.Common.{◌∙◌, arith}
use Rattle.spec_base.specs.Basic.{has}
use Rattle.pick_laws.specs.declared.Going.{Going}
use Rattle.walk_reach.specs.Layers.{wide_at}
use Rattle.walk_reach.specs.FilledLaws.{wide_inside, wide_past}
use Rattle.walk_limit.specs.Limits.{starting_limit_at, limit_at, limit_among}

-- ---- the first step

pub starting_last : (wide : List ℕ) (r y : ℕ) → r ≡ 0 → 0 ≡ starting_limit_at wide r y
unfolding starting_limit_at
starting_last wide r y e = rw e refl

starting_later : (wide : List ℕ) (r y : ℕ) {x : ℕ} → (r ≡ 0 → ⊥) → x ≡ wide_at wide (r - 1) y → x ≡ starting_limit_at wide r y
unfolding starting_limit_at
starting_later wide r y {x} left e = by_left r left e
  where
    by_left : (j : ℕ) → (j ≡ 0 → ⊥) → x ≡ wide_at wide (j - 1) y → x ≡ starting_limit_at wide j y
    by_left zero z a = absurd (z refl)
    by_left (suc j) z a = let less : suc j - 1 ≡ j = omega arith in a ∙ ap (λ (i : ℕ). wide_at wide i y) less

-- past the table there is none
pub starting_past : (wide : List ℕ) (r y : ℕ) → (r ≡ 0 → ⊥) → 64 < r → 0 ≡ starting_limit_at wide r y
starting_past wide r y left h = starting_later wide r y left (wide_past wide (r - 1) y (omega arith))

-- within it its word is taken
pub starting_inside : (wide : List ℕ) (r y : ℕ) {x : ℕ} → (r ≡ 0 → ⊥) → r ≤ 64 → x ≡ get_or wide ((r - 1) * 64 + y) 0 → x ≡ starting_limit_at wide r y
starting_inside wide r y left h e = starting_later wide r y left (wide_inside wide (r - 1) y (omega arith) e)

-- ---- phase by phase

module _ (ways wide : List ℕ) (r y : ℕ) {going : Going} where
  pub limit_starting : {x : ℕ} → going ≡ Going.Starting → x ≡ starting_limit_at wide r y → x ≡ limit_at ways wide r going y
  unfolding limit_at
  limit_starting e q = rw e q

  pub limit_there : {k w : ℕ} {b : Bool} → going ≡ Going.Opening k → w ≡ get_or ways r 0 → b ≡ has w y → b ≡ true → k ≡ limit_at ways wide r going y
  unfolding limit_at
  limit_there {k} e f h t = rw (e, sym (h ∙ ap (λ (z : ℕ). has z y) f) ∙ t) refl

  pub limit_elsewhere : {k w : ℕ} {b : Bool} → going ≡ Going.Opening k → w ≡ get_or ways r 0 → b ≡ has w y → b ≡ false
      → 0 ≡ limit_at ways wide r going y
  unfolding limit_at
  limit_elsewhere {k} e f h t = rw (e, sym (h ∙ ap (λ (z : ℕ). has z y) f) ∙ t) refl

  pub limit_closing : going ≡ Going.Closing → 0 ≡ limit_at ways wide r going y
  unfolding limit_at
  limit_closing e = rw e refl

  pub limit_ending : {k : ℕ} → going ≡ Going.Ending k → 0 ≡ limit_at ways wide r going y
  unfolding limit_at
  limit_ending e = rw e refl

-- ---- among the nodes of a word

module _ (nodes y : ℕ) {b : Bool} (same : b ≡ has nodes y) where
  pub among_limit : (ways wide : List ℕ) (r : ℕ) (going : Going) {x : ℕ} → b ≡ true → x ≡ limit_at ways wide r going y
      → x ≡ limit_among ways wide nodes r going y
  unfolding limit_among
  among_limit ways wide r going t q = rw (sym same ∙ t) q

  pub outside_limit : (ways wide : List ℕ) (r : ℕ) (going : Going) → b ≡ false → 0 ≡ limit_among ways wide nodes r going y
  unfolding limit_among
  outside_limit ways wide r going t = rw (sym same ∙ t) refl
