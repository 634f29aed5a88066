-- What the functions compute, one law for each path of the code.
use Rattle.std.specs.Prelude.{◌≡◌, Bool, cond, List, ltb, length, get_or}
use Rattle.std.proofs.Math.Path.{refl, ap}
use Rattle.std.proofs.Common.{sym, ap₂, ◌∙◌, add-one}
use Rattle.std.proofs.Math.Bool.{true, false}
use Prim.Native.Nat.{ℕ, zero, suc, ◌+◌, ◌-◌, ◌*◌, ◌/◌, ◌^◌, ◌≤◌, ◌<◌, min}
use native.Mathlib.Omega.{arith}
use Rattle.std.proofs.Math.ListN.{get_or-eq_default}
use borrow.Author.Tests.{eq-eqb, ne_eqb}
use Rattle.spec_base.specs.Basic.{has}
use Rattle.pick_laws.specs.declared.Going.{Going}
use Rattle.pick_laws.specs.Completing.{least_below, leaves_at}
use Rattle.pick_laws.specs.LeastLaws.{least_rest}
use Rattle.pick_laws.specs.Demands.{only_if}
use Rattle.edge_word.specs.Coding.{back_pick}
use Rattle.edge_opens.specs.OpensLaws.{leaves_none}
use Rattle.walk_reach.specs.Layers.{wide_at}
use Rattle.walk_nodes.specs.NodeWordLaws.{has_high}
use Rattle.walk_need.specs.Needs.{leaves_for, first_leaving, opening_need, ending_need, need_at, need_among}

-- ---- where a back edge leaves

pub leaves_there : (backs : List ℕ) (nodes x y : ℕ) {b : Bool} {w l : ℕ} → b ≡ has nodes y → b ≡ true → w ≡ get_or backs (x * 64 + y) 0
    → l ≡ leaves_at (back_pick w) → l ≡ leaves_for backs nodes x y
unfolding leaves_for
leaves_there backs nodes x y h t e q = rw (sym h ∙ t) (q ∙ ap (λ (z : ℕ). leaves_at (back_pick z)) e)

pub leaves_not : (backs : List ℕ) (nodes x y : ℕ) {b : Bool} → b ≡ has nodes y → b ≡ false → 1024 ≡ leaves_for backs nodes x y
unfolding leaves_for
leaves_not backs nodes x y h t = rw (sym h ∙ t) refl

-- none leaves where each would at 1024
least_past : (f : ℕ → ℕ) (n : ℕ) → ((k : ℕ) → k < n → 1024 ≡ f k) → 1024 ≡ least_below f 1024 n
unfolding least_below
least_past f zero h = refl
least_past f (suc n) h =
    let rest = least_past f n (λ k l. h k (omega arith)) in
    let last = h n (omega arith) in omega arith

-- as past the end of the table
pub leaving_past : (backs : List ℕ) (nodes x : ℕ) → length backs ≤ x * 64 → 1024 ≡ first_leaving backs nodes x
unfolding first_leaving leaves_for
leaving_past backs nodes x h =
    least_past (leaves_for backs nodes x) 64
    (λ y l. go y (has nodes y) (leaves_none (get_or backs (x * 64 + y) 0) (get_or-eq_default backs 0 (omega arith))))
  where
    go : (y : ℕ) (b : Bool) → 1024 ≡ leaves_at (back_pick (get_or backs (x * 64 + y) 0))
        → 1024 ≡ cond b (leaves_at (back_pick (get_or backs (x * 64 + y) 0))) 1024
    go y true e = e
    go y false e = refl

-- and past the last of the nodes
pub leaving_none : (backs : List ℕ) (nodes x y : ℕ) {best : ℕ} → y ≤ 64 → nodes / 2 ^ y ≡ 0 → best ≡ least_below (leaves_for backs nodes x) 1024 y
    → best ≡ first_leaving backs nodes x
unfolding first_leaving leaves_for
leaving_none backs nodes x y h e p =
    p ∙ least_rest (leaves_for backs nodes x) 1024 y 64 h (λ k l m. rw (has_high nodes y k e l) (let same : 1024 ≤ 1024 = omega arith in same))

-- a turn of the search for the first
pub leaving_turn : (backs : List ℕ) (nodes x y : ℕ) {best l more : ℕ} → best ≡ least_below (leaves_for backs nodes x) 1024 y
    → l ≡ leaves_for backs nodes x y → more ≡ min best l → more ≡ least_below (leaves_for backs nodes x) 1024 (y + 1)
unfolding least_below
leaving_turn backs nodes x y p q r = rw add-one (r ∙ ap₂ min p q)

-- ---- needs

pub opening_last : (backs ways opened : List ℕ) (r y : ℕ) → r ≡ 0 → 1025 ≡ opening_need backs ways opened r y
unfolding opening_need
opening_last backs ways opened r y e = rw e refl

module _ (backs ways opened : List ℕ) (r y : ℕ) (some_left : r ≡ 0 → ⊥) where
  pub opening_later : {b : Bool} {w : ℕ} → w ≡ get_or opened r 0 → b ≡ has w y → b ≡ true → 0 ≡ opening_need backs ways opened r y
  unfolding opening_need
  opening_later e h t = by_left r some_left (sym (h ∙ ap (λ (z : ℕ). has z y) e) ∙ t)
    where
      by_left : (k : ℕ) → (k ≡ 0 → ⊥) → has (get_or opened k 0) y ≡ true → 0 ≡ opening_need backs ways opened k y
      by_left zero z q = absurd (z refl)
      by_left (suc k) z q = rw q refl

  pub opening_next : {b : Bool} {w v l : ℕ} → w ≡ get_or opened r 0 → b ≡ has w y → b ≡ false → v ≡ get_or ways (r - 1) 0
      → l ≡ first_leaving backs v y → l + 1 ≡ opening_need backs ways opened r y
  unfolding opening_need
  opening_next {l = l} e h t f q = by_left r some_left (sym (h ∙ ap (λ (z : ℕ). has z y) e) ∙ t) (q ∙ ap (λ (z : ℕ). first_leaving backs z y) f)
    where
      by_left : (k : ℕ) → (k ≡ 0 → ⊥) → has (get_or opened k 0) y ≡ false → l ≡ first_leaving backs (get_or ways (k - 1) 0) y
          → l + 1 ≡ opening_need backs ways opened k y
      by_left zero z a b = absurd (z refl)
      by_left (suc k) z a b =
          let less : suc k - 1 ≡ k = omega arith in
          rw (a, add-one) (ap suc (b ∙ ap (λ (z : ℕ). first_leaving backs (get_or ways z 0) y) less))

module _ (wide : List ℕ) (s k r y : ℕ) where
  pub ending_here : r ≡ 0 → y ≡ s → k < 1025 → k + 1 ≡ ending_need wide s k r y
  unfolding ending_need
  ending_here e h l = rw (e, eq-eqb y s h, add-one) (let m : suc k ≡ min (suc k) 1025 = omega arith in m)

  pub ending_far : r ≡ 0 → y ≡ s → 1025 ≤ k → 1025 ≡ ending_need wide s k r y
  unfolding ending_need
  ending_far e h l = rw (e, eq-eqb y s h) (let m : 1025 ≡ min (suc k) 1025 = omega arith in m)

  pub ending_elsewhere : r ≡ 0 → (y ≡ s → ⊥) → 1025 ≡ ending_need wide s k r y
  unfolding ending_need
  ending_elsewhere e h = rw (e, ne_eqb y s h) refl

  pub ending_later : (r ≡ 0 → ⊥) → {x : ℕ} {b : Bool} {n : ℕ} → x ≡ wide_at wide (r - 1) y → b ≡ ltb k x → n ≡ only_if b
      → n ≡ ending_need wide s k r y
  unfolding ending_need
  ending_later left {x} {b} {n} e h q = by_left r left (q ∙ ap only_if (h ∙ ap (ltb k) e))
    where
      by_left : (j : ℕ) → (j ≡ 0 → ⊥) → n ≡ only_if (ltb k (wide_at wide (j - 1) y)) → n ≡ ending_need wide s k j y
      by_left zero z a = absurd (z refl)
      by_left (suc j) z a = let less : suc j - 1 ≡ j = omega arith in a ∙ ap (λ (i : ℕ). only_if (ltb k (wide_at wide i y))) less

-- ---- phase by phase

module _ (backs ways opened wide : List ℕ) (s r y : ℕ) {going : Going} {x : ℕ} where
  pub need_starting : going ≡ Going.Starting → x ≡ opening_need backs ways opened r y → x ≡ need_at backs ways opened wide s r going y
  unfolding need_at
  need_starting e q = rw e q

  pub need_opening : {k : ℕ} → going ≡ Going.Opening k → x ≡ opening_need backs ways opened r y → x ≡ need_at backs ways opened wide s r going y
  unfolding need_at
  need_opening e q = rw e q

  pub need_closing : {b : Bool} {w : ℕ} → going ≡ Going.Closing → w ≡ get_or ways r 0 → b ≡ has w y → x ≡ only_if b
      → x ≡ need_at backs ways opened wide s r going y
  unfolding need_at
  need_closing e f h q = rw e (q ∙ ap only_if (h ∙ ap (λ (z : ℕ). has z y) f))

  pub need_ending : {k : ℕ} → going ≡ Going.Ending k → x ≡ ending_need wide s k r y → x ≡ need_at backs ways opened wide s r going y
  unfolding need_at
  need_ending e q = rw e q

-- ---- among the nodes of a word

module _ (nodes y : ℕ) {b : Bool} (same : b ≡ has nodes y) where
  pub among_need : (backs ways opened wide : List ℕ) (s r : ℕ) (going : Going) {x : ℕ} → b ≡ true → x ≡ need_at backs ways opened wide s r going y
      → x ≡ need_among backs ways opened wide s nodes r going y
  unfolding need_among
  among_need backs ways opened wide s r going t q = rw (sym same ∙ t) q

  pub outside_need : (backs ways opened wide : List ℕ) (s r : ℕ) (going : Going) → b ≡ false
      → 1025 ≡ need_among backs ways opened wide s nodes r going y
  unfolding need_among
  outside_need backs ways opened wide s r going t = rw (sym same ∙ t) refl
