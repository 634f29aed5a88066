-- Where the words tell which nodes complete a walk, the needs and limits over words are those of the phases.
use Rattle.std.specs.Prelude.{◌≡◌, true, false, List, eqb, ltb, get_or}
use Rattle.std.proofs.Math.Path.{refl, ap}
use Rattle.std.proofs.Common.{sym, ◌∙◌, ne_eqb}
use Rattle.std.proofs.Math.Bool.{Bool, cond}
use Prim.Native.Nat.{ℕ, zero, suc, ◌≤◌, ◌<◌, min}
use native.Mathlib.Omega.{arith}
use Rattle.spec_base.specs.Basic.{any, numbers, has}
use Rattle.pick_laws.specs.declared.Going.{Going}
use Rattle.pick_laws.specs.Pick.{Picks}
use Rattle.pick_laws.specs.Completing.{least_below, leaves_at, exactly, leaves_first, opens_into, needed, widest}
use Rattle.pick_laws.specs.Demands.{only_if, ending_needs, needs_in, starting_limit, limits_in}
use Rattle.edge_word.specs.Coding.{backs_in}
use Rattle.walk_reach.specs.Layers.{wide_at}
use Rattle.walk_nodes.specs.NodeWordLaws.{list_at}
use Rattle.walk_need.specs.Needs.{leaves_for, first_leaving, opening_need, ending_need, need_at, need_among, needs_of}
use Rattle.walk_limit.specs.Limits.{starting_limit_at, limit_at, limit_among, limits_of}

-- what the words tell, for up to r steps left
pub record Worked (forwards : Picks) (backs : List ℕ) (n s : ℕ) (ways opened wide : List ℕ) (most : ℕ) : Type 0 where
  pub ends : (r x : ℕ) → r ≤ most → x < n → has (get_or ways r 0) x ≡ exactly forwards n s r x
  pub opens : (r x : ℕ) → r ≤ most → x < n → has (get_or opened r 0) x ≡ eqb (needed forwards (backs_in backs) n s r x) 0
  pub widths : (r x : ℕ) → r < most → x < n → wide_at wide r x ≡ widest forwards n s r x

-- the same numbers have the same least
least_same : (f h : ℕ → ℕ) (most n : ℕ) → ((x : ℕ) → x < n → f x ≡ h x) → least_below f most n ≡ least_below h most n
unfolding least_below
least_same f h most zero same = refl
least_same f h most (suc n) same =
    let rest = least_same f h most n (λ x l. same x (omega arith)) in
    let last = same n (omega arith) in omega arith

-- a walk that began with a back step began with one that leaves a place below 1024
abbrev pub PlaceKept : Going → Type 0
PlaceKept going = (k : ℕ) → going ≡ Going.Ending k → k < 1024

module _ {forwards : Picks} {backs : List ℕ} (n : ℕ) (full : n ≡ 64) {s : ℕ} {ways opened wide : List ℕ} {most : ℕ}
    (worked : Worked forwards backs n s ways opened wide most) where
  leaving_same : (r x : ℕ) → r ≤ most → first_leaving backs (get_or ways r 0) x ≡ leaves_first (backs_in backs) n (exactly forwards n s r) x
  unfolding first_leaving leaves_first leaves_for
  leaving_same r x h =
      ap (least_below (leaves_for backs (get_or ways r 0) x) 1024) (sym full)
      ∙ least_same (leaves_for backs (get_or ways r 0) x) (λ y. cond (exactly forwards n s r y) (leaves_at (backs_in backs x y)) 1024) 1024 n
      (λ y l. ap (λ (b : Bool). cond b (leaves_at (backs_in backs x y)) 1024) (worked.ends r y h l))

  opening_same : (r y : ℕ) → r ≤ most → y < n → opening_need backs ways opened r y ≡ needed forwards (backs_in backs) n s r y
  unfolding opening_need needed
  opening_same zero y h l = refl
  opening_same (suc r) y h l = by_later later refl (worked.opens (suc r) y h l)
    where
      later : Bool
      later = any (opens_into forwards (needed forwards (backs_in backs) n s r) y) (numbers n)

      early : ℕ
      early = leaves_first (backs_in backs) n (exactly forwards n s r) y

      by_later : (b : Bool) → later ≡ b → has (get_or opened (suc r) 0) y ≡ eqb (cond b 0 (suc early)) 0
          → cond (has (get_or opened (suc r) 0) y) 0 (suc (first_leaving backs (get_or ways r 0) y)) ≡ cond b 0 (suc early)
      by_later true e q = rw q refl
      by_later false e q = rw (q ∙ ne_eqb (suc early) 0 (λ z. let none_left : ⊥ = omega arith in none_left)) (ap suc (leaving_same r y (omega arith)))

  ending_same : (k r y : ℕ) → k < 1024 → r ≤ most → y < n → ending_need wide s k r y ≡ ending_needs forwards n s k r y
  unfolding ending_need ending_needs
  ending_same k zero y few h l =
      let least : min (suc k) 1025 ≡ suc k = omega arith in ap (λ (x : ℕ). cond (eqb y s) x 1025) least
  ending_same k (suc r) y few h l = ap (λ (x : ℕ). only_if (ltb k x)) (worked.widths r y h l)

  -- the needs
  pub need_same : (r y : ℕ) (going : Going) → PlaceKept going → r ≤ most → y < n
      → need_at backs ways opened wide s r going y ≡ needs_in forwards (backs_in backs) n s r going y
  unfolding need_at needs_in
  need_same r y Going.Starting few h l = opening_same r y h l
  need_same r y (Going.Opening k) few h l = opening_same r y h l
  need_same r y Going.Closing few h l = ap only_if (worked.ends r y h l)
  need_same r y (Going.Ending k) few h l = ending_same k r y (few k refl) h l

  pub needs_at : (nodes r y : ℕ) (going : Going) → PlaceKept going → r ≤ most → y < n
      → get_or (needs_of backs ways opened wide s nodes r going) y 0 ≡ cond (has nodes y) (needs_in forwards (backs_in backs) n s r going y) 1025
  unfolding needs_of need_among
  needs_at nodes r y going few h l =
      list_at (need_among backs ways opened wide s nodes r going) 64 y (omega arith) (omega arith)
      ∙ ap (λ (x : ℕ). cond (has nodes y) x 1025) (need_same r y going few h l)

  starting_same : (r y : ℕ) → r ≤ most → y < n → starting_limit_at wide r y ≡ starting_limit forwards n s r y
  unfolding starting_limit_at starting_limit
  starting_same zero y h l = refl
  starting_same (suc r) y h l = worked.widths r y h l

  -- the limits
  pub limit_same : (r y : ℕ) (going : Going) → r ≤ most → y < n → limit_at ways wide r going y ≡ limits_in forwards n s r going y
  unfolding limit_at limits_in
  limit_same r y Going.Starting h l = starting_same r y h l
  limit_same r y (Going.Opening k) h l = ap (λ (b : Bool). cond b k 0) (worked.ends r y h l)
  limit_same r y Going.Closing h l = refl
  limit_same r y (Going.Ending k) h l = refl

  pub limits_at : (nodes r y : ℕ) (going : Going) → r ≤ most → y < n
      → get_or (limits_of ways wide nodes r going) y 0 ≡ cond (has nodes y) (limits_in forwards n s r going y) 0
  unfolding limits_of limit_among
  limits_at nodes r y going h l =
      list_at (limit_among ways wide nodes r going) 64 y (omega arith) (omega arith)
      ∙ ap (λ (x : ℕ). cond (has nodes y) x 0) (limit_same r y going h l)
