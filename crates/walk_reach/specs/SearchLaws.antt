-- How a search for the first number that passes a test goes on, turn by turn.
use Rattle.std.specs.Prelude.{◌≡◌, Bool}
use Rattle.std.proofs.Math.Path.{refl, ap}
use Rattle.std.proofs.Common.{sym, ap₂, ◌∙◌, not-suc-le-zero, le_of_suc-le-suc, add-one}
use Rattle.std.proofs.Math.Bool.{true, false, cond}
use Prim.Native.Nat.{ℕ, zero, suc, ◌+◌, ◌-◌, ◌≤◌, ◌<◌}
use native.Mathlib.Omega.{arith}
use Rattle.std.proofs.Math.Dec.{eqb}
use borrow.Author.Tests.{eqb-true, eqb-false}
use Rattle.law_base.specs.BoolLaws.{true_false}
use Rattle.walk_reach.specs.Search.{first_from}

module _ (test : ℕ → Bool) where
  -- a number that passes is the first
  first_here : (left x : ℕ) → 0 < left → test x ≡ true → first_from test left x ≡ x
  unfolding first_from
  first_here zero x h e = absurd (not-suc-le-zero h)
  first_here (suc left) x h e = rw e

  -- one that does not is passed over
  first_later : (left x : ℕ) → test x ≡ false → first_from test (suc left) x ≡ first_from test left (suc x)
  unfolding first_from
  first_later left x e = rw e

  -- a turn of the search among the numbers below n
  first_turn : (n x : ℕ) → x < n → test x ≡ false → first_from test (n - x) x ≡ first_from test (n - (x + 1)) (x + 1)
  first_turn n x h e =
      let same : n - x ≡ suc (n - (x + 1)) = omega arith in
      ap (λ (k : ℕ). first_from test k x) same ∙ first_later (n - (x + 1)) x e ∙ rw add-one refl

  -- its end
  pub first_end : (n x : ℕ) → x ≤ n → n ≤ x → first_from test (n - x) x ≡ n
  unfolding first_from
  first_end n x h l =
      let none : n - x ≡ 0 = omega arith in
      let same : x ≡ n = omega arith in ap (λ (k : ℕ). first_from test k x) none ∙ same

  -- it ends after the last at most
  pub first_bound : (left x : ℕ) → first_from test left x ≤ x + left
  unfolding first_from
  first_bound zero x = omega arith
  first_bound (suc left) x = go (test x) (first_bound left (suc x))
    where
      go : (b : Bool) → first_from test left (suc x) ≤ suc x + left → cond b x (first_from test left (suc x)) ≤ x + suc left
      go true h = omega arith
      go false h = omega arith

  -- where it ends before the last, it ends at a number that passes
  pub first_passes : (left x : ℕ) → first_from test left x < x + left → test (first_from test left x) ≡ true
  unfolding first_from
  first_passes zero x h = let z : ⊥ = omega arith in absurd z
  first_passes (suc left) x h = go (first_passes left (suc x)) (test x) refl h
    where
      go : (first_from test left (suc x) < suc x + left → test (first_from test left (suc x)) ≡ true) → (b : Bool) → test x ≡ b
          → cond b x (first_from test left (suc x)) < x + suc left → test (cond b x (first_from test left (suc x))) ≡ true
      go rest true e k = e
      go rest false e k = rest (omega arith)

  -- a number that passes ends it before the last
  pub first_found : (left x y : ℕ) → x ≤ y → y < x + left → test y ≡ true → first_from test left x < x + left
  unfolding first_from
  first_found zero x y h l e = let z : ⊥ = omega arith in absurd z
  first_found (suc left) x y h l e = go (first_found left (suc x) y) (test x) refl
    where
      go : (suc x ≤ y → y < suc x + left → test y ≡ true → first_from test left (suc x) < suc x + left) → (b : Bool) → test x ≡ b
          → cond b x (first_from test left (suc x)) < x + suc left
      go rest true k = omega arith
      go rest false k = let more = rest later (omega arith) e in omega arith
        where
          later : suc x ≤ y
          later = go_on (eqb x y) refl
            where
              go_on : (b : Bool) → eqb x y ≡ b → suc x ≤ y
              go_on true q = absurd (true_false (ap test (eqb-true x y q) ∙ e) k)
              go_on false q = let apart = eqb-false x y q in omega arith

  -- and ends no later than at it
  pub first_least : (left x y : ℕ) → x ≤ y → y < x + left → test y ≡ true → first_from test left x ≤ y
  unfolding first_from
  first_least zero x y h l e = let z : ⊥ = omega arith in absurd z
  first_least (suc left) x y h l e = go (first_least left (suc x) y) (test x) refl
    where
      go : (suc x ≤ y → y < suc x + left → test y ≡ true → first_from test left (suc x) ≤ y) → (b : Bool) → test x ≡ b
          → cond b x (first_from test left (suc x)) ≤ y
      go rest true k = h
      go rest false k = rest (later (eqb x y) refl) (omega arith) e
        where
          later : (b : Bool) → eqb x y ≡ b → suc x ≤ y
          later true q = absurd (true_false (ap test (eqb-true x y q) ∙ e) k)
          later false q = let apart = eqb-false x y q in omega arith

  -- where none from x on passes it ends after the last
  pub first_none : (left x : ℕ) → ((y : ℕ) → x ≤ y → test y ≡ false) → first_from test left x ≡ x + left
  unfolding first_from
  first_none zero x h = omega arith
  first_none (suc left) x h = rw (h x (omega arith)) (let rest = first_none left (suc x) (λ y l. h y (omega arith)) in omega arith)

  -- it ends no earlier than it begins
  pub first_above : (left x : ℕ) → x ≤ first_from test left x
  unfolding first_from
  first_above zero x = omega arith
  first_above (suc left) x = go (test x) (first_above left (suc x))
    where
      go : (b : Bool) → suc x ≤ first_from test left (suc x) → x ≤ cond b x (first_from test left (suc x))
      go true h = omega arith
      go false h = omega arith

  -- the search among the numbers below n, as a loop makes it: it starts, stops, turns and ends
  pub search_start : (n : ℕ) → first_from test (n - 0) 0 ≡ first_from test n 0
  search_start n = let all : n - 0 ≡ n = omega arith in ap (λ (k : ℕ). first_from test k 0) all

  pub search_stop : (n x : ℕ) → first_from test (n - x) x ≡ first_from test n 0 → x < n → test x ≡ true → x ≡ first_from test n 0
  search_stop n x same h e = sym (first_here (n - x) x (omega arith) e) ∙ same

  pub search_turn : (n x : ℕ) → first_from test (n - x) x ≡ first_from test n 0 → x < n → test x ≡ false
      → first_from test (n - (x + 1)) (x + 1) ≡ first_from test n 0
  search_turn n x same h e = sym (first_turn n x h e) ∙ same

  pub search_end : (n x : ℕ) → first_from test (n - x) x ≡ first_from test n 0 → x ≤ n → n ≤ x → n ≡ first_from test n 0
  search_end n x same h l = sym (first_end n x h l) ∙ same

-- a search over a block of k numbers is a search of its own: where that finds one it is the first, and else the search goes on after the block
pub first_block : (test inner : ℕ → Bool) (k left x a : ℕ) → k ≤ left → ((i : ℕ) → i < k → test (x + i) ≡ inner (a + i))
    → (first_from inner k a < a + k → first_from test left x + a ≡ x + first_from inner k a)
    × (a + k ≤ first_from inner k a → first_from test left x ≡ first_from test (left - k) (x + k))
unfolding first_from
first_block test inner zero left x a h same =
    let all : left ≡ left - 0 = omega arith in
    let here : x ≡ x + 0 = omega arith in
    (λ l. absurd (let z : ⊥ = omega arith in z), λ l. ap₂ (first_from test) all here)
first_block test inner (suc k) zero x a h same = absurd (not-suc-le-zero h)
first_block test inner (suc k) (suc left) x a h same =
    go (first_block test inner k left (suc x) (suc a) (le_of_suc-le-suc h) later) (inner a) refl
  where
    later : (i : ℕ) → i < k → test (suc x + i) ≡ inner (suc a + i)
    later i l =
        let p : suc x + i ≡ x + suc i = omega arith in
        let q : suc a + i ≡ a + suc i = omega arith in
        ap test p ∙ same (suc i) (omega arith) ∙ ap inner (sym q)

    first_same : test x ≡ inner a
    first_same =
        let p : x ≡ x + 0 = omega arith in
        let q : a ≡ a + 0 = omega arith in
        ap test p ∙ same 0 (omega arith) ∙ ap inner (sym q)

    Rest : Type 0
    Rest = (first_from inner k (suc a) < suc a + k → first_from test left (suc x) + suc a ≡ suc x + first_from inner k (suc a))
        × (suc a + k ≤ first_from inner k (suc a) → first_from test left (suc x) ≡ first_from test (left - k) (suc x + k))

    go : Rest → (b : Bool) → inner a ≡ b
        → (cond b a (first_from inner k (suc a)) < a + suc k
        → cond (test x) x (first_from test left (suc x)) + a ≡ x + cond b a (first_from inner k (suc a)))
        × (a + suc k ≤ cond b a (first_from inner k (suc a))
        → cond (test x) x (first_from test left (suc x)) ≡ first_from test (suc left - suc k) (x + suc k))
    go rest true e = (λ l. rw (first_same ∙ e) refl, λ l. absurd (let z : ⊥ = omega arith in z))
    go rest false e =
        let fewer : left - k ≡ suc left - suc k = omega arith in
        let there : suc x + k ≡ x + suc k = omega arith in (
          λ l. rw (first_same ∙ e) (let f = rest.0 (omega arith) in omega arith),
          λ l. rw (first_same ∙ e) (rest.1 (omega arith) ∙ ap₂ (first_from test) fewer there),
        )
