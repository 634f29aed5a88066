-- Where a walk can still be opened: a step leads on to a node where it can, or a dangerous pair to a node from which the other steps end it.
use Rattle.std.specs.Prelude.{◌≡◌, ◌&&◌, ◌||◌, ◌⊎◌, ltb, leb}
use Rattle.std.proofs.Math.Path.{refl}
use Rattle.std.proofs.Common.{sym, ap, ◌∙◌, eqb-true, eq-eqb, ne_eqb, ltb-true, lt-ltb, le-ltb, leb-true, le-leb}
use Rattle.std.proofs.Math.Bool.{Bool, true, false, cond}
use Rattle.std.proofs.Math.Logic.{inl, inr}
use Rattle.std.proofs.Math.Option.{Option, none, some}
use Prim.Native.Nat.{ℕ, zero, suc, ◌≤◌, ◌<◌, zero-le}
use native.Mathlib.Omega.{arith}
use Rattle.std.proofs.Math.Dec.{eqb}
use Rattle.std.proofs.lemmas.Bool.{lt-leb}
use Rattle.spec_base.specs.Basic.{any, numbers}
use Rattle.law_base.specs.BoolLaws.{same_test, and_true, and_of, and_right, or_true, or_left, or_right}
use Rattle.law_base.specs.ListLaws.{any_none, any_numbers, any_numbers_of}
use Rattle.pick_laws.specs.declared.Pick.{Pick}
use Rattle.pick_laws.specs.Pick.{Picks, picked, dangerous_picks, onward_to}
use Rattle.pick_laws.specs.PickLaws.{dangerous_some}
use Rattle.pick_laws.specs.LeastLaws.{least_at, least_some}
use Rattle.pick_laws.specs.Completing.{greatest_below, opens_below, leaves_at, exactly, leaves_first, opens_into, needed, leads}

-- the same numbers have the same greatest
pub greatest_same : (f g : ℕ → ℕ) (n : ℕ) → ((i : ℕ) → i < n → f i ≡ g i) → greatest_below f n ≡ greatest_below g n
unfolding greatest_below
greatest_same f g zero same = refl
greatest_same f g (suc n) same =
    let rest = greatest_same f g n (λ i l. same i (omega arith)) in
    let last = same n (omega arith) in omega arith

-- ---- one pair

-- W4 by numbers: the back edge leaves below where the forward edge opens
pub dangerous_opens : (e c : Option Pick) → opens_below e ≤ 1024 → ((q : Pick) → c ≡ some q → q.leaves < 1024)
    → dangerous_picks e c ≡ ltb (leaves_at c) (opens_below e)
dangerous_opens none c h l = sym (le-ltb (leaves_at c) 0 zero-le)
dangerous_opens (some e) none h l = sym (le-ltb 1024 (opens_below (some e)) h)
dangerous_opens (some e) (some c) h l = go e.loose
  where
    go : (b : Bool) → ltb c.leaves e.enters || b ≡ ltb c.leaves (cond b 1024 e.enters)
    go true = or_right (ltb c.leaves e.enters) refl ∙ sym (lt-ltb c.leaves 1024 (l c refl))
    go false = plain (ltb c.leaves e.enters)
      where
        plain : (t : Bool) → t || false ≡ t
        plain true = refl
        plain false = refl

-- ---- the first place at which a back edge leaves for a node that passes

module _ (backs : Picks) (n : ℕ) (rest : ℕ → Bool) (x : ℕ) where
  -- where it is below m, an edge to some node that passes leaves below m
  pub leaves_below : (m : ℕ) → m ≤ 1024 → leaves_first backs n rest x < m
      → (w : ℕ) × (w < n) × (rest w ≡ true) × (leaves_at (backs x w) < m)
  unfolding leaves_first
  leaves_below m h l =
      let t = least_some (λ y. cond (rest y) (leaves_at (backs x y)) 1024) 1024 n (omega arith) in
      go t.0 t.1 (rest t.0) refl t.2
    where
      go : (w : ℕ) → w < n → (b : Bool) → rest w ≡ b → cond b (leaves_at (backs x w)) 1024 ≡ leaves_first backs n rest x
          → (v : ℕ) × (v < n) × (rest v ≡ true) × (leaves_at (backs x v) < m)
      go w k true e same = (w, k, e, omega arith)
      go w k false e same = let z : ⊥ = omega arith in absurd z

  -- and no edge to such a node leaves earlier
  pub leaves_of : (w : ℕ) → w < n → rest w ≡ true → leaves_first backs n rest x ≤ leaves_at (backs x w)
  unfolding leaves_first
  leaves_of w k e = rw e at (least_at (λ y. cond (rest y) (leaves_at (backs x y)) 1024) 1024 n w k)

-- ---- what is needed

-- nothing is needed where a step leads on
nothing_needed : (b : Bool) (k : ℕ) → eqb (cond b 0 (suc k)) 0 ≡ b
nothing_needed true k = refl
nothing_needed false k = ne_eqb (suc k) 0 (λ e. omega arith)

module _ (forwards backs : Picks) (n s : ℕ) where
  pub needed_test : (r x : ℕ)
      → eqb (needed forwards backs n s (suc r) x) 0 ≡ any (opens_into forwards (needed forwards backs n s r) x) (numbers n)
  unfolding needed
  needed_test r x =
      nothing_needed (any (opens_into forwards (needed forwards backs n s r) x) (numbers n)) (leaves_first backs n (exactly forwards n s r) x)

  -- a walk cannot be opened in no step
  pub needed_none : (x : ℕ) → eqb (needed forwards backs n s zero x) 0 ≡ false
  unfolding needed
  needed_none x = refl

  -- a node where nothing is needed has an edge to some node
  pub needed_edge : (r x : ℕ) → needed forwards backs n s (suc r) x ≡ 0 → (y : ℕ) × (y < n) × (picked (forwards x y) ≡ true)
  needed_edge r x e =
      let t = any_numbers (opens_into forwards (needed forwards backs n s r) x) n (sym (needed_test r x) ∙ eq-eqb _ 0 e) in
      (t.0, t.1, (and_true (picked (forwards x t.0)) (leb (needed forwards backs n s r t.0) (opens_below (forwards x t.0))) t.2).0)

  -- what is needed is nothing, or that the edge before opens to where a back edge leaves
  needed_cases : (r x : ℕ) → (needed forwards backs n s (suc r) x ≡ 0)
      ⊎ (needed forwards backs n s (suc r) x ≡ suc (leaves_first backs n (exactly forwards n s r) x))
  unfolding needed
  needed_cases r x =
      go (any (opens_into forwards (needed forwards backs n s r) x) (numbers n)) (suc (leaves_first backs n (exactly forwards n s r) x))
    where
      go : (b : Bool) (k : ℕ) → (cond b 0 k ≡ 0) ⊎ (cond b 0 k ≡ k)
      go true k = inl refl
      go false k = inr refl

  needed_most : (r x : ℕ) → needed forwards backs n s (suc r) x ≤ suc (leaves_first backs n (exactly forwards n s r) x)
  needed_most r x = go (needed_cases r x)
    where
      go : (needed forwards backs n s (suc r) x ≡ 0) ⊎ (needed forwards backs n s (suc r) x ≡ suc (leaves_first backs n (exactly forwards n s r) x))
          → needed forwards backs n s (suc r) x ≤ suc (leaves_first backs n (exactly forwards n s r) x)
      go (inl e) = omega arith
      go (inr e) = omega arith

module _ (forwards backs : Picks) (n s : ℕ) (opens : (u v : ℕ) → opens_below (forwards u v) ≤ 1024)
    (leaves : (v w : ℕ) (q : Pick) → backs v w ≡ some q → q.leaves < 1024) where
  -- nor in one step
  pub needed_first : (x : ℕ) → eqb (needed forwards backs n s (suc zero) x) 0 ≡ false
  unfolding needed
  needed_first x =
      needed_test forwards backs n s zero x
      ∙ any_none (opens_into forwards (needed forwards backs n s zero) x) (numbers n)
      (λ y m. let most = opens x y in and_right (picked (forwards x y)) (lt-leb 1025 (opens_below (forwards x y)) (omega arith)))

  -- in more steps it can where one leads on to a node where it can, or a dangerous pair to one from which the others end it
  pub needed_later : (r x : ℕ)
      → eqb (needed forwards backs n s (suc (suc r)) x) 0
      ≡ any (onward_to forwards (λ y. eqb (needed forwards backs n s (suc r) y) 0) x) (numbers n)
      || any (λ w. leads forwards backs n x w && exactly forwards n s r w) (numbers n)
  unfolding leads
  needed_later r x = needed_test forwards backs n s (suc r) x ∙ same_test _ _ to of
    where
      on : Bool
      on = any (onward_to forwards (λ y. eqb (needed forwards backs n s (suc r) y) 0) x) (numbers n)

      pair : Bool
      pair = any (λ w. leads forwards backs n x w && exactly forwards n s r w) (numbers n)

      into : Bool
      into = any (opens_into forwards (needed forwards backs n s (suc r)) x) (numbers n)

      -- a back edge comes next
      back : (y : ℕ) → y < n → needed forwards backs n s (suc r) y ≤ opens_below (forwards x y)
          → needed forwards backs n s (suc r) y ≡ suc (leaves_first backs n (exactly forwards n s r) y) → pair ≡ true
      back y l m e =
          let t = leaves_below backs n (exactly forwards n s r) y (opens_below (forwards x y)) (opens x y) (omega arith) in
          let both = dangerous_opens (forwards x y) (backs y t.0) (opens x y) (leaves y t.0) ∙ lt-ltb _ _ t.3 in
          any_numbers_of (λ w. leads forwards backs n x w && exactly forwards n s r w) n t.0 t.1
          (and_of (any_numbers_of (λ v. dangerous_picks (forwards x v) (backs v t.0)) n y l both) t.2)

      to : into ≡ true → on || pair ≡ true
      to h = go t.0 t.1 b.0 (leb-true _ _ b.1) (needed_cases forwards backs n s r t.0)
        where
          t : (y : ℕ) × (y < n) × (opens_into forwards (needed forwards backs n s (suc r)) x y ≡ true)
          t = any_numbers (opens_into forwards (needed forwards backs n s (suc r)) x) n h

          b : (picked (forwards x t.0) ≡ true) × (leb (needed forwards backs n s (suc r) t.0) (opens_below (forwards x t.0)) ≡ true)
          b = and_true _ _ t.2

          go : (y : ℕ) → y < n → picked (forwards x y) ≡ true → needed forwards backs n s (suc r) y ≤ opens_below (forwards x y)
              → (needed forwards backs n s (suc r) y ≡ 0)
              ⊎ (needed forwards backs n s (suc r) y ≡ suc (leaves_first backs n (exactly forwards n s r) y))
              → on || pair ≡ true
          go y l p m (inl e) = or_left pair (any_numbers_of (onward_to forwards _ x) n y l (and_of p (eq-eqb _ 0 e)))
          go y l p m (inr e) = or_right on (back y l m e)

      -- what a dangerous pair from x leads to is needed no further than its first edge opens
      pair_opens : (v w : ℕ) → v < n → w < n → dangerous_picks (forwards x v) (backs v w) ≡ true → exactly forwards n s r w ≡ true → into ≡ true
      pair_opens v w k l d e =
          let first = leaves_of backs n (exactly forwards n s r) v w l e in
          let below : leaves_at (backs v w) < opens_below (forwards x v) =
          ltb-true _ _ (sym (dangerous_opens (forwards x v) (backs v w) (opens x v) (leaves v w)) ∙ d) in
          let most = needed_most forwards backs n s r v in
          any_numbers_of (opens_into forwards (needed forwards backs n s (suc r)) x) n v k
          (and_of (ap picked (dangerous_some (forwards x v) (backs v w) d).2)
          (le-leb (needed forwards backs n s (suc r) v) (opens_below (forwards x v)) (omega arith)))

      of : on || pair ≡ true → into ≡ true
      of h = go (or_true on pair h)
        where
          go : (on ≡ true) ⊎ (pair ≡ true) → into ≡ true
          go (inl e) =
              let t = any_numbers (onward_to forwards (λ y. eqb (needed forwards backs n s (suc r) y) 0) x) n e in
              let b = and_true (picked (forwards x t.0)) (eqb (needed forwards backs n s (suc r) t.0) 0) t.2 in
              let nothing : needed forwards backs n s (suc r) t.0 ≡ 0 = eqb-true _ _ b.1 in
              any_numbers_of (opens_into forwards (needed forwards backs n s (suc r)) x) n t.0 t.1
              (and_of b.0 (le-leb (needed forwards backs n s (suc r) t.0) (opens_below (forwards x t.0)) (omega arith)))
          go (inr e) =
              let t = any_numbers (λ w. leads forwards backs n x w && exactly forwards n s r w) n e in
              let b = and_true (leads forwards backs n x t.0) (exactly forwards n s r t.0) t.2 in
              let v = any_numbers (λ v. dangerous_picks (forwards x v) (backs v t.0)) n b.0 in
              pair_opens v.0 t.0 v.1 t.1 v.2 b.1
