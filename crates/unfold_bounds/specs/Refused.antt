-- S22, S20: the refusal of totals over an area with so much room, or none.
use Rattle.std.specs.Prelude.{Bool, cond, ◌||◌, ◌≡◌, ℕ, ◌≤◌, ◌<◌, ltb, Option, Some, None}
use Rattle.std.proofs.Math.Bool.{true, false}
use Rattle.std.proofs.Math.Path.{refl, sym, ap}
use borrow.Author.Tests.{lt-ltb, le-ltb}
use Rattle.refusal.specs.declared.Fault.{Fault}
use Rattle.refusal.specs.declared.Fault.TheVariants.{Area, Unfoldings}
use Rattle.unfold_laws.specs.declared.UnfoldingTotals.{UnfoldingTotals}

-- more than 64 unfoldings, or more than 512 statements in them
unfoldable pub many_in : UnfoldingTotals → Bool
many_in t = ltb 64 t.count || ltb 512 t.statements

abbrev refusal_by : Bool → Bool → Option Fault
refusal_by many short = cond many (Some Unfoldings) (cond short (Some Area) None)

unfoldable pub refused_by : UnfoldingTotals → ℕ → Option Fault
refused_by t room = cond (many_in t) (Some Unfoldings) (cond (ltb room t.statements) (Some Area) None)

-- ---- the paths to a refusal

module _ (t : UnfoldingTotals) (room : ℕ) where
  pub many_nodes : 64 < t.count → Some Unfoldings ≡ refused_by t room
  unfolding refused_by many_in
  many_nodes h = sym (simp (lt-ltb 64 t.count h))

  pub many_statements : 512 < t.statements → Some Unfoldings ≡ refused_by t room
  unfolding refused_by many_in
  many_statements h = sym (rw (lt-ltb 512 t.statements h) (go (ltb 64 t.count)))
    where
      go : (b : Bool) → refusal_by (b || true) (ltb room t.statements) ≡ Some Unfoldings
      go true = refl
      go false = refl

  module _ (p : t.count ≤ 64) (q : t.statements ≤ 512) where
    pub short_room : room < t.statements → Some Area ≡ refused_by t room
    unfolding refused_by many_in
    short_room s = sym (simp (le-ltb 64 t.count p, le-ltb 512 t.statements q, lt-ltb room t.statements s))

    pub none_refused : t.statements ≤ room → None ≡ refused_by t room
    unfolding refused_by many_in
    none_refused s = sym (simp (le-ltb 64 t.count p, le-ltb 512 t.statements q, le-ltb room t.statements s))

-- ---- what a refusal tells

-- a refusal is 22 where there are too many, and else 20
pub refused_cases : {B : Type 0} (t : UnfoldingTotals) (room : ℕ) (f : Fault → B) (x : B) (fault : Fault) → refused_by t room ≡ Some fault
    → f fault ≡ cond (many_in t) (f Unfoldings) (cond (ltb room t.statements) (f Area) x)
unfolding refused_by
refused_cases {B} t room f x fault = go (many_in t) (ltb room t.statements)
  where
    go : (a b : Bool) → refusal_by a b ≡ Some fault → f fault ≡ cond a (f Unfoldings) (cond b (f Area) x)
    go true b h = let same : fault ≡ Unfoldings = cc in ap f same
    go false true h = let same : fault ≡ Area = cc in ap f same
    go false false h = cc

-- and where there is none there are not too many, and there is room
pub record Passed (t : UnfoldingTotals) (room : ℕ) : Type 0 where
  pub few : many_in t ≡ false
  pub room_left : ltb room t.statements ≡ false

pub passed : (t : UnfoldingTotals) (room : ℕ) → refused_by t room ≡ None → Passed t room
unfolding refused_by
passed t room h = go (many_in t) (ltb room t.statements) refl refl h
  where
    go : (a b : Bool) → many_in t ≡ a → ltb room t.statements ≡ b → refusal_by a b ≡ None → Passed t room
    go true b p q z = let never : ⊥ = cc in absurd never
    go false true p q z = let never : ⊥ = cc in absurd never
    go false false p q z = record { few = p; room_left = q }
