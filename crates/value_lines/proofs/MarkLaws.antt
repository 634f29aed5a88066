-- The paths to a mark.
use mathlib.Core.Bool.{Bool, true, false, cond, ◌&&◌}
use mathlib.Core.Path.{◌≡◌, refl, sym, ap, ◌∙◌}
use Prim.Native.Nat.{ℕ, ◌*◌, ◌%◌, ◌^◌, ◌≤◌, ◌<◌}
use native.Mathlib.Nat.{one-mul, mod-eq_of_lt}
use lib.Bits.{bit_and}
use lib.Pow.{pow-lt}
use borrow.Author.Tests.{lt-ltb, le-ltb}
use Rattle.edge_kinds.specs.Kinds.{shield_bit, kind_facts, kind_of}
use Rattle.edge_kinds.specs.KindLaws.{told, bit_clear, bit_set}
use Rattle.unfold_laws.specs.Codes.{bit_in}
use Rattle.spec_text.specs.declared.StatementKind.{StatementKind}
use Rattle.spec_graph.specs.Edge.{shields}
use Rattle.value_tables.specs.Lines.{pr_number, mark_by}

pub mark_none : (n id : ℕ) → pr_number ≤ n → 0 ≡ mark_by n id
unfolding mark_by
mark_none n id h = sym (simp (le-ltb n pr_number h))

pub mark_some : (n id x : ℕ) → n < pr_number → x ≡ bit_in (kind_of n) id → x ≡ mark_by n id
unfolding mark_by
mark_some n id x h e = e ∙ sym (simp (lt-ltb n pr_number h))

module _ (n facts : ℕ) (k : StatementKind) (e : k ≡ kind_of n) (f : facts ≡ kind_facts k) where
  pub shield_clear : bit_and facts shield_bit ≡ 0 → shields (kind_of n) ≡ false
  shield_clear h = rw (← e) (bit_clear (ap (λ (x : ℕ). bit_and x shield_bit) (sym f) ∙ h) (told k).shields)

  pub shield_set : (bit_and facts shield_bit ≡ 0 → ⊥) → shields (kind_of n) ≡ true
  shield_set h = rw (← e) (bit_set (λ z. h (ap (λ (x : ℕ). bit_and x shield_bit) f ∙ z)) (told k).shields)

pub bit_unshielding : (k : StatementKind) (id : ℕ) → shields k ≡ false → 0 ≡ bit_in k id
unfolding bit_in
bit_unshielding k id h = sym (rw h)

pub bit_large : (k : StatementKind) (id : ℕ) → 32 ≤ id → 0 ≡ bit_in k id
unfolding bit_in
bit_large k id h = sym (rw (le-ltb id 32 h) (go (shields k)))
  where
    go : (b : Bool) → cond (b && false) (2 ^ id) 0 ≡ 0
    go true = refl
    go false = refl

pub bit_small : (k : StatementKind) (id x : ℕ) → shields k ≡ true → id < 32 → x ≡ 2 ^ id → x ≡ bit_in k id
unfolding bit_in
bit_small k id x h p e = e ∙ sym (rw (h, lt-ltb id 32 p))

-- a shifted bit
pub bit_shifted : (id : ℕ) → id < 32 → (1 * 2 ^ id) % 4294967296 ≡ 2 ^ id
bit_shifted id h = rw one-mul (mod-eq_of_lt (pow-lt h))
