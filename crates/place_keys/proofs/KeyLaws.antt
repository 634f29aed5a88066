-- The steps of the functions: a line's part in the keys.
use mathlib.Core.Bool.{Bool, true, false, cond, not}
use mathlib.Core.List.{List}
use mathlib.Core.Path.{◌≡◌, refl, sym, ap, ◌∙◌}
use Prim.Native.Nat.{ℕ, suc, ◌+◌, ◌*◌, ◌-◌, ◌/◌, ◌%◌, ◌^◌, ◌≤◌, ◌<◌}
use native.Mathlib.Nat.{one-mul}
use native.Mathlib.Omega.{arith}
use lib.Bits.{bit_or}
use lib.Dec.{eqb}
use lib.ListN.{length, get_or}
use lib.Pow.{shl_exact}
use borrow.Author.Tests.{eq-eqb, ne_eqb, lt-ltb, le-ltb}
use Rattle.spec_base.specs.Basic.{has}
use Rattle.law_base.specs.BoolLaws.{not_true, not_false}
use Rattle.value_tables.specs.Lines.{pr_number, li_number}
use Rattle.place_laws.specs.Keys.{with_link, with_link_small}
use Rattle.place_keys.specs.LineKeys.{link_at, key_at, keys_from, place_keys}

-- a power of two that fits is not cut
pub shifted_bit : (set k : ℕ) → k < 64 → bit_or set ((1 * 2 ^ k) % 18446744073709551616) ≡ bit_or set (2 ^ k)
shifted_bit set k h = ap (bit_or set) (shl_exact {a = 1} 1 k 64 (omega arith) (omega arith) ∙ one-mul (2 ^ k))

-- the paths to a line's part: its first word is n, its child of, its parent parent, its key key
module _ (lines : List ℕ) (i child seen word n : ℕ) (en : n ≡ get_or lines (i * 8) 0) where
  pub no_link : (n ≡ li_number → ⊥) → word ≡ key_at lines i child seen word
  unfolding key_at
  no_link d = sym (rw (ne_eqb (get_or lines (i * 8) 0) li_number (λ h. d (en ∙ h))))

  module _ (d : n ≡ li_number) (of : ℕ) (eo : of ≡ get_or lines (i * 8 + 2) 0) where
    link : key_at lines i child seen word ≡ with_link child seen (link_at lines i) word
    unfolding key_at
    link = rw (eq-eqb (get_or lines (i * 8) 0) li_number (sym en ∙ d)) refl

    pub no_child : (of ≡ child → ⊥) → word ≡ key_at lines i child seen word
    unfolding with_link link_at
    no_child h = sym (link ∙ rw (ne_eqb (get_or lines (i * 8 + 2) 0) child (λ z. h (eo ∙ z))) refl)

    module _ (h : of ≡ child) (parent : ℕ) (ep : parent ≡ get_or lines (i * 8 + 3) 0) (b : Bool) (eb : b ≡ has seen parent) where
      same : eqb (get_or lines (i * 8 + 2) 0) child ≡ true
      same = eq-eqb (get_or lines (i * 8 + 2) 0) child (sym eo ∙ h)

      pub not_seen : not b ≡ true → word ≡ key_at lines i child seen word
      unfolding with_link link_at
      not_seen z = sym (link ∙ rw (same, ← ep, ← eb, not_true b z) refl)

      module _ (z : not b ≡ false) (key : ℕ) (ek : key ≡ get_or lines (i * 8 + 1) 0) where
        pub no_key : 31 < key → word ≡ key_at lines i child seen word
        unfolding with_link link_at
        no_key k = sym (link ∙ rw (same, ← ep, ← eb, not_false b z, ← ek, le-ltb key 32 (omega arith)) refl)

        pub one_key : key ≤ 31 → bit_or word ((1 * 2 ^ key) % 18446744073709551616) ≡ key_at lines i child seen word
        unfolding with_link link_at
        one_key k =
            shifted_bit word key (omega arith)
            ∙ sym (link ∙ rw (same, ← ep, ← eb, not_false b z, ← ek, lt-ltb key 32 (omega arith)) refl)

-- a line of another child has no part, whatever it is
pub other_child : (lines : List ℕ) (i child seen word of : ℕ) → of ≡ get_or lines (i * 8 + 2) 0 → (of ≡ child → ⊥)
    → word ≡ key_at lines i child seen word
unfolding key_at with_link link_at
other_child lines i child seen word of eo d =
    sym (rw (ne_eqb (get_or lines (i * 8 + 2) 0) child (λ z. d (eo ∙ z))) (go (eqb (get_or lines (i * 8) 0) li_number)))
  where
    go : (b : Bool) → cond b word word ≡ word
    go true = refl
    go false = refl

-- the lines from a place on
module _ (lines : List ℕ) (child seen : ℕ) where
  pub keys_next : (n i word : ℕ) → i < n → (m : ℕ) → m ≡ get_or lines (i * 8) 0 → (m ≡ pr_number → ⊥) → (r : ℕ) → r ≡ key_at lines i child seen word
      → keys_from (n - (i + 1)) lines (i + 1) child seen r ≡ keys_from (n - i) lines i child seen word
  unfolding keys_from
  keys_next n i word h m e d r k =
      let s : n - i ≡ suc (n - (i + 1)) = omega arith in
      rw (s, k, ne_eqb (get_or lines (i * 8) 0) pr_number (λ x. d (e ∙ x))) refl

  pub keys_stop : (n i word : ℕ) → i < n → (m : ℕ) → m ≡ get_or lines (i * 8) 0 → m ≡ pr_number → word ≡ keys_from (n - i) lines i child seen word
  unfolding keys_from
  keys_stop n i word h m e d =
      let s : n - i ≡ suc (n - (i + 1)) = omega arith in
      rw (s, eq-eqb (get_or lines (i * 8) 0) pr_number (sym e ∙ d)) refl

  pub keys_end : (n i word : ℕ) → n ≤ i → word ≡ keys_from (n - i) lines i child seen word
  unfolding keys_from
  keys_end n i word h = let s : n - i ≡ 0 = omega arith in rw s refl

  -- each key stays below 32
  pub key_small : (i word r : ℕ) → r ≡ key_at lines i child seen word → word < 4294967296 → r < 4294967296
  unfolding key_at
  key_small i word r e h = rw e (go (eqb (get_or lines (i * 8) 0) li_number))
    where
      go : (b : Bool) → cond b (with_link child seen (link_at lines i) word) word < 4294967296
      go true = with_link_small child seen (link_at lines i) word h
      go false = h

-- the word of a row from its two halves
pub keys_packed : (lines : List ℕ) (first child seen marks near far : ℕ) → near ≡ keys_from (length lines / 8 - first) lines first child seen 0
    → far ≡ keys_from (length lines / 8 - first) lines first child marks 0 → near + far * 4294967296 ≡ place_keys lines first child seen marks
unfolding place_keys
keys_packed lines first child seen marks near far a b = rw (a, b) refl

-- what a line gives by each of its tests: a line that is no `li`, a link of another child, with a parent that is not seen, or by a key past 31 leaves
-- the word; any other sets its key's bit
pub ruleset line_steps = (no_link, no_child, not_seen, no_key, one_key)

-- what the lines from one on add: each line keeps this, a `pr` or the end adds nothing more, a line of another child adds nothing, and the halves
-- stand side by side, since keys are below 32
pub ruleset key_steps = (other_child, keys_next, keys_stop, keys_end, key_small, keys_packed)
