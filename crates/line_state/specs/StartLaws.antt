-- Words set to 0 are 0, also those that are set again, and those past the end.
use Rattle.std.specs.Prelude.{◌≡◌, refl, Bool, true, false, ◌||◌, List, [], ◌∷◌, ℕ, ◌≤◌, ◌<◌, eqb, ltb, length, get_or, set}
use Rattle.std.proofs.Common.{sym, ap, ◌∙◌, arith, length-set, get_or-set_same, get_or-set_other, eqb-true, ltb-true, ltb-false}
use Rattle.std.proofs.lemmas.Bool.{false≢true, eqb-false}
use Rattle.std.proofs.Math.ListN.{get_or-eq_default}
use Rattle.spec_base.specs.Basic.{any}
use Rattle.line_state.specs.StateWords.{zeroed_in, started_in}

-- a word set to 0 is 0, also where there is none
set_zero : (words : List ℕ) (p : ℕ) → get_or (set words p 0) p 0 ≡ 0
set_zero words p = go (ltb p (length words)) refl
  where
    go : (b : Bool) → ltb p (length words) ≡ b → get_or (set words p 0) p 0 ≡ 0
    go true e = get_or-set_same words p 0 0 (ltb-true p (length words) e)
    go false e =
        get_or-eq_default (set words p 0) 0 (omega (arith, ltb-false p (length words) e, length-set words p 0))

-- a word that is 0 stays 0
keeps_zero : (words : List ℕ) (q p : ℕ) → get_or words p 0 ≡ 0 → get_or (set words q 0) p 0 ≡ 0
keeps_zero words q p h = go (eqb p q) refl
  where
    go : (b : Bool) → eqb p q ≡ b → get_or (set words q 0) p 0 ≡ 0
    go true e = ap (λ m. get_or (set words m 0) p 0) (sym (eqb-true p q e)) ∙ set_zero words p
    go false e = get_or-set_other words q p 0 0 (eqb-false p q e) ∙ h

zeroed_keeps : (words places : List ℕ) (p : ℕ) → get_or words p 0 ≡ 0 → get_or (zeroed_in words places) p 0 ≡ 0
unfolding zeroed_in
zeroed_keeps words [] p h = h
zeroed_keeps words (q ∷ places) p h = zeroed_keeps (set words q 0) places p (keeps_zero words q p h)

zeroed_word : (words places : List ℕ) (p : ℕ) → any (eqb p) places ≡ true → get_or (zeroed_in words places) p 0 ≡ 0
unfolding zeroed_in
zeroed_word words [] p h = absurd (false≢true h)
zeroed_word words (q ∷ places) p h = go (eqb p q) refl h (zeroed_word (set words q 0) places p)
  where
    go : (b : Bool) → eqb p q ≡ b → b || any (eqb p) places ≡ true
        → (any (eqb p) places ≡ true → get_or (zeroed_in (set words q 0) places) p 0 ≡ 0)
        → get_or (zeroed_in (set words q 0) places) p 0 ≡ 0
    go true e k rest =
        zeroed_keeps (set words q 0) places p (ap (λ m. get_or (set words m 0) p 0) (sym (eqb-true p q e)) ∙ set_zero words p)
    go false e k rest = rest k

zeroed_size : (words places : List ℕ) → length (zeroed_in words places) ≡ length words
unfolding zeroed_in
zeroed_size words [] = refl
zeroed_size words (q ∷ places) = zeroed_size (set words q 0) places ∙ length-set words q 0

-- the words set to 0 at the start
pub started_word : (words : List ℕ) (p : ℕ)
    → any (eqb p) (96 ∷ 128 ∷ 160 ∷ 192 ∷ 224 ∷ 416 ∷ 417 ∷ 418 ∷ 419 ∷ 420 ∷ 421 ∷ 422 ∷ 423 ∷ []) ≡ true
    → get_or (started_in words) p 0 ≡ 0
unfolding started_in
started_word words = zeroed_word words (96 ∷ 128 ∷ 160 ∷ 192 ∷ 224 ∷ 416 ∷ 417 ∷ 418 ∷ 419 ∷ 420 ∷ 421 ∷ 422 ∷ 423 ∷ [])

pub started_size : (words : List ℕ) → length (started_in words) ≡ length words
unfolding started_in
started_size words = zeroed_size words (96 ∷ 128 ∷ 160 ∷ 192 ∷ 224 ∷ 416 ∷ 417 ∷ 418 ∷ 419 ∷ 420 ∷ 421 ∷ 422 ∷ 423 ∷ [])
