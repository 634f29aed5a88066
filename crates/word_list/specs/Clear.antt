-- Words set to 0.
use Rattle.std.specs.Prelude.{Bool, true, false, List, ◌≡◌, refl, ℕ, ◌+◌, ◌-◌, ◌≤◌, ◌<◌, eqb, ltb, length, get_or, set, min, replicate}
use Rattle.std.proofs.Common.{ap, ◌∙◌, arith, length-set, get_or-set_same, get_or-set_other, eqb-true, ltb-true, ltb-false}
use borrow.Rule.Slice.PartMut.{put_mid}
use Rattle.std.proofs.Common.{rules}
use Rattle.std.proofs.lemmas.List.{places}
use Rattle.std.proofs.Math.ListN.{get_or-eq_default}
use Rattle.std.proofs.lemmas.Bool.{eqb-false}

-- the words from one to another are 0, the others as before
pub record Cleared (from to : ℕ) (before after : List ℕ) : Type 0 where
  pub size : length after ≡ length before
  pub inside : (p : ℕ) → from ≤ p → p < to → get_or after p 0 ≡ 0
  pub below : (p : ℕ) → p < from → get_or after p 0 ≡ get_or before p 0
  pub above : (p : ℕ) → to ≤ p → get_or after p 0 ≡ get_or before p 0

pub cleared_none : (words : List ℕ) (from : ℕ) → Cleared from from words words
cleared_none words from =
    record {
      size = refl;
      inside = λ p a b. absurd (omega arith);
      below = λ p h. refl;
      above = λ p h. refl;
    }

-- one word more
pub cleared_more : {from i : ℕ} {before after : List ℕ} → Cleared from i before after → from ≤ i → i < length before
    → Cleared from (i + 1) before (set after i 0)
cleared_more {from} {i} {before} {after} c h n =
    let size = c.size in
    record {
      size = length-set after i 0 ∙ size;
      inside = λ p a b. inner p a b (eqb p i) refl;
      below = λ p a. get_or-set_other after i p 0 0 (omega arith) ∙ c.below p a;
      above = λ p a. get_or-set_other after i p 0 0 (omega arith) ∙ c.above p (omega arith);
    }
  where
    inner : (p : ℕ) → from ≤ p → p < i + 1 → (d : Bool) → eqb p i ≡ d → get_or (set after i 0) p 0 ≡ 0
    inner p a b true e =
        let size = c.size in
        ap (λ m. get_or (set after i 0) m 0) (eqb-true p i e) ∙ get_or-set_same after i 0 0 (omega arith)
    inner p a b false e =
        get_or-set_other after i p 0 0 (eqb-false p i e) ∙ c.inside p a (omega (arith, eqb-false p i e))

-- up to the last word asked for, or none where there is none to clear
pub cleared_end : {from i to : ℕ} {before after : List ℕ} → from ≤ i → i - from ≤ to - from → to ≤ i → Cleared from i before after
    → Cleared from to before after
cleared_end {from} {i} {to} {before} {after} a h k c =
    record {
      size = c.size;
      inside = λ p x y. c.inside p x (omega arith);
      below = c.below;
      above = λ p x. rest p x (ltb p i) refl;
    }
  where
    rest : (p : ℕ) → to ≤ p → (d : Bool) → ltb p i ≡ d → get_or after p 0 ≡ get_or before p 0
    rest p x true e = c.below p (omega (arith, ltb-true p i e))
    rest p x false e = c.above p (ltb-false p i e)

-- past the last word there is
pub cleared_past : {from i to : ℕ} {before after : List ℕ} → length after ≤ i → i < to → Cleared from i before after → Cleared from to before after
cleared_past {from} {i} {to} {before} {after} n h c =
    record {
      size = c.size;
      inside = λ p x y. rest p x (ltb p i) refl;
      below = c.below;
      above = λ p x. c.above p (omega arith);
    }
  where
    rest : (p : ℕ) → from ≤ p → (d : Bool) → ltb p i ≡ d → get_or after p 0 ≡ 0
    rest p x true e = c.inside p x (ltb-true p i e)
    rest p x false e = get_or-eq_default after 0 (omega (arith, ltb-false p i e))

-- a part filled with zeros, from one place up to the other or the last word there is
pub cleared_fill : (from to end : ℕ) (words part : List ℕ) → end ≡ min to (length words) → from < end → part ≡ replicate (end - from) 0
    → Cleared from to words (put_mid from (end - from) words part)
cleared_fill from to end words part e h f =
    record {
      size = rw f (search (rules, places));
      inside = λ p a b. inner p a b (ltb p end) refl;
      below = λ p a. rw f (search (rules, places));
      above = λ p a. rw f (grind (arith, places));
    }
  where
    inner : (p : ℕ) → from ≤ p → p < to → (d : Bool) → ltb p end ≡ d → get_or (put_mid from (end - from) words part) p 0 ≡ 0
    inner p a b true l = let under : p < end = ltb-true p end l in rw f (grind (arith, places))
    inner p a b false l =
        let past : end ≤ p = ltb-false p end l in
        let long : length (put_mid from (end - from) words part) ≡ length words = rw f (search (rules, places)) in
        get_or-eq_default (put_mid from (end - from) words part) 0 (omega arith)
