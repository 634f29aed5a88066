-- Lists of words that are filled one by one, whatever their size, and words that are written in place.
use Rattle.std.specs.Prelude.{◌≡◌, refl, length, replicate}
use Rattle.std.proofs.Common.{sym, subst, ◌∙◌, not-suc-le-zero, arith, lt-ltb, le-ltb}
use Rattle.std.proofs.Math.Path.{ap, ap₂}
use mathlib.Core.List.{List}
use Prim.Native.Nat.{ℕ, zero, suc, ◌+◌, ◌*◌, ◌≤◌, ◌<◌}
use Rattle.std.proofs.Math.Decide.{ℕ_discrete, dec_lt}
use Rattle.std.proofs.Math.Numerals.{add-one}
use Rattle.std.proofs.Math.ListN.{get_or, set, length-set, length-replicate}
use Rattle.std.proofs.Math.Seq.{get_or-set_same, get_or-set_other}
use Rattle.word_list.specs.Clear.{Cleared}
use Rattle.std.proofs.lemmas.Grind.{same_number_lists}
use Rattle.walk_nodes.specs.Nodes.{list_below}
use Rattle.walk_nodes.specs.NodeWordLaws.{list_length, list_at, list_past, zeros_at}
use Rattle.walk_reach.specs.Layers.{filled, Written, FilledBy, wide_at}

module _ (size : ℕ) (f : ℕ → ℕ) where
  -- a turn of a loop that fills the next word
  pub filled_turn : (n : ℕ) {list more : List ℕ} {x : ℕ} → list ≡ filled size f n → x ≡ f n → more ≡ set list n x → more ≡ filled size f (n + 1)
  unfolding filled
  filled_turn n p q r = rw add-one (r ∙ ap₂ (λ (l : List ℕ) (x : ℕ). set l n x) p q)

  -- there are so many words
  pub filled_length : (n : ℕ) → length (filled size f n) ≡ size
  unfolding filled
  filled_length zero = length-replicate {A = ℕ} size 0
  filled_length (suc n) = length-set (filled size f n) n (f n) ∙ filled_length n

  -- and the first n are as given
  pub filled_at : (n i : ℕ) → n ≤ size → i < n → get_or (filled size f n) i 0 ≡ f i
  unfolding filled
  filled_at zero i h l = absurd (not-suc-le-zero l)
  filled_at (suc n) i h l = go (λ k. filled_at n i (omega arith) k) (ℕ_discrete i n)
    where
      go : (i < n → get_or (filled size f n) i 0 ≡ f i) → Dec (i ≡ n) → get_or (set (filled size f n) n (f n)) i 0 ≡ f i
      go rest (yes e) =
          let long = filled_length n in
          ap (λ (k : ℕ). get_or (set (filled size f n) n (f n)) k 0) e ∙ get_or-set_same (filled size f n) n (f n) 0 (omega arith) ∙ ap f (sym e)
      go rest (no d) = get_or-set_other (filled size f n) n i (f n) 0 d ∙ rest (omega arith)

-- ---- words written in place

module _ (f : ℕ → ℕ) where
  -- none yet
  pub written_none : (from : ℕ) (words : List ℕ) → Written f from from words words
  written_none from words =
      record { size = refl; inside = λ i a b. absurd (omega arith); below = λ i h. refl; above = λ i h. refl }

  -- one word
  pub written_one : (i : ℕ) (words : List ℕ) {x : ℕ} → i < length words → x ≡ f i → Written f i (i + 1) words (set words i x)
  written_one i words {x} h e =
      record {
        size = length-set words i x;
        inside = λ k a b. let same : k ≡ i = omega arith in
            ap (λ (j : ℕ). get_or (set words i x) j 0) same ∙ get_or-set_same words i x 0 h ∙ e ∙ ap f (sym same);
        below = λ k l. get_or-set_other words i k x 0 (λ z. let no : ⊥ = omega arith in no);
        above = λ k l. get_or-set_other words i k x 0 (λ z. let no : ⊥ = omega arith in no);
      }

  -- words that are 0
  pub written_clear : {from to : ℕ} {before after : List ℕ} → ((i : ℕ) → from ≤ i → i < to → 0 ≡ f i) → Cleared from to before after
      → Written f from to before after
  written_clear z c = record { size = c.size; inside = λ i a b. c.inside i a b ∙ z i a b; below = c.below; above = c.above }

  -- some and then those that follow
  pub written_join : {from mid to : ℕ} {before between after : List ℕ} → from ≤ mid → mid ≤ to → Written f from mid before between
      → Written f mid to between after → Written f from to before after
  written_join {from} {mid} {to} {before} {between} {after} a b p q =
      record {
        size = q.size ∙ p.size;
        inside = λ i h l. go i h l (dec_lt i mid);
        below = λ i h. q.below i (omega arith) ∙ p.below i h;
        above = λ i h. q.above i h ∙ p.above i (omega arith);
      }
    where
      go : (i : ℕ) → from ≤ i → i < to → Dec (i < mid) → get_or after i 0 ≡ f i
      go i h l (yes k) = q.below i k ∙ p.inside i h k
      go i h l (no k) = q.inside i (omega arith) l

  -- one more
  pub written_turn : (from i : ℕ) {before words : List ℕ} {x : ℕ} → from ≤ i → i < length before → Written f from i before words → x ≡ f i
      → Written f from (i + 1) before (set words i x)
  written_turn from i {before} {words} {x} h l p e =
      let size = p.size in written_join (omega arith) (omega arith) p (written_one i words (omega arith) e)

  -- up to the last
  pub written_end : {from i to : ℕ} {before after : List ℕ} → i ≤ to → to ≤ i → Written f from i before after → Written f from to before after
  written_end {from} {i} {to} {before} {after} h l p =
      let same : i ≡ to = omega arith in subst (λ (k : ℕ). Written f from k before after) same p

-- ---- words that a function tells

module _ {told : ℕ → ℕ → Type 0} where
  -- where the function tells what is to be written, that is written
  pub written_by : (f : ℕ → ℕ) (n : ℕ) {before after : List ℕ} → n ≤ length before → ((i x : ℕ) → i < n → told i x → x ≡ f i)
      → FilledBy told n before after → Written f 0 n before after
  written_by f n room same p =
      record {
        size = p.size;
        inside = λ i h l. same i _ l (p.inside i l (omega arith));
        below = λ i h. absurd (not-suc-le-zero h);
        above = p.above;
      }

  -- and 64 words are filled by it
  pub rows_told : (f : ℕ → ℕ) (n : ℕ) {rows : List ℕ} → n ≤ 64 → ((i x : ℕ) → i < n → told i x → x ≡ f i) → FilledBy told n (replicate 64 0) rows
      → rows ≡ list_below f n
  rows_told f n {rows} few same p =
      same_number_lists rows (list_below f n) (p.size ∙ length-replicate {A = ℕ} 64 0 ∙ sym (list_length f n)) (λ i h. go i (dec_lt i n))
    where
      go : (i : ℕ) → Dec (i < n) → get_or rows i 0 ≡ get_or (list_below f n) i 0
      go i (yes l) = same i _ l (p.inside i l (omega (arith, length-replicate {A = ℕ} 64 0))) ∙ sym (list_at f n i few l)
      go i (no d) = p.above i (omega arith) ∙ zeros_at 64 i ∙ sym (list_past f n i (omega arith))

-- a word of a table
pub wide_inside : (wide : List ℕ) (r y : ℕ) {x : ℕ} → r < 64 → x ≡ get_or wide (r * 64 + y) 0 → x ≡ wide_at wide r y
unfolding wide_at
wide_inside wide r y h e = rw (lt-ltb r 64 h) e

pub wide_past : (wide : List ℕ) (r y : ℕ) → 64 ≤ r → 0 ≡ wide_at wide r y
unfolding wide_at
wide_past wide r y h = rw (le-ltb r 64 h) refl
