-- What stores leave of each array and each count.
use Rattle.std.specs.Prelude.{◌≡◌, refl, Bool, true, false, List, [], ◌∷◌, ◌⊎◌, ℕ, ◌+◌, ◌*◌, ◌-◌, ◌%◌, ◌≤◌, ◌<◌, eqb, ltb, length, get_or, set, take, drop}
use Rattle.std.proofs.Common.{sym, ap, ◌∙◌, inl, inr, arith, length-set, drop-set-lt, get_or-set_same, get_or-set_other, eqb-true, ltb-true, ltb-false}
use Rattle.std.proofs.lemmas.List.{drop-set-add, take-set-le}
use Rattle.std.proofs.Math.Seq.{take-set-lt}
use Rattle.std.proofs.lemmas.Bool.{eqb-false}
use Rattle.spec_base.specs.Basic.{all}
use Rattle.law_base.specs.BoolLaws.{and_true}
use Rattle.line_state.specs.StateSteps.{next_of}
use Rattle.line_state.specs.StateWords.{array_in, state_in}
use Rattle.line_take.specs.Stores.{Store, fits, store_in, stores_in, array_after, array_after_stores}
use Rattle.line_take.specs.Stores.{count_after, count_after_stores, state_after_stores, Took}
use Rattle.line_take.specs.Stores.Store.{cell, count, step}

-- a store below, within or above an array
array_below : (words : List ℕ) (from p v : ℕ) → p < from → array_in (set words p v) from ≡ array_in words from
unfolding array_in
array_below words from p v h = ap (take 32) (drop-set-lt from words p v h)

array_within : (words : List ℕ) (from i v : ℕ) → i < 32 → array_in (set words (from + i) v) from ≡ set (array_in words from) i v
unfolding array_in
array_within words from i v h = ap (take 32) (drop-set-add from words i v) ∙ take-set-lt 32 (drop from words) i v h

array_above : (words : List ℕ) (from p v : ℕ) → from + 32 ≤ p → array_in (set words p v) from ≡ array_in words from
unfolding array_in
array_above words from p v h =
    let e : from + (p - from) ≡ p = omega arith in
    ap (λ q. take 32 (drop from (set words q v))) (sym e)
    ∙ ap (take 32) (drop-set-add from words (p - from) v)
    ∙ take-set-le 32 (drop from words) (p - from) v (omega arith)

-- a cell of array k set, seen from array j
array_put : (words : List ℕ) (j k i v : ℕ)
    → array_in (set words (32 * k + i % 32) v) (32 * j) ≡ array_after j (array_in words (32 * j)) (cell k i v)
unfolding array_after
array_put words j k i v = go (eqb k j) refl
  where
    low : i % 32 < 32
    low = omega arith

    same : k ≡ j → array_in (set words (32 * k + i % 32) v) (32 * j) ≡ set (array_in words (32 * j)) (i % 32) v
    same e = ap (λ m. array_in (set words (32 * m + i % 32) v) (32 * j)) e ∙ array_within words (32 * j) (i % 32) v low

    other : (k < j) ⊎ (j < k) → array_in (set words (32 * k + i % 32) v) (32 * j) ≡ array_in words (32 * j)
    other (inl e) = array_below words (32 * j) (32 * k + i % 32) v (omega (arith, low))
    other (inr e) = array_above words (32 * j) (32 * k + i % 32) v (omega arith)

    sides : (b : Bool) → ltb k j ≡ b → (k ≡ j → ⊥) → (k < j) ⊎ (j < k)
    sides true e n = inl (ltb-true k j e)
    sides false e n = inr (omega (arith, ltb-false k j e, n))

    go : (d : Bool) → eqb k j ≡ d
        → array_in (set words (32 * k + i % 32) v) (32 * j)
        ≡ elim d [ true ↦ set (array_in words (32 * j)) (i % 32) v | false ↦ array_in words (32 * j) ]
    go true f = same (eqb-true k j f)
    go false f = other (sides (ltb k j) refl (eqb-false k j f))

array_store : (words : List ℕ) (j : ℕ) → j < 13 → (x : Store) → array_in (store_in words x) (32 * j) ≡ array_after j (array_in words (32 * j)) x
unfolding store_in array_after
array_store words j h (cell k i v) = array_put words j k i v
array_store words j h (count c v) = array_above words (32 * j) (416 + c) v (omega arith)
array_store words j h (step c) = array_above words (32 * j) (416 + c) (next_of (get_or words (416 + c) 0)) (omega arith)

arrays_store : (words : List ℕ) (j : ℕ) → j < 13 → (stores : List Store)
    → array_in (stores_in words stores) (32 * j) ≡ array_after_stores j (array_in words (32 * j)) stores
unfolding stores_in array_after_stores
arrays_store words j h [] = refl
arrays_store words j h (x ∷ stores) =
    arrays_store (store_in words x) j h stores ∙ ap (λ a. array_after_stores j a stores) (array_store words j h x)

-- sizes
store_size : (words : List ℕ) (x : Store) → length (store_in words x) ≡ length words
unfolding store_in
store_size words (cell k i v) = length-set words (32 * k + i % 32) v
store_size words (count c v) = length-set words (416 + c) v
store_size words (step c) = length-set words (416 + c) (next_of (get_or words (416 + c) 0))

stores_size : (words : List ℕ) (stores : List Store) → length (stores_in words stores) ≡ length words
unfolding stores_in
stores_size words [] = refl
stores_size words (x ∷ stores) = stores_size (store_in words x) stores ∙ store_size words x

-- counts
count_set : (words : List ℕ) (c b v : ℕ) → c < 8 → 424 ≤ length words
    → get_or (set words (416 + b) v) (416 + c) 0 ≡ elim (eqb b c) [ true ↦ v | false ↦ get_or words (416 + c) 0 ]
count_set words c b v h n = go (eqb b c) refl
  where
    go : (d : Bool) → eqb b c ≡ d → get_or (set words (416 + b) v) (416 + c) 0 ≡ elim d [ true ↦ v | false ↦ get_or words (416 + c) 0 ]
    go true e = ap (λ m. get_or (set words (416 + m) v) (416 + c) 0) (eqb-true b c e) ∙ get_or-set_same words (416 + c) v 0 (omega arith)
    go false e = get_or-set_other words (416 + b) (416 + c) v 0 (omega (arith, eqb-false b c e))

count_step : (words : List ℕ) (c b : ℕ) → c < 8 → 424 ≤ length words
    → get_or (set words (416 + b) (next_of (get_or words (416 + b) 0))) (416 + c) 0
    ≡ elim (eqb b c) [ true ↦ next_of (get_or words (416 + c) 0) | false ↦ get_or words (416 + c) 0 ]
count_step words c b h n = count_set words c b (next_of (get_or words (416 + b) 0)) h n ∙ go (eqb b c) refl
  where
    go : (d : Bool) → eqb b c ≡ d
        → ◌≡◌ {A = ℕ} (elim d [ true ↦ next_of (get_or words (416 + b) 0) | false ↦ get_or words (416 + c) 0 ])
        (elim d [ true ↦ next_of (get_or words (416 + c) 0) | false ↦ get_or words (416 + c) 0 ])
    go true e = ap (λ m. next_of (get_or words (416 + m) 0)) (eqb-true b c e)
    go false e = refl

count_store : (words : List ℕ) (c : ℕ) → c < 8 → 424 ≤ length words → (x : Store) → fits x ≡ true
    → get_or (store_in words x) (416 + c) 0 ≡ count_after c (get_or words (416 + c) 0) x
unfolding store_in count_after fits
count_store words c h n (cell k i v) f =
    let below = ltb-true k 13 f in
    get_or-set_other words (32 * k + i % 32) (416 + c) v 0 (omega arith)
count_store words c h n (count b v) f = count_set words c b v h n
count_store words c h n (step b) f = count_step words c b h n

counts_store : (words : List ℕ) (c : ℕ) → c < 8 → 424 ≤ length words → (stores : List Store) → all fits stores ≡ true
    → get_or (stores_in words stores) (416 + c) 0 ≡ count_after_stores c (get_or words (416 + c) 0) stores
unfolding stores_in count_after_stores
counts_store words c h n [] f = refl
counts_store words c h n (x ∷ stores) f =
    let both = and_true (fits x) (all fits stores) f in
    counts_store (store_in words x) c h (omega (arith, store_size words x)) stores both.1
    ∙ ap (λ m. count_after_stores c m stores) (count_store words c h n x both.0)

-- the state after stores
stores_state : (words : List ℕ) (stores : List Store) → 424 ≤ length words → all fits stores ≡ true
    → state_in (stores_in words stores) ≡ state_after_stores (state_in words) stores
unfolding state_in state_after_stores
stores_state words stores n f =
    let number : (c : ℕ) → c < 8 → get_or (stores_in words stores) (416 + c) 0 ≡ count_after_stores c (get_or words (416 + c) 0) stores =
    λ c h. counts_store words c h n stores f in
    let array : (j : ℕ) → j < 13 → array_in (stores_in words stores) (32 * j) ≡ array_after_stores j (array_in words (32 * j)) stores =
    λ j h. arrays_store words j h stores in
    λ q. record {
      lines = number 4 (omega arith) q;
      programs = number 5 (omega arith) q;
      body = number 0 (omega arith) q;
      links = number 1 (omega arith) q;
      tables =
          record {
            relations = number 6 (omega arith) q;
            sets = array 0 (omega arith) q;
            keys = number 7 (omega arith) q;
            children = array 1 (omega arith) q;
            parents = array 2 (omega arith) q;
          };
      stack =
          record {
            depth = number 2 (omega arith) q;
            places = array 3 (omega arith) q;
            parts = array 4 (omega arith) q;
            loops = array 5 (omega arith) q;
            firsts = array 6 (omega arith) q;
            seconds = array 7 (omega arith) q;
          };
      statements =
          record {
            count = number 3 (omega arith) q;
            relations = array 8 (omega arith) q;
            parental = array 9 (omega arith) q;
            loops = array 10 (omega arith) q;
            firsts = array 11 (omega arith) q;
            seconds = array 12 (omega arith) q;
          };
    }

pub took_stores : (before : List ℕ) (stores : List Store) {after : List ℕ} → all fits stores ≡ true → after ≡ stores_in before stores
    → Took before after (state_after_stores (state_in before) stores)
took_stores before stores f e =
    record {
      size = ap length e ∙ stores_size before stores;
      state = λ n. ap state_in e ∙ stores_state before stores n f;
    }
