-- Words and lists that are filled one by one, the word of one node, and the rows of a table.
use Rattle.std.specs.Prelude.{◌≡◌, Bool, true, false, cond, ◌||◌, List, ◌⊎◌, eqb, ltb, length, get_or, set, replicate, take}
use Rattle.std.proofs.Math.Path.{refl, sym, ap}
use Rattle.std.proofs.Common.{ap₂, ◌∙◌, inl, inr, one-mul, mod-eq_of_lt, not-suc-le-zero, add-one}
use Rattle.std.proofs.Common.{length-set, length-take, shr-shr, get_or-set_same, get_or-set_other, get_or-take}
use Prim.Native.Nat.{ℕ, zero, suc, ◌+◌, ◌-◌, ◌*◌, ◌/◌, ◌%◌, ◌^◌, ◌≤◌, ◌<◌, min}
use Rattle.std.proofs.Math.Nat.{zero-div}
use Rattle.std.proofs.Math.Bool.{or-false}
use Rattle.std.proofs.Math.Decide.{dec_lt}
use native.Mathlib.Omega.{arith}
use Rattle.std.specs.Int.Bits.{bit_and, bit_or}
use Rattle.std.proofs.lemmas.List.{length-replicate}
use Rattle.std.proofs.Math.ListN.{get_or-eq_default}
use Rattle.std.proofs.Math.Pow.{pow-lt}
use borrow.Author.Tests.{eqb-true, eqb-false, ltb-false, eq-eqb, ne_eqb, lt-ltb}
use Rattle.spec_base.specs.Basic.{has, meets}
use Rattle.law_base.specs.BoolLaws.{decide, true_false, not_of_false, not_of_true}
use Rattle.law_base.specs.SetLaws.{has_empty, has_equal, has_bit_or, has_bit, meets_empty}
use Rattle.walk_nodes.specs.Nodes.{with_node, word_below, list_below, rows_in, node_word, enters_at, nodes_into}

-- ---- turn by turn

-- one bit, shifted
pub bit_shifted : (k : ℕ) → k < 64 → 1 * 2 ^ k % 18446744073709551616 ≡ 2 ^ k
bit_shifted k h = rw one-mul (mod-eq_of_lt (pow-lt h))

-- a node that is one of the 64 is put into a word
pub with_one : (word k : ℕ) (b : Bool) {more : ℕ} → k < 64 → more ≡ cond b (bit_or word (node_word k)) word → more ≡ with_node word b k
unfolding node_word with_node
with_one word k b h e = e ∙ ap (λ (c : Bool). cond b (bit_or word (cond c (2 ^ k) 0)) word) (lt-ltb k 64 h)

-- a turn of a loop that fills a word
pub word_turn : (test : ℕ → Bool) (k : ℕ) {word more : ℕ} {b : Bool} → word ≡ word_below test k → b ≡ test k → more ≡ with_node word b k
    → more ≡ word_below test (k + 1)
unfolding word_below
word_turn test k p q r = rw add-one (r ∙ ap₂ (λ (w : ℕ) (b : Bool). with_node w b k) p q)

-- a turn of a loop that fills a list
pub list_turn : (f : ℕ → ℕ) (k : ℕ) {list more : List ℕ} {x : ℕ} → list ≡ list_below f k → x ≡ f k → more ≡ set list k x
    → more ≡ list_below f (k + 1)
unfolding list_below
list_turn f k p q r = rw add-one (r ∙ ap₂ (λ (l : List ℕ) (x : ℕ). set l k x) p q)

-- the end of a loop over the numbers below n
pub last_turn : {A : Type 0} (f : ℕ → A) (n k : ℕ) {x : A} → x ≡ f k → k ≤ n → n ≤ k → x ≡ f n
last_turn f n k e h l = let same : k ≡ n = omega arith in e ∙ ap f same

-- ---- what they hold

with_same : (word : ℕ) (b : Bool) (j : ℕ) → has (with_node word b j) j ≡ has word j || b
unfolding with_node
with_same word true j = has_bit_or word (2 ^ j) j ∙ ap (λ (c : Bool). has word j || c) (has_bit j j ∙ eq-eqb j j refl)
with_same word false j = sym (or-false (has word j))

with_other : (word : ℕ) (b : Bool) (j k : ℕ) → (k ≡ j → ⊥) → has (with_node word b j) k ≡ has word k
unfolding with_node
with_other word true j k h =
    has_bit_or word (2 ^ j) k ∙ ap (λ (c : Bool). has word k || c) (has_bit j k ∙ ne_eqb k j h) ∙ or-false (has word k)
with_other word false j k h = refl

module _ (test : ℕ → Bool) where
  -- a word filled so has no number from n on
  pub word_out : (n k : ℕ) → n ≤ k → has (word_below test n) k ≡ false
  unfolding word_below
  word_out zero k h = has_empty k
  word_out (suc n) k h = with_other (word_below test n) (test n) n k (λ e. let z : ⊥ = omega arith in z) ∙ word_out n k (omega arith)

  -- and of the numbers below n those that pass the test
  pub word_in : (n k : ℕ) → k < n → has (word_below test n) k ≡ test k
  unfolding word_below
  word_in zero k h = absurd (not-suc-le-zero h)
  word_in (suc n) k h = go (word_in n k) (decide (eqb k n))
    where
      go : (k < n → has (word_below test n) k ≡ test k) → (eqb k n ≡ true) ⊎ (eqb k n ≡ false)
          → has (with_node (word_below test n) (test n) n) k ≡ test k
      go rest (inl e) =
          let same : n ≡ k = sym (eqb-true k n e) in
          ap (λ (i : ℕ). has (with_node (word_below test n) (test n) n) i) (sym same) ∙ with_same (word_below test n) (test n) n
          ∙ ap (λ (c : Bool). c || test n) (word_out n n (omega arith)) ∙ ap test same
      go rest (inr e) =
          let apart = eqb-false k n e in with_other (word_below test n) (test n) n k apart ∙ rest (omega arith)

  -- so what it has is below n
  pub word_inside : (n k : ℕ) → has (word_below test n) k ≡ true → k < n
  word_inside n k h = go (dec_lt k n)
    where
      go : Dec (k < n) → k < n
      go (yes l) = l
      go (no d) = absurd (true_false h (word_out n k (omega arith)))

  -- none where none passes
  pub word_none : ((k : ℕ) → test k ≡ false) → (n : ℕ) → word_below test n ≡ 0
  unfolding word_below with_node
  word_none none zero = refl
  word_none none (suc n) = rw (none n) (word_none none n)

-- past a number from which on none passes it stays as it is
pub word_rest : (test : ℕ → Bool) (n m : ℕ) → n ≤ m → ((k : ℕ) → n ≤ k → k < m → test k ≡ false) → word_below test n ≡ word_below test m
word_rest test n m h none = has_equal (word_below test n) (word_below test m) (λ k. go k (dec_lt k n) (dec_lt k m))
  where
    go : (k : ℕ) → Dec (k < n) → Dec (k < m) → has (word_below test n) k ≡ has (word_below test m) k
    go k (yes l) i = word_in test n k l ∙ sym (word_in test m k (omega arith))
    go k (no d) (yes i) = word_out test n k (omega arith) ∙ sym (none k (omega arith) i) ∙ sym (word_in test m k i)
    go k (no d) (no e) = word_out test n k (omega arith) ∙ sym (word_out test m k (omega arith))

-- the union of two such words has the numbers that pass either test
pub word_or : (p q r : ℕ → Bool) (n : ℕ) → ((k : ℕ) → r k ≡ p k || q k) → bit_or (word_below p n) (word_below q n) ≡ word_below r n
word_or p q r n same =
    has_equal (bit_or (word_below p n) (word_below q n)) (word_below r n) (λ k. has_bit_or (word_below p n) (word_below q n) k ∙ go k (dec_lt k n))
  where
    go : (k : ℕ) → Dec (k < n) → has (word_below p n) k || has (word_below q n) k ≡ has (word_below r n) k
    go k (yes l) = ap₂ (λ (a b : Bool). a || b) (word_in p n k l) (word_in q n k l) ∙ sym (same k) ∙ sym (word_in r n k l)
    go k (no d) =
        let l : n ≤ k = omega arith in
        ap₂ (λ (a b : Bool). a || b) (word_out p n k l) (word_out q n k l) ∙ sym (word_out r n k l)

-- a list filled so has 64 words
pub list_length : (f : ℕ → ℕ) (n : ℕ) → length (list_below f n) ≡ 64
unfolding list_below
list_length f zero = length-replicate {A = ℕ} 64 0
list_length f (suc n) = length-set (list_below f n) n (f n) ∙ list_length f n

-- and holds what was given
pub list_at : (f : ℕ → ℕ) (n i : ℕ) → n ≤ 64 → i < n → get_or (list_below f n) i 0 ≡ f i
unfolding list_below
list_at f zero i h l = absurd (not-suc-le-zero l)
list_at f (suc n) i h l = go (λ k. list_at f n i (omega arith) k) (decide (eqb i n))
  where
    go : (i < n → get_or (list_below f n) i 0 ≡ f i) → (eqb i n ≡ true) ⊎ (eqb i n ≡ false) → get_or (set (list_below f n) n (f n)) i 0 ≡ f i
    go rest (inl e) =
        let same : n ≡ i = sym (eqb-true i n e) in
        let long = list_length f n in
        ap (λ (k : ℕ). get_or (set (list_below f n) n (f n)) k 0) (sym same) ∙ get_or-set_same (list_below f n) n (f n) 0 (omega arith) ∙ ap f same
    go rest (inr e) =
        let apart = eqb-false i n e in get_or-set_other (list_below f n) n i (f n) 0 apart ∙ rest (omega arith)

-- a word of a list of zeros
pub zeros_at : (n i : ℕ) → get_or {A = ℕ} (replicate n 0) i 0 ≡ 0
zeros_at zero i = refl
zeros_at (suc n) zero = refl
zeros_at (suc n) (suc i) = zeros_at n i

-- past that its words are 0
pub list_past : (f : ℕ → ℕ) (n i : ℕ) → n ≤ i → get_or (list_below f n) i 0 ≡ 0
unfolding list_below
list_past f zero i h = zeros_at 64 i
list_past f (suc n) i h =
    get_or-set_other (list_below f n) n i (f n) 0 (λ e. let z : ⊥ = omega arith in z) ∙ list_past f n i (omega arith)

-- the first n words alone hold it too, where what is past them is 0
pub rows_at : (f : ℕ → ℕ) (n : ℕ) → n ≤ 64 → (i : ℕ) → (n ≤ i → f i ≡ 0) → get_or (take n (list_below f n)) i 0 ≡ f i
rows_at f n h i none = go (dec_lt i n)
  where
    go : Dec (i < n) → get_or (take n (list_below f n)) i 0 ≡ f i
    go (yes l) = get_or-take n (list_below f n) i 0 l ∙ list_at f n i h l
    go (no d) =
        let long = length-take n (list_below f n) in
        get_or-eq_default (take n (list_below f n)) 0 (omega arith) ∙ sym (none (omega arith))

-- a word has no node from one on where none is left of it past that many
pub has_high : (word y k : ℕ) → word / 2 ^ y ≡ 0 → y ≤ k → has word k ≡ false
has_high word y k e h =
    let parts : k ≡ y + (k - y) = omega arith in
    ap (λ (j : ℕ). has word j) parts
    ∙ ap (λ (x : ℕ). eqb (x % 2) 1) (sym (shr-shr word y (k - y)) ∙ ap (λ (x : ℕ). x / 2 ^ (k - y)) e ∙ zero-div (2 ^ (k - y)))

-- ---- words that meet

-- words that do not meet, and words that do
pub meets_none : (x y : ℕ) → bit_and x y ≡ 0 → meets x y ≡ false
meets_none x y e = not_of_true (eq-eqb (bit_and x y) 0 e)

pub meets_some : (x y : ℕ) → (bit_and x y ≡ 0 → ⊥) → meets x y ≡ true
meets_some x y h = not_of_false (ne_eqb (bit_and x y) 0 h)

-- ---- rows of a table

-- a table has so many rows
pub rows_few : (n : ℕ) → n < 4096 → (n + 63) / 64 ≡ min ((n + 63) / 64) 64
rows_few n h = omega arith

pub rows_most : (n : ℕ) → 4096 ≤ n → 64 ≡ min ((n + 63) / 64) 64
rows_most n h = omega arith

pub rows_bound : (table : List ℕ) → rows_in table ≤ 64
unfolding rows_in
rows_bound table = omega arith

-- the end of the loop over the rows that are there
pub into_end : (rows : List ℕ) (nodes : ℕ) {word k n : ℕ} → n ≡ min (length rows) 64 → word ≡ word_below (enters_at rows nodes) k → k ≤ n → n ≤ k
    → word ≡ nodes_into rows nodes
unfolding nodes_into enters_at
into_end rows nodes {word} {k} {n} m e h l =
    e ∙ go (dec_lt (length rows) 64)
  where
    past : (x : ℕ) → length rows ≤ x → meets (get_or rows x 0) nodes ≡ false
    past x i = ap (λ (w : ℕ). meets w nodes) (get_or-eq_default rows 0 i) ∙ meets_empty nodes

    go : Dec (length rows < 64) → word_below (enters_at rows nodes) k ≡ word_below (enters_at rows nodes) 64
    go (yes i) = word_rest (enters_at rows nodes) k 64 (omega arith) (λ x j small. past x (omega arith))
    go (no i) = let same : k ≡ 64 = omega arith in ap (word_below (enters_at rows nodes)) same

-- ---- one node

-- the word of a node has it, where it is one of the 64
pub first_has : (u w : ℕ) → w < 64 → has (node_word u) w ≡ eqb w u
unfolding node_word
first_has u w h = go (decide (ltb u 64))
  where
    go : (ltb u 64 ≡ true) ⊎ (ltb u 64 ≡ false) → has (node_word u) w ≡ eqb w u
    go (inl e) = rw e (has_bit u w)
    go (inr e) = let l = ltb-false u 64 e in rw e (has_empty w ∙ sym (ne_eqb w u (λ same. let z : ⊥ = omega arith in z)))
