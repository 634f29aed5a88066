-- The tables filled pair after pair hold the greatest words, and the edges counted row after row are those of the table.
use Rattle.std.specs.Prelude.{◌≡◌, Bool, true, false, cond, ◌&&◌, ◌⊎◌, eqb, ltb, length, get_or, set}
use Rattle.std.proofs.Math.Path.{refl, sym, ap, ap₂, fun_ext}
use Rattle.std.proofs.Common.{◌∙◌, inl, inr, le_antisymm, not-suc-le-zero, le_of_suc-le-suc, add-zero, zero-add, suc-add, add-suc, length-set}
use Rattle.std.proofs.Common.{length-append, get_or-set_same, get_or-set_other, ext_get_or, eqb-true, eq-eqb, ltb-true, ltb-false}
use Rattle.std.proofs.Common.{lt-ltb}
use mathlib.Core.List.{List, [], ◌∷◌, ◌++◌, map, flat_map}
use Prim.Native.Nat.{ℕ, zero, suc, ◌+◌, ◌*◌, ◌/◌, ◌%◌, ◌≤◌, ◌<◌, max}
use native.Mathlib.Omega.{arith}
use Rattle.std.proofs.Math.ListN.{length-replicate, get_or-replicate}
use Rattle.std.proofs.lemmas.List.{length-map}
use Rattle.std.proofs.lemmas.Bool.{eqb-false}
use Rattle.spec_base.specs.Basic.{count, numbers, numbers_from}
use Rattle.law_base.specs.BoolLaws.{decide, same_test, and_true, and_of}
use Rattle.law_base.specs.ListLaws.{count_append, length_numbers}
use Rattle.spec_graph.specs.Graph as G
use Rattle.spec_graph.specs.Edge as E
use Rattle.place_row.specs.declared.Row.{Row}
use Rattle.place_row.specs.RowTable.{row_at, row_count, row_forward, row_back, row_edge, row_edges, table_rows, edges_of_rows}
use Rattle.law_base.specs.FlatLaws.{flat_map_map}
use Rattle.edge_count.specs.Slots.{table_edges, table_counts, pair_counts}
use Rattle.walk_pick.specs.Picks.{row_forward_word, row_back_word, greatest, stands_in, word_for, between, words_between}
use Rattle.walk_pick.specs.PickSteps.{kept_at, has_entries, kept_between, kept_pair, kept_row, kept_rows, sum_below, edges_at, back_at, row_sum}
use Rattle.walk_pick.specs.PickSteps.{rows_sum}
use Rattle.walk_pick.specs.PickSteps.{Tables, RowKept, RowsKept, RowsAdded}

-- ---- the greatest of one number more

greatest_from : {A : Type 0} (f : A → ℕ) (g : ℕ → A) (a n : ℕ)
    → greatest f (map g (numbers_from a (suc n))) ≡ max (greatest f (map g (numbers_from a n))) (f (g (a + n)))
unfolding greatest
greatest_from f g a zero = ap (λ (k : ℕ). max (f (g k)) 0) (sym (add-zero a)) ∙ omega arith
greatest_from f g a (suc n) =
    let h = greatest_from f g (suc a) n in
    let e = ap (λ (k : ℕ). f (g k)) (suc-add a n ∙ sym (add-suc a n)) in
    omega arith

greatest_next : {A : Type 0} (f : A → ℕ) (g : ℕ → A) (n : ℕ)
    → greatest f (map g (numbers (suc n))) ≡ max (greatest f (map g (numbers n))) (f (g n))
greatest_next f g n =
    greatest_from f g 0 n ∙ ap (λ (k : ℕ). max (greatest f (map g (numbers n))) (f (g k))) (zero-add n)

-- ---- one pair

-- a word that is kept
pub kept_at_lem : (words : List ℕ) (x y word : ℕ) → x < length words
    → get_or (kept_at words x word) y 0 ≡ max (get_or words y 0) (cond (eqb x y) word 0)
unfolding kept_at
kept_at_lem words x y word h = go (decide (eqb x y)) (decide (ltb (get_or words x 0) word))
  where
    go : (eqb x y ≡ true) ⊎ (eqb x y ≡ false) → (ltb (get_or words x 0) word ≡ true) ⊎ (ltb (get_or words x 0) word ≡ false)
        → get_or (cond (ltb (get_or words x 0) word) (set words x word) words) y 0 ≡ max (get_or words y 0) (cond (eqb x y) word 0)
    go (inl e) (inl l) =
        let same = eqb-true x y e in
        let less = ltb-true (get_or words x 0) word l in
        let there = ap (λ (k : ℕ). get_or words k 0) same in
        rw (e, l) (ap (λ (k : ℕ). get_or (set words x word) k 0) (sym same) ∙ get_or-set_same words x word 0 h ∙ omega arith)
    go (inl e) (inr l) =
        let same = eqb-true x y e in
        let more = ltb-false (get_or words x 0) word l in
        let there = ap (λ (k : ℕ). get_or words k 0) same in
        rw (e, l) (omega arith)
    go (inr e) (inl l) =
        let apart = eqb-false x y e in
        rw (e, l) (get_or-set_other words x y word 0 (λ q. apart (sym q)) ∙ omega arith)
    go (inr e) (inr l) = rw (e, l) (omega arith)

pub kept_length : (words : List ℕ) (x word : ℕ) → length (kept_at words x word) ≡ length words
unfolding kept_at
kept_length words x word = go (ltb (get_or words x 0) word)
  where
    go : (b : Bool) → length (cond b (set words x word) words) ≡ length words
    go true = length-set words x word
    go false = refl

pub between_length : (limit : ℕ) (p q : Row) (words : List ℕ) (word : ℕ) → length (kept_between limit p q words word) ≡ length words
unfolding kept_between
between_length limit p q words word = go (has_entries limit p && has_entries 64 q)
  where
    go : (b : Bool) → length (cond b (kept_at words (p.node * 64 + q.node) word) words) ≡ length words
    go true = kept_length words (p.node * 64 + q.node) word
    go false = refl

-- the two rows are of the nodes whose entry stands at y
cell_same : (limit : ℕ) (p q : Row) (y : ℕ) → y < limit * 64
    → stands_in (y / 64) p && stands_in (y % 64) q ≡ (has_entries limit p && has_entries 64 q) && eqb (p.node * 64 + q.node) y
unfolding stands_in has_entries
cell_same limit p q y h = same_test _ _ to of
  where
    to : (eqb p.node (y / 64) && ltb p.place 1024) && (eqb q.node (y % 64) && ltb q.place 1024) ≡ true
        → ((ltb p.node limit && ltb p.place 1024) && (ltb q.node 64 && ltb q.place 1024)) && eqb (p.node * 64 + q.node) y ≡ true
    to e =
        let both = and_true _ _ e in
        let left = and_true _ _ both.0 in
        let right = and_true _ _ both.1 in
        let u = eqb-true p.node (y / 64) left.0 in
        let v = eqb-true q.node (y % 64) right.0 in
        and_of (and_of (and_of (lt-ltb p.node limit (omega arith)) left.1) (and_of (lt-ltb q.node 64 (omega arith)) right.1))
        (eq-eqb (p.node * 64 + q.node) y (omega arith))

    of : ((ltb p.node limit && ltb p.place 1024) && (ltb q.node 64 && ltb q.place 1024)) && eqb (p.node * 64 + q.node) y ≡ true
        → (eqb p.node (y / 64) && ltb p.place 1024) && (eqb q.node (y % 64) && ltb q.place 1024) ≡ true
    of e =
        let all = and_true _ _ e in
        let both = and_true _ _ all.0 in
        let left = and_true (ltb p.node limit) (ltb p.place 1024) both.0 in
        let right = and_true _ _ both.1 in
        let v = ltb-true q.node 64 right.0 in
        let x = eqb-true (p.node * 64 + q.node) y all.1 in
        and_of (and_of (eq-eqb p.node (y / 64) (omega arith)) left.1) (and_of (eq-eqb q.node (y % 64) (omega arith)) right.1)

-- a pair whose word is kept
pair_at : (limit : ℕ) (word : Row → Row → ℕ) (p q : Row) (words : List ℕ) (y : ℕ) → length words ≡ limit * 64 → y < limit * 64
    → get_or (kept_pair limit word p q words) y 0 ≡ max (get_or words y 0) (word_for word (y / 64) (y % 64) p q)
unfolding kept_between word_for has_entries
pair_at limit word p q words y long h = go (decide (has_entries limit p && has_entries 64 q))
  where
    go : (has_entries limit p && has_entries 64 q ≡ true) ⊎ (has_entries limit p && has_entries 64 q ≡ false)
        → get_or (cond (has_entries limit p && has_entries 64 q) (kept_at words (p.node * 64 + q.node) (word p q)) words) y 0
        ≡ max (get_or words y 0) (cond (stands_in (y / 64) p && stands_in (y % 64) q) (word p q) 0)
    go (inl e) =
        let both = and_true (has_entries limit p) (has_entries 64 q) e in
        let u = ltb-true p.node limit (and_true _ _ both.0).0 in
        let v = ltb-true q.node 64 (and_true _ _ both.1).0 in
        rw e (kept_at_lem words (p.node * 64 + q.node) y (word p q) (omega arith)
        ∙ ap (λ (b : Bool). max (get_or words y 0) (cond b (word p q) 0))
        (sym (cell_same limit p q y h ∙ ap (λ (b : Bool). b && eqb (p.node * 64 + q.node) y) e)))
    go (inr e) =
        rw e (let none : max (get_or words y 0) 0 ≡ get_or words y 0 = omega arith in
        sym none ∙ ap (λ (b : Bool). max (get_or words y 0) (cond b (word p q) 0))
        (sym (cell_same limit p q y h ∙ ap (λ (b : Bool). b && eqb (p.node * 64 + q.node) y) e)))

-- ---- all pairs

module _ (limit : ℕ) (word : Row → Row → ℕ) (table : List ℕ) where
  pub row_length : (p : Row) (words : List ℕ) (j : ℕ) → length (kept_row limit word table p words j) ≡ length words
  unfolding kept_row
  row_length p words zero = refl
  row_length p words (suc j) =
      between_length limit p (row_at table j) (kept_row limit word table p words j) (word p (row_at table j)) ∙ row_length p words j

  rows_length : (n i : ℕ) → length (kept_rows limit word table n i) ≡ limit * 64
  unfolding kept_rows
  rows_length n zero = length-replicate {A = ℕ} (limit * 64) 0
  rows_length n (suc i) = row_length (row_at table i) (kept_rows limit word table n i) n ∙ rows_length n i

  -- a row whose words with the first j rows are kept
  row_entry : (p : Row) (words : List ℕ) (y : ℕ) → length words ≡ limit * 64 → y < limit * 64 → (j : ℕ)
      → get_or (kept_row limit word table p words j) y 0
      ≡ max (get_or words y 0) (greatest (word_for word (y / 64) (y % 64) p) (map (row_at table) (numbers j)))
  unfolding kept_row greatest
  row_entry p words y long h zero = omega arith
  row_entry p words y long h (suc j) =
      let one = pair_at limit word p (row_at table j) (kept_row limit word table p words j) y (row_length p words j ∙ long) h in
      let rest = row_entry p words y long h j in
      let more = greatest_next (word_for word (y / 64) (y % 64) p) (row_at table) j in
      omega arith

  -- the first i rows
  rows_entry : (n y : ℕ) → y < limit * 64 → (i : ℕ)
      → get_or (kept_rows limit word table n i) y 0
      ≡ greatest (λ p. greatest (word_for word (y / 64) (y % 64) p) (map (row_at table) (numbers n))) (map (row_at table) (numbers i))
  unfolding kept_rows greatest
  rows_entry n y h zero = get_or-replicate (limit * 64) y 0 0 h
  rows_entry n y h (suc i) =
      let one = row_entry (row_at table i) (kept_rows limit word table n i) y (rows_length n i) h n in
      let rest = rows_entry n y h i in
      let more = greatest_next (λ p. greatest (word_for word (y / 64) (y % 64) p) (map (row_at table) (numbers n))) (row_at table) i in
      omega arith

-- a row leaves tables for as many nodes as before
pub row_tables : {limit : ℕ} {table : List ℕ} {p : Row} {j : ℕ} {forwards₀ backs₀ forwards backs : List ℕ} {edges back : ℕ}
    → Tables limit forwards₀ → Tables limit backs₀ → RowKept limit table p j forwards₀ backs₀ forwards backs edges back
    → Tables limit forwards × Tables limit backs
row_tables {limit} {table} {p} {j} {forwards₀ = forwards₀} {backs₀ = backs₀} f b h = (
  record { few = f.few; size = ap length h.forwards_kept ∙ row_length limit row_forward_word table p forwards₀ j ∙ f.size },
  record { few = b.few; size = ap length h.backs_kept ∙ row_length limit row_back_word table p backs₀ j ∙ b.size },
)

pub rows_tables : {limit : ℕ} {table : List ℕ} {n i : ℕ} {forwards backs : List ℕ} {edges back : ℕ} → limit ≤ 64
    → RowsKept limit table n i forwards backs edges back → Tables limit forwards × Tables limit backs
rows_tables {limit} {table} {n} {i} few h = (
  record { few = few; size = ap length h.forwards_kept ∙ rows_length limit row_forward_word table n i },
  record { few = few; size = ap length h.backs_kept ∙ rows_length limit row_back_word table n i },
)

-- ---- the tables

-- the entry for a number
map_from : (f : ℕ → ℕ) (a n i : ℕ) → i < n → get_or (map f (numbers_from a n)) i 0 ≡ f (a + i)
map_from f a zero i h = absurd (not-suc-le-zero h)
map_from f a (suc n) zero h = ap f (sym (add-zero a))
map_from f a (suc n) (suc i) h = map_from f (suc a) n i (le_of_suc-le-suc h) ∙ ap f (suc-add a i ∙ sym (add-suc a i))

pub words_entry : (word : Row → Row → ℕ) (limit : ℕ) (rows : List Row) (y : ℕ) → y < limit * 64
    → get_or (words_between word limit rows) y 0 ≡ between word rows (y / 64) (y % 64)
unfolding words_between
words_entry word limit rows y h =
    map_from (λ x. between word rows (x / 64) (x % 64)) 0 (limit * 64) y h ∙ ap (λ (x : ℕ). between word rows (x / 64) (x % 64)) (zero-add y)

pub words_length : (word : Row → Row → ℕ) (limit : ℕ) (rows : List Row) → length (words_between word limit rows) ≡ limit * 64
unfolding words_between
words_length word limit rows =
    length-map (numbers (limit * 64)) (λ x. between word rows (x / 64) (x % 64)) ∙ length_numbers (limit * 64)

-- the words of all pairs of rows are kept
kept_all : (limit : ℕ) (word : Row → Row → ℕ) (table : List ℕ) (n : ℕ) → n ≡ row_count table
    → kept_rows limit word table n n ≡ words_between word limit (table_rows table)
unfolding between table_rows
kept_all limit word table n e =
    ext_get_or 0 (kept_rows limit word table n n) (words_between word limit (table_rows table))
    (rows_length limit word table n n ∙ sym (words_length word limit (table_rows table)))
    (λ y h.
    let l = rows_length limit word table n n in
    let inside : y < limit * 64 = omega arith in
    rows_entry limit word table n y inside n
    ∙ ap (λ (k : ℕ). greatest (λ p. greatest (word_for word (y / 64) (y % 64) p) (map (row_at table) (numbers k))) (map (row_at table) (numbers k))) e
    ∙ sym (words_entry word limit (table_rows table) y inside))

-- ---- the counts

module _ {A : Type 0} (size : List A → ℕ) (none : size [] ≡ 0) (parts : (l r : List A) → size (l ++ r) ≡ size l + size r) where
  -- what is gathered from one number more
  flat_from : (f : ℕ → List A) (a n : ℕ)
      → size (flat_map f (numbers_from a (suc n))) ≡ size (flat_map f (numbers_from a n)) + size (f (a + n))
  unfolding flat_map
  flat_from f a zero =
      parts (f a) [] ∙ (let e = ap (λ (k : ℕ). size (f k)) (add-zero a) in omega arith)
  flat_from f a (suc n) =
      let h = flat_from f (suc a) n in
      let e = ap (λ (k : ℕ). size (f k)) (suc-add a n ∙ sym (add-suc a n)) in
      let l = parts (f a) (flat_map f (numbers_from (suc a) n)) in
      parts (f a) (flat_map f (numbers_from (suc a) (suc n))) ∙ omega arith

  flat_sum : (f : ℕ → List A) (n : ℕ) → size (flat_map f (numbers n)) ≡ sum_below (λ j. size (f j)) n
  unfolding flat_map sum_below
  flat_sum f zero = none
  flat_sum f (suc n) =
      flat_from f 0 n ∙ ap₂ ◌+◌ (flat_sum f n) (ap (λ (k : ℕ). size (f k)) (zero-add n))

module _ (size : List E.Edge → ℕ) (none : size [] ≡ 0) (parts : (l r : List E.Edge) → size (l ++ r) ≡ size l + size r)
    (each : Row → Row → ℕ) (pair : (p q : Row) → size (row_edges p q) ≡ each p q) where
  -- E5: the edges of a table, row after row
  rows_sum_lem : (table : List ℕ) → size (table_edges table) ≡ rows_sum each table (row_count table) (row_count table)
  unfolding table_edges edges_of_rows table_rows rows_sum row_sum
  rows_sum_lem table =
      ap size (flat_map_map (λ p. flat_map (row_edges p) (map (row_at table) (numbers n))) (row_at table) (numbers n))
      ∙ flat_sum size none parts (λ i. flat_map (row_edges (row_at table i)) (map (row_at table) (numbers n))) n
      ∙ ap (λ (f : ℕ → ℕ). sum_below f n) (fun_ext (λ i.
      ap size (flat_map_map (row_edges (row_at table i)) (row_at table) (numbers n))
      ∙ flat_sum size none parts (λ j. row_edges (row_at table i) (row_at table j)) n
      ∙ ap (λ (f : ℕ → ℕ). sum_below f n) (fun_ext (λ j. pair (row_at table i) (row_at table j)))))
    where
      n : ℕ
      n = row_count table

pair_edges : (p q : Row) → length (row_edges p q) ≡ edges_at p q
unfolding row_edges pair_counts
pair_edges p q = go (row_forward p q) (row_back p q)
  where
    go : (f b : Bool)
        → length (cond f (row_edge G.Flow.forward p q ∷ []) [] ++ cond b (row_edge G.Flow.back p q ∷ []) []) ≡ cond f 1 0 + cond b 1 0
    go true true = refl
    go true false = refl
    go false true = refl
    go false false = refl

pair_back : (p q : Row) → count (λ e. G.is_back e.flow) (row_edges p q) ≡ back_at p q
unfolding row_edges pair_counts row_edge
pair_back p q = go (row_forward p q) (row_back p q)
  where
    go : (f b : Bool)
        → count (λ e. G.is_back e.flow) (cond f (row_edge G.Flow.forward p q ∷ []) [] ++ cond b (row_edge G.Flow.back p q ∷ []) []) ≡ cond b 1 0
    go true true = refl
    go true false = refl
    go false true = refl
    go false false = refl

-- what is promised: all rows with all rows
pub all_picked : (limit : ℕ) (table : List ℕ) (n i : ℕ) {forwards backs : List ℕ} {edges back : ℕ} → n ≡ row_count table → i ≤ n → n ≤ i
    → RowsKept limit table n i forwards backs edges back → RowsAdded table limit forwards backs (record { edges = edges; back = back })
unfolding table_counts
all_picked limit table n i rows most least h = record {
  forwards_filled = h.forwards_kept ∙ ap (kept_rows limit row_forward_word table n) end ∙ kept_all limit row_forward_word table n rows;
  backs_filled = h.backs_kept ∙ ap (kept_rows limit row_back_word table n) end ∙ kept_all limit row_back_word table n rows;
  counted = ap₂ (λ (a b : ℕ). record { edges = a; back = b })
      (h.edges_counted ∙ sums edges_at ∙ sym (rows_sum_lem length refl length-append edges_at pair_edges table))
      (h.back_counted ∙ sums back_at
      ∙ sym (rows_sum_lem (count (λ e. G.is_back e.flow)) refl (count_append (λ e. G.is_back e.flow)) back_at pair_back table));
}
  where
    end : i ≡ n
    end = le_antisymm most least

    sums : (each : Row → Row → ℕ) → rows_sum each table n i ≡ rows_sum each table (row_count table) (row_count table)
    sums each = ap (rows_sum each table n) end ∙ ap (λ (m : ℕ). rows_sum each table m m) rows
