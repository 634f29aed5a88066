-- What the code does with one row after the other.
use Rattle.std.specs.Prelude.{◌≡◌, refl, Bool, true, false, cond, ◌&&◌, List, ◌++◌, ℕ, zero, suc, ◌+◌, ◌*◌, ◌≤◌, ◌<◌, ltb, length, get_or, take}
use Rattle.std.specs.Prelude.{drop, replicate}
use Rattle.std.proofs.Common.{sym, ap, ap₂, subst, ◌∙◌, zero-le, suc-mul, add-one, arith, length-take-le, ext_get_or, ltb-true, le-ltb}
use Rattle.std.proofs.lemmas.List.{length-replicate, get_or-replicate}
use Rattle.spec_base.specs.Basic.{meets}
use Rattle.law_base.specs.BoolLaws.{and_true, and_of, and_left, and_right}
use Rattle.word_list.specs.Clear.{Cleared}
use Rattle.spec_graph.specs.Edge.{loosens}
use Rattle.spec_text.specs.declared.StatementKind.{StatementKind}
use Rattle.edge_kinds.specs.Kinds.{kind_facts, loose_bit}
use Rattle.edge_kinds.specs.KindLaws.{told as told_kind}
use Rattle.place_row.specs.declared.Row.{Row}
use Rattle.place_row.specs.RowTable.{row_at, row_count, row_forward, row_back, table_rows}
use Rattle.edge_count.specs.declared.Counts.{Counts}
use Rattle.edge_count.specs.Slots.{pair_counts}
use Rattle.edge_count.specs.SlotLaws.{pair_most as counts_most}
use Rattle.walk_pick.specs.Picks.{row_forward_word, row_back_word, words_between, room_in, filled_for, PickedAs}
use Rattle.walk_pick.specs.PickSteps.{kept_at, has_entries, kept_between, kept_row, kept_rows, sum_below}
use Rattle.walk_pick.specs.PickSteps.{edges_at, back_at, row_sum, rows_sum, Tables, WholeRow, RowKept, RowsKept, RowsAdded}

-- a row with entries has a small node and a small place
pub entries_small : (limit : ℕ) (p : Row) {b : Bool} → b ≡ has_entries limit p → b ≡ true → (p.node < limit) × (p.place < 1024)
unfolding has_entries
entries_small limit p e t = let h = and_true _ _ (sym e ∙ t) in (ltb-true _ _ h.0, ltb-true _ _ h.1)

-- a word for two rows that have entries is kept
pub between_in : (limit : ℕ) (p q : Row) (words words₀ : List ℕ) (word : ℕ) → has_entries limit p ≡ true → has_entries 64 q ≡ true
    → words ≡ kept_at words₀ (p.node * 64 + q.node) word → words ≡ kept_between limit p q words₀ word
unfolding kept_between
between_in limit p q words words₀ word left right e = rw (and_of {a = has_entries limit p} {b = has_entries 64 q} left right) e

-- and one for two rows of which one has none is not
between_out : (limit : ℕ) (p q : Row) (words : List ℕ) (word : ℕ) → has_entries limit p && has_entries 64 q ≡ false
    → words ≡ kept_between limit p q words word
unfolding kept_between
between_out limit p q words word e = rw e refl

pub left_out : (limit : ℕ) (p q : Row) (words : List ℕ) (word : ℕ) → has_entries limit p ≡ false → words ≡ kept_between limit p q words word
left_out limit p q words word e = between_out limit p q words word (and_left (has_entries 64 q) e)

pub right_out : (limit : ℕ) (p q : Row) (words : List ℕ) (word : ℕ) → has_entries 64 q ≡ false → words ≡ kept_between limit p q words word
right_out limit p q words word e = between_out limit p q words word (and_right (has_entries limit p) e)

-- nor is the word of no edge
pub none_kept : (limit : ℕ) (p q : Row) (words : List ℕ) {word : ℕ} → word ≡ 0 → words ≡ kept_between limit p q words word
unfolding kept_between kept_at
none_kept limit p q words {word} e = rw (e, no_less) (same (has_entries limit p && has_entries 64 q))
  where
    no_less : ltb (get_or words (p.node * 64 + q.node) 0) 0 ≡ false
    no_less = le-ltb (get_or words (p.node * 64 + q.node) 0) 0 zero-le

    same : (b : Bool) → words ≡ cond b words words
    same true = refl
    same false = refl

-- W4: the table of kinds tells whether a row is loose
pub loose_told : (k : StatementKind) {loose : Bool} → loose ≡ meets (kind_facts k) loose_bit → loose ≡ loosens k
loose_told k e = e ∙ (told_kind k).loosens

-- a row below the number of rows stands whole
pub row_whole : (table : List ℕ) {n j : ℕ} → n ≡ row_count table → j < n → WholeRow table j
unfolding row_count
row_whole table e h = omega arith

-- ---- sums

-- no more than so many from each
pub sum_most : (f : ℕ → ℕ) (b : ℕ) → ((j : ℕ) → f j ≤ b) → (n : ℕ) → sum_below f n ≤ n * b
unfolding sum_below
sum_most f b most zero = zero-le
sum_most f b most (suc n) =
    let h = sum_most f b most n in
    let l = most n in
    let e = suc-mul n b in
    omega arith

-- a pair has at most two edges, and so no more back edges
pub counts_few : (f b : Bool) → ((pair_counts f b).edges ≤ 2) × ((pair_counts f b).back ≤ 2)
counts_few f b = let h = counts_most f b refl in (h.0, omega (arith, h.1))

-- so has a row with each of the others
pub row_most : {limit : ℕ} {table : List ℕ} {p : Row} {j : ℕ} {forwards₀ backs₀ forwards backs : List ℕ} {edges back : ℕ}
    → RowKept limit table p j forwards₀ backs₀ forwards backs edges back → (edges ≤ j * 2) × (back ≤ j * 2)
unfolding row_sum
row_most {table = table} {p} {j} h =
    let e = sum_most (λ k. edges_at p (row_at table k)) 2 (λ k. (counts_few (row_forward p (row_at table k)) (row_back p (row_at table k))).0) j in
    let b = sum_most (λ k. back_at p (row_at table k)) 2 (λ k. (counts_few (row_forward p (row_at table k)) (row_back p (row_at table k))).1) j in
    (rw h.edges_counted e, rw h.back_counted b)

-- and no more than 1024 from each of the rows
pub rows_most : {limit : ℕ} {table : List ℕ} {n i : ℕ} {forwards backs : List ℕ} {edges back : ℕ} → n ≤ 512
    → RowsKept limit table n i forwards backs edges back → (edges ≤ i * 1024) × (back ≤ i * 1024)
unfolding rows_sum row_sum
rows_most {table = table} {n} {i} few h =
    let e = sum_most (λ k. row_sum edges_at table (row_at table k) n) 1024 (λ k. (each k).0) i in
    let b = sum_most (λ k. row_sum back_at table (row_at table k) n) 1024 (λ k. (each k).1) i in
    (rw h.edges_counted e, rw h.back_counted b)
  where
    each : (k : ℕ) → (row_sum edges_at table (row_at table k) n ≤ 1024) × (row_sum back_at table (row_at table k) n ≤ 1024)
    each k =
        let p = row_at table k in
        let e = sum_most (λ j. edges_at p (row_at table j)) 2
        (λ j. (counts_few (row_forward p (row_at table j)) (row_back p (row_at table j))).0) n in
        let b = sum_most (λ j. back_at p (row_at table j)) 2 (λ j. (counts_few (row_forward p (row_at table j)) (row_back p (row_at table j))).1) n in
        (omega arith, omega arith)

-- ---- turns

sum_next : (f : ℕ → ℕ) (n : ℕ) {total one : ℕ} → total ≡ sum_below f n → one ≡ f n → total + one ≡ sum_below f (n + 1)
unfolding sum_below
sum_next f n e o = ap₂ ◌+◌ e o ∙ ap (sum_below f) (sym (add-one n))

pub row_first : (limit : ℕ) (table : List ℕ) (p : Row) {forwards backs : List ℕ} → RowKept limit table p 0 forwards backs forwards backs 0 0
unfolding kept_row row_sum sum_below
row_first limit table p = record { forwards_kept = refl; backs_kept = refl; edges_counted = refl; back_counted = refl }

-- a table that is cleared
cleared_zero : {limit : ℕ} {words₀ words : List ℕ} → Tables limit words₀ → Cleared 0 (limit * 64) words₀ words → words ≡ replicate (limit * 64) 0
cleared_zero {limit} {words = words} t c =
    let size = c.size ∙ t.size in
    ext_get_or 0 words (replicate (limit * 64) 0) (size ∙ sym (length-replicate {A = ℕ} (limit * 64) 0))
    (λ y h.
    let inside : y < limit * 64 = omega arith in
    c.inside y zero-le inside ∙ sym (get_or-replicate (limit * 64) y 0 0 inside))

pub rows_first : (limit : ℕ) (table : List ℕ) (n : ℕ) {forwards₀ backs₀ forwards backs : List ℕ} → Tables limit forwards₀ → Tables limit backs₀
    → Cleared 0 (limit * 64) forwards₀ forwards → Cleared 0 (limit * 64) backs₀ backs → RowsKept limit table n 0 forwards backs 0 0
unfolding kept_rows rows_sum sum_below
rows_first limit table n f b cf cb =
    record { forwards_kept = cleared_zero f cf; backs_kept = cleared_zero b cb; edges_counted = refl; back_counted = refl }

-- one row more
pub rows_turn : (limit : ℕ) (table : List ℕ) (n i : ℕ) {forwards backs forwards' backs' : List ℕ} {edges back more more_back : ℕ}
    → RowsKept limit table n i forwards backs edges back → RowKept limit table (row_at table i) n forwards backs forwards' backs' more more_back
    → RowsKept limit table n (i + 1) forwards' backs' (edges + more) (back + more_back)
unfolding kept_rows rows_sum
rows_turn limit table n i h row = record {
  forwards_kept = row.forwards_kept ∙ ap (λ (l : List ℕ). kept_row limit row_forward_word table (row_at table i) l n) h.forwards_kept
      ∙ ap (kept_rows limit row_forward_word table n) (sym (add-one i));
  backs_kept = row.backs_kept ∙ ap (λ (l : List ℕ). kept_row limit row_back_word table (row_at table i) l n) h.backs_kept
      ∙ ap (kept_rows limit row_back_word table n) (sym (add-one i));
  edges_counted = sum_next (λ k. row_sum edges_at table (row_at table k) n) i h.edges_counted row.edges_counted;
  back_counted = sum_next (λ k. row_sum back_at table (row_at table k) n) i h.back_counted row.back_counted;
}

-- the left row as it was read
pub row_read : {limit : ℕ} {table : List ℕ} {p q : Row} {n j : ℕ} {forwards₀ backs₀ forwards backs : List ℕ} {edges back : ℕ} → p ≡ q → j ≡ n
    → RowKept limit table p j forwards₀ backs₀ forwards backs edges back → RowKept limit table q n forwards₀ backs₀ forwards backs edges back
row_read {limit} {table} {p} {q} {n} {j} {forwards₀ = a} {backs₀ = b} {forwards} {backs} {edges} {back} same end h =
    subst (λ (k : ℕ). RowKept limit table q k a b forwards backs edges back) end
    (subst (λ (x : Row). RowKept limit table x j a b forwards backs edges back) same h)

-- ---- the lent areas

-- the part of an area for so many nodes is such a table
pub front_tables : (forwards backs : List ℕ) {limit : ℕ} → limit ≡ room_in forwards backs
    → (limit * 64 ≤ length forwards) × (limit * 64 ≤ length backs)
    × Tables limit (take (limit * 64) forwards) × Tables limit (take (limit * 64) backs)
unfolding room_in
front_tables forwards backs {limit} e = (
  left,
  right,
  record { few = omega arith; size = length-take-le (limit * 64) forwards left },
  record { few = omega arith; size = length-take-le (limit * 64) backs right },
)
  where
    left : limit * 64 ≤ length forwards
    left = omega arith

    right : limit * 64 ≤ length backs
    right = omega arith

-- tables filled in front of what stays
pub picked_as : (table forwards₀ backs₀ : List ℕ) {limit : ℕ} {forwards backs : List ℕ} {r : Counts} → limit ≡ room_in forwards₀ backs₀
    → RowsAdded table limit forwards backs r
    → PickedAs table forwards₀ backs₀ (forwards ++ drop (limit * 64) forwards₀) (backs ++ drop (limit * 64) backs₀) r
unfolding filled_for
picked_as table a b {limit} e h = record {
  forwards_filled = ap (λ (l : List ℕ). l ++ drop (limit * 64) a) h.forwards_filled
      ∙ ap (λ (k : ℕ). words_between row_forward_word k (table_rows table) ++ drop (k * 64) a) e;
  backs_filled = ap (λ (l : List ℕ). l ++ drop (limit * 64) b) h.backs_filled
      ∙ ap (λ (k : ℕ). words_between row_back_word k (table_rows table) ++ drop (k * 64) b) e;
  counted = h.counted;
}
