-- The tables and the counts as they are filled, pair after pair.
use Rattle.std.specs.Prelude.{◌≡◌, Bool, cond, ◌&&◌, List, ℕ, zero, suc, ◌+◌, ◌*◌, ◌≤◌, ltb, length, get_or, set, replicate}
use Rattle.place_row.specs.declared.Row.{Row}
use Rattle.place_row.specs.RowTable.{row_at, row_forward, row_back, table_rows}
use Rattle.edge_count.specs.declared.Counts.{Counts}
use Rattle.edge_count.specs.Slots.{pair_counts, table_counts}
use Rattle.walk_pick.specs.Picks.{row_forward_word, row_back_word, words_between}

-- the greater word is kept
unfoldable pub kept_at : List ℕ → ℕ → ℕ → List ℕ
kept_at words x word = cond (ltb (get_or words x 0) word) (set words x word) words

-- a row with entries: its node is below a limit and its place below 1024
unfoldable pub has_entries : ℕ → Row → Bool
has_entries limit p = ltb p.node limit && ltb p.place 1024

-- a word for the nodes of two rows is kept, where a table for so many nodes has room
unfoldable pub kept_between : ℕ → Row → Row → List ℕ → ℕ → List ℕ
kept_between limit p q words word = cond (has_entries limit p && has_entries 64 q) (kept_at words (p.node * 64 + q.node) word) words

-- the word between two rows is kept
abbrev pub kept_pair : ℕ → (Row → Row → ℕ) → Row → Row → List ℕ → List ℕ
kept_pair limit word p q words = kept_between limit p q words (word p q)

-- the words between a row and the first j rows of a table are kept
unfoldable pub kept_row : ℕ → (Row → Row → ℕ) → List ℕ → Row → List ℕ → ℕ → List ℕ
kept_row limit word table p words zero = words
kept_row limit word table p words (suc j) = kept_pair limit word p (row_at table j) (kept_row limit word table p words j)

-- the words between the first i rows and the first n rows are kept
unfoldable pub kept_rows : ℕ → (Row → Row → ℕ) → List ℕ → ℕ → ℕ → List ℕ
kept_rows limit word table n zero = replicate (limit * 64) 0
kept_rows limit word table n (suc i) = kept_row limit word table (row_at table i) (kept_rows limit word table n i) n

-- the sum of what the numbers below n give
unfoldable pub sum_below : (ℕ → ℕ) → ℕ → ℕ
sum_below f zero = 0
sum_below f (suc n) = sum_below f n + f n

-- how many edges stand between two rows, and how many of them are back edges
abbrev pub edges_at : Row → Row → ℕ
edges_at p q = (pair_counts (row_forward p q) (row_back p q)).edges

abbrev pub back_at : Row → Row → ℕ
back_at p q = (pair_counts (row_forward p q) (row_back p q)).back

-- the same between a row and the first n rows of a table
unfoldable pub row_sum : (Row → Row → ℕ) → List ℕ → Row → ℕ → ℕ
row_sum f table p n = sum_below (λ j. f p (row_at table j)) n

-- and between the first i rows and the first n rows
unfoldable pub rows_sum : (Row → Row → ℕ) → List ℕ → ℕ → ℕ → ℕ
rows_sum f table n i = sum_below (λ k. row_sum f table (row_at table k) n) i

-- ---- what the code knows

-- a table for so many nodes, 64 at most
pub record Tables (limit : ℕ) (words : List ℕ) : Type 0 where
  pub few : limit ≤ 64
  pub size : length words ≡ limit * 64

-- row j stands whole in its table
abbrev pub WholeRow : List ℕ → ℕ → Type 0
WholeRow table j = j * 8 + 8 ≤ length table

-- ---- what the code does

-- what a row adds, with each of the first j rows
pub record RowKept (limit : ℕ) (table : List ℕ) (p : Row) (j : ℕ) (forwards₀ backs₀ forwards backs : List ℕ) (edges back : ℕ) : Type 0 where
  pub forwards_kept : forwards ≡ kept_row limit row_forward_word table p forwards₀ j
  pub backs_kept : backs ≡ kept_row limit row_back_word table p backs₀ j
  pub edges_counted : edges ≡ row_sum edges_at table p j
  pub back_counted : back ≡ row_sum back_at table p j

-- what row i adds, with each of the first n rows
abbrev pub RowAdded : List ℕ → ℕ → ℕ → ℕ → List ℕ → List ℕ → List ℕ → List ℕ → Counts → Type 0
RowAdded table n i limit forwards₀ backs₀ forwards backs r =
    RowKept limit table (row_at table i) n forwards₀ backs₀ forwards backs r.edges r.back

-- what the first i rows give, with each of the first n rows
pub record RowsKept (limit : ℕ) (table : List ℕ) (n i : ℕ) (forwards backs : List ℕ) (edges back : ℕ) : Type 0 where
  pub forwards_kept : forwards ≡ kept_rows limit row_forward_word table n i
  pub backs_kept : backs ≡ kept_rows limit row_back_word table n i
  pub edges_counted : edges ≡ rows_sum edges_at table n i
  pub back_counted : back ≡ rows_sum back_at table n i

-- what all rows give
pub record RowsAdded (table : List ℕ) (limit : ℕ) (forwards backs : List ℕ) (r : Counts) : Type 0 where
  pub forwards_filled : forwards ≡ words_between row_forward_word limit (table_rows table)
  pub backs_filled : backs ≡ words_between row_back_word limit (table_rows table)
  pub counted : r ≡ table_counts table
