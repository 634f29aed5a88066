-- For each pair of nodes the edge that stands for all: the greatest word of the edges between their rows.
use Rattle.std.specs.Prelude.{Bool, cond, ◌&&◌, List, [], ◌∷◌, ◌++◌, map, ◌≡◌, ℕ, ◌*◌, ◌/◌, ◌%◌, min, max, eqb, ltb, length, drop}
use Rattle.spec_base.specs.Basic.{numbers}
use Rattle.spec_graph.specs.Edge.{loosens}
use Rattle.place_row.specs.declared.Row.{Row}
use Rattle.place_row.specs.RowTable.{row_forward, row_back, table_rows}
use Rattle.edge_count.specs.declared.Counts.{Counts}
use Rattle.edge_count.specs.Slots.{table_counts}
use Rattle.edge_word.specs.Coding.{forward_word, back_word}

-- the word of the forward edge between two rows, 0 where none stands; W4: by its kind the left row may be loose
unfoldable pub row_forward_word : Row → Row → ℕ
row_forward_word p q = cond (row_forward p q) (forward_word (loosens p.kind) p.place q.place) 0

-- the word of the back edge between two rows, 0 where none stands
unfoldable pub row_back_word : Row → Row → ℕ
row_back_word p q = cond (row_back p q) (back_word p.place q.place) 0

-- the greatest number that the elements give; 0 where there are none
unfoldable pub greatest : {A : Type 0} → (A → ℕ) → List A → ℕ
greatest f [] = 0
greatest f (x ∷ l) = max (f x) (greatest f l)

-- the row is of node u; a word has room for a place below 1024
unfoldable pub stands_in : ℕ → Row → Bool
stands_in u p = eqb p.node u && ltb p.place 1024

-- the word between two rows, if they are of the nodes u and v
unfoldable pub word_for : (Row → Row → ℕ) → ℕ → ℕ → Row → Row → ℕ
word_for word u v p q = cond (stands_in u p && stands_in v q) (word p q) 0

-- the greatest word between the rows of u and those of v
unfoldable pub between : (Row → Row → ℕ) → List Row → ℕ → ℕ → ℕ
between word rows u v = greatest (λ p. greatest (word_for word u v p) rows) rows

-- the table for so many nodes that an edge leaves: the word for u and v stands at u * 64 + v
unfoldable pub words_between : (Row → Row → ℕ) → ℕ → List Row → List ℕ
words_between word limit rows = map (λ x. between word rows (x / 64) (x % 64)) (numbers (limit * 64))

-- for how many nodes two areas have room, 64 at most
unfoldable pub room_in : List ℕ → List ℕ → ℕ
room_in forwards backs = min 64 (min (length forwards / 64) (length backs / 64))

-- an area that is filled for so many nodes, and past them as it was
unfoldable pub filled_for : (Row → Row → ℕ) → ℕ → List Row → List ℕ → List ℕ
filled_for word limit rows before = words_between word limit rows ++ drop (limit * 64) before

-- what is promised of a table of rows
pub record PickedAs (table forwards₀ backs₀ forwards backs : List ℕ) (r : Counts) : Type 0 where
  pub forwards_filled : forwards ≡ filled_for row_forward_word (room_in forwards₀ backs₀) (table_rows table) forwards₀
  pub backs_filled : backs ≡ filled_for row_back_word (room_in forwards₀ backs₀) (table_rows table) backs₀
  pub counted : r ≡ table_counts table
