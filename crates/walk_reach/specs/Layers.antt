-- Which nodes reach which along forward edges, and words filled one by one.
use Rattle.std.specs.Prelude.{Bool, cond, not, List, ◌≡◌, ℕ, zero, suc, ◌+◌, ◌*◌, ◌≤◌, ◌<◌, eqb, ltb, length, get_or, set, replicate, take}
use Rattle.edge_word.specs.Coding.{entry}
use Rattle.walk_nodes.specs.Nodes.{word_below, list_below, rows_in, grown, node_word}

-- ---- words filled one by one

-- so many words, the first n of them as given and the others 0
unfoldable pub filled : ℕ → (ℕ → ℕ) → ℕ → List ℕ
filled size f zero = replicate size 0
filled size f (suc n) = set (filled size f n) n (f n)

-- the words from one to another are as given, the others as before
pub record Written (f : ℕ → ℕ) (from to : ℕ) (before after : List ℕ) : Type 0 where
  pub size : length after ≡ length before
  pub inside : (i : ℕ) → from ≤ i → i < to → get_or after i 0 ≡ f i
  pub below : (i : ℕ) → i < from → get_or after i 0 ≡ get_or before i 0
  pub above : (i : ℕ) → to ≤ i → get_or after i 0 ≡ get_or before i 0

-- each of the first n words, as far as there are so many, is one that its place may have, the others are as before
pub record FilledBy (told : ℕ → ℕ → Type 0) (n : ℕ) (before after : List ℕ) : Type 0 where
  pub size : length after ≡ length before
  pub inside : (i : ℕ) → i < n → i < length before → told i (get_or after i 0)
  pub above : (i : ℕ) → n ≤ i → get_or after i 0 ≡ get_or before i 0

-- the words from one to another are 0
pub record Blank (table : List ℕ) (from to : ℕ) : Type 0 where
  pub none : (i : ℕ) → from ≤ i → i < to → get_or table i 0 ≡ 0

-- word y of row r of a table with 64 rows of 64 words; 0 past the rows. In the table of walk_wide: how far the last of r + 1 steps from y can open
unfoldable pub wide_at : List ℕ → ℕ → ℕ → ℕ
wide_at wide r y = cond (ltb r 64) (get_or wide (r * 64 + y) 0) 0

-- ---- which nodes reach which

-- a forward edge goes from u to v
abbrev pub joined_bit : List ℕ → ℕ → ℕ → Bool
joined_bit forwards u v = not (eqb (entry forwards u v) 0)

-- the nodes to which a forward edge goes from u
unfoldable pub joined_row : List ℕ → ℕ → ℕ
joined_row forwards u = word_below (joined_bit forwards u) 64

-- 64 words, of which those of the table's rows are the nodes to which a forward edge goes from a node
unfoldable pub rows_filled : List ℕ → List ℕ
rows_filled forwards = list_below (joined_row forwards) (rows_in forwards)

-- the rows alone: for each node that has one the nodes to which a forward edge goes from it
unfoldable pub joined_rows : List ℕ → List ℕ
joined_rows forwards = take (rows_in forwards) (rows_filled forwards)

-- the nodes from which u is reached in at most d steps
unfoldable pub layer : List ℕ → ℕ → ℕ → ℕ
layer rows u zero = node_word u
layer rows u (suc d) = grown rows (layer rows u d)
