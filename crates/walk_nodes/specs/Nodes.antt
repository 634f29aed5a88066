-- Sets of nodes as words, filled one by one.
use Rattle.std.specs.Prelude.{Bool, cond, List, ℕ, zero, suc, ◌+◌, ◌/◌, ◌^◌, min, ltb, length, get_or, set, replicate}
use Rattle.std.specs.Int.Bits.{bit_or}
use Rattle.spec_base.specs.Basic.{meets}

-- the nodes of a word, and node k too where the test passed
unfoldable pub with_node : ℕ → Bool → ℕ → ℕ
with_node word test k = cond test (bit_or word (2 ^ k)) word

-- the word that has the numbers below n that pass the test
unfoldable pub word_below : (ℕ → Bool) → ℕ → ℕ
word_below test zero = 0
word_below test (suc k) = with_node (word_below test k) (test k) k

-- 64 words, the first of them as given
unfoldable pub list_below : (ℕ → ℕ) → ℕ → List ℕ
list_below f zero = replicate 64 0
list_below f (suc k) = set (list_below f k) k (f k)

-- how many rows of 64 words a table has, the last of them perhaps in part, and at most 64
unfoldable pub rows_in : List ℕ → ℕ
rows_in table = min ((length table + 63) / 64) 64

-- node u alone, where it is one of the 64
unfoldable pub node_word : ℕ → ℕ
node_word u = cond (ltb u 64) (2 ^ u) 0

-- the row of node x has one of the nodes
unfoldable pub enters_at : List ℕ → ℕ → ℕ → Bool
enters_at rows nodes x = meets (get_or rows x 0) nodes

-- the nodes whose row has one of the nodes
unfoldable pub nodes_into : List ℕ → ℕ → ℕ
nodes_into rows nodes = word_below (enters_at rows nodes) 64

-- the nodes, and those with an edge into one of them
unfoldable pub grown : List ℕ → ℕ → ℕ
grown rows nodes = bit_or nodes (nodes_into rows nodes)
