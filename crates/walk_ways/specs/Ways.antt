-- Ways of an exact number of steps, and where a walk can start, over words.
use Rattle.std.specs.Prelude.{Bool, not, ◌&&◌, List, ℕ, zero, suc, min, eqb, get_or}
use Rattle.std.specs.Int.Bits.{bit_or}
use Rattle.spec_base.specs.Basic.{has}
use Rattle.walk_reach.specs.Layers.{filled}
use Rattle.walk_nodes.specs.Nodes.{nodes_into, node_word}
use Rattle.walk_reach.specs.Search.{first_from}

-- ---- ways of an exact number of steps

-- the nodes from which exactly r steps lead to s; s itself where it is one of the 64
unfoldable pub exact_word : List ℕ → ℕ → ℕ → ℕ
exact_word rows s zero = node_word s
exact_word rows s (suc r) = nodes_into rows (exact_word rows s r)

-- the words of at most so many steps, and at most 64
unfoldable pub ways_to : List ℕ → ℕ → ℕ → List ℕ
ways_to rows s steps = filled 65 (exact_word rows s) (suc (min steps 64))

-- ---- where a walk can start

-- with r + 1 steps left a node is open if a step leads to one that is open with r left, or a dangerous pair to one from which the others end it
unfoldable pub next_opening : List ℕ → List ℕ → List ℕ → ℕ → ℕ → ℕ
next_opening rows leads ways zero nodes = 0
next_opening rows leads ways (suc r) nodes = bit_or (nodes_into rows nodes) (nodes_into leads (get_or ways r 0))

-- the nodes that are open with r steps left
unfoldable pub opening : List ℕ → List ℕ → List ℕ → ℕ → ℕ
opening rows leads ways zero = 0
opening rows leads ways (suc r) = next_opening rows leads ways r (opening rows leads ways r)

-- the words of at most so many steps, and at most 65
unfoldable pub openings : List ℕ → List ℕ → List ℕ → ℕ → List ℕ
openings rows leads ways steps = filled 66 (opening rows leads ways) (suc (min steps 65))

-- s has a row, and is open with so many steps left to s itself
unfoldable pub starts_at : List ℕ → List ℕ → ℕ → ℕ → Bool
starts_at rows leads steps s = not (eqb (get_or rows s 0) 0) && has (get_or (openings rows leads (ways_to rows s steps) steps) steps 0) s

-- the first such node, or 64
unfoldable pub first_start : List ℕ → List ℕ → ℕ → ℕ
first_start rows leads steps = first_from (starts_at rows leads steps) 64 0
