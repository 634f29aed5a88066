-- To which nodes dangerous pairs lead, and by way of which nodes a pair with a way back of so many steps leads.
use Rattle.std.specs.Prelude.{Bool, List, ℕ, min, get_or, take}
use Rattle.std.specs.Int.Bits.{bit_or}
use Rattle.spec_base.specs.Basic.{any, numbers, meets}
use Rattle.pick_laws.specs.Pick.{dangerous_picks}
use Rattle.pick_laws.specs.Completing.{least_below, leaves_at, leads}
use Rattle.edge_word.specs.Coding.{forward_pick, entry, forwards_in, backs_in}
use Rattle.walk_reach.specs.Search.{first_from}
use Rattle.walk_nodes.specs.Nodes.{word_below, list_below, rows_in}
use Rattle.walk_reach.specs.Layers.{layer}

-- ---- to which nodes dangerous pairs lead

-- the forward edge of word e to v and the back edge from v to w are dangerous
unfoldable pub leads_along : List ℕ → ℕ → ℕ → ℕ → Bool
leads_along backs e v w = dangerous_picks (forward_pick e) (backs_in backs v w)

-- the nodes to which a dangerous pair leads along the forward edge of word e to v
unfoldable pub leads_through : List ℕ → ℕ → ℕ → ℕ
leads_through backs e v = word_below (leads_along backs e v) 64

-- the nodes to which a dangerous pair leads from u by way of v
unfoldable pub leads_by : List ℕ → List ℕ → ℕ → ℕ → ℕ
leads_by forwards backs u v = leads_through backs (entry forwards u v) v

-- the nodes of a word, and these
unfoldable pub leads_on : List ℕ → List ℕ → ℕ → ℕ → ℕ → ℕ
leads_on forwards backs u v word = bit_or word (leads_by forwards backs u v)

-- the nodes to which a dangerous pair leads from u
unfoldable pub lead_row : List ℕ → List ℕ → ℕ → ℕ
lead_row forwards backs u = word_below (leads (forwards_in forwards) (backs_in backs) 64 u) 64

-- 64 words, of which those of the table's rows are the nodes to which a dangerous pair leads from a node
unfoldable pub leads_filled : List ℕ → List ℕ → List ℕ
leads_filled forwards backs = list_below (lead_row forwards backs) (rows_in forwards)

-- the rows alone: for each node that has one the nodes to which a dangerous pair leads from it
unfoldable pub lead_rows : List ℕ → List ℕ → List ℕ
lead_rows forwards backs = take (rows_in forwards) (leads_filled forwards backs)

-- the place at which a back edge leaves v for w, or 1024
unfoldable pub leaves_to : List ℕ → ℕ → ℕ → ℕ
leaves_to backs v w = leaves_at (backs_in backs v w)

-- the first such place
unfoldable pub earliest : List ℕ → ℕ → ℕ
earliest backs v = least_below (leaves_to backs v) 1024 64

-- 64 words, of which those of the table's rows are these places
unfoldable pub early_filled : List ℕ → List ℕ
early_filled backs = list_below (earliest backs) (rows_in backs)

-- ---- by way of which nodes a pair with so short a way back leads

-- for each node below n the nodes from which it is reached in at most d steps
unfoldable pub layers_at : List ℕ → ℕ → ℕ → List ℕ
layers_at rows d n = list_below (λ u. layer rows u d) n

-- a dangerous pair by way of v leads from u to one of the nodes that stand for u in `reach`
unfoldable pub wraps_from : List ℕ → List ℕ → List ℕ → ℕ → ℕ → Bool
wraps_from forwards backs reach v u = meets (leads_by forwards backs u v) (get_or reach u 0)

-- one leads so from some node below n
unfoldable pub wraps_among : List ℕ → List ℕ → List ℕ → ℕ → ℕ → Bool
wraps_among forwards backs reach n v = any (wraps_from forwards backs reach v) (numbers n)

-- the first node below `below` and 64 by way of which a dangerous pair leads from a node to one from which it is reached in at most d steps; else the
-- lesser of `below` and 64
unfoldable pub wrap_start : List ℕ → List ℕ → List ℕ → ℕ → ℕ → ℕ
wrap_start forwards backs rows d below =
    first_from (wraps_among forwards backs (layers_at rows d (rows_in forwards)) (rows_in forwards)) (min below 64) 0
