-- What the unfolding of a workload tells and writes (docs/MODEL.md, "Unfoldings"): each node's statement ids into the lent area, one node after
-- the other (U5), and each node's program, start and length; past what is written the area keeps its contents (U6, `Settled`). Believed.
use Rattle.std.specs.Prelude.{List, [], ◌∷◌, ◌++◌, map, ℕ, ◌+◌, ◌-◌, length, replicate}
use Rattle.spec_graph.specs.Unfolding.{Occurrence, Node}
use Rattle.unfold.specs.declared.Unfolded.{Unfolded}
use Rattle.unfold.specs.declared.Unfolding.{Unfolding}

-- U5: the statement ids of an unfolding
unfoldable pub place_ids : List Occurrence → List ℕ
place_ids places = map (λ o. o.statement.id) places

-- U5: the statement ids of nodes, one node after the other
unfoldable pub ids_in : List Node → List ℕ
ids_in [] = []
ids_in (n ∷ nodes) = place_ids n.places ++ ids_in nodes

-- U5: where each node's statements start
unfoldable pub starts_in : ℕ → List Node → List ℕ
starts_in s [] = []
starts_in s (n ∷ nodes) = s ∷ starts_in (s + length n.places) nodes

-- 64 cells: a list, and 0 in those past it
unfoldable pub cells : List ℕ → List ℕ
cells l = l ++ replicate (64 - length l) 0

-- U5: each node's program, start and length
unfoldable pub unfoldings_in : ℕ → List Node → List Unfolding
unfoldings_in s [] = []
unfoldings_in s (n ∷ nodes) =
    record { program = n.program; start = s; length = length n.places } ∷ unfoldings_in (s + length n.places) nodes

-- what a cell holds in which no unfolding stands
abbrev pub no_unfolding : Unfolding
no_unfolding = record { program = 0; start = 0; length = 0 }

-- 64 cells: unfoldings, and zeros in those past them
unfoldable pub unfolding_cells : List Unfolding → List Unfolding
unfolding_cells l = l ++ replicate (64 - length l) no_unfolding

-- U5: how many nodes there are, and what each one's cell tells
unfoldable pub nodes_told : List Node → Unfolded
nodes_told nodes = record { count = length nodes; unfoldings = unfolding_cells (unfoldings_in 0 nodes) }
