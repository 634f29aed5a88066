-- How many edges go from some nodes to others (E5, P1). Believed.
use Rattle.std.specs.Prelude.{Bool, ◌&&◌, List, ℕ, leb, ltb}
use Rattle.spec_base.specs.Basic.{count}
use Rattle.spec_graph.specs.Graph as G
use Rattle.spec_graph.specs.Edge as E
use Rattle.edge_count.specs.declared.Counts.{Counts}

-- N2: a number from the first on and below the second
abbrev pub in_range : ℕ → ℕ → ℕ → Bool
in_range from to n = leb from n && ltb n to

-- an edge leaves a node from a on and below b, and enters one from c on and below d
unfoldable pub goes : ℕ → ℕ → ℕ → ℕ → E.Edge → Bool
goes a b c d e = in_range a b e.node && in_range c d e.into

-- P1: how many of these edges do, and how many of those are back edges
unfoldable pub counts_between : ℕ → ℕ → ℕ → ℕ → List E.Edge → Counts
counts_between a b c d edges =
    record { edges = count (goes a b c d) edges; back = count (λ e. goes a b c d e && G.is_back e.flow) edges }
