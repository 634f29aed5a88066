-- Edges by their numbers.
use Rattle.std.specs.Prelude.{◌≡◌, List, map, ℕ, ◌+◌, ◌<◌, length}
use Rattle.std.proofs.Math.Option.{some}
use Rattle.std.proofs.Math.ListN.{get_elem?}
use Rattle.edge_record.specs.Coded.{coded}
use Rattle.edge_count.specs.Slots.{table_edges, edges_below}
use Rattle.edge_record.specs.declared.Edge.{Edge}

-- an edge has number k, and the edges with lower numbers are those that stand in the slots below x
pub record Ahead (table : List ℕ) (k x : ℕ) : Type 0 where
  pub below : edges_below table x ≡ k
  pub there : k < length (table_edges table)

-- the edge has number k, and after its slot the edges with higher numbers stand
pub record Numbered (table : List ℕ) (k slot : ℕ) (is : Edge) : Type 0 where
  pub edge : get_elem? (map coded (table_edges table)) k ≡ some is
  pub after : edges_below table (slot + 1) ≡ k + 1
  pub few : slot < 524288
