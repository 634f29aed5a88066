-- The edges of a table of the nodes' places are the edges of the nodes.
use Rattle.std.specs.Prelude.{◌≡◌, ◌≤◌, length}
use Rattle.std.proofs.Math.Path.{sym, ap}
use Rattle.std.proofs.Common.{◌∙◌}
use mathlib.Core.List.{List, Memᴰ}
use Rattle.spec_text.specs.declared.Line.{Line}
use Rattle.spec_graph.specs.Unfolding.{Node}
use Rattle.spec_graph.specs.Edge as E
use Rattle.node_laws.specs.GivenNodes.{LawfulNode}
use Rattle.place_row.specs.RowTable.{rows_of, table_of, edges_of_rows}
use Rattle.place_row.specs.RowTableLaws.{table_rows_lem}
use Rattle.place_row.proofs.EdgeRows.{edges_rows}
use Rattle.edge_count.specs.Slots.{table_edges}

module _ (lines : List Line) (nodes : List Node) (lawful : (n : Node) → Memᴰ n nodes → LawfulNode lines n)
    (few : length (rows_of nodes) ≤ 512) where
  -- E5: a table of the rows of lawful nodes has the nodes' edges
  pub table_edges_lem : table_edges (table_of (rows_of nodes)) ≡ E.edges_of nodes
  unfolding table_edges
  table_edges_lem = ap edges_of_rows (table_rows_lem (rows_of nodes) few) ∙ sym (edges_rows lines nodes lawful)
