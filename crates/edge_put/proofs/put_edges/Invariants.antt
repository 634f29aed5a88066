-- Where the edges fit, `start_of` tells where to begin; each turn puts the edge that `next_edge` gives, or leaves the loop. Before a
-- turn the first k edges stand at the front of the area.
use Rattle.std.proofs.Common.{◌≡◌, length, ◌-◌}
use Rattle.std.proofs.Math.Dec.{leb}
use Rattle.edge_count.specs.Slots.{table_edges}
use Rattle.edge_put.specs.Cursors.{slot_of, Standing}
use Rattle.edge_put.specs.Put.{records, put_first}
use Rattle.edge_put.specs.PutLaws.{Kept}
use Rattle.edge_put.proofs.put_edges.Given as goal

abbrev pub invariant-loop-edge : goal.invariant-loop-edge
invariant-loop-edge l = record {
  stands : Standing l.table l.c;
  kept : Kept l.table (leb (length (table_edges l.table)) (length l.fn.out)) (slot_of l.c) l.k;
  put : l.out ≡ put_first (records l.table) l.fn.out l.k;
}

abbrev pub decreases-loop-edge : goal.decreases-loop-edge
decreases-loop-edge l = length (table_edges l.table) - l.k
