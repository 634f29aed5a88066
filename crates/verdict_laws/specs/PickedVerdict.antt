-- What one pass over the table of a workload's places tells: its counts, and tables that hold its summary graph.
use Rattle.std.specs.Prelude.{◌≡◌, false, List, ℕ, ◌*◌, ◌≤◌, ltb, length}
use Rattle.std.proofs.Common.{ap, ◌∙◌, arith, ltb-false}
use Rattle.spec_base.specs.Basic.{count}
use Rattle.law_base.specs.BoolLaws.{or_false}
use Rattle.spec_text.specs.declared.Line.{Line}
use Rattle.spec_text.specs.declared.Workload.{Workload}
use Rattle.spec_text.specs.Value.{Given, lines_of}
use Rattle.spec_graph.specs.Unfolding.{Node, nodes_of}
use Rattle.spec_graph.specs.Graph.{is_back}
use Rattle.spec_graph.specs.Edge.{edges_of}
use Rattle.spec_report.specs.State.{statements_in, is_too_many, counts_of, summary_graph}
use Rattle.place_row.specs.RowTable.{rows_of, table_of, table_rows}
use Rattle.place_row.specs.RowTableLaws.{table_rows_lem}
use Rattle.node_laws.specs.GivenNodes.{given_places}
use Rattle.place_laws.specs.Placed.{rows_of_length, given_edges}
use Rattle.edge_count.specs.Slots.{table_edges, table_counts}
use Rattle.edge_count.specs.declared.Counts.{Counts}
use Rattle.walk_pick.specs.Picks.{PickedAs}
use Rattle.walk_first.specs.FirstSteps.{Held}
use Rattle.verdict_laws.specs.Tables.{nodes_held}

-- the table's rows are the nodes' rows
rows_same : (nodes : List Node) → statements_in nodes ≤ 512 → table_rows (table_of (rows_of nodes)) ≡ rows_of nodes
rows_same nodes statements = table_rows_lem (rows_of nodes) (let e = rows_of_length nodes in omega arith)

-- what is told of a workload: P1 its counts, and that the table of its places and what is picked from it hold its summary graph
pub record PickedVerdict (lines : List Line) (table forwards backs : List ℕ) (r : Counts) : Type 0 where
  pub edges : r.edges ≡ (counts_of lines).edges
  pub back : r.back ≡ (counts_of lines).back
  pub held : Held table forwards backs (summary_graph lines)

-- a given workload that is not too large is judged by the table of its places and what is picked from it, into areas for as many nodes as it has
pub given_picked : (w : Workload) (table forwards₀ backs₀ : List ℕ) {forwards backs : List ℕ} {r : Counts}
    → Given w → is_too_many (lines_of w) ≡ false → table ≡ table_of (rows_of (nodes_of (lines_of w)))
    → length forwards₀ ≡ length (nodes_of (lines_of w)) * 64 → length backs₀ ≡ length (nodes_of (lines_of w)) * 64
    → PickedAs table forwards₀ backs₀ forwards backs r → PickedVerdict (lines_of w) table forwards backs r
unfolding is_too_many summary_graph counts_of table_counts
given_picked w table forwards₀ backs₀ given fits whole forwards_for backs_for picked = record {
  edges = ap (λ (c : Counts). c.edges) picked.counted ∙ ap length same;
  back = ap (λ (c : Counts). c.back) picked.counted ∙ ap (count (λ e. is_back e.flow)) same;
  held = nodes_held (nodes_of (lines_of w)) few statements (lines_of w) (given_places given) table
      (ap table_rows whole ∙ rows_same (nodes_of (lines_of w)) statements) forwards_for backs_for picked;
}
  where
    both : (ltb 64 (length (nodes_of (lines_of w))) ≡ false) × (ltb 512 (statements_in (nodes_of (lines_of w))) ≡ false)
    both = or_false (ltb 64 (length (nodes_of (lines_of w)))) (ltb 512 (statements_in (nodes_of (lines_of w)))) fits

    few : length (nodes_of (lines_of w)) ≤ 64
    few = ltb-false 64 (length (nodes_of (lines_of w))) both.0

    statements : statements_in (nodes_of (lines_of w)) ≤ 512
    statements = ltb-false 512 (statements_in (nodes_of (lines_of w))) both.1

    same : table_edges table ≡ edges_of (nodes_of (lines_of w))
    same = ap table_edges whole ∙ given_edges given fits
