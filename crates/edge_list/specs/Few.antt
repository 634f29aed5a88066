-- A workload that is not refused has at most 524288 edges: 512 places, each with two flows to each.
use Rattle.std.specs.Prelude.{List, Result, ◌≡◌, refl, false, ℕ, ◌≤◌, length}
use Rattle.std.proofs.Common.{inr, ap, subst, arith}
use Rattle.spec_text.specs.declared.Workload.{Workload}
use Rattle.spec_text.specs.Value.{Given, lines_of}
use Rattle.spec_graph.specs.Unfolding.{nodes_of}
use Rattle.spec_graph.specs.Edge as E
use Rattle.spec_report.specs.State.{is_too_many}
use Rattle.spec_report.specs.Refusals.{taken_given}
use Rattle.place_row.specs.RowTable.{rows_of, table_of}
use Rattle.edge_record.specs.declared.Edge.{Edge}
use Rattle.edge_count.specs.declared.Counts.{Counts}
use Rattle.edge_count.specs.Slots.{table_edges, table_counts, slots, counts_below}
use Rattle.edge_count.specs.SlotLaws.{rows_small, edges_few as slots_few}
use Rattle.edge_count.specs.Flattened.{counts_below_lem}
use Rattle.place_laws.specs.Placed.{given_edges}
use Rattle.refusal.specs.declared.Fault.{Fault}
use Rattle.edge_put.specs.Put.{put_said}
use Rattle.edge_list.specs.EdgesSettled.{edges_in, PutSettled}

-- a table has at most as many edges as slots
table_few : (table : List ℕ) → length (table_edges table) ≤ 524288
unfolding table_counts counts_below slots
table_few table =
    let counted = ap (λ (c : Counts). c.edges) (counts_below_lem table) in
    let few = slots_few table (slots table) _ refl in
    let rows = rows_small table in
    omega arith

pub edges_few : (w : Workload) → Given w → is_too_many (lines_of w) ≡ false → length (edges_in w) ≤ 524288
edges_few w g t =
    subst (λ (l : List E.Edge). length l ≤ 524288) (given_edges g t) (table_few (table_of (rows_of (nodes_of (lines_of w)))))

-- so no more are put
pub put_few : {w : Workload} {before after : List Edge} {r : Result ℕ Fault} → PutSettled w before r after → (n : ℕ) → put_said r ≡ inr n → n ≤ 524288
put_few (PutSettled.refused m refusal said same) n e = absurd (let z : ◌≡◌ {A = ℕ} 0 1 = cc in omega arith)
put_few {w} (PutSettled.put refusal said same) n e =
    let m : n ≡ length (edges_in w) = cc in
    let g = taken_given refusal refl in
    let few = edges_few w g.0 g.1 in
    omega arith
