-- The table of the places of a given workload: its statements are lawful and its rows at most 512, so it has the workload's edges.
use Rattle.std.specs.Prelude.{◌≡◌, refl, false, List, [], ◌∷◌, map, ℕ, suc, ltb, length}
use Rattle.std.proofs.Common.{ap, ◌∙◌, arith, length-append, ltb-false}
use Rattle.law_base.specs.BoolLaws.{or_false}
use Rattle.spec_text.specs.declared.Workload.{Workload}
use Rattle.spec_text.specs.Value.{Given, lines_of}
use Rattle.spec_graph.specs.Unfolding.{Node, Occurrence, nodes_of}
use Rattle.spec_graph.specs.Edge.{places_from, places_of, edges_of}
use Rattle.spec_report.specs.State.{statements_in, is_too_many}
use Rattle.node_laws.specs.GivenNodes.{given_places}
use Rattle.place_row.specs.RowTable.{row_of, rows_of, table_of}
use Rattle.edge_count.specs.Slots.{table_edges}
use Rattle.edge_count.specs.NodeEdges.{table_edges_lem}

pub places_from_length : (m : ℕ) (n : Node) (i : ℕ) (l : List Occurrence) → length (places_from m n i l) ≡ length l
unfolding places_from
places_from_length m n i [] = refl
places_from_length m n i (o ∷ l) = ap suc (places_from_length m n (suc i) l)

-- as many places as statements in the nodes
pub places_of_length : (m : ℕ) (nodes : List Node) → length (places_of m nodes) ≡ statements_in nodes
unfolding places_of statements_in
places_of_length m [] = refl
places_of_length m (n ∷ nodes) =
    length-append (places_from m n 0 n.places) (places_of (suc m) nodes)
    ∙ (let a = places_from_length m n 0 n.places in let b = places_of_length (suc m) nodes in omega arith)

map_length : {A B : Type 0} (f : A → B) (l : List A) → length (map f l) ≡ length l
map_length f [] = refl
map_length f (x ∷ l) = ap suc (map_length f l)

-- as many rows as statements in the nodes
pub rows_of_length : (nodes : List Node) → length (rows_of nodes) ≡ statements_in nodes
unfolding rows_of
rows_of_length nodes = map_length row_of (places_of 0 nodes) ∙ places_of_length 0 nodes

-- E5: the table of the places of a given workload that is not too large has the workload's edges
pub given_edges : {w : Workload} → Given w → is_too_many (lines_of w) ≡ false
    → table_edges (table_of (rows_of (nodes_of (lines_of w)))) ≡ edges_of (nodes_of (lines_of w))
unfolding is_too_many
given_edges {w} given fits =
    let nodes = nodes_of (lines_of w) in
    let few = ltb-false 512 (statements_in nodes) (or_false (ltb 64 (length nodes)) (ltb 512 (statements_in nodes)) fits).1 in
    let rows = rows_of_length nodes in
    table_edges_lem (lines_of w) nodes (given_places given) (omega arith)
