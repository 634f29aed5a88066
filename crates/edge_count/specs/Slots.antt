-- Slots: each row of a table has 1024 slots, two for each row that an edge of it can enter, the forward edge's first.
-- So a slot's rows and flow are told without dividing by the number of rows. Slots past the table's last row stay empty.
use Rattle.std.specs.Prelude.{Bool, cond, ◌&&◌, List, ◌≡◌, ℕ, zero, suc, ◌+◌, ◌-◌, ◌*◌, ◌/◌, ◌%◌, ◌≤◌, eqb, ltb, length}
use mathlib.Core.List.{flat_map}
use Rattle.spec_base.specs.Basic.{count}
use Rattle.spec_graph.specs.Graph as G
use Rattle.spec_graph.specs.Edge as E
use Rattle.place_row.specs.declared.Row.{Row}
use Rattle.place_row.specs.RowTable.{row_at, row_count, row_stands, row_edge, row_edges, table_rows, edges_of_rows}
use Rattle.edge_record.specs.declared.Edge.{Edge}
use Rattle.edge_record.specs.Coded.{coded}
use Rattle.edge_count.specs.declared.Counts.{Counts}

-- the edges of a table, and how many they are
unfoldable pub table_edges : List ℕ → List E.Edge
table_edges table = edges_of_rows (table_rows table)

unfoldable pub table_counts : List ℕ → Counts
table_counts table = record { edges = length (table_edges table); back = count (λ e. G.is_back e.flow) (table_edges table) }

-- the edges that leave row i, which are those between it and each row, and how many they are
abbrev pub edges_leaving : List ℕ → ℕ → List E.Edge
edges_leaving table i = flat_map (row_edges (row_at table i)) (table_rows table)

unfoldable pub row_counts : List ℕ → ℕ → Counts
row_counts table i =
    record { edges = length (edges_leaving table i); back = count (λ e. G.is_back e.flow) (edges_leaving table i) }

-- ---- slots

unfoldable pub slots : List ℕ → ℕ
slots table = row_count table * 1024

abbrev pub flow_at : ℕ → G.Flow
flow_at x = cond (eqb (x % 2) 0) G.Flow.forward G.Flow.back

abbrev pub left_row : List ℕ → ℕ → Row
left_row table x = row_at table (x / 1024)

abbrev pub right_row : List ℕ → ℕ → Row
right_row table x = row_at table (x % 1024 / 2)

-- an edge stands in the slot
unfoldable pub stands_at : List ℕ → ℕ → Bool
stands_at table x = ltb (x % 1024) (row_count table * 2) && row_stands (flow_at x) (left_row table x) (right_row table x)

-- the edge in the slot
unfoldable pub slot_edge : List ℕ → ℕ → E.Edge
slot_edge table x = row_edge (flow_at x) (left_row table x) (right_row table x)

unfoldable pub edge_at : List ℕ → ℕ → Edge
edge_at table x = coded (slot_edge table x)

-- the first slot from x on in which an edge stands, or the end
unfoldable pub next_from : List ℕ → ℕ → ℕ → ℕ
next_from table zero x = slots table
next_from table (suc left) x = cond (stands_at table x) x (next_from table left (suc x))

unfoldable pub next_slot : List ℕ → ℕ → ℕ
next_slot table x = next_from table (slots table - x) x

-- how many edges stand in the slots below x, and how many of them are back edges
abbrev pub one : Bool → ℕ
one b = cond b 1 0

-- the edges between two rows, by whether a forward and a back edge stands
unfoldable pub pair_counts : Bool → Bool → Counts
pair_counts forward back = record { edges = one forward + one back; back = one back }

-- the sum of two counts, as numbers of 64 bits
abbrev pub counts_plus : Counts → Counts → Counts
counts_plus a b = record { edges = (a.edges + b.edges) % 18446744073709551616; back = (a.back + b.back) % 18446744073709551616 }

abbrev pub back_one : Bool → ℕ → ℕ
back_one b x = cond b (cond (eqb (x % 2) 0) 0 1) 0

unfoldable pub edges_below : List ℕ → ℕ → ℕ
edges_below table zero = 0
edges_below table (suc x) = edges_below table x + one (stands_at table x)

unfoldable pub back_below : List ℕ → ℕ → ℕ
back_below table zero = 0
back_below table (suc x) = back_below table x + back_one (stands_at table x) x

unfoldable pub counts_below : List ℕ → ℕ → Counts
counts_below table x = record { edges = edges_below table x; back = back_below table x }

-- row i has its edges into the rows before row j counted: as many stand in its slots for them
pub record LeavingTo (table : List ℕ) (i j : ℕ) (counts : Counts) : Type 0 where
  pub edges : edges_below table (i * 1024) + counts.edges ≡ edges_below table (i * 1024 + j * 2)
  pub back : back_below table (i * 1024) + counts.back ≡ back_below table (i * 1024 + j * 2)
  pub few : counts.edges ≤ j * 2
  pub back_few : counts.back ≤ j
