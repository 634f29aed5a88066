-- The steps of counting: a pair of rows, a row with all rows, all rows.
use Rattle.std.specs.Prelude.{Bool, ◌&&◌, ◌≡◌, ℕ, zero, suc, ◌+◌, ◌≤◌}
use mathlib.Core.List.{List, map, flat_map}
use Rattle.spec_base.specs.Basic.{count, numbers}
use Rattle.spec_graph.specs.Graph as G
use Rattle.spec_graph.specs.Edge as E
use Rattle.place_row.specs.declared.Row.{Row}
use Rattle.place_row.specs.RowTable.{row_at, row_edges, table_rows}
use Rattle.edge_count.specs.declared.Counts.{Counts}
use Rattle.edge_between.specs.Between.{in_range, goes}

abbrev pub nothing_counted : Counts
nothing_counted = record { edges = 0; back = 0 }

-- an edge that enters a node in the range; a back edge that does
abbrev pub enters : ℕ → ℕ → E.Edge → Bool
enters from to e = in_range from to e.into

abbrev pub enters_back : ℕ → ℕ → E.Edge → Bool
enters_back from to e = in_range from to e.into && G.is_back e.flow

abbrev pub goes_back : ℕ → ℕ → ℕ → ℕ → E.Edge → Bool
goes_back a b c d e = goes a b c d e && G.is_back e.flow

-- the edges between two rows that enter the range
unfoldable pub pair_entering : ℕ → ℕ → Row → Row → Counts
pair_entering from to p q =
    record { edges = count (enters from to) (row_edges p q); back = count (enters_back from to) (row_edges p q) }

-- the edges that leave a row
abbrev pub leaving : List ℕ → Row → List E.Edge
leaving table p = flat_map (row_edges p) (table_rows table)

-- those that enter the range
unfoldable pub row_entering : List ℕ → Row → ℕ → ℕ → Counts
row_entering table p from to =
    record { edges = count (enters from to) (leaving table p); back = count (enters_back from to) (leaving table p) }

-- the edges that leave row i and go from the first range to the second
unfoldable pub row_between : List ℕ → ℕ → ℕ → ℕ → ℕ → ℕ → Counts
row_between table i a b c d = record {
  edges = count (goes a b c d) (leaving table (row_at table i));
  back = count (goes_back a b c d) (leaving table (row_at table i));
}

-- a result equals what the definition counts, and is small
pub record Few (most : ℕ) (counted r : Counts) : Type 0 where
  pub same : r ≡ counted
  pub edges : r.edges ≤ most
  pub back : r.back ≤ most

-- the sum of the first n numbers of a row of numbers
unfoldable pub sum_to : (ℕ → ℕ) → ℕ → ℕ
sum_to f zero = 0
sum_to f (suc n) = sum_to f n + f n
