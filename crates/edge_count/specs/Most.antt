-- How many edges a table has, and how many there can be.
use Rattle.std.specs.Prelude.{◌≡◌, Bool, true, false, cond, ℕ, ◌*◌, ◌≤◌, leb, length}
use Rattle.std.proofs.Common.{sym, ap, ◌∙◌, mul_comm, mul_assoc, le_trans, le-leb}
use mathlib.Core.List.{List, [], ◌∷◌, ◌++◌, map, flat_map}
use Rattle.std.proofs.Math.Nat.{suc-mul}
use native.Mathlib.Omega.{arith}
use Rattle.std.proofs.Math.ListN.{length-append}
use Rattle.std.proofs.lemmas.List.{length-map}
use Rattle.spec_base.specs.Basic.{numbers}
use Rattle.law_base.specs.ListLaws.{length_numbers}
use Rattle.spec_graph.specs.Graph as G
use Rattle.place_row.specs.declared.Row.{Row}
use Rattle.place_row.specs.RowTable.{row_at, row_count, row_forward, row_back, row_edge, row_edges, table_rows, edges_of_rows}
use Rattle.edge_count.specs.declared.Counts.{Counts}
use Rattle.edge_count.specs.Slots.{table_edges, table_counts}

-- how many edges there are
pub count_is : (table : List ℕ) (counts : Counts) → counts ≡ table_counts table → counts.edges ≡ length (table_edges table)
unfolding table_counts
count_is table counts e = ap (λ (c : Counts). c.edges) e

-- ---- room for all edges

module _ {A B : Type 0} where
  flat_most : (f : A → List B) (m : ℕ) (l : List A) → ((x : A) → length (f x) ≤ m) → length (flat_map f l) ≤ length l * m
  unfolding flat_map
  flat_most f m [] h = omega arith
  flat_most f m (x ∷ l) h =
      let e = length-append (f x) (flat_map f l) in
      let a = h x in
      let b = flat_most f m l h in
      let s = suc-mul (length l) m in
      omega arith

-- two edges to each pair of rows
pub edges_most : (table : List ℕ) (n : ℕ) → n ≡ row_count table → length (table_edges table) ≤ 2 * n * n
unfolding table_edges edges_of_rows table_rows row_edges
edges_most table n e =
    let rows = map (row_at table) (numbers (row_count table)) in
    let long : length rows ≡ n = length-map (numbers (row_count table)) (row_at table) ∙ length_numbers (row_count table) ∙ sym e in
    let h = flat_most (λ p. flat_map (row_edges p) rows) (length rows * 2) rows (λ p. flat_most (row_edges p) 2 rows (λ q. pair_two p q)) in
    let s : length rows * (length rows * 2) ≡ 2 * n * n =
    ap (λ (k : ℕ). k * (k * 2)) long ∙ ap (λ (k : ℕ). n * k) (mul_comm n 2) ∙ sym (mul_assoc n 2 n) ∙ ap (λ (k : ℕ). k * n) (mul_comm n 2) in
    omega arith
  where
    pair_two : (p q : Row) → length (row_edges p q) ≤ 2
    pair_two p q = go (row_forward p q) (row_back p q)
      where
        go : (f b : Bool) → length (cond f (row_edge G.Flow.forward p q ∷ []) [] ++ cond b (row_edge G.Flow.back p q ∷ []) []) ≤ 2
        go true true = omega arith
        go true false = omega arith
        go false true = omega arith
        go false false = omega arith

-- so they fit where there is as much room
pub fits_surely : (table : List ℕ) (n room : ℕ) → n ≡ row_count table → 2 * n * n ≤ room → true ≡ leb (length (table_edges table)) room
fits_surely table n room rows h = sym (le-leb _ _ (le_trans (edges_most table n rows) h))
