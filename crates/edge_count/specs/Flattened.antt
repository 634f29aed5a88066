-- The edges of a table are what stands in its slots, slot after slot.
use Rattle.std.specs.Prelude.{◌≡◌, Bool, ◌&&◌, eqb, ltb}
use Rattle.std.proofs.Math.Path.{refl, sym, ap, ap₂}
use Rattle.std.proofs.Common.{◌∙◌, le_antisymm, add-suc, add-zero, zero-add, suc-add, add_comm, suc-mul, zero-mul, mod-eq_of_lt, add-one, length-append, lt-ltb, le-ltb}
use Rattle.std.proofs.Math.Bool.{true, false, cond}
use mathlib.Core.List.{List, [], ◌∷◌, ◌++◌, map, flat_map, append-nil}
use Prim.Native.Nat.{ℕ, zero, suc, ◌+◌, ◌-◌, ◌*◌, ◌/◌, ◌%◌, ◌≤◌, ◌<◌}
use Rattle.std.proofs.Math.Nat.{mul-add-div_right, div-eq_of_lt, add-mul-mod_self_right}
use native.Mathlib.Omega.{arith}
use Rattle.std.proofs.Math.ListN.{length}
use Rattle.spec_base.specs.Basic.{count, numbers, numbers_from}
use Rattle.law_base.specs.ListLaws.{count_append, numbers_member, numbers_from_member}
use Rattle.spec_graph.specs.Graph as G
use Rattle.spec_graph.specs.Edge as E
use Rattle.place_row.specs.declared.Row.{Row}
use Rattle.place_row.specs.RowTable.{row_at, row_count, row_forward, row_back, row_stands, row_edge, row_edges, table_rows, edges_of_rows}
use Rattle.law_base.specs.FlatLaws.{flat_map_map, flat_map_append, flat_map_same, flat_map_none}
use Rattle.edge_count.specs.declared.Counts.{Counts}
use Rattle.edge_count.specs.Slots.{table_edges, table_counts, slots, left_row, right_row, stands_at, slot_edge}
use Rattle.edge_count.specs.Slots.{one, edges_below, back_below, counts_below, counts_plus, edges_leaving, row_counts, LeavingTo}
use Rattle.edge_count.specs.SlotLaws.{rows_small, rows_few, edges_few, back_few, plus_parts, row_counted}

-- ---- numbers in rows

-- numbers in two parts
pub numbers_from_append : (a k m : ℕ) → numbers_from a (k + m) ≡ numbers_from a k ++ numbers_from (a + k) m
numbers_from_append a zero m = ap₂ numbers_from (sym (add-zero a)) (zero-add m)
numbers_from_append a (suc k) m =
    ap (numbers_from a) (suc-add k m)
    ∙ ap (λ (l : List ℕ). a ∷ l)
    (numbers_from_append (suc a) k m ∙ ap (λ (b : ℕ). numbers_from (suc a) k ++ numbers_from b m) (suc-add a k ∙ sym (add-suc a k)))

module _ {C : Type 0} (g : ℕ → ℕ → List C) (n : ℕ) where
  -- a number is told by its row and its place in the row
  abbrev cell : ℕ → List C
  cell x = g (x / n) (x % n)

  cell_is : (i j : ℕ) → j < n → g i j ≡ cell (i * n + j)
  cell_is i j h =
      ap₂ g
      (sym (mul-add-div_right (omega arith) i j ∙ ap (λ (k : ℕ). i + k) (div-eq_of_lt h) ∙ add-zero i))
      (sym (ap (λ (k : ℕ). k % n) (add_comm (i * n) j) ∙ add-mul-mod_self_right j i n ∙ mod-eq_of_lt h))

  -- part of a row
  row_part : (i j k : ℕ) → j + k ≤ n → flat_map (g i) (numbers_from j k) ≡ flat_map cell (numbers_from (i * n + j) k)
  unfolding flat_map
  row_part i j zero h = refl
  row_part i j (suc k) h =
      ap₂ (λ (a b : List C). a ++ b) (cell_is i j (omega arith))
      (row_part i (suc j) k (omega arith) ∙ ap (λ (b : ℕ). flat_map cell (numbers_from b k)) (add-suc (i * n) j))

  -- rows one after the other are one list of numbers
  rows_flat : (a m : ℕ) → flat_map (λ i. flat_map (g i) (numbers n)) (numbers_from a m) ≡ flat_map cell (numbers_from (a * n) (m * n))
  unfolding flat_map
  rows_flat a zero = ap (λ (k : ℕ). flat_map cell (numbers_from (a * n) k)) (sym (zero-mul n))
  rows_flat a (suc m) =
      ap₂ (λ (p q : List C). p ++ q)
      (row_part a 0 n (omega arith) ∙ ap (λ (b : ℕ). flat_map cell (numbers_from b n)) (add-zero (a * n)))
      (rows_flat (suc a) m ∙ ap (λ (b : ℕ). flat_map cell (numbers_from b (m * n))) (suc-mul a n))
      ∙ sym (flat_map_append cell (numbers_from (a * n) n) (numbers_from (a * n + n) (m * n)))
      ∙ ap (flat_map cell)
      (sym (numbers_from_append (a * n) n (m * n)) ∙ ap (numbers_from (a * n)) (add_comm n (m * n) ∙ sym (suc-mul m n)))

  -- the same from the first number on
  square_flat : (m : ℕ) → flat_map (λ i. flat_map (g i) (numbers n)) (numbers m) ≡ flat_map cell (numbers (m * n))
  square_flat m = rows_flat 0 m ∙ ap (λ (b : ℕ). flat_map cell (numbers_from b (m * n))) (zero-mul n)

-- ---- slots

-- the edge in a slot, if one stands there
unfoldable pub slot_edges : List ℕ → ℕ → List E.Edge
slot_edges table x = cond (stands_at table x) (slot_edge table x ∷ []) []

-- the forward edge or the back edge between two rows, if it stands
abbrev flow_edges : Row → Row → ℕ → List E.Edge
flow_edges p q b =
    let flow = cond (eqb b 0) G.Flow.forward G.Flow.back in
    cond (row_stands flow p q) (row_edge flow p q ∷ []) []

-- the forward edge is in the first of a pair's two slots
pair_slots : (p q : Row) → row_edges p q ≡ flat_map (flow_edges p q) (numbers 2)
unfolding row_edges flat_map
pair_slots p q =
    ap (λ (l : List E.Edge). cond (row_forward p q) (row_edge G.Flow.forward p q ∷ []) [] ++ l)
    (sym (append-nil (cond (row_back p q) (row_edge G.Flow.back p q ∷ []) [])))

module _ (table : List ℕ) where
  abbrev n : ℕ
  n = row_count table

  -- what stands in slot y of a row
  abbrev row_slot : Row → ℕ → List E.Edge
  row_slot p y =
      let flow = cond (eqb (y % 2) 0) G.Flow.forward G.Flow.back in
      cond (ltb y (n * 2) && row_stands flow p (row_at table (y / 2))) (row_edge flow p (row_at table (y / 2)) ∷ []) []

  slot_inside : (p : Row) (y : ℕ) → y < n * 2 → flow_edges p (row_at table (y / 2)) (y % 2) ≡ row_slot p y
  slot_inside p y h = simp (lt-ltb y (n * 2) h)

  slot_past : (p : Row) (y : ℕ) → n * 2 ≤ y → row_slot p y ≡ []
  slot_past p y h = simp (le-ltb y (n * 2) h)

  -- the edges that leave a row, in the order of the row's slots
  row_flat : (p : Row) → flat_map (λ j. row_edges p (row_at table j)) (numbers n) ≡ flat_map (row_slot p) (numbers 1024)
  row_flat p =
      flat_map_same _ _ (numbers n) (λ j h. pair_slots p (row_at table j))
      ∙ square_flat (λ j b. flow_edges p (row_at table j) b) 2 n
      ∙ flat_map_same _ _ (numbers (n * 2)) (λ y h. slot_inside p y (numbers_member (n * 2) h))
      ∙ sym (append-nil (flat_map (row_slot p) (numbers (n * 2))))
      ∙ ap (λ (l : List E.Edge). flat_map (row_slot p) (numbers (n * 2)) ++ l) (sym none)
      ∙ sym (flat_map_append (row_slot p) (numbers (n * 2)) (numbers_from (0 + n * 2) (1024 - n * 2)))
      ∙ ap (flat_map (row_slot p)) (sym (numbers_from_append 0 (n * 2) (1024 - n * 2)) ∙ ap numbers whole)
    where
      whole : n * 2 + (1024 - n * 2) ≡ 1024
      whole = let h = rows_small table in omega arith

      none : flat_map (row_slot p) (numbers_from (0 + n * 2) (1024 - n * 2)) ≡ []
      none =
          flat_map_none (row_slot p) (numbers_from (0 + n * 2) (1024 - n * 2))
          (λ y h. slot_past p y (let l = (numbers_from_member (0 + n * 2) (1024 - n * 2) h).0 in omega arith))

  -- a slot's number tells its row and its place in the row
  slot_is : (x : ℕ) → row_slot (row_at table (x / 1024)) (x % 1024) ≡ slot_edges table x
  unfolding slot_edges stands_at slot_edge
  slot_is x =
      let e : x % 1024 % 2 ≡ x % 2 = omega arith in
      ap (λ (b : ℕ). let flow = cond (eqb b 0) G.Flow.forward G.Flow.back in
      cond (ltb (x % 1024) (n * 2) && row_stands flow (left_row table x) (right_row table x))
      (row_edge flow (left_row table x) (right_row table x) ∷ []) []) e

  -- E5: the edges of a table in the order of its slots
  pub edges_flat : table_edges table ≡ flat_map (slot_edges table) (numbers (slots table))
  unfolding table_edges edges_of_rows table_rows slots
  edges_flat =
      flat_map_map (λ p. flat_map (row_edges p) (map (row_at table) (numbers n))) (row_at table) (numbers n)
      ∙ flat_map_same _ _ (numbers n)
      (λ i h. flat_map_map (row_edges (row_at table i)) (row_at table) (numbers n) ∙ row_flat (row_at table i))
      ∙ square_flat (λ i y. row_slot (row_at table i) y) 1024 n
      ∙ flat_map_same _ _ (numbers (n * 1024)) (λ x h. slot_is x)

  -- one slot more
  slots_more : (x : ℕ) → flat_map (slot_edges table) (numbers (suc x)) ≡ flat_map (slot_edges table) (numbers x) ++ slot_edges table x
  unfolding flat_map
  slots_more x =
      ap (flat_map (slot_edges table)) (ap numbers (sym (add-one x)) ∙ numbers_from_append 0 x 1)
      ∙ flat_map_append (slot_edges table) (numbers x) (numbers_from (0 + x) 1)
      ∙ ap (λ (l : List E.Edge). flat_map (slot_edges table) (numbers x) ++ l)
      (ap (λ (y : ℕ). slot_edges table y ++ []) (zero-add x) ∙ append-nil (slot_edges table x))

  -- the edges in the slots below x
  pub edges_below_lem : (x : ℕ) → edges_below table x ≡ length (flat_map (slot_edges table) (numbers x))
  unfolding edges_below flat_map slot_edges
  edges_below_lem zero = refl
  edges_below_lem (suc x) =
      ap₂ ◌+◌ (edges_below_lem x) (one_length (stands_at table x))
      ∙ sym (length-append (flat_map (slot_edges table) (numbers x)) (slot_edges table x))
      ∙ sym (ap length (slots_more x))
    where
      one_length : (b : Bool) → one b ≡ length (cond b (slot_edge table x ∷ []) [])
      one_length true = refl
      one_length false = refl

  -- the back edges in the slots below x
  back_below_lem : (x : ℕ) → back_below table x ≡ count (λ e. G.is_back e.flow) (flat_map (slot_edges table) (numbers x))
  unfolding back_below flat_map slot_edges slot_edge row_edge
  back_below_lem zero = refl
  back_below_lem (suc x) =
      ap₂ ◌+◌ (back_below_lem x) (one_back (stands_at table x) (eqb (x % 2) 0))
      ∙ sym (count_append (λ e. G.is_back e.flow) (flat_map (slot_edges table) (numbers x)) (slot_edges table x))
      ∙ sym (ap (count (λ e. G.is_back e.flow)) (slots_more x))
    where
      one_back : (b even : Bool)
          → cond b (cond even 0 1) 0
          ≡ count {A = E.Edge} (λ e. G.is_back e.flow)
          (cond b (row_edge (cond even G.Flow.forward G.Flow.back) (left_row table x) (right_row table x) ∷ []) [])
      one_back true true = refl
      one_back true false = refl
      one_back false even = refl

  -- the counts of a table
  pub counts_below_lem : counts_below table (slots table) ≡ table_counts table
  unfolding counts_below table_counts
  counts_below_lem = λ i. record {
    edges = (edges_below_lem (slots table) ∙ sym (ap length edges_flat)) i;
    back = (back_below_lem (slots table) ∙ sym (ap (count (λ e. G.is_back e.flow)) edges_flat)) i;
  }

-- ---- the edges that leave a row

module _ (table : List ℕ) (i : ℕ) where
  -- they are what stands in its slots
  leaving_flat : edges_leaving table i ≡ flat_map (slot_edges table) (numbers_from (i * 1024) 1024)
  unfolding table_rows
  leaving_flat =
      flat_map_map (row_edges (row_at table i)) (row_at table) (numbers (row_count table))
      ∙ row_flat table (row_at table i)
      ∙ row_part (λ i y. row_slot table (row_at table i) y) 1024 i 0 1024 (omega arith)
      ∙ ap (λ (b : ℕ). flat_map (λ x. row_slot table (row_at table (x / 1024)) (x % 1024)) (numbers_from b 1024)) (add-zero (i * 1024))
      ∙ flat_map_same _ _ (numbers_from (i * 1024) 1024) (λ x h. slot_is table x)

  -- what stands in the slots of all rows up to this one
  leaving_next : flat_map (slot_edges table) (numbers (i * 1024 + 1024))
      ≡ flat_map (slot_edges table) (numbers (i * 1024)) ++ edges_leaving table i
  leaving_next =
      ap (flat_map (slot_edges table)) (numbers_from_append 0 (i * 1024) 1024)
      ∙ flat_map_append (slot_edges table) (numbers (i * 1024)) (numbers_from (0 + i * 1024) 1024)
      ∙ ap (λ (b : ℕ). flat_map (slot_edges table) (numbers (i * 1024)) ++ flat_map (slot_edges table) (numbers_from b 1024)) (zero-add (i * 1024))
      ∙ ap (λ (l : List E.Edge). flat_map (slot_edges table) (numbers (i * 1024)) ++ l) (sym leaving_flat)

  -- so they and the edges below its slots are the edges below the next row's
  pub leaving_edges : {c : Counts} → c ≡ row_counts table i → edges_below table (i * 1024) + c.edges ≡ edges_below table (i * 1024 + 1024)
  unfolding row_counts
  leaving_edges e =
      ap₂ ◌+◌ (edges_below_lem table (i * 1024)) (ap (λ (c : Counts). c.edges) e)
      ∙ sym (length-append (flat_map (slot_edges table) (numbers (i * 1024))) (edges_leaving table i))
      ∙ sym (ap length leaving_next)
      ∙ sym (edges_below_lem table (i * 1024 + 1024))

  leaving_back : {c : Counts} → c ≡ row_counts table i → back_below table (i * 1024) + c.back ≡ back_below table (i * 1024 + 1024)
  unfolding row_counts
  leaving_back e =
      ap₂ ◌+◌ (back_below_lem table (i * 1024)) (ap (λ (c : Counts). c.back) e)
      ∙ sym (count_append (λ e. G.is_back e.flow) (flat_map (slot_edges table) (numbers (i * 1024))) (edges_leaving table i))
      ∙ sym (ap (count (λ e. G.is_back e.flow)) leaving_next)
      ∙ sym (back_below_lem table (i * 1024 + 1024))

  -- a row's edges into all rows are those that leave it
  pub leaving_all : {j : ℕ} {counts : Counts} → j ≡ row_count table → LeavingTo table i j counts → counts ≡ row_counts table i
  unfolding counts_below
  leaving_all {j} {counts} rows to =
      let all = row_counted table i j _ _ rows to.edges to.back in
      let whole = ap (λ (c : Counts). c.edges) all in
      let whole_back = ap (λ (c : Counts). c.back) all in
      let edges = leaving_edges {c = row_counts table i} refl in
      let back = leaving_back {c = row_counts table i} refl in
      ap₂ (λ (a b : ℕ). record { edges = a; back = b }) (omega (arith, whole, edges)) (omega (arith, whole_back, back))

  -- the counts below a row's slots and those of the row are the counts below the next row's: no sum passes 64 bits
  pub counts_more : {n : ℕ} {counts more r : Counts} → n ≡ row_count table → i < n → counts ≡ counts_below table (i * 1024)
      → more ≡ row_counts table i → r ≡ counts_plus counts more → r ≡ counts_below table (i * 1024 + 1024)
  unfolding counts_below
  counts_more {n} {counts} {more} rows inside e told is =
      let few = rows_few table n rows in
      let edges = ap (λ (c : Counts). c.edges) e in
      let back = ap (λ (c : Counts). c.back) e in
      let edges_next = leaving_edges told in
      let back_next = leaving_back told in
      let most = edges_few table (i * 1024 + 1024) _ refl in
      let back_most = back_few table (i * 1024 + 1024) _ refl in
      let sum = plus_parts counts more is (omega (arith, edges, edges_next, most, few, inside)) (omega (arith, back, back_next, back_most, few, inside)) in
      ap₂ (λ (a b : ℕ). record { edges = a; back = b })
      (omega (arith, sum.0, edges, edges_next)) (omega (arith, sum.1, back, back_next))

-- the counts below all rows are the counts of the table
pub counts_all : (table : List ℕ) (n i : ℕ) (counts : Counts)
    → n ≡ row_count table
    → i ≤ n
    → n ≤ i
    → counts ≡ counts_below table (i * 1024)
    → counts ≡ table_counts table
unfolding slots
counts_all table n i counts rows most least e =
    e ∙ ap (λ (k : ℕ). counts_below table (k * 1024)) (le_antisymm most least ∙ rows) ∙ counts_below_lem table
