-- Laws of slots.
use Rattle.std.specs.Prelude.{◌≡◌, refl, Bool, cond, List, eqb, ltb}
use Rattle.std.proofs.Math.Path.{sym, ap, ap₂}
use Rattle.std.proofs.Common.{◌∙◌, add-zero, add-suc, arith, add-one, mod-eq_of_lt}
use Prim.Native.Nat.{ℕ, zero, suc, ◌+◌, ◌-◌, ◌*◌, ◌/◌, ◌%◌, ◌≤◌, ◌<◌}
use Rattle.std.proofs.Math.Bool.{true, false}
use borrow.Author.Tests.{eq-eqb, ne_eqb, lt-ltb, le-ltb}
use Rattle.law_base.specs.BoolLaws.{and_right}
use Rattle.spec_graph.specs.Graph as G
use Rattle.place_row.specs.declared.Row.{Row}
use Rattle.place_row.specs.RowTable.{row_at, row_count, row_forward, row_back, row_stands, row_edge}
use Rattle.edge_count.specs.declared.Counts.{Counts}
use Rattle.edge_record.specs.Coded.{coded}
use Rattle.edge_count.specs.Slots.{left_row, right_row, LeavingTo}
use Rattle.edge_count.specs.Slots.{stands_at, slot_edge, edge_at, one, pair_counts, counts_plus, back_one, edges_below, back_below, counts_below}

-- a table has at most 512 rows
pub rows_small : (table : List ℕ) → row_count table ≤ 512
unfolding row_count
rows_small table = omega arith

pub rows_few : (table : List ℕ) (n : ℕ) → n ≡ row_count table → n ≤ 512
rows_few table n e = let h = rows_small table in omega arith

-- ---- what stands in a slot

module _ (table : List ℕ) (x : ℕ) where
  -- past the table's last row nothing stands
  pub stands_past : (n : ℕ) → n ≡ row_count table → n * 2 ≤ x % 1024 → false ≡ stands_at table x
  unfolding stands_at
  stands_past n rows h = simp (le-ltb (x % 1024) (row_count table * 2) (omega arith))

  -- nor between rows of two relations
  pub stands_apart : ((left_row table x).relation ≡ (right_row table x).relation → ⊥) → false ≡ stands_at table x
  unfolding stands_at row_forward row_back
  stands_apart h = sym (and_right (ltb (x % 1024) (row_count table * 2)) (go (eqb (x % 2) 0)))
    where
      go : (b : Bool) → row_stands (cond b G.Flow.forward G.Flow.back) (left_row table x) (right_row table x) ≡ false
      go true = simp (ne_eqb (left_row table x).relation (right_row table x).relation h)
      go false = simp (ne_eqb (left_row table x).relation (right_row table x).relation h)

  pub stands_forward : (n : ℕ) → n ≡ row_count table → x % 1024 < n * 2 → x % 2 ≡ 0
      → row_forward (left_row table x) (right_row table x) ≡ stands_at table x
  unfolding stands_at
  stands_forward n rows l e = simp (lt-ltb (x % 1024) (row_count table * 2) (omega arith), eq-eqb (x % 2) 0 e)

  pub stands_back : (n : ℕ) → n ≡ row_count table → x % 1024 < n * 2 → (x % 2 ≡ 0 → ⊥)
      → row_back (left_row table x) (right_row table x) ≡ stands_at table x
  unfolding stands_at
  stands_back n rows l e = simp (lt-ltb (x % 1024) (row_count table * 2) (omega arith), ne_eqb (x % 2) 0 e)

  pub edge_forward : x % 2 ≡ 0 → coded (row_edge G.Flow.forward (left_row table x) (right_row table x)) ≡ edge_at table x
  unfolding edge_at slot_edge
  edge_forward e = simp (eq-eqb (x % 2) 0 e)

  pub edge_back : (x % 2 ≡ 0 → ⊥) → coded (row_edge G.Flow.back (left_row table x) (right_row table x)) ≡ edge_at table x
  unfolding edge_at slot_edge
  edge_back e = simp (ne_eqb (x % 2) 0 e)

-- ---- counts

one_le : (b : Bool) → one b ≤ 1
one_le true = omega arith
one_le false = omega arith

-- a pair has at most two edges
pub pair_most : (forward back : Bool) {c : Counts} → c ≡ pair_counts forward back → (c.edges ≤ 2) × (c.back ≤ 1)
unfolding pair_counts
pair_most forward back e =
    let f = one_le forward in
    let b = one_le back in
    (rw e (omega arith), rw e b)

-- where no sum passes 64 bits, counts are added as numbers
pub plus_parts : (a b : Counts) {r : Counts} → r ≡ counts_plus a b → a.edges + b.edges < 18446744073709551616 → a.back + b.back < 18446744073709551616
    → (r.edges ≡ a.edges + b.edges) × (r.back ≡ a.back + b.back)
plus_parts a b e h l =
    (ap (λ (c : Counts). c.edges) e ∙ mod-eq_of_lt h, ap (λ (c : Counts). c.back) e ∙ mod-eq_of_lt l)

-- no more edges than slots
edges_below_le : (table : List ℕ) (x : ℕ) → edges_below table x ≤ x
unfolding edges_below
edges_below_le table zero = omega arith
edges_below_le table (suc x) = let h = edges_below_le table x in let k = one_le (stands_at table x) in omega arith

back_below_le : (table : List ℕ) (x : ℕ) → back_below table x ≤ edges_below table x
unfolding back_below edges_below
back_below_le table zero = omega arith
back_below_le table (suc x) = let h = back_below_le table x in let k = go (stands_at table x) (eqb (x % 2) 0) in omega arith
  where
    go : (b even : Bool) → cond b (cond even 0 1) 0 ≤ one b
    go true true = omega arith
    go true false = omega arith
    go false even = omega arith

pub edges_few : (table : List ℕ) (x edges : ℕ) → edges ≡ edges_below table x → edges ≤ x
edges_few table x edges e = let h = edges_below_le table x in omega arith

pub back_few : (table : List ℕ) (x back : ℕ) → back ≡ back_below table x → back ≤ x
back_few table x back e = let h = edges_below_le table x in let k = back_below_le table x in omega arith

-- a back edge stands in an odd slot
back_even : (b : Bool) (x : ℕ) → x % 2 ≡ 0 → back_one b x ≡ 0
back_even true x e = ap (λ (c : Bool). cond c 0 1) (eq-eqb (x % 2) 0 e)
back_even false x e = refl

back_odd : (b : Bool) (x : ℕ) → (x % 2 ≡ 0 → ⊥) → back_one b x ≡ one b
back_odd true x e = ap (λ (c : Bool). cond c 0 1) (ne_eqb (x % 2) 0 e)
back_odd false x e = refl

-- ---- a pair's two slots counted

module _ (table : List ℕ) (n i j : ℕ) (rows : n ≡ row_count table) (inside : j < n) where
  abbrev p : Row
  p = row_at table i

  abbrev q : Row
  q = row_at table j

  -- the pair's first slot
  abbrev here : ℕ
  here = i * 1024 + j * 2

  few : n ≤ 512
  few = rows_few table n rows

  left_is : (x : ℕ) → here ≤ x → x ≤ here + 1 → left_row table x ≡ p
  left_is x l m = let h = few in let e : x / 1024 ≡ i = omega arith in ap (row_at table) e

  right_is : (x : ℕ) → here ≤ x → x ≤ here + 1 → right_row table x ≡ q
  right_is x l m = let h = few in let e : x % 1024 / 2 ≡ j = omega arith in ap (row_at table) e

  even : here % 2 ≡ 0
  even = omega arith

  odd : (here + 1) % 2 ≡ 0 → ⊥
  odd e = omega arith

  first_stands : stands_at table here ≡ row_forward p q
  first_stands =
      let h = few in
      sym (stands_forward table here n rows (omega arith) even)
      ∙ ap₂ row_forward (left_is here (omega arith) (omega arith)) (right_is here (omega arith) (omega arith))

  second_stands : stands_at table (here + 1) ≡ row_back p q
  second_stands =
      let h = few in
      sym (stands_back table (here + 1) n rows (omega arith) odd)
      ∙ ap₂ row_back (left_is (here + 1) (omega arith) (omega arith)) (right_is (here + 1) (omega arith) (omega arith))

  two_on : i * 1024 + (j + 1) * 2 ≡ suc (suc here)
  two_on = omega arith

  pub pair_edges : (edges : ℕ) {c : Counts} → edges ≡ edges_below table here → c ≡ pair_counts (row_forward p q) (row_back p q)
      → edges + c.edges ≡ edges_below table (i * 1024 + (j + 1) * 2)
  unfolding edges_below pair_counts
  pair_edges edges e told =
      let first : edges_below table (suc here) ≡ edges + one (row_forward p q) = ap₂ ◌+◌ (sym e) (ap one first_stands) in
      let second : one (stands_at table (suc here)) ≡ one (row_back p q)
      = ap one (ap (stands_at table) (sym (add-one here)) ∙ second_stands) in
      rw told (omega (arith, first, second)) ∙ ap (edges_below table) (sym two_on)

  pub pair_back : (back : ℕ) {c : Counts} → back ≡ back_below table here → c ≡ pair_counts (row_forward p q) (row_back p q)
      → back + c.back ≡ back_below table (i * 1024 + (j + 1) * 2)
  unfolding back_below pair_counts
  pair_back back e told =
      let first = back_even (stands_at table here) here even in
      let second : back_one (stands_at table (suc here)) (suc here) ≡ one (row_back p q)
      = ap (λ (y : ℕ). back_one (stands_at table y) y) (sym (add-one here))
      ∙ back_odd (stands_at table (here + 1)) (here + 1) odd ∙ ap one second_stands in
      rw told (omega (arith, first, second)) ∙ ap (back_below table) (sym two_on)

-- ---- a row counted

-- no edge stands past the table's last row
past_edges : (table : List ℕ) (x d : ℕ) → ((y : ℕ) → x ≤ y → y < x + d → stands_at table y ≡ false)
    → (edges_below table (x + d) ≡ edges_below table x) × (back_below table (x + d) ≡ back_below table x)
unfolding edges_below back_below
past_edges table x zero empty = (ap (edges_below table) (add-zero x), ap (back_below table) (add-zero x))
past_edges table x (suc d) empty =
    let less = past_edges table x d (λ y l m. empty y l (omega arith)) in
    let none = empty (x + d) (omega arith) (omega arith) in (
      ap (edges_below table) (add-suc x d) ∙ rw none (add-zero (edges_below table (x + d))) ∙ less.0,
      ap (back_below table) (add-suc x d) ∙ rw none (add-zero (back_below table (x + d))) ∙ less.1,
    )

-- a row's counts begin with those of the rows before
pub edges_start : (table : List ℕ) (i : ℕ) (before : Counts) → before ≡ counts_below table (i * 1024)
    → before.edges ≡ edges_below table (i * 1024 + 0 * 2)
unfolding counts_below
edges_start table i before e = ap (λ (c : Counts). c.edges) e ∙ ap (edges_below table) (sym (add-zero (i * 1024)))

pub back_start : (table : List ℕ) (i : ℕ) (before : Counts) → before ≡ counts_below table (i * 1024)
    → before.back ≡ back_below table (i * 1024 + 0 * 2)
unfolding counts_below
back_start table i before e = ap (λ (c : Counts). c.back) e ∙ ap (back_below table) (sym (add-zero (i * 1024)))

-- a row's counts are those up to the table's last row
pub row_counted : (table : List ℕ) (i j edges back : ℕ)
    → j ≡ row_count table
    → edges ≡ edges_below table (i * 1024 + j * 2)
    → back ≡ back_below table (i * 1024 + j * 2)
    → ◌≡◌ {A = Counts} (record { edges = edges; back = back }) (counts_below table (i * 1024 + 1024))
unfolding counts_below
row_counted table i j edges back e f g =
    let h = rows_small table in
    let whole : i * 1024 + j * 2 + (1024 - j * 2) ≡ i * 1024 + 1024 = omega arith in
    let past = past_edges table (i * 1024 + j * 2) (1024 - j * 2) (λ y l m. sym (stands_past table y j e (omega arith))) in
    ap₂ (λ (a b : ℕ). record { edges = a; back = b })
    (f ∙ sym past.0 ∙ ap (edges_below table) whole)
    (g ∙ sym past.1 ∙ ap (back_below table) whole)

-- no edge of a row is counted before its first slot
pub leaving_none : (table : List ℕ) (i : ℕ) → LeavingTo table i 0 (record { edges = 0; back = 0 })
leaving_none table i = record {
  edges = add-zero (edges_below table (i * 1024)) ∙ ap (edges_below table) (sym (add-zero (i * 1024)));
  back = add-zero (back_below table (i * 1024)) ∙ ap (back_below table) (sym (add-zero (i * 1024)));
  few = omega arith;
  back_few = omega arith;
}

-- a row's edges up to a pair's slots and those of the pair are its edges up to the next pair's: no sum passes 64 bits
pub leaving_pair : (table : List ℕ) (n i j : ℕ) (rows : n ≡ row_count table) (inside : j < n) {counts c r : Counts} → LeavingTo table i j counts
    → c ≡ pair_counts (row_forward (row_at table i) (row_at table j)) (row_back (row_at table i) (row_at table j))
    → r ≡ counts_plus counts c → LeavingTo table i (j + 1) r
leaving_pair table n i j rows inside {counts} {c} before told is =
    let edges = pair_edges table n i j rows inside (edges_below table (i * 1024) + counts.edges) before.edges told in
    let back = pair_back table n i j rows inside (back_below table (i * 1024) + counts.back) before.back told in
    let pair = pair_most _ _ told in
    let most = rows_few table n rows in
    let few = before.few in
    let back_few = before.back_few in
    let sum = plus_parts counts c is (omega (arith, few, pair.0, most, inside)) (omega (arith, back_few, pair.1, most, inside)) in
    record {
      edges = omega (arith, sum.0, edges);
      back = omega (arith, sum.1, back);
      few = omega (arith, sum.0, few, pair.0);
      back_few = omega (arith, sum.1, back_few, pair.1);
    }

-- the rows counted before the first row, and before the row after a row
pub counts_none : (table : List ℕ) → ◌≡◌ {A = Counts} (record { edges = 0; back = 0 }) (counts_below table (0 * 1024))
unfolding counts_below edges_below back_below
counts_none table = refl

pub counts_turn : (table : List ℕ) (i : ℕ) (counts : Counts) → counts ≡ counts_below table (i * 1024 + 1024)
    → counts ≡ counts_below table ((i + 1) * 1024)
counts_turn table i counts e = let s : i * 1024 + 1024 ≡ (i + 1) * 1024 = omega arith in e ∙ ap (counts_below table) s
