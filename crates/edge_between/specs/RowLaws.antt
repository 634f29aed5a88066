-- Edges counted pair by pair and row by row are the edges of the table counted.
use Rattle.std.specs.Prelude.{Bool, true, false, cond, ◌&&◌, ◌≡◌, leb, ltb, length}
use mathlib.Core.List.{List, [], ◌∷◌, ◌++◌, map, flat_map, append-nil}
use Rattle.std.proofs.Math.Path.{refl, ap, ap₂, fun_ext}
use Rattle.std.proofs.Common.{sym, ◌∙◌, zero-add, add-one, arith, le-leb, le-ltb, lt-ltb}
use Prim.Native.Nat.{ℕ, zero, suc, ◌+◌, ◌*◌, ◌≤◌, ◌<◌}
use Rattle.std.proofs.lemmas.Bool.{lt-leb}
use Rattle.spec_base.specs.Basic.{count, numbers, numbers_from}
use Rattle.law_base.specs.ListLaws.{count_append}
use Rattle.law_base.specs.FlatLaws.{flat_map_map, flat_map_append}
use Rattle.spec_graph.specs.Graph as G
use Rattle.spec_graph.specs.Edge as E
use Rattle.place_row.specs.declared.Row.{Row}
use Rattle.place_row.specs.RowTable.{row_at, row_count, row_forward, row_back, row_edge, row_edges, table_rows, edges_of_rows}
use Rattle.edge_count.specs.declared.Counts.{Counts}
use Rattle.edge_count.specs.Slots.{table_edges, pair_counts, one}
use Rattle.edge_count.specs.Flattened.{numbers_from_append}
-- the closed theorems first, so that a changed definition fails there
use Rattle.edge_between.specs.BetweenExamples.{two_nodes}
use Rattle.edge_between.specs.Between.{in_range, goes, counts_between}
use Rattle.edge_between.specs.Rows.{nothing_counted, enters, enters_back, goes_back, pair_entering, leaving, row_entering, row_between, Few, sum_to}

-- ---- sums

-- what is gathered from the numbers below n, counted
module _ {C : Type 0} (test : C → Bool) (f : ℕ → List C) where
  pub count_flat : (n : ℕ) → count test (flat_map f (numbers n)) ≡ sum_to (λ k. count test (f k)) n
  unfolding flat_map sum_to
  count_flat zero = refl
  count_flat (suc n) =
      ap (λ (l : List ℕ). count test (flat_map f l)) (ap numbers (sym (add-one n)) ∙ numbers_from_append 0 n 1)
      ∙ ap (count test) (flat_map_append f (numbers n) (numbers_from (0 + n) 1))
      ∙ count_append test (flat_map f (numbers n)) (flat_map f (numbers_from (0 + n) 1))
      ∙ ap₂ ◌+◌ (count_flat n) (ap (count test) (append-nil (f (0 + n)) ∙ ap f (zero-add n)))

-- a sum of small numbers is small
pub sum_most : (f : ℕ → ℕ) (most n : ℕ) → ((k : ℕ) → f k ≤ most) → sum_to f n ≤ n * most
unfolding sum_to
sum_most f most zero h = omega arith
sum_most f most (suc n) h =
    let less = sum_most f most n h in
    let here = h n in
    let more : suc n * most ≡ n * most + most = omega arith in
    omega arith

-- ---- a pair of rows

-- a range and a number outside or inside of it
pub low : (from to n : ℕ) → n < from → in_range from to n ≡ false
low from to n h = ap (λ (b : Bool). b && ltb n to) (lt-leb from n h)

pub high : (from to n : ℕ) → from ≤ n → to ≤ n → in_range from to n ≡ false
high from to n h k = ap₂ ◌&&◌ (le-leb from n h) (le-ltb n to k)

pub inside : (from to n : ℕ) → from ≤ n → n < to → in_range from to n ≡ true
inside from to n h k = ap₂ ◌&&◌ (le-leb from n h) (lt-ltb n to k)

-- the edges between two rows that pass a test, by whether each stands and passes
unfoldable passing : Bool → Bool → Bool → Bool → ℕ
passing f b forward back = one (f && forward) + one (b && back)

tested : (test : E.Edge → Bool) (p q : Row) → count test (row_edges p q)
    ≡ passing (row_forward p q) (row_back p q) (test (row_edge G.Flow.forward p q)) (test (row_edge G.Flow.back p q))
unfolding row_edges passing
tested test p q = go (row_forward p q) (row_back p q)
  where
    go : (f b : Bool)
        → count test (cond f (row_edge G.Flow.forward p q ∷ []) [] ++ cond b (row_edge G.Flow.back p q ∷ []) [])
        ≡ one (f && test (row_edge G.Flow.forward p q)) + one (b && test (row_edge G.Flow.back p q))
    go true true = omega arith
    go true false = refl
    go false true = omega arith
    go false false = refl

-- where no edge passes, and where both pass or the back edge alone
none_pass : (f b : Bool) {x y : Bool} → x ≡ false → y ≡ false → passing f b x y ≡ 0
unfolding passing
none_pass true true ex ey = rw (ex, ey) refl
none_pass true false ex ey = rw ex refl
none_pass false true ex ey = rw ey refl
none_pass false false ex ey = refl

both_pass_lem : (f b : Bool) {x y : Bool} → x ≡ true → y ≡ true → passing f b x y ≡ one f + one b
unfolding passing
both_pass_lem true true ex ey = rw (ex, ey) refl
both_pass_lem true false ex ey = rw ex refl
both_pass_lem false true ex ey = rw ey refl
both_pass_lem false false ex ey = refl

back_passes : (f b : Bool) {x y : Bool} → x ≡ false → y ≡ true → passing f b x y ≡ one b
unfolding passing
back_passes true true ex ey = rw (ex, ey) refl
back_passes true false ex ey = rw ex refl
back_passes false true ex ey = rw ey refl
back_passes false false ex ey = refl

-- between two rows at most two edges pass
pub pair_few : (test : E.Edge → Bool) (p q : Row) → count test (row_edges p q) ≤ 2
unfolding passing
pair_few test p q =
    let e = tested test p q in
    let f = one_most (row_forward p q && test (row_edge G.Flow.forward p q)) in
    let b = one_most (row_back p q && test (row_edge G.Flow.back p q)) in
    omega (arith, e, f, b)
  where
    one_most : (b : Bool) → one b ≤ 1
    one_most true = omega arith
    one_most false = omega arith

module _ (from to : ℕ) (p q : Row) where
  -- a second row outside the range
  outside : in_range from to q.node ≡ false → nothing_counted ≡ pair_entering from to p q
  unfolding pair_entering row_edge
  outside e =
      ap₂ (λ (a b : ℕ). record { edges = a; back = b })
      (sym (tested (enters from to) p q ∙ none_pass (row_forward p q) (row_back p q) e e))
      (sym (tested (enters_back from to) p q
      ∙ none_pass (row_forward p q) (row_back p q) (ap (λ (x : Bool). x && false) e) (ap (λ (x : Bool). x && true) e)))

  pub pair_low : q.node < from → nothing_counted ≡ pair_entering from to p q
  pair_low h = outside (low from to q.node h)

  pub pair_high : from ≤ q.node → to ≤ q.node → nothing_counted ≡ pair_entering from to p q
  pair_high h k = outside (high from to q.node h k)

  -- and inside: all edges of the pair
  pub pair_inside : from ≤ q.node → q.node < to → pair_counts (row_forward p q) (row_back p q) ≡ pair_entering from to p q
  unfolding pair_entering row_edge pair_counts
  pair_inside h k =
      let e = inside from to q.node h k in
      ap₂ (λ (a b : ℕ). record { edges = a; back = b })
      (sym (tested (enters from to) p q ∙ both_pass_lem (row_forward p q) (row_back p q) e e))
      (sym (tested (enters_back from to) p q
      ∙ back_passes (row_forward p q) (row_back p q) (ap (λ (x : Bool). x && false) e) (ap (λ (x : Bool). x && true) e)))

  pub pair_small : {c : Counts} → c ≡ pair_entering from to p q → (c.edges ≤ 2) × (c.back ≤ 2)
  unfolding pair_entering
  pair_small e = rw e (pair_few (enters from to) p q, pair_few (enters_back from to) p q)

-- ---- a row with all rows

-- the edges that leave a row, pair by pair
leaving_sum : (test : E.Edge → Bool) (table : List ℕ) (p : Row)
    → sum_to (λ j. count test (row_edges p (row_at table j))) (row_count table) ≡ count test (leaving table p)
unfolding table_rows
leaving_sum test table p =
    sym (ap (count test) (flat_map_map (row_edges p) (row_at table) (numbers (row_count table)))
    ∙ count_flat test (λ j. row_edges p (row_at table j)) (row_count table))

-- all edges of a table, row by row
table_sum : (test : E.Edge → Bool) (table : List ℕ)
    → sum_to (λ i. count test (leaving table (row_at table i))) (row_count table) ≡ count test (table_edges table)
unfolding table_rows table_edges edges_of_rows
table_sum test table =
    sym (ap (count test) (flat_map_map (leaving table) (row_at table) (numbers (row_count table)))
    ∙ count_flat test (λ i. leaving table (row_at table i)) (row_count table))

-- ---- the loop over the rows that are entered

module _ (table : List ℕ) (p : Row) (from to : ℕ) where
  -- what is counted after j rows
  abbrev pub entered : ℕ → ℕ
  entered j = sum_to (λ k. count (enters from to) (row_edges p (row_at table k))) j

  abbrev pub entered_back : ℕ → ℕ
  entered_back j = sum_to (λ k. count (enters_back from to) (row_edges p (row_at table k))) j

  pub entered_few : (j edges : ℕ) → edges ≡ entered j → edges ≤ j * 2
  entered_few j edges e =
      let most = sum_most (λ k. count (enters from to) (row_edges p (row_at table k))) 2 j (λ k. pair_few (enters from to) p (row_at table k)) in
      omega (arith, most, e)

  pub entered_back_few : (j back : ℕ) → back ≡ entered_back j → back ≤ j * 2
  entered_back_few j back e =
      let most = sum_most (λ k. count (enters_back from to) (row_edges p (row_at table k))) 2 j (λ k. pair_few (enters_back from to) p (row_at table k)) in
      omega (arith, most, e)

  pub entered_none : (0 ≡ entered 0) × (0 ≡ entered_back 0)
  unfolding sum_to
  entered_none = (refl, refl)

  pub entered_next : (j edges back : ℕ) {q : Row} {c : Counts} → edges ≡ entered j → back ≡ entered_back j → q ≡ row_at table j
      → c ≡ pair_entering from to p q → (edges + c.edges ≡ entered (j + 1)) × (back + c.back ≡ entered_back (j + 1))
  unfolding sum_to pair_entering
  entered_next j edges back e f g h = rw (add-one, e, f, h, g) (refl, refl)

  pub entered_all : (j edges back : ℕ) → j ≡ row_count table → edges ≡ entered j → back ≡ entered_back j
      → ◌≡◌ {A = Counts} (record { edges = edges; back = back }) (row_entering table p from to)
  unfolding row_entering
  entered_all j edges back n e f =
      ap₂ (λ (a b : ℕ). record { edges = a; back = b })
      (e ∙ ap entered n ∙ leaving_sum (enters from to) table p)
      (f ∙ ap entered_back n ∙ leaving_sum (enters_back from to) table p)

-- ---- the loop over the rows that are left

-- an edge that leaves a row leaves its node
leaves_row : (test : E.Edge → Bool) (table : List ℕ) (p : Row) (other : E.Edge → Bool)
    → ((flow : G.Flow) (q : Row) → test (row_edge flow p q) ≡ other (row_edge flow p q))
    → count test (leaving table p) ≡ count other (leaving table p)
leaves_row test table p other same =
    sym (leaving_sum test table p)
    ∙ ap (λ (f : ℕ → ℕ). sum_to f (row_count table)) (fun_ext (λ j. pairs_same (row_at table j)))
    ∙ leaving_sum other table p
  where
    pairs_same : (q : Row) → count test (row_edges p q) ≡ count other (row_edges p q)
    pairs_same q =
        tested test p q
        ∙ ap₂ (passing (row_forward p q) (row_back p q)) (same G.Flow.forward q) (same G.Flow.back q)
        ∙ sym (tested other p q)

-- no edge passes a test that none passes
none_leave : (table : List ℕ) (p : Row) → count (λ e. false) (leaving table p) ≡ 0
none_leave table p = none (leaving table p)
  where
    none : (l : List E.Edge) → count (λ e. false) l ≡ 0
    none [] = refl
    none (x ∷ l) = zero-add (count (λ e. false) l) ∙ none l

module _ (table : List ℕ) (i a b c d : ℕ) where
  abbrev p : Row
  p = row_at table i

  -- a row outside the range
  pub row_outside : in_range a b p.node ≡ false → nothing_counted ≡ row_between table i a b c d
  unfolding row_between goes row_edge
  row_outside e =
      ap₂ (λ (x y : ℕ). record { edges = x; back = y })
      (sym (leaves_row (goes a b c d) table p (λ x. false) (λ flow q. ap (λ (t : Bool). t && in_range c d q.node) e) ∙ none_leave table p))
      (sym (leaves_row (goes_back a b c d) table p (λ x. false)
      (λ flow q. ap (λ (t : Bool). (t && in_range c d q.node) && G.is_back flow) e) ∙ none_leave table p))

  -- and inside: what it has that enters the other range
  pub row_inside : in_range a b p.node ≡ true → row_entering table p c d ≡ row_between table i a b c d
  unfolding row_between row_entering goes row_edge
  row_inside e =
      ap₂ (λ (x y : ℕ). record { edges = x; back = y })
      (sym (leaves_row (goes a b c d) table p (enters c d) (λ flow q. ap (λ (t : Bool). t && in_range c d q.node) e)))
      (sym (leaves_row (goes_back a b c d) table p (enters_back c d)
      (λ flow q. ap (λ (t : Bool). (t && in_range c d q.node) && G.is_back flow) e)))

-- nothing is few
pub nothing_few : (counted : Counts) {r : Counts} → r ≡ nothing_counted → nothing_counted ≡ counted → Few 1024 counted r
nothing_few counted e f =
    record { same = e ∙ f; edges = rw e (omega arith); back = rw e (omega arith) }

module _ (table : List ℕ) (a b c d : ℕ) where
  -- what is counted after i rows
  abbrev pub left : ℕ → ℕ
  left i = sum_to (λ k. count (goes a b c d) (leaving table (row_at table k))) i

  abbrev pub left_back : ℕ → ℕ
  left_back i = sum_to (λ k. count (goes_back a b c d) (leaving table (row_at table k))) i

  pub left_none : (0 ≡ left 0) × (0 ≡ left_back 0)
  unfolding sum_to
  left_none = (refl, refl)

  pub left_next : (i edges back : ℕ) {t : Counts} → edges ≡ left i → back ≡ left_back i → t ≡ row_between table i a b c d
      → (edges + t.edges ≡ left (i + 1)) × (back + t.back ≡ left_back (i + 1))
  unfolding sum_to row_between
  left_next i edges back e f g = rw (add-one, e, f, g) (refl, refl)

  pub left_all : (i edges back : ℕ) → i ≡ row_count table → edges ≡ left i → back ≡ left_back i
      → ◌≡◌ {A = Counts} (record { edges = edges; back = back }) (counts_between a b c d (table_edges table))
  unfolding counts_between
  left_all i edges back n e f =
      ap₂ (λ (x y : ℕ). record { edges = x; back = y })
      (e ∙ ap left n ∙ table_sum (goes a b c d) table)
      (f ∙ ap left_back n ∙ table_sum (goes_back a b c d) table)

-- of the edges that are counted some are back
pub back_within : (a b c d : ℕ) (edges : List E.Edge) {r : Counts} → r ≡ counts_between a b c d edges → r.back ≤ r.edges
unfolding counts_between
back_within a b c d edges e = rw e (fewer edges)
  where
    one_fewer : (x y : Bool) → cond (x && y) 1 0 ≤ cond x 1 0
    one_fewer true true = omega arith
    one_fewer true false = omega arith
    one_fewer false y = omega arith

    fewer : (l : List E.Edge) → count (goes_back a b c d) l ≤ count (goes a b c d) l
    fewer [] = omega arith
    fewer (x ∷ l) = omega (arith, fewer l, one_fewer (goes a b c d x) (G.is_back x.flow))
