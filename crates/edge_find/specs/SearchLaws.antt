-- Laws of the search for an edge.
use Rattle.std.specs.Prelude.{◌≡◌, Bool, Option, None, Some, length}
use Rattle.std.proofs.Math.Path.{refl, sym, ap, ap₂, subst}
use Rattle.std.proofs.Common.{◌∙◌, add-zero, zero-add, add-suc, suc-add, add-one, eq-eqb, ne_eqb}
use Rattle.std.proofs.Math.Bool.{true, false, cond}
use Rattle.std.proofs.Math.Option as L
use mathlib.Core.List.{List, [], ◌∷◌, ◌++◌, flat_map}
use Prim.Native.Nat.{ℕ, zero, suc, ◌+◌, ◌-◌, ◌*◌, ◌/◌, ◌%◌, ◌^◌, ◌≤◌, ◌<◌}
use Rattle.std.proofs.Math.Decide.{dec_le, ℕ_discrete}
use native.Mathlib.Omega.{arith}
use Rattle.std.proofs.Math.Dec.{eqb}
use Rattle.std.specs.Int.Count.{ones, ones_in, count_trailing_zeros}
use Rattle.std.proofs.Math.ListN.{get_elem?}
use Rattle.spec_base.specs.Basic.{numbers, numbers_from}
use Rattle.law_base.specs.BoolLaws.{true_false}
use Rattle.law_base.specs.ListLaws.{get_elem?_past, get_elem?_append_right}
use Rattle.spec_graph.specs.Graph as G
use Rattle.spec_graph.specs.Edge as E
use Rattle.place_row.specs.declared.Row.{Row}
use Rattle.place_row.specs.RowTable.{row_at, row_count, row_forward, row_back, row_stands, row_letter, row_edge}
use Rattle.place_row.specs.RowTableLaws.{ones_in_ones}
use Rattle.edge_find.specs.declared.EdgeStep.{EdgeStep}
use Rattle.edge_record.specs.declared.Edge.{Edge}
use Rattle.edge_record.specs.Coded.{flow_byte, coded, found_as}
use Rattle.edge_count.specs.Slots.{table_edges, slots, left_row, right_row}
use Rattle.edge_count.specs.Slots.{stands_at, slot_edge, edge_at, next_from, next_slot, one, edges_below}
use Rattle.edge_test.specs.Letters.{byte_of, letter_between}
use Rattle.edge_find.specs.Search.{edge_from, letter_from, shared_by, nothing_to, step_in, step_at, Looked}
use Rattle.edge_count.specs.SlotLaws.{rows_few, stands_past, stands_apart, stands_forward, stands_back, edge_forward, edge_back}
use Rattle.law_base.specs.FlatLaws.{flat_map_append}
use Rattle.edge_count.specs.Flattened.{numbers_from_append, slot_edges, edges_flat, edges_below_lem}

-- ---- the edge in a slot of two rows

module _ (x : ℕ) (p q : Row) {letter : Option ℕ} {r : EdgeStep} where
  pub step_even : x % 2 ≡ 0 → letter ≡ letter_between G.Flow.forward p q → r ≡ step_in x 0x66 letter p q → r ≡ step_at x p q
  unfolding step_at
  step_even even e g =
      g ∙ ap (λ (l : Option ℕ). step_in x 0x66 l p q) e
      ∙ sym (ap (λ (c : Bool). cond c (step_in x 0x66 (letter_between G.Flow.forward p q) p q) (step_in x 0x62 (letter_between G.Flow.back p q) p q))
      (eq-eqb (x % 2) 0 even))

  pub step_odd : (x % 2 ≡ 0 → ⊥) → letter ≡ letter_between G.Flow.back p q → r ≡ step_in x 0x62 letter p q → r ≡ step_at x p q
  unfolding step_at
  step_odd odd e g =
      g ∙ ap (λ (l : Option ℕ). step_in x 0x62 l p q) e
      ∙ sym (ap (λ (c : Bool). cond c (step_in x 0x66 (letter_between G.Flow.forward p q) p q) (step_in x 0x62 (letter_between G.Flow.back p q) p q))
      (ne_eqb (x % 2) 0 odd))

-- ---- an edge put together

-- a step with a letter from what the letter's sets share
pub step_made : (x flow letter : ℕ) (p q : Row) (m : ℕ)
    → m ≡ shared_by letter p q
    → m < 2 ^ 64
    → ◌≡◌ {A = EdgeStep}
    (record {
      slot = x;
      found = Some (record {
        node = p.node;
        leaves = p.place;
        into = q.node;
        enters = q.place;
        sharing = ones m;
        lowest = count_trailing_zeros 64 m;
        flow = flow;
        letter = letter;
      });
    })
    (step_in x flow (Some letter) p q)
unfolding step_in
step_made x flow letter p q m e small = λ i. record {
  slot = x;
  found = Some (record {
    node = p.node;
    leaves = p.place;
    into = q.node;
    enters = q.place;
    sharing = (sym (ones_in_ones 64 m small) ∙ ap (ones_in 64) e) i;
    lowest = count_trailing_zeros 64 (e i);
    flow = flow;
    letter = letter;
  });
}

-- the step with a letter of its own
step_letter : (x : ℕ) (flow : G.Flow) (p q : Row) (l : E.Letter) → row_letter flow p q ≡ l
    → step_in x (flow_byte flow) (Some (byte_of l)) p q ≡ record { slot = x; found = Some (coded (row_edge flow p q)) }
unfolding step_in letter_from coded row_edge
step_letter x flow p q E.Letter.A e = rw e
step_letter x flow p q E.Letter.B e = rw e
step_letter x flow p q E.Letter.C e = rw e
step_letter x flow p q E.Letter.D e = rw e
step_letter x flow p q E.Letter.E e = rw e

-- the letter between two rows is that of the edge, where one stands
pub letter_of_lem : (flow : G.Flow) (p q : Row) → letter_between flow p q ≡ cond (row_stands flow p q) (Some (byte_of (row_letter flow p q))) None
unfolding letter_between row_forward row_back row_letter
letter_of_lem G.Flow.forward p q = refl
letter_of_lem G.Flow.back p q = refl

-- ---- the edges before a slot

module _ (table : List ℕ) where
  -- as many edges stand in all slots as there are edges
  pub below_all : edges_below table (slots table) ≡ length (table_edges table)
  below_all = edges_below_lem table (slots table) ∙ sym (ap length (edges_flat table))

  pub below_more : (x d : ℕ) → edges_below table x ≤ edges_below table (x + d)
  unfolding edges_below
  below_more x zero = let e = ap (edges_below table) (add-zero x) in omega arith
  below_more x (suc d) = let h = below_more x d in let e = ap (edges_below table) (add-suc x d) in omega arith

  -- nothing stands from x on, for d slots
  abbrev pub Empty : ℕ → ℕ → Type 0
  Empty x d = (y : ℕ) → x ≤ y → y < x + d → stands_at table y ≡ false

  pub below_same : (x d : ℕ) → Empty x d → edges_below table (x + d) ≡ edges_below table x
  unfolding edges_below
  below_same x zero empty = ap (edges_below table) (add-zero x)
  below_same x (suc d) empty =
      let e = ap (edges_below table) (add-suc x d) in
      let h = below_same x d (λ y l m. empty y l (omega arith)) in
      let o = ap one (empty (x + d) (omega arith) (omega arith)) in
      omega arith

  next_skip : (x d : ℕ) → x + d ≤ slots table → Empty x d → next_slot table x ≡ next_slot table (x + d)
  unfolding next_slot next_from
  next_skip x zero h empty = ap (next_slot table) (sym (add-zero x))
  next_skip x (suc d) h empty =
      let s : slots table - x ≡ suc (slots table - suc x) = omega arith in
      ap (λ (k : ℕ). next_from table k x) s
      ∙ ap (λ (b : Bool). cond b x (next_from table (slots table - suc x) (suc x))) (empty x (omega arith) (omega arith))
      ∙ next_skip (suc x) d (omega arith) (λ y l m. empty y (omega arith) (omega arith))
      ∙ ap (next_slot table) (suc-add x d ∙ sym (add-suc x d))

  next_here : (x : ℕ) → x < slots table → stands_at table x ≡ true → next_slot table x ≡ x
  unfolding next_slot next_from
  next_here x h e =
      let s : slots table - x ≡ suc (slots table - suc x) = omega arith in
      ap (λ (k : ℕ). next_from table k x) s ∙ ap (λ (b : Bool). cond b x (next_from table (slots table - suc x) (suc x))) e

  next_end : (x : ℕ) → slots table ≤ x → next_slot table x ≡ slots table
  unfolding next_slot next_from
  next_end x h = let s : slots table - x ≡ 0 = omega arith in ap (λ (k : ℕ). next_from table k x) s

  -- the edge in a slot has the number of the edges before it
  pub number_here : (x : ℕ) → x < slots table → stands_at table x ≡ true
      → get_elem? (table_edges table) (edges_below table x) ≡ L.some (slot_edge table x)
  unfolding flat_map slot_edges
  number_here x h e =
      ap₂ (λ (l : List E.Edge) (k : ℕ). get_elem? l k) parts (edges_below_lem table x ∙ sym (add-zero (length before)))
      ∙ get_elem?_append_right before (slot_edges table x ++ after) 0
      ∙ ap (λ (b : Bool). get_elem? (cond b (slot_edge table x ∷ []) [] ++ after) 0) e
    where
      before : List E.Edge
      before = flat_map (slot_edges table) (numbers x)

      after : List E.Edge
      after = flat_map (slot_edges table) (numbers_from (suc x) (slots table - suc x))

      parts : table_edges table ≡ before ++ (slot_edges table x ++ after)
      parts =
          let s : slots table ≡ x + suc (slots table - suc x) = omega arith in
          edges_flat table
          ∙ ap (flat_map (slot_edges table)) (ap numbers s ∙ numbers_from_append 0 x (suc (slots table - suc x)))
          ∙ flat_map_append (slot_edges table) (numbers x) (numbers_from (0 + x) (suc (slots table - suc x)))
          ∙ ap (λ (a : ℕ). before ++ flat_map (slot_edges table) (numbers_from a (suc (slots table - suc x)))) (zero-add x)

  -- ---- the first edge from a slot on

  pub edge_here : (x : ℕ) → x < slots table → stands_at table x ≡ true
      → ◌≡◌ {A = EdgeStep} (record { slot = x; found = Some (edge_at table x) }) (edge_from table x)
  unfolding edge_from edge_at found_as
  edge_here x h e =
      ap₂ (λ (a : L.Option E.Edge) (s : ℕ). record { slot = s; found = found_as a })
      (sym (number_here x h e)) (sym (next_here x h e))

  pub edge_skip : (x y : ℕ) → x ≤ y → y ≤ slots table → ((z : ℕ) → x ≤ z → z < y → stands_at table z ≡ false)
      → edge_from table y ≡ edge_from table x
  unfolding edge_from
  edge_skip x y l m empty =
      let s : x + (y - x) ≡ y = omega arith in
      let none : Empty x (y - x) = λ z a b. empty z a (omega arith) in
      ap₂ (λ (k s : ℕ). record { slot = s; found = found_as (get_elem? (table_edges table) k) })
      (ap (edges_below table) (sym s) ∙ below_same x (y - x) none)
      (ap (next_slot table) (sym s) ∙ sym (next_skip x (y - x) (omega arith) none))

  pub edge_end : (x : ℕ) → slots table ≤ x → nothing_to (slots table) ≡ edge_from table x
  unfolding edge_from found_as
  edge_end x h =
      let s : slots table + (x - slots table) ≡ x = omega arith in
      let m = below_more (slots table) (x - slots table) in
      let e = ap (edges_below table) s in
      let a = below_all in
      ap₂ (λ (a : L.Option E.Edge) (s : ℕ). record { slot = s; found = found_as a })
      (sym (get_elem?_past (table_edges table) (edges_below table x) (omega arith))) (sym (next_end x h))

  -- ---- looking at a slot

  module _ (x : ℕ) (bound : x < 524288) where
    -- a slot of a row
    within : x / 1024 < length table / 8 → x < slots table
    unfolding slots row_count
    within h = omega arith

    -- slots in which nothing stands are passed over
    passed : (y : ℕ) → x < y → y ≤ slots table → ((z : ℕ) → x ≤ z → z < y → stands_at table z ≡ false) → Looked table x (nothing_to y)
    passed y l m empty = record {
      here = λ t. absurd (true_false t refl);
      later = λ t. (l, edge_skip x y (omega arith) m empty);
    }

    -- past the last row from which an edge can leave
    pub looked_end : (r : EdgeStep) → length table / 8 ≤ x / 1024 → r ≡ nothing_to 524288 → Looked table x r
    unfolding slots row_count
    looked_end r h e = rw e (record {
      here = λ t. absurd (true_false t refl);
      later = λ t. (bound, sym (edge_end 524288 (omega arith)) ∙ edge_end x (omega arith));
    })

    module _ (left : x / 1024 < length table / 8) where
      -- past the last row that an edge can enter
      pub looked_past : (r : EdgeStep) → length table / 8 ≤ x % 1024 / 2 → r ≡ nothing_to (x / 1024 * 1024 + 1024) → Looked table x r
      unfolding slots row_count
      looked_past r h e =
          let i = within left in
          rw e (passed (x / 1024 * 1024 + 1024) (omega arith) (omega arith)
          (λ z l m. sym (stands_past table z (row_count table) refl (omega arith))))

      -- between rows of two relations
      pub looked_apart : (r : EdgeStep) (p q : Row) → p ≡ row_at table (x / 1024) → q ≡ row_at table (x % 1024 / 2)
          → (p.relation ≡ q.relation → ⊥)
          → r ≡ nothing_to (x / 2 * 2 + 2)
          → Looked table x r
      unfolding slots
      looked_apart r p q first second two e =
          let i = within left in
          let h : (row_at table (x / 1024)).relation ≡ (row_at table (x % 1024 / 2)).relation → ⊥ =
          λ s. two (ap (λ (t : Row). t.relation) first ∙ s ∙ sym (ap (λ (t : Row). t.relation) second)) in
          rw e (passed (x / 2 * 2 + 2) (omega arith) (omega arith) (λ z l m.
          let a : z / 1024 ≡ x / 1024 = omega arith in
          let b : z % 1024 / 2 ≡ x % 1024 / 2 = omega arith in
          sym (stands_apart table z (λ s. h (ap (λ (k : ℕ). (row_at table k).relation) (sym a) ∙ s ∙ ap (λ (k : ℕ). (row_at table k).relation) b)))))

      -- in a slot of the pair
      slot_looked : (flow : G.Flow) → row_stands flow (left_row table x) (right_row table x) ≡ stands_at table x
          → coded (row_edge flow (left_row table x) (right_row table x)) ≡ edge_at table x
          → Looked table x
          (step_in x (flow_byte flow) (letter_between flow (left_row table x) (right_row table x)) (left_row table x) (right_row table x))
      unfolding step_in
      slot_looked flow s f =
          rw (letter_of_lem flow (left_row table x) (right_row table x)) (go (row_stands flow (left_row table x) (right_row table x)) (sym s))
        where
          go : (b : Bool) → stands_at table x ≡ b
              → Looked table x
              (step_in x (flow_byte flow) (cond b (Some (byte_of (row_letter flow (left_row table x) (right_row table x)))) None)
              (left_row table x) (right_row table x))
          go true t =
              let is = step_letter x flow (left_row table x) (right_row table x) _ refl in
              subst (Looked table x) (sym (is ∙ ap (λ (e : Edge). record { slot = x; found = Some e }) f)) (record {
                here = λ u. edge_here x (within left) t;
                later = λ u. absurd (true_false refl u);
              })
          go false t =
              passed (x + 1) (omega arith) (let i = within left in omega arith)
              (λ z l m. let e : z ≡ x = omega arith in ap (stands_at table) e ∙ t)

      module _ (r : EdgeStep) (p q : Row) (letter : Option ℕ) (right : x % 1024 / 2 < length table / 8)
          (first : p ≡ row_at table (x / 1024)) (second : q ≡ row_at table (x % 1024 / 2)) where
        slot_step : (flow : G.Flow) → row_stands flow (left_row table x) (right_row table x) ≡ stands_at table x
            → coded (row_edge flow (left_row table x) (right_row table x)) ≡ edge_at table x
            → letter ≡ letter_between flow p q
            → r ≡ step_in x (flow_byte flow) letter p q
            → Looked table x r
        slot_step flow s f e g =
            rw (g ∙ ap (λ (l : Option ℕ). step_in x (flow_byte flow) l p q) e
            ∙ ap₂ (λ (a b : Row). step_in x (flow_byte flow) (letter_between flow a b) a b) first second) (slot_looked flow s f)

        inside : x % 1024 < row_count table * 2
        unfolding row_count
        inside = omega arith

        looked_forward : x % 2 ≡ 0 → letter ≡ letter_between G.Flow.forward p q → r ≡ step_in x 0x66 letter p q → Looked table x r
        looked_forward even e g =
            slot_step G.Flow.forward (stands_forward table x (row_count table) refl inside even) (edge_forward table x even) e g

        looked_back : (x % 2 ≡ 0 → ⊥) → letter ≡ letter_between G.Flow.back p q → r ≡ step_in x 0x62 letter p q → Looked table x r
        looked_back odd e g =
            slot_step G.Flow.back (stands_back table x (row_count table) refl inside odd) (edge_back table x odd) e g

      pub looked_pair : (r : EdgeStep) (p q : Row) → x % 1024 / 2 < length table / 8 → p ≡ row_at table (x / 1024)
          → q ≡ row_at table (x % 1024 / 2) → r ≡ step_at x p q → Looked table x r
      unfolding step_at
      looked_pair r p q right first second e = go (ℕ_discrete (x % 2) 0)
        where
          choose : (b : Bool) → eqb (x % 2) 0 ≡ b
              → r ≡ cond b (step_in x 0x66 (letter_between G.Flow.forward p q) p q) (step_in x 0x62 (letter_between G.Flow.back p q) p q)
          choose b t =
              e ∙ ap (λ (c : Bool). cond c (step_in x 0x66 (letter_between G.Flow.forward p q) p q)
              (step_in x 0x62 (letter_between G.Flow.back p q) p q)) t

          go : Dec (x % 2 ≡ 0) → Looked table x r
          go (yes z) = looked_forward r p q (letter_between G.Flow.forward p q) right first second z refl (choose true (eq-eqb (x % 2) 0 z))
          go (no z) = looked_back r p q (letter_between G.Flow.back p q) right first second z refl (choose false (ne_eqb (x % 2) 0 z))

  -- ---- the edges after the first one from a slot on

  -- no edge stands any more, or one in the next slot
  data Next (x next : ℕ) : Type 0 where
    gone : edges_below table x ≡ length (table_edges table) → Next x next
    stood : next < slots table → edges_below table (next + 1) ≡ edges_below table x + 1 → Next x next

  next_cases : (left x : ℕ) → x + left ≡ slots table → Next x (next_from table left x)
  unfolding next_from edges_below
  next_cases zero x h = let e = below_all in let f = ap (edges_below table) (sym (add-zero x) ∙ h) in gone (omega arith)
  next_cases (suc left) x h = go (stands_at table x) refl (next_cases left (suc x) (omega arith))
    where
      go : (b : Bool) → stands_at table x ≡ b → Next (suc x) (next_from table left (suc x)) → Next x (cond b x (next_from table left (suc x)))
      go true t later = stood (omega arith) (ap (edges_below table) (add-one x) ∙ ap (λ (c : Bool). edges_below table x + one c) t)
      go false t (gone e) = gone (let o = ap one t in omega arith)
      go false t (stood l e) = stood l (let o = ap one t in omega arith)

  -- where there are more edges than stand before a slot, the next one stands in a slot, and one more stands before the slot after
  pub edge_after : (x : ℕ) → edges_below table x < length (table_edges table)
      → ((edge_from table x).slot < slots table) × (edges_below table ((edge_from table x).slot + 1) ≡ edges_below table x + 1)
  unfolding edge_from next_slot
  edge_after x h = go (dec_le x (slots table))
    where
      inside : Next x (next_from table (slots table - x) x)
          → (next_from table (slots table - x) x < slots table)
          × (edges_below table (next_from table (slots table - x) x + 1) ≡ edges_below table x + 1)
      inside (gone e) = absurd (omega arith)
      inside (stood l e) = (l, e)

      go : Dec (x ≤ slots table)
          → (next_from table (slots table - x) x < slots table)
          × (edges_below table (next_from table (slots table - x) x + 1) ≡ edges_below table x + 1)
      go (yes l) = inside (next_cases (slots table - x) x (omega arith))
      go (no d) =
          absurd (let s : slots table + (x - slots table) ≡ x = omega arith in
          let m = below_more (slots table) (x - slots table) in
          let e = ap (edges_below table) s in
          let a = below_all in
          omega arith)

-- past the slots of all tables
pub edge_none : (table : List ℕ) (n x : ℕ) (r : EdgeStep) → n ≡ row_count table → 524288 ≤ x → r ≡ nothing_to (n * 1024) → r ≡ edge_from table x
unfolding slots
edge_none table n x r rows h e =
    let few = rows_few table n rows in
    e ∙ ap (λ (k : ℕ). nothing_to (k * 1024)) rows ∙ edge_end table x (let s = ap (λ (k : ℕ). k * 1024) rows in omega arith)
