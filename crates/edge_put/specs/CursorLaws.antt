-- Laws of cursors: what stands between two rows, and which slots a step passes over.
use Rattle.std.specs.Prelude.{◌≡◌, Bool, true, false, cond, not, ◌&&◌, ◌||◌, List, Option, None, Some, map, ℕ, ◌+◌, ◌-◌, ◌*◌, ◌/◌, ◌%◌, ◌^◌, ◌≤◌, ◌<◌, eqb, length}
use Rattle.std.proofs.Math.Path.{refl, sym, ap, ap₂, subst}
use Rattle.std.proofs.lemmas.Option.{none-some, same_Some}
use Rattle.std.proofs.Common.{◌∙◌, mod-eq_of_lt, add-one}
use Rattle.std.proofs.Math.Option.{some}
use Rattle.std.proofs.Math.Nat.{add-zero}
use native.Mathlib.Omega.{arith}
use Rattle.std.specs.Int.Count.{ones, ones_in}
use Rattle.std.proofs.Math.ListN.{get_elem?}
use Rattle.spec_base.specs.Basic.{meets}
use Rattle.law_base.specs.BoolLaws.{true_false}
use Rattle.law_base.specs.ListLaws.{get_elem?_map_some}
use Rattle.spec_graph.specs.Graph as G
use Rattle.spec_graph.specs.Edge as E
use Rattle.spec_graph.specs.Edge.{selects, loosens}
use Rattle.edge_kinds.specs.Kinds.{kind_number}
use Rattle.edge_kinds.specs.KindLaws.{number_small, number_named}
use Rattle.place_row.specs.declared.Row.{Row}
use Rattle.place_row.specs.KeyWord.{far_in}
use Rattle.place_row.specs.RowTable.{row_at, row_count, row_holds, row_shared, row_forward, row_back, row_stands, row_letter, row_edge}
use Rattle.place_row.specs.RowTableLaws.{back_loose_lem, ones_in_ones}
use Rattle.edge_record.specs.declared.Edge.{Edge}
use Rattle.edge_record.specs.Coded.{flow_byte, coded}
use Rattle.edge_test.specs.Letters.{byte_of, letter_between}
use Rattle.edge_count.specs.Slots.{table_edges, slots, left_row, right_row, stands_at, slot_edge, edge_at, one, edges_below}
use Rattle.edge_count.specs.SlotLaws.{rows_small, stands_past, stands_apart, stands_forward, stands_back, edge_forward, edge_back}
use Rattle.edge_find.specs.Search.{letter_from, shared_by}
use Rattle.edge_find.specs.SearchLaws.{letter_of_lem, below_all, below_more, below_same, number_here}
use Rattle.edge_put.specs.declared.Cursor.{Cursor}
use Rattle.edge_put.specs.declared.Step.{Step}
use Rattle.place_next.specs.Chains.{chain_of, on_chain}
use Rattle.place_next.specs.ChainLaws.{on_low, on_high, on_same, on_relation}
use Rattle.place_link.specs.Links.{kind_word, next_in, first_in, LinkedTold}
use Rattle.edge_put.specs.Cursors.{words_in, row_in, row_start, past_all, first_row, next_row, at_pair, nothing_at, edge_by, back_shared, back_is}
use Rattle.edge_put.specs.Cursors.{row_after, back_slot, slot_of, Inside, LinksIn, LookedAt, Begun}
use Rattle.edge_put.specs.Cursors.{Pending, Standing, BackNext, Open, Paired, Found, Stepped, Passed}

-- a row is told by its words
words_back : (p : Row) → row_in (words_in p) ≡ p
words_back p = λ j. record {
  node = p.node;
  place = p.place;
  kind = sym (number_named p.kind (kind_number p.kind) (mod-eq_of_lt (number_small p.kind))) j;
  relation = p.relation;
  reads = p.reads;
  writes = p.writes;
  tests = p.tests;
  keys = p.keys;
}

-- ---- an edge put together

-- an edge made of its letter and of what the letter's sets share
edge_letter : (flow : G.Flow) (p q : Row) (l : E.Letter) (m : ℕ) → row_letter flow p q ≡ l → m ≡ row_shared l p q → m < 2 ^ 64
    → edge_by (flow_byte flow) (byte_of l) m p q ≡ coded (row_edge flow p q)
unfolding coded row_edge
edge_letter flow p q l m e is small = go l e is
  where
    counted : ones m ≡ ones_in 64 m
    counted = sym (ones_in_ones 64 m small)

    go : (l : E.Letter) → row_letter flow p q ≡ l → m ≡ row_shared l p q → edge_by (flow_byte flow) (byte_of l) m p q ≡ coded (row_edge flow p q)
    go E.Letter.A e is = rw (e, counted, is) refl
    go E.Letter.B e is = rw (e, counted, is) refl
    go E.Letter.C e is = rw (e, counted, is) refl
    go E.Letter.D e is = rw (e, counted, is) refl
    go E.Letter.E e is = rw (e, counted, is) refl

-- a letter is that of an edge which stands
module _ (flow : G.Flow) (p q : Row) {letter : Option ℕ} (is : letter ≡ letter_between flow p q) where
  stands_with : (l : ℕ) → letter ≡ Some l → row_stands flow p q ≡ true
  stands_with l there = go (row_stands flow p q) refl
    where
      go : (b : Bool) → row_stands flow p q ≡ b → b ≡ true
      go true e = refl
      go false e =
          absurd (none-some l (sym (is ∙ letter_of_lem flow p q ∙ ap (λ (c : Bool). cond c (Some (byte_of (row_letter flow p q))) None) e) ∙ there))

  letter_with : (l : ℕ) → letter ≡ Some l → l ≡ byte_of (row_letter flow p q)
  letter_with l there =
      same_Some l (byte_of (row_letter flow p q))
      (sym there ∙ is ∙ letter_of_lem flow p q ∙ ap (λ (c : Bool). cond c (Some (byte_of (row_letter flow p q))) None) (stands_with l there))

  stands_without : letter ≡ None → row_stands flow p q ≡ false
  stands_without none = go (row_stands flow p q) (row_letter flow p q) (sym none ∙ is ∙ letter_of_lem flow p q)
    where
      go : (b : Bool) (l : E.Letter) → None ≡ cond b (Some (byte_of l)) None → b ≡ false
      go false l e = refl
      go true l e = absurd (none-some (byte_of l) e)

-- the set of a letter's byte
shared_letter : (l : E.Letter) (p q : Row) → shared_by (byte_of l) p q ≡ row_shared l p q
unfolding letter_from
shared_letter E.Letter.A p q = refl
shared_letter E.Letter.B p q = refl
shared_letter E.Letter.C p q = refl
shared_letter E.Letter.D p q = refl
shared_letter E.Letter.E p q = refl

-- a back edge's letter is D or E
shared_back : (p q : Row) → back_shared (byte_of (row_letter G.Flow.back p q)) p q ≡ row_shared (row_letter G.Flow.back p q) p q
unfolding row_letter row_shared
shared_back p q = go (row_holds E.Letter.E p q)
  where
    go : (b : Bool) → back_shared (byte_of (cond b E.Letter.E E.Letter.D)) p q ≡ row_shared (cond b E.Letter.E E.Letter.D) p q
    go true = refl
    go false = refl

-- an edge made of its letter and what the letter's sets share
edge_made : (flow : G.Flow) (p q : Row) {letter : Option ℕ} (l m : ℕ) → letter ≡ letter_between flow p q → letter ≡ Some l
    → m ≡ row_shared (row_letter flow p q) p q → m < 2 ^ 64 → edge_by (flow_byte flow) l m p q ≡ coded (row_edge flow p q)
edge_made flow p q l m is there e small =
    ap (λ (x : ℕ). edge_by (flow_byte flow) x m p q) (letter_with flow p q is l there)
    ∙ edge_letter flow p q (row_letter flow p q) m refl e small

-- a kind that is not loose has no back edge that leaves it
pub back_none : (p q : Row) → loosens p.kind ≡ false → None ≡ back_is p q
back_none p q firm =
    sym (letter_of_lem G.Flow.back p q ∙ ap (λ (b : Bool). cond b (Some (byte_of (row_letter G.Flow.back p q))) None) (back_loose_lem p q firm))

-- where no letter holds, neither does a back edge's
back_forward : (p q : Row) → row_forward p q ≡ false → row_back p q ≡ false
unfolding row_forward row_back
back_forward p q =
    let holds : E.Letter → Bool = λ x. row_holds x p q in
    go (eqb p.relation q.relation) (holds E.Letter.A) (holds E.Letter.B) (holds E.Letter.C) (holds E.Letter.D) (holds E.Letter.E)
    (selects p.kind) (not (meets p.keys (far_in q.keys)))
  where
    go : (one a b c d e s f : Bool) → (one && (a || b || c || d || e)) ≡ false → (one && (e || s && d && f)) ≡ false
    go false a b c d e s f h = refl
    go true true b c d e s f h = absurd (true_false refl h)
    go true false true c d e s f h = absurd (true_false refl h)
    go true false false true d e s f h = absurd (true_false refl h)
    go true false false false true e s f h = absurd (true_false refl h)
    go true false false false false true s f h = absurd (true_false refl h)
    go true false false false false false true f h = refl
    go true false false false false false false f h = refl

-- ---- rows looked at

module _ (table : List ℕ) (n : ℕ) (linked : Bool) (i : ℕ) (rows : n ≡ row_count table) (links : LinksIn table linked) where
  -- on a chain: the first row from some row on
  on_chain_lem : (c from : ℕ) → c ≡ chain_of table i → from ≤ n → LookedAt table n linked i from (on_chain table (row_count table) c from)
  on_chain_lem c from e l =
      let high = on_high table c (row_count table) from (omega arith) in
      record {
        low = on_low table c (row_count table) from;
        high = omega arith;
        others = λ z a b same. on_relation table c (row_count table) from z (row_at table i).relation (sym e) a b same;
        chain = λ _ h. on_same table c (row_count table) from (omega arith) ∙ e;
      }

  looked_next : (j : ℕ) → j < n → (linked ≡ true → chain_of table j ≡ chain_of table i)
      → LookedAt table n linked i (j + 1) (next_row table linked j)
  unfolding next_row
  looked_next j l on = go linked refl
    where
      go : (b : Bool) → linked ≡ b → LookedAt table n linked i (j + 1) (cond b (next_in (kind_word table j)) (j + 1))
      go false e = record {
        low = omega arith;
        high = omega arith;
        others = λ z a b same. omega arith;
        chain = λ t h. absurd (true_false t e);
      }
      go true e = rw ((links e).next j (omega arith)) (on_chain_lem (chain_of table j) (j + 1) (on e) (omega arith))

  looked_first : i < n → LookedAt table n linked i 0 (first_row table linked i)
  unfolding first_row
  looked_first l = go linked refl
    where
      go : (b : Bool) → linked ≡ b → LookedAt table n linked i 0 (cond b (first_in (kind_word table i)) 0)
      go false e = record {
        low = omega arith;
        high = omega arith;
        others = λ z a b same. omega arith;
        chain = λ t h. absurd (true_false t e);
      }
      go true e = rw ((links e).first i (omega arith)) (on_chain_lem (chain_of table i) 0 refl (omega arith))

-- ---- slots of two rows

module _ (table : List ℕ) where
  pub below_most : (x : ℕ) → x ≤ slots table → edges_below table x ≤ length (table_edges table)
  below_most x h =
      let s : x + (slots table - x) ≡ slots table = omega arith in
      let m = below_more table x (slots table - x) in
      let e = ap (edges_below table) s in
      let a = below_all table in
      omega arith

  below_next : (x : ℕ) → stands_at table x ≡ true → edges_below table (x + 1) ≡ edges_below table x + 1
  unfolding edges_below
  below_next x e = ap (edges_below table) (add-one x) ∙ ap (λ (b : Bool). edges_below table x + one b) e

  below_not : (x : ℕ) → stands_at table x ≡ false → edges_below table (x + 1) ≡ edges_below table x
  unfolding edges_below
  below_not x e = ap (edges_below table) (add-one x) ∙ ap (λ (b : Bool). edges_below table x + one b) e ∙ add-zero (edges_below table x)

  module _ (n i j : ℕ) (rows : n ≡ row_count table) (left : i < n) (right : j < n) where
    abbrev here : ℕ
    here = i * 1024 + j * 2

    few : n ≤ 512
    few = let h = rows_small table in omega arith

    left_is : (d : ℕ) → d ≤ 1 → left_row table (here + d) ≡ row_at table i
    left_is d l = let h = few in let e : (here + d) / 1024 ≡ i = omega arith in ap (row_at table) e

    right_is : (d : ℕ) → d ≤ 1 → right_row table (here + d) ≡ row_at table j
    right_is d l = let h = few in let e : (here + d) % 1024 / 2 ≡ j = omega arith in ap (row_at table) e

    within : (d : ℕ) → d ≤ 1 → here + d < slots table
    unfolding slots
    within d l = let h = few in let m = ap (λ (k : ℕ). k * 1024) rows in omega arith

    -- the two slots, by flow
    abbrev at : G.Flow → ℕ
    at G.Flow.forward = 0
    at G.Flow.back = 1

    at_le : (flow : G.Flow) → at flow ≤ 1
    at_le G.Flow.forward = omega arith
    at_le G.Flow.back = omega arith

    pub slot_stands : (flow : G.Flow) → stands_at table (here + at flow) ≡ row_stands flow (row_at table i) (row_at table j)
    slot_stands G.Flow.forward =
        let h = few in
        sym (stands_forward table (here + 0) n rows (omega arith) (omega arith))
        ∙ ap₂ row_forward (left_is 0 (omega arith)) (right_is 0 (omega arith))
    slot_stands G.Flow.back =
        let h = few in
        sym (stands_back table (here + 1) n rows (omega arith) (λ e. omega arith))
        ∙ ap₂ row_back (left_is 1 (omega arith)) (right_is 1 (omega arith))

    slot_edge_lem : (flow : G.Flow) → coded (slot_edge table (here + at flow)) ≡ coded (row_edge flow (row_at table i) (row_at table j))
    unfolding edge_at
    slot_edge_lem G.Flow.forward =
        sym (edge_forward table (here + 0) (omega arith))
        ∙ ap₂ (λ (p q : Row). coded (row_edge G.Flow.forward p q)) (left_is 0 (omega arith)) (right_is 0 (omega arith))
    slot_edge_lem G.Flow.back =
        sym (edge_back table (here + 1) (λ e. omega arith))
        ∙ ap₂ (λ (p q : Row). coded (row_edge G.Flow.back p q)) (left_is 1 (omega arith)) (right_is 1 (omega arith))

    -- an edge that stands has the number of those before it
    slot_told : (flow : G.Flow) → row_stands flow (row_at table i) (row_at table j) ≡ true
        → get_elem? (map coded (table_edges table)) (edges_below table (here + at flow))
        ≡ some (coded (row_edge flow (row_at table i) (row_at table j)))
    slot_told flow e =
        get_elem?_map_some coded (table_edges table) _ (number_here table (here + at flow) (within (at flow) (at_le flow)) (slot_stands flow ∙ e))
        ∙ ap some (slot_edge_lem flow)

-- ---- cursors

module _ (table : List ℕ) where
  -- the slot of a cursor with no back edge to come, and of one with
  slot_open : (c : Cursor) → c.back ≡ None → slot_of c ≡ c.i * 1024 + c.j * 2 + 0
  slot_open c e = ap (λ (b : Option ℕ). c.i * 1024 + c.j * 2 + back_slot b) e

  slot_back : (c : Cursor) (letter : ℕ) → c.back ≡ Some letter → slot_of c ≡ c.i * 1024 + c.j * 2 + 1
  slot_back c letter e = ap (λ (b : Option ℕ). c.i * 1024 + c.j * 2 + back_slot b) e

  pub rows_most : {n : ℕ} → n ≡ row_count table → n ≤ 512
  rows_most e = let h = rows_small table in omega arith

  -- and each of them is whole
  rows_whole : {n j : ℕ} → n ≡ row_count table → j < n → j * 8 + 8 ≤ length table
  unfolding row_count
  rows_whole e l = omega arith

  -- a row's first place
  stands_first : (n : ℕ) (linked : Bool) (i first : ℕ) → n ≡ row_count table → LinksIn table linked → i < n → first ≤ n
      → (linked ≡ true → first < n → chain_of table first ≡ chain_of table i) → Standing table (row_start table n linked i first)
  unfolding row_start
  stands_first n linked i first rows links l inside chain = record {
    rows = rows;
    few = let few = rows_most rows in omega arith;
    inside = inside;
    row = λ _. words_back (row_at table i);
    links = links;
    chain = λ z _. chain z;
    pending = λ b e. absurd (none-some b e);
  }

  -- past all rows
  stands_over : (n : ℕ) → n ≡ row_count table → Standing table (past_all n)
  stands_over n rows = record {
    rows = rows;
    few = omega arith;
    inside = omega arith;
    row = λ l. absurd (omega arith);
    links = λ t. absurd (true_false t refl);
    chain = λ t. absurd (true_false t refl);
    pending = λ b e. absurd (none-some b e);
  }

  pub start_made : (n : ℕ) (linked : Bool) (i j : ℕ) (p : Row) {kind : ℕ} → p ≡ row_at table i → kind ≡ kind_number p.kind
      → ◌≡◌ {A = Cursor}
      (record {
        n = n;
        i = i;
        j = j;
        back = None;
        linked = linked;
        w = record {
          node = p.node;
          place = p.place;
          kind = kind;
          relation = p.relation;
          reads = p.reads;
          writes = p.writes;
          tests = p.tests;
          keys = p.keys;
        };
      }) (row_start table n linked i j)
  unfolding row_start
  start_made n linked i j p e number = rw (number, e) refl

  -- the place before the first edge, or past the last
  module _ (n : ℕ) {fits : Bool} (rows : n ≡ row_count table) where
    pub start_first : {linked : Bool} {c : Cursor} → LinksIn table linked → fits ≡ true → 0 < n → c ≡ row_start table n linked 0 0
        → Begun table fits c
    unfolding row_start
    start_first {linked = linked} links h l e = rw (e, h) (record {
      stands = stands_first n linked 0 0 rows links l (omega arith) (λ _ _. refl);
      slot = refl;
    })

    pub start_past : {c : Cursor} → (fits ≡ true → n ≡ 0) → c ≡ past_all n → Begun table fits c
    start_past none e = rw e (record { stands = stands_over n rows; slot = go fits none })
      where
        go : (b : Bool) → (b ≡ true → n ≡ 0) → n * 1024 + 0 * 2 + 0 ≡ cond b 0 (row_count table * 1024)
        go true h = let z = h refl in omega arith
        go false h = omega arith

  -- another pair of the same row
  stands_pair : (c : Cursor) (j : ℕ) (back : Option ℕ) → Standing table c → c.i < c.n → j ≤ c.n
      → (c.linked ≡ true → j < c.n → chain_of table j ≡ chain_of table c.i)
      → ((letter : ℕ) → back ≡ Some letter → (j < c.n) × (back ≡ back_is (row_in c.w) (row_at table j)))
      → Standing table (at_pair c j back)
  stands_pair c j back s left h on told = record {
    rows = s.rows;
    few = go back refl;
    inside = h;
    row = s.row;
    links = s.links;
    chain = λ z _. on z;
    pending = λ b e. record { left = left; right = (told b e).0; letter = (told b e).1 };
  }
    where
      most : c.n ≤ 512
      most = rows_most s.rows

      go : (o : Option ℕ) → back ≡ o → slot_of (at_pair c j back) ≤ c.n * 1024
      go None e = let m = most in let x = slot_open (at_pair c j back) e in omega arith
      go (Some b) e = let m = most in let x = slot_back (at_pair c j back) b e in let l = (told b e).0 in omega arith

  -- no edge to rows of other relations
  over_others : (n : ℕ) (linked : Bool) (i from to : ℕ) → n ≡ row_count table → i < n → LookedAt table n linked i from to
      → edges_below table (i * 1024 + to * 2 + 0) ≡ edges_below table (i * 1024 + from * 2 + 0)
  over_others n linked i from to rows left looked =
      let few = rows_most rows in let a = looked.low in let b = looked.high in
      let e : i * 1024 + to * 2 + 0 ≡ i * 1024 + from * 2 + 0 + (to - from) * 2 = omega arith in
      ap (edges_below table) e ∙ below_same table (i * 1024 + from * 2 + 0) ((to - from) * 2) empty
    where
      empty : (y : ℕ) → i * 1024 + from * 2 + 0 ≤ y → y < i * 1024 + from * 2 + 0 + (to - from) * 2 → stands_at table y ≡ false
      empty y l m =
          let few = rows_most rows in let a = looked.low in let b = looked.high in
          let row : y / 1024 ≡ i = omega arith in
          sym (stands_apart table y (λ same. looked.others (y % 1024 / 2) (omega arith) (omega arith)
          (ap (λ (k : ℕ). (row_at table k).relation) (sym row) ∙ same)))

  -- the row looked at after that of a cursor
  on_next : (c : Cursor) → Standing table c → c.i < c.n → c.j < c.n
      → LookedAt table c.n c.linked c.i (c.j + 1) (next_row table c.linked c.j)
  on_next c s left right =
      looked_next table c.n c.linked c.i s.rows s.links c.j right (λ z. s.chain z left right)

  -- and the cursor at it
  stands_next : (c : Cursor) → Standing table c → c.i < c.n → c.j < c.n → Standing table (at_pair c (next_row table c.linked c.j) None)
  stands_next c s left right =
      let looked = on_next c s left right in
      stands_pair c (next_row table c.linked c.j) None s left looked.high looked.chain (λ b z. absurd (none-some b z))

  below_next_row : (c : Cursor) → Standing table c → c.i < c.n → c.j < c.n
      → edges_below table (slot_of (at_pair c (next_row table c.linked c.j) None)) ≡ edges_below table (c.i * 1024 + (c.j + 1) * 2 + 0)
  below_next_row c s left right =
      over_others c.n c.linked c.i (c.j + 1) (next_row table c.linked c.j) s.rows left (on_next c s left right)

  pub inside_table : (n j : ℕ) → n ≡ row_count table → j < n → Inside table j
  inside_table n j rows l = record { few = let h = rows_most rows in omega arith; whole = rows_whole rows l }

  -- the back edge that comes next
  module _ (c : Cursor) (letter : ℕ) (next : BackNext table c letter) where
    abbrev s : Standing table c
    s = next.stands

    abbrev pend : Pending table c
    pend = s.pending letter next.there

    pub back_inside : Inside table c.j
    back_inside = inside_table c.n c.j s.rows pend.right

    pub passed_back : (p q : Row) (m : ℕ) (e : Edge) (onto : ℕ) (d : Cursor)
        → p ≡ row_in c.w
        → q ≡ row_at table c.j
        → m ≡ back_shared letter p q
        → m < 2 ^ 64
        → e ≡ edge_by 0x62 letter m p q
        → onto ≡ next_row table c.linked c.j
        → d ≡ at_pair c onto None
        → Passed table c (record { edge = Some e; cursor = d })
    passed_back p q m e onto d left right is small made next_is d_is = rw (d_is, next_is) (record {
      stands = stands_next c s pend.left pend.right;
      found = λ x t. subst (λ (y : Edge). Found table c y (at_pair c (next_row table c.linked c.j) None)) (same_Some e x t) told;
      ended = λ t. absurd (none-some e (sym t));
    })
      where
        p₀ : Row
        p₀ = row_at table c.i

        q₀ : Row
        q₀ = row_at table c.j

        letter₀ : c.back ≡ letter_between G.Flow.back p₀ q₀
        letter₀ = pend.letter ∙ ap (λ (p : Row). back_is p q₀) (s.row pend.left)

        stands : row_stands G.Flow.back p₀ q₀ ≡ true
        stands = stands_with G.Flow.back p₀ q₀ letter₀ letter next.there

        shared : m ≡ row_shared (row_letter G.Flow.back p₀ q₀) p₀ q₀
        shared =
            is ∙ ap₂ (λ (p q : Row). back_shared letter p q) (left ∙ s.row pend.left) right
            ∙ ap (λ (l : ℕ). back_shared l p₀ q₀) (letter_with G.Flow.back p₀ q₀ letter₀ letter next.there) ∙ shared_back p₀ q₀

        edge_is : get_elem? (map coded (table_edges table)) (edges_below table (slot_of c)) ≡ some e
        edge_is =
            ap (λ (x : ℕ). get_elem? (map coded (table_edges table)) (edges_below table x)) (slot_back c letter next.there)
            ∙ slot_told table c.n c.i c.j s.rows pend.left pend.right G.Flow.back stands
            ∙ ap some (sym (made ∙ ap₂ (λ (p q : Row). edge_by 0x62 letter m p q) (left ∙ s.row pend.left) right
            ∙ edge_made G.Flow.back p₀ q₀ letter m letter₀ next.there shared small))

        after_is : edges_below table (slot_of (at_pair c (next_row table c.linked c.j) None)) ≡ edges_below table (slot_of c) + 1
        after_is =
            let two : c.i * 1024 + (c.j + 1) * 2 + 0 ≡ c.i * 1024 + c.j * 2 + 1 + 1 = omega arith in
            below_next_row c s pend.left pend.right ∙ ap (edges_below table) two
            ∙ below_next table (c.i * 1024 + c.j * 2 + 1)
            (slot_stands table c.n c.i c.j s.rows pend.left pend.right G.Flow.back ∙ stands)
            ∙ ap (λ (x : ℕ). edges_below table x + 1) (sym (slot_back c letter next.there))

        told : Found table c e (at_pair c (next_row table c.linked c.j) None)
        told = record { edge = edge_is; after = after_is }

  -- two rows
  module _ (c : Cursor) (pair : Paired table c) where
    abbrev spot : ℕ
    spot = c.i * 1024 + c.j * 2

    abbrev st : Standing table c
    st = pair.ready.stands

    -- the row looked at after it
    abbrev after : ℕ
    after = next_row table c.linked c.j

    abbrev p₀ : Row
    p₀ = row_at table c.i

    abbrev q₀ : Row
    q₀ = row_at table c.j

    pub pair_inside : Inside table c.j
    pair_inside = inside_table c.n c.j st.rows pair.right

    spot_is : slot_of c ≡ spot + 0
    spot_is = slot_open c pair.ready.none

    slot_of_lem : (flow : G.Flow) → stands_at table (spot + at table c.n c.i c.j st.rows pair.ready.left pair.right flow)
        ≡ row_stands flow p₀ q₀
    slot_of_lem = slot_stands table c.n c.i c.j st.rows pair.ready.left pair.right

    two_on : spot + 1 + 1 ≡ c.i * 1024 + (c.j + 1) * 2 + 0
    two_on = omega arith

    -- past the back slot, where no back edge stands
    past_back : row_stands G.Flow.back p₀ q₀ ≡ false → edges_below table (slot_of (at_pair c after None)) ≡ edges_below table (spot + 1)
    past_back e =
        below_next_row c st pair.ready.left pair.right ∙ ap (edges_below table) (sym two_on)
        ∙ below_not table (spot + 1) (slot_of_lem G.Flow.back ∙ e)

    stands_on : Standing table (at_pair c after None)
    stands_on = stands_next c st pair.ready.left pair.right

    module _ (p q : Row) (letter : Option ℕ) (left : p ≡ row_in c.w) (right : q ≡ row_at table c.j)
        (told : letter ≡ letter_between G.Flow.forward p q) where
      told₀ : letter ≡ letter_between G.Flow.forward p₀ q₀
      told₀ = told ∙ ap₂ (letter_between G.Flow.forward) (left ∙ st.row pair.ready.left) right

      -- with no forward edge there is none
      pub stepped_none : (onto : ℕ) (d : Cursor) (r : Step) → letter ≡ None → onto ≡ after → d ≡ at_pair c onto None → r ≡ nothing_at d → Stepped table c r
      stepped_none onto d r none onto_is d_is e = rw (e, d_is, onto_is) (record {
        stands = stands_on;
        found = λ x t. absurd (none-some x t);
        skipped = λ _. record {
          none = refl;
          later = let h = (on_next c st pair.ready.left pair.right).low in omega arith;
          below = same;
        };
      })
        where
          forward : row_stands G.Flow.forward p₀ q₀ ≡ false
          forward = stands_without G.Flow.forward p₀ q₀ told₀ none

          same : edges_below table (slot_of (at_pair c after None)) ≡ edges_below table (slot_of c)
          same =
              past_back (back_forward p₀ q₀ forward)
              ∙ ap (λ (x : ℕ). edges_below table (x + 1)) (sym (add-zero spot))
              ∙ below_not table (spot + 0) (slot_of_lem G.Flow.forward ∙ forward) ∙ ap (edges_below table) (sym spot_is)

      -- the forward edge, and after it the back edge, if one stands
      pub stepped_forward : (l m : ℕ) (back : Option ℕ) (next : ℕ) (e : Edge) (d : Cursor)
          → letter ≡ Some l
          → m ≡ shared_by l p q
          → m < 2 ^ 64
          → e ≡ edge_by 0x66 l m p q
          → back ≡ back_is p q
          → next ≡ row_after table c.linked c.j back
          → d ≡ at_pair c next back
          → Stepped table c (record { edge = Some e; cursor = d })
      stepped_forward l m back next e d there is small made back_is_lem next_is d_is = rw (d_is, next_is) (record {
        stands = go_stands back refl;
        found = λ x t.
            subst (λ (y : Edge). Found table c y (at_pair c (row_after table c.linked c.j back) back)) (same_Some e x t)
            (record { edge = edge_is; after = go back refl });
        skipped = λ t. absurd (none-some e (sym t));
      })
        where
          stands : row_stands G.Flow.forward p₀ q₀ ≡ true
          stands = stands_with G.Flow.forward p₀ q₀ told₀ l there

          back₀ : back ≡ back_is p₀ q₀
          back₀ = back_is_lem ∙ ap₂ back_is (left ∙ st.row pair.ready.left) right

          shared : m ≡ row_shared (row_letter G.Flow.forward p₀ q₀) p₀ q₀
          shared =
              is ∙ ap₂ (λ (p q : Row). shared_by l p q) (left ∙ st.row pair.ready.left) right
              ∙ ap (λ (x : ℕ). shared_by x p₀ q₀) (letter_with G.Flow.forward p₀ q₀ told₀ l there)
              ∙ shared_letter (row_letter G.Flow.forward p₀ q₀) p₀ q₀

          edge_is : get_elem? (map coded (table_edges table)) (edges_below table (slot_of c)) ≡ some e
          edge_is =
              ap (λ (x : ℕ). get_elem? (map coded (table_edges table)) (edges_below table x)) spot_is
              ∙ slot_told table c.n c.i c.j st.rows pair.ready.left pair.right G.Flow.forward stands
              ∙ ap some (sym (made ∙ ap₂ (λ (p q : Row). edge_by 0x66 l m p q) (left ∙ st.row pair.ready.left) right
              ∙ edge_made G.Flow.forward p₀ q₀ l m told₀ there shared small))

          one_more : edges_below table (spot + 1) ≡ edges_below table (slot_of c) + 1
          one_more =
              ap (λ (x : ℕ). edges_below table (x + 1)) (sym (add-zero spot))
              ∙ below_next table (spot + 0) (slot_of_lem G.Flow.forward ∙ stands) ∙ ap (λ (x : ℕ). edges_below table x + 1) (sym spot_is)

          go : (o : Option ℕ) → back ≡ o → edges_below table (slot_of (at_pair c (row_after table c.linked c.j back) back)) ≡ edges_below table (slot_of c) + 1
          go None z =
              ap (λ (o : Option ℕ). edges_below table (slot_of (at_pair c (row_after table c.linked c.j o) o))) z ∙ past_back (stands_without G.Flow.back p₀ q₀ back₀ z) ∙ one_more
          go (Some b) z = ap (λ (o : Option ℕ). edges_below table (slot_of (at_pair c (row_after table c.linked c.j o) o))) z ∙ one_more

          go_stands : (o : Option ℕ) → back ≡ o → Standing table (at_pair c (row_after table c.linked c.j back) back)
          go_stands None z = subst (λ (o : Option ℕ). Standing table (at_pair c (row_after table c.linked c.j o) o)) (sym z) stands_on
          go_stands (Some b) z =
              subst (λ (o : Option ℕ). Standing table (at_pair c (row_after table c.linked c.j o) o)) (sym z)
              (stands_pair c c.j (Some b) st pair.ready.left st.inside (λ t l. st.chain t pair.ready.left l) (λ x y.
              (pair.right, sym z ∙ back_is_lem ∙ ap₂ back_is left right)))

  -- past the last row
  module _ (c : Cursor) (ready : Open table c) (past : c.n ≤ c.j) where
    abbrev sta : Standing table c
    sta = ready.stands

    abbrev i₁ : ℕ
    i₁ = c.i + 1

    pub row_fits : c.i + 1 < 2 ^ 64
    row_fits = let few = rows_most sta.rows in let l = ready.left in omega arith

    -- no edge to rows past the last
    below_row : edges_below table (i₁ * 1024 + 0 * 2 + 0) ≡ edges_below table (slot_of c)
    below_row =
        let few = rows_most sta.rows in let h = sta.inside in
        let e : i₁ * 1024 + 0 * 2 + 0 ≡ c.i * 1024 + c.j * 2 + 0 + (1024 - c.j * 2) = omega arith in
        ap (edges_below table) e
        ∙ below_same table (c.i * 1024 + c.j * 2 + 0) (1024 - c.j * 2)
        (λ y l m. sym (stands_past table y c.n sta.rows (omega arith)))
        ∙ ap (edges_below table) (sym (slot_open c ready.none))

    module _ (on : i₁ < c.n) where
      abbrev first : ℕ
      first = first_row table c.linked i₁

      looked : LookedAt table c.n c.linked i₁ 0 first
      looked = looked_first table c.n c.linked i₁ sta.rows sta.links on

      pub next_inside : Inside table i₁
      next_inside = inside_table c.n i₁ sta.rows on

      pub stepped_row : (f : ℕ) (d : Cursor) (r : Step) → f ≡ first → d ≡ row_start table c.n c.linked i₁ f → r ≡ nothing_at d
          → Stepped table c r
      unfolding row_start
      stepped_row f d r first_is start_is e = rw (e, start_is, first_is) (record {
        stands = stands_first c.n c.linked i₁ first sta.rows sta.links on looked.high looked.chain;
        found = λ x t. absurd (none-some x t);
        skipped = λ _. record {
          none = refl;
          later = let few = rows_most sta.rows in let h = sta.inside in omega arith;
          below = over_others c.n c.linked i₁ 0 first sta.rows on looked ∙ below_row;
        };
      })

    pub stepped_past : (d : Cursor) (r : Step) → c.n ≤ i₁ → d ≡ past_all c.n → r ≡ nothing_at d → Stepped table c r
    stepped_past d r over is e = rw (e, is) (record {
      stands = stands_over c.n sta.rows;
      found = λ x t. absurd (none-some x t);
      skipped = λ _. record {
        none = refl;
        later = let few = rows_most sta.rows in let h = sta.inside in let l = ready.left in omega arith;
        below = ap (λ (i : ℕ). edges_below table (i * 1024 + 0 * 2 + 0)) (let l = ready.left in let m : c.n ≡ i₁ = omega arith in m) ∙ below_row;
      };
    })

  -- ---- from step to step

  -- so far no edge from c on
  pub record Onward (c d : Cursor) : Type 0 where
    pub stands : Standing table d
    pub none : d.back ≡ None
    pub below : edges_below table (slot_of d) ≡ edges_below table (slot_of c)

  pub onward_step : (c d : Cursor) (r : Step) → Onward c d → Stepped table d r → r.edge ≡ None → Onward c r.cursor
  onward_step c d r o s t = record { stands = s.stands; none = (s.skipped t).none; below = (s.skipped t).below ∙ o.below }

  pub onward_found : (c d : Cursor) (r : Step) → Onward c d → Stepped table d r → (e : Edge) → r.edge ≡ Some e → Passed table c r
  onward_found c d r o s e t = record {
    stands = s.stands;
    found = λ x u. record {
      edge = ap (get_elem? (map coded (table_edges table))) (sym o.below) ∙ (s.found x u).edge;
      after = (s.found x u).after ∙ ap (λ (k : ℕ). k + 1) o.below;
    };
    ended = λ n. absurd (none-some e (sym n ∙ t));
  }

  pub onward_end : (c d : Cursor) (r : Step) → Onward c d → d.n ≤ d.i → r ≡ nothing_at d → Passed table c r
  unfolding slots
  onward_end c d r o past e = rw e (record {
    stands = o.stands;
    found = λ x t. absurd (none-some x t);
    ended = λ _. sym o.below ∙ ap (edges_below table) last ∙ below_all table;
  })
    where
      last : slot_of d ≡ slots table
      last =
          let x = slot_open d o.none in let f = o.stands.few in
          let m = ap (λ (n : ℕ). n * 1024) o.stands.rows in omega arith

  -- rows counted from the first: what falls from step to step
  pub onward_high : (c d : Cursor) → Onward c d → d.i * 1024 + d.j ≤ 600000
  onward_high c d o =
      let m = rows_most o.stands.rows in let f = o.stands.few in let x = slot_open d o.none in let i = o.stands.inside in omega arith

-- ---- links

pub links_told : {table : List ℕ} {r : Bool} → LinkedTold table r → LinksIn table r
links_told h e = (h.held e).1

pub links_none : (table : List ℕ) → LinksIn table false
links_none table t = absurd (true_false t refl)
