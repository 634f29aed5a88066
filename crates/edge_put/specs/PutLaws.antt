-- Laws of edges put one after the other.
use Rattle.std.specs.Prelude.{◌≡◌, Bool, Result, Ok, Err, ℕ, zero, suc, ◌+◌, ◌*◌, ◌≤◌, ◌<◌, leb, set}
use Rattle.std.proofs.Math.Path.{refl, sym, ap, subst}
use Rattle.std.proofs.Common.{◌∙◌, not-suc-le-zero, le_of_suc-le-suc, add-one, length-append, length-drop, length-take-le}
use Rattle.std.proofs.Math.Bool.{true, false, cond}
use Rattle.std.proofs.Math.Logic.{inr}
use Rattle.std.proofs.Math.Option.{some}
use mathlib.Core.List.{List, [], ◌∷◌, ◌++◌}
use native.Mathlib.Omega.{arith}
use Rattle.std.proofs.Math.ListN.{length, take, drop, get_elem?}
use Rattle.std.proofs.lemmas.List.{length-map}
use Rattle.std.proofs.Math.Seq.{take-length}
use borrow.Author.Tests.{leb-true, leb-false}
use Rattle.law_base.specs.ListLaws.{get_elem?_lt, some_injective}
use Rattle.spec_graph.specs.Edge as E
use Rattle.place_row.specs.RowTable.{row_count}
use Rattle.edge_record.specs.declared.Edge.{Edge}
use Rattle.edge_record.specs.Coded.{coded}
use Rattle.edge_count.specs.Slots.{table_edges, slots, edges_below}
use Rattle.edge_find.specs.SearchLaws.{below_all}
use Rattle.refusal.specs.declared.Fault.{Fault}
use Rattle.edge_put.specs.declared.Cursor.{Cursor}
use Rattle.edge_put.specs.Cursors.{slot_of, Begun, Standing, Found}
use Rattle.edge_put.specs.CursorLaws.{below_most}
use Rattle.edge_put.specs.Put.{records, put_first, answer_for, put_said, PutAs}
use Rattle.edge_put.specs.Put.PutAs.{short, put}

-- ---- edges put

module _ {A : Type 0} where
  -- one element more at the front
  set_front : (list area : List A) (k : ℕ) (x : A) → k < length area → get_elem? list k ≡ some x
      → set (take k list ++ drop k area) k x ≡ take (suc k) list ++ drop (suc k) area
  set_front [] area k x h e = absurd (let z : ◌≡◌ {A = ℕ} 0 1 = cc in omega arith)
  set_front (y ∷ list) [] k x h e = absurd (not-suc-le-zero h)
  set_front (y ∷ list) (o ∷ area) zero x h e = ap (λ (z : A). z ∷ area) (sym (some_injective e))
  set_front (y ∷ list) (o ∷ area) (suc k) x h e = ap (λ (l : List A). y ∷ l) (set_front list area k x (le_of_suc-le-suc h) e)

  length_first : (list area : List A) (k : ℕ) → k ≤ length list → k ≤ length area → length (take k list ++ drop k area) ≡ length area
  length_first list area k h m =
      let a = length-append (take k list) (drop k area) in
      let b = length-take-le k list h in
      let c = length-drop k area in
      omega arith

-- how many edges are put before a slot: those below it, or none where they do not fit
pub data Kept (table : List ℕ) (fits : Bool) (x k : ℕ) : Type 0 where
  going : fits ≡ true → edges_below table x ≡ k → Kept table fits x k
  over : fits ≡ false → length (table_edges table) ≤ edges_below table x → k ≡ 0 → Kept table fits x k

module _ (table : List ℕ) (fits : Bool) where
  -- before the first step
  pub kept_start : (c : Cursor) → Begun table fits c → Kept table fits (slot_of c) 0
  unfolding edges_below slots
  kept_start c begun = subst (λ (x : ℕ). Kept table fits x 0) (sym begun.slot) (go fits)
    where
      go : (b : Bool) → Kept table b (cond b 0 (row_count table * 1024)) 0
      go true = going refl refl
      go false = over refl (let a = below_all table in omega arith) refl

  module _ (c : Cursor) (e : Edge) (d : Cursor) (k : ℕ) (kept : Kept table fits (slot_of c) k) (found : Found table c e d) where
    abbrev before : ℕ
    before = edges_below table (slot_of c)

    there : before < length (table_edges table)
    there = let h = get_elem?_lt (records table) before found.edge in let m = length-map (table_edges table) coded in omega arith

    -- the edge that is found has the next number
    pub kept_edge : get_elem? (records table) k ≡ some e
    kept_edge = go kept
      where
        go : Kept table fits (slot_of c) k → get_elem? (records table) k ≡ some e
        go (going f b) = ap (get_elem? (records table)) (sym b) ∙ found.edge
        go (over f b z) = absurd (let h = there in omega arith)

    pub kept_more : Kept table fits (slot_of d) (k + 1)
    kept_more = go kept
      where
        go : Kept table fits (slot_of c) k → Kept table fits (slot_of d) (k + 1)
        go (going f b) = going f (found.after ∙ ap (λ (j : ℕ). j + 1) b)
        go (over f b z) = absurd (let h = there in omega arith)

module _ (table : List ℕ) (area : List Edge) where
  abbrev edges : List E.Edge
  edges = table_edges table

  abbrev fit : Bool
  fit = leb (length edges) (length area)

  pub put_none : put_first (records table) area 0 ≡ area
  put_none = refl

  -- no more edges are put than there are, and than there is room for
  pub kept_few : (c : Cursor) (k : ℕ) → Standing table c → Kept table fit (slot_of c) k → (k ≤ length edges) × (k ≤ length area)
  unfolding slots
  kept_few c k s (going f e) =
      let h = below_most table (slot_of c) (let l = s.few in let m = ap (λ (n : ℕ). n * 1024) s.rows in omega arith) in
      let l = leb-true (length edges) (length area) f in
      (omega arith, omega arith)
  kept_few c k s (over f e z) = (omega arith, omega arith)

  -- an edge that is found is one of all, and there is room for it
  pub kept_below : (c : Cursor) (e : Edge) (d : Cursor) (k : ℕ) → Kept table fit (slot_of c) k → Found table c e d → (k < length edges) × (k < length area)
  kept_below c e d k kept found = go kept
    where
      go : Kept table fit (slot_of c) k → (k < length edges) × (k < length area)
      go (going f b) =
          let h = there table fit c e d k kept found in
          let l = leb-true (length edges) (length area) f in
          (omega arith, omega arith)
      go (over f b z) = absurd (let h = there table fit c e d k kept found in omega arith)

  pub put_length : (c : Cursor) (k : ℕ) → Standing table c → Kept table fit (slot_of c) k → length (put_first (records table) area k) ≡ length area
  put_length c k s kept =
      let few = kept_few c k s kept in
      let m = length-map edges coded in
      length_first (records table) area k (omega (arith, few.0)) few.1

  pub put_more : (k : ℕ) (e : Edge) → k < length area → get_elem? (records table) k ≡ some e
      → set (put_first (records table) area k) k e ≡ put_first (records table) area (k + 1)
  put_more k e h n = set_front (records table) area k e h n ∙ ap (put_first (records table) area) (sym (add-one k))

  -- where no edge comes any more, they are put as they have to be
  pub put_ended : (c : Cursor) (k : ℕ) (r : Result ℕ Fault) → Kept table fit (slot_of c) k → edges_below table (slot_of c) ≡ length edges → r ≡ answer_for fit k
      → PutAs edges area r (put_first (records table) area k)
  unfolding answer_for put_said
  put_ended c k r (going f b) ended e =
      let all : k ≡ length edges = sym b ∙ ended in
      put (leb-true (length edges) (length area) f)
      (ap put_said (e ∙ ap (λ (t : Bool). cond t (Ok k) (Err Fault.Area)) f) ∙ ap inr all)
      (ap (put_first (records table) area) all
      ∙ ap (λ (l : List Edge). l ++ drop (length edges) area)
      (ap (λ (j : ℕ). take j (records table)) (sym (length-map edges coded)) ∙ take-length (records table)))
  put_ended c k r (over f b z) ended e =
      short (leb-false (length edges) (length area) f)
      (ap put_said (e ∙ ap (λ (t : Bool). cond t (Ok k) (Err Fault.Area)) f))
      (ap (put_first (records table) area) z)
