-- Laws of edges by their numbers.
use Rattle.std.specs.Prelude.{◌≡◌, List, [], ◌∷◌, None, Some, map, ℕ, zero, suc, ◌+◌, ◌-◌, ◌*◌, ◌≤◌, ◌<◌, length}
use Rattle.std.proofs.Math.Path.{refl, ap}
use Rattle.std.proofs.Common.{sym, ◌∙◌, not-suc-le-zero, le_of_suc-le-suc}
use Rattle.std.proofs.Math.Option.{none, some}
use native.Mathlib.Omega.{arith}
use Rattle.std.proofs.Math.ListN.{get_elem?}
use Rattle.law_base.specs.ListLaws.{get_elem?_past, some_injective}
use Rattle.spec_graph.specs.Edge as E
use Rattle.edge_record.specs.declared.Edge.{Edge}
use Rattle.edge_record.specs.Coded.{coded, found_as}
use Rattle.place_row.specs.RowTable.{row_count}
use Rattle.edge_count.specs.declared.Counts.{Counts}
use Rattle.edge_count.specs.Slots.{table_edges, slots, edges_below, row_counts}
use Rattle.edge_count.specs.SlotLaws.{rows_small}
use Rattle.edge_count.specs.Flattened.{leaving_edges}
use Rattle.edge_find.specs.declared.EdgeStep.{EdgeStep}
use Rattle.edge_find.specs.Search.{edge_from}
use Rattle.edge_find.specs.SearchLaws.{edge_after, below_all}
use Rattle.edge_number.specs.Numbers.{Ahead, Numbered}

-- an edge that is told is there, as the code holds it
pub coded_at : (edges : List E.Edge) (k : ℕ) (e : Edge) → found_as (get_elem? edges k) ≡ Some e → get_elem? (map coded edges) k ≡ some e
unfolding found_as
coded_at [] k e h = absurd (let z : ◌≡◌ {A = ℕ} 0 1 = cc in omega arith)
coded_at (x ∷ edges) zero e h = cc
coded_at (x ∷ edges) (suc k) e h = coded_at edges k e h

pub coded_none : (edges : List E.Edge) (k : ℕ) → found_as (get_elem? edges k) ≡ None → get_elem? (map coded edges) k ≡ none
unfolding found_as
coded_none [] k h = refl
coded_none (x ∷ edges) zero h = absurd (let z : ◌≡◌ {A = ℕ} 0 1 = cc in omega arith)
coded_none (x ∷ edges) (suc k) h = coded_none edges k h

-- and one that is there is told
not_absent : (edges : List E.Edge) (k : ℕ) → k < length edges → found_as (get_elem? edges k) ≡ None → ⊥
unfolding found_as
not_absent [] k h e = not-suc-le-zero h
not_absent (x ∷ edges) zero h e = let z : ◌≡◌ {A = ℕ} 0 1 = cc in omega arith
not_absent (x ∷ edges) (suc k) h e = not_absent edges k (le_of_suc-le-suc h) e

-- one that is told is one of the list
told_below : (edges : List E.Edge) (k : ℕ) (e : Edge) → found_as (get_elem? edges k) ≡ Some e → k < length edges
unfolding found_as
told_below [] k e h = absurd (let z : ◌≡◌ {A = ℕ} 0 1 = cc in omega arith)
told_below (x ∷ edges) zero e h = omega arith
told_below (x ∷ edges) (suc k) e h = let l = told_below edges k e h in omega arith

-- and where none is told the list has ended
absent_past : (edges : List E.Edge) (k : ℕ) → found_as (get_elem? edges k) ≡ None → length edges ≤ k
unfolding found_as
absent_past [] k h = omega arith
absent_past (x ∷ edges) zero h = absurd (let z : ◌≡◌ {A = ℕ} 0 1 = cc in omega arith)
absent_past (x ∷ edges) (suc k) h = let l = absent_past edges k h in omega arith

module _ (table : List ℕ) where
  slots_few : slots table ≤ 524288
  unfolding slots
  slots_few = let h = rows_small table in omega arith

  -- the first edge after the edges below k is edge number k
  module _ (k x : ℕ) (step : EdgeStep) (below : edges_below table x ≡ k) (e : step ≡ edge_from table x) where
    pub found_is : step.found ≡ found_as (get_elem? (table_edges table) k)
    unfolding edge_from
    found_is = ap (λ (s : EdgeStep). s.found) e ∙ ap (λ (j : ℕ). found_as (get_elem? (table_edges table) j)) below

    pub found_ahead : (edge : Edge) → step.found ≡ Some edge → Ahead table k x
    found_ahead edge f = record { below = below; there = told_below (table_edges table) k edge (sym found_is ∙ f) }

    -- where there is none, no later number has one
    pub absent_later : (m : ℕ) → k ≤ m → step.found ≡ None → None ≡ found_as (get_elem? (table_edges table) m)
    unfolding found_as
    absent_later m l f =
        let past = absent_past (table_edges table) k (sym found_is ∙ f) in
        sym (ap found_as (get_elem?_past (table_edges table) m (omega arith)))

  module _ (k x : ℕ) (step : EdgeStep) (ahead : Ahead table k x) (e : step ≡ edge_from table x) where
    pub next_numbered : (edge : Edge) → step.found ≡ Some edge → Numbered table k step.slot edge
    next_numbered edge f =
        let slot = ap (λ (s : EdgeStep). s.slot) e in
        let next = edge_after table x (let a = ahead.below in let b = ahead.there in omega arith) in
        record {
          edge = coded_at (table_edges table) k edge (sym (found_is k x step ahead.below e) ∙ f);
          after = ap (λ (j : ℕ). edges_below table (j + 1)) slot ∙ next.1 ∙ ap (λ (j : ℕ). j + 1) ahead.below;
          few = let l = next.0 in let m = slots_few in omega arith;
        }

    pub next_there : step.found ≡ None → ⊥
    next_there f = not_absent (table_edges table) k ahead.there (sym (found_is k x step ahead.below e) ∙ f)

  -- nothing stands before the first slot
  pub ahead_first : edges_below table 0 ≡ 0
  unfolding edges_below
  ahead_first = refl

-- an edge of the list, told
told_at : (edges : List E.Edge) (k : ℕ) (e : Edge) → get_elem? (map coded edges) k ≡ some e → Some e ≡ found_as (get_elem? edges k)
unfolding found_as
told_at [] k e h = absurd (let z : ◌≡◌ {A = ℕ} 0 1 = cc in omega arith)
told_at (x ∷ edges) zero e h = ap Some (sym (some_injective h))
told_at (x ∷ edges) (suc k) e h = told_at edges k e h

pub found_at : (table : List ℕ) (k slot : ℕ) (edge : Edge) → Numbered table k slot edge → Some edge ≡ found_as (get_elem? (table_edges table) k)
found_at table k slot edge n = told_at (table_edges table) k edge n.edge

pub found_none : (table : List ℕ) (k n : ℕ) → n ≡ length (table_edges table) → n ≤ k → None ≡ found_as (get_elem? (table_edges table) k)
unfolding found_as
found_none table k n c l = sym (ap found_as (get_elem?_past (table_edges table) k (omega arith)))

-- ---- row after row

-- the edges before row i are those with the numbers below k that are not left
module _ (table : List ℕ) (k i left : ℕ) (before : edges_below table (i * 1024) + left ≡ k) where
  -- where a row has no more edges than are left, it is passed over
  pub row_passed : {c : Counts} → c ≡ row_counts table i → c.edges ≤ left → edges_below table ((i + 1) * 1024) + (left - c.edges) ≡ k
  row_passed told few =
      let next = leaving_edges table i told in
      let s : (i + 1) * 1024 ≡ i * 1024 + 1024 = omega arith in
      let e = ap (edges_below table) s in
      omega arith

  -- after the last row no edge has number k
  pub rows_passed : {n : ℕ} → n ≡ row_count table → i ≡ n → None ≡ found_as (get_elem? (table_edges table) k)
  unfolding slots
  rows_passed rows last =
      let all = below_all table in
      let e = ap (λ (m : ℕ). edges_below table (m * 1024)) (last ∙ rows) in
      found_none table k (length (table_edges table)) refl (omega arith)
