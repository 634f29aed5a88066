-- What follows for the answers from the table of a workload's places.
use Rattle.std.specs.Prelude.{false, Result, Ok, Err, Option, None, Some, ◌≡◌, ℕ, ◌*◌, length, take}
use mathlib.Core.List.{List, [], flat_map}
use Rattle.std.proofs.Math.Logic.{inr}
use Rattle.std.proofs.Math.Option as L
use Rattle.std.proofs.Math.Path.{refl, ap}
use Rattle.std.proofs.Common.{sym, subst, ◌∙◌, not-suc-le-zero, length-take-le, lt-ltb, le-ltb}
use Rattle.std.proofs.Math.ListN.{get_elem?}
use Rattle.spec_base.specs.Basic.{count}
use Rattle.spec_text.specs.declared.Workload.{Workload}
use Rattle.spec_text.specs.Value.{Given, lines_of}
use Rattle.spec_graph.specs.Graph as G
use Rattle.spec_graph.specs.Edge as E
use Rattle.spec_report.specs.State.{StateRefusal, is_too_many, counts_of, short_for_edges}
use Rattle.spec_report.specs.State.StateRefusal.{too_short, taken}
use Rattle.spec_report.specs.Refusals.{taken_given, other_area}
use Rattle.refusal.specs.declared.Fault.{Fault}
use Rattle.refusal.specs.Numbers.{number_of}
use Rattle.place_row.specs.RowTable.{row_count, table_rows, edges_of_rows}
use Rattle.edge_record.specs.declared.Edge.{Edge}
use Rattle.edge_count.specs.declared.Counts.{Counts}
use Rattle.edge_record.specs.Coded.{found_as}
use Rattle.edge_count.specs.Slots.{table_edges, table_counts}
use Rattle.edge_put.specs.Put.{put_said, PutAs}
use Rattle.edge_number.specs.NumberLaws.{coded_at, coded_none}
use Rattle.place_table.specs.declared.Rows.{Rows}
use Rattle.place_table.specs.Rows.{RowsSettled}
use Rattle.place_table.specs.Whole.{whole_refused, whole_filled, whole_edges}
use Rattle.edge_list.specs.EdgesSettled.{edges_in, counts_said, edge_said, CountsSettled, EdgeSettled, PutSettled}
use Rattle.edge_list.specs.Prepared.{Tabled, TabledFor}

-- ---- the table

-- no words, no edges
no_words : (table : List ℕ) → table_edges (take 0 table) ≡ []
unfolding table_edges table_rows row_count edges_of_rows flat_map
no_words table = refl

-- with no edges nothing is put
put_nothing : {before after : List Edge} {r : Result ℕ Fault} → PutAs [] before r after → after ≡ before
put_nothing (PutAs.short less said same) = absurd (not-suc-le-zero less)
put_nothing (PutAs.put fits said same) = same

module _ {w : Workload} {before : List ℕ} {r : Result Rows Fault} {after : List ℕ} (s : RowsSettled w before r after) where
  pub tabled_refused : {fault : Fault} → r ≡ Err fault → TabledFor w (Err fault) after
  tabled_refused e = whole_refused false s e

  pub tabled_filled : {rows : Rows} → r ≡ Ok rows → TabledFor w (Ok (rows.places * 8)) after
  tabled_filled {rows} e =
      let t = whole_filled s e in
      record {
        taken = taken t.given t.few refl;
        inside = t.inside;
        edges = whole_edges w rows.programs rows.nodes rows.places after t;
      }

-- ---- a refusal of the workload

module _ (w : Workload) {fault : Fault} (refusal : StateRefusal w false (L.some (number_of fault))) where
  pub counts_refused : CountsSettled w (Err fault)
  unfolding counts_said
  counts_refused = CountsSettled.refused (number_of fault) refusal refl

  pub edge_refused : (k : ℕ) → EdgeSettled w k (Err fault)
  unfolding edge_said
  edge_refused k = EdgeSettled.refused (number_of fault) refusal refl

  -- the lent area stays
  pub put_refused : (before : List Edge) → PutSettled w before (Err fault) before
  unfolding put_said
  put_refused before =
      PutSettled.refused (number_of fault) (other_area (λ _. refl) (short_for_edges (lines_of w) (length before)) refl refusal) refl refl

-- ---- what a table gives

module _ (w : Workload) (words : ℕ) (table : List ℕ) (t : Tabled w words table) where
  pub part_long : words ≡ length (take words table)
  part_long = sym (length-take-le words table t.inside)

  ok : Given w × (is_too_many (lines_of w) ≡ false)
  ok = taken_given t.taken refl

  pub counts_told : (c : Counts) → c ≡ table_counts (take words table) → CountsSettled w (Ok (record { edges = c.edges; back = c.back }))
  unfolding counts_said table_counts counts_of
  counts_told c e =
      CountsSettled.counted t.taken
      (ap (λ (x : Counts). inr (x.edges, x.back)) e
      ∙ ap (λ (l : List E.Edge). inr (length l, count (λ d. G.is_back d.flow) l)) t.edges)

  module _ (k : ℕ) (f : Option Edge) (e : f ≡ found_as (get_elem? (table_edges (take words table)) k)) where
    found_in : f ≡ found_as (get_elem? (edges_in w) k)
    found_in = e ∙ ap (λ (l : List E.Edge). found_as (get_elem? l k)) t.edges

    pub edge_there : (edge : Edge) → f ≡ Some edge → EdgeSettled w k (Ok (Some edge))
    unfolding edge_said
    edge_there edge h = EdgeSettled.told t.taken (ap inr (sym (coded_at (edges_in w) k edge (sym found_in ∙ h))))

    pub edge_absent : f ≡ None → EdgeSettled w k (Ok None)
    unfolding edge_said
    edge_absent h = EdgeSettled.told t.taken (ap inr (sym (coded_none (edges_in w) k (sym found_in ∙ h))))

    pub edge_told : EdgeSettled w k (Ok f)
    edge_told = go f refl
      where
        go : (g : Option Edge) → f ≡ g → EdgeSettled w k (Ok g)
        go (Some edge) h = edge_there edge h
        go None h = edge_absent h

  -- the edges put: all, or none where the area is too short
  pub put_settled : (before after : List Edge) (r : Result ℕ Fault) → PutAs (table_edges (take words table)) before r after
      → PutSettled w before r after
  unfolding short_for_edges
  put_settled before after r edges = go (subst (λ (l : List E.Edge). PutAs l before r after) t.edges edges)
    where
      go : PutAs (edges_in w) before r after → PutSettled w before r after
      go (PutAs.short less told same) =
          PutSettled.refused 20 (too_short ok.0 ok.1 (lt-ltb (length before) (length (edges_in w)) less)) told same
      go (PutAs.put fits told same) = PutSettled.put (taken ok.0 ok.1 (le-ltb (length before) (length (edges_in w)) fits)) told same
