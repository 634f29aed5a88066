-- What a table's answer is worth: a refusal stands for every other area too, and what is filled is whole.
use Rattle.std.specs.Prelude.{Bool, false, Result, Ok, Err}
use mathlib.Core.List.{List}
use Rattle.std.proofs.Math.Option.{Option, some}
use Rattle.std.proofs.Math.Path.{◌≡◌, refl, ap, ap₂}
use Rattle.std.proofs.Common.{◌∙◌}
use Prim.Native.Nat.{ℕ, ◌*◌, ◌≤◌}
use native.Mathlib.Omega.{arith}
use Rattle.std.proofs.Math.ListN.{length, length-append, take, drop}
use Rattle.std.proofs.Math.Seq.{take-append_seam}
use Rattle.spec_text.specs.declared.Workload.{Workload}
use Rattle.spec_text.specs.Value.{Given, lines_of}
use Rattle.spec_graph.specs.Program.{programs_of}
use Rattle.spec_graph.specs.Unfolding.{nodes_of}
use Rattle.spec_graph.specs.Edge.{edges_of}
use Rattle.spec_report.specs.State.{StateRefusal, statements_in, is_too_many}
use Rattle.spec_report.specs.State.StateRefusal.{not_given, too_many, too_short, taken}
use Rattle.place_row.specs.RowTable.{rows_of, table_of}
use Rattle.place_row.specs.RowTableLaws.{table_of_length}
use Rattle.edge_count.specs.Slots.{table_edges}
use Rattle.place_laws.specs.Placed.{rows_of_length, given_edges}
use Rattle.refusal.specs.declared.Fault.{Fault}
use Rattle.refusal.specs.Numbers.{number_of}
use Rattle.place_table.specs.declared.Rows.{Rows}
use Rattle.place_table.specs.Rows.{rows_said, RowsSettled}
use Rattle.place_table.specs.Rows.RowsSettled.{refused, filled}
use Rattle.spec_report.specs.Refusals.{not_both, places_few, taken_given, other_area}

-- the value is given and not too large, and the table begins with the rows of all its places
pub record Whole (w : Workload) (programs nodes places : ℕ) (table : List ℕ) : Type 0 where
  pub given : Given w
  pub few : is_too_many (lines_of w) ≡ false
  pub short : places ≤ 512
  pub inside : places * 8 ≤ length table
  pub programs_are : programs ≡ length (programs_of (lines_of w))
  pub nodes_are : nodes ≡ length (nodes_of (lines_of w))
  pub rows : take (places * 8) table ≡ table_of (rows_of (nodes_of (lines_of w)))

-- E5: its edges are the workload's
pub whole_edges : (w : Workload) (programs nodes places : ℕ) (table : List ℕ) → Whole w programs nodes places table
    → table_edges (take (places * 8) table) ≡ edges_of (nodes_of (lines_of w))
whole_edges w programs nodes places table whole =
    ap table_edges whole.rows ∙ given_edges whole.given whole.few

-- no refusal has number 0
pub number_some : {w : Workload} {short : Bool} {o : Option ℕ} {n : ℕ} → o ≡ some n → StateRefusal w short o → (n ≡ 0 → ⊥)
number_some {n = n} e (not_given h) z = let m : n ≡ 21 = cc in omega arith
number_some {n = n} e (too_many g t) z = let m : n ≡ 22 = cc in omega arith
number_some {n = n} e (too_short g t s) z = let m : n ≡ 20 = cc in omega arith
number_some {n = n} e (taken g t s) z = not_both e refl

module _ {w : Workload} {before : List ℕ} {r : Result Rows Fault} {after : List ℕ} where
  -- a refusal is one of the value, so it stands for every other area too
  pub whole_refused : {fault : Fault} (short : Bool) → RowsSettled w before r after → r ≡ Err fault
      → StateRefusal w short (some (number_of fault))
  unfolding rows_said
  whole_refused {fault} short (refused m refusal said same) e =
      let number : number_of fault ≡ m = cc in
      rw number (other_area (λ _. refl) short refl refusal)
  whole_refused short (filled refusal said same) e = absurd (let z : ◌≡◌ {A = ℕ} 0 1 = cc in omega arith)

  pub whole_filled : {rows : Rows} → RowsSettled w before r after → r ≡ Ok rows → Whole w rows.programs rows.nodes rows.places after
  unfolding rows_said
  whole_filled (refused m refusal said same) e = absurd (let z : ◌≡◌ {A = ℕ} 0 1 = cc in omega arith)
  whole_filled {rows} (filled refusal said same) e =
      let ok = taken_given refusal refl in
      let table = table_of (rows_of (nodes_of (lines_of w))) in
      let rest = drop (8 * statements_in (nodes_of (lines_of w))) before in
      let a = table_of_length (rows_of (nodes_of (lines_of w))) in
      let b = rows_of_length (nodes_of (lines_of w)) in
      let told : ◌≡◌ {A = ℕ × ℕ × ℕ} (rows.programs, rows.nodes, rows.places)
      (length (programs_of (lines_of w)), length (nodes_of (lines_of w)), statements_in (nodes_of (lines_of w))) = cc in
      let c = ap (λ (t : ℕ × ℕ × ℕ). t.2) told in
      let most = places_few w ok.1 in
      let n : rows.places * 8 ≡ length table = omega arith in
      let long = ap length same ∙ length-append table rest in
      record {
        given = ok.0;
        few = ok.1;
        short = omega arith;
        inside = omega arith;
        programs_are = ap (λ (t : ℕ × ℕ × ℕ). t.0) told;
        nodes_are = ap (λ (t : ℕ × ℕ × ℕ). t.1) told;
        rows = ap₂ (λ (k : ℕ) (t : List ℕ). take k t) n same ∙ take-append_seam table rest;
      }
