-- The unfolding over the lines' numbers and tables: steps towards the promises of specs/UnfoldSettled.
use Rattle.std.specs.Prelude.{Bool, false, cond, ◌||◌, List, ◌++◌, ◌≡◌, ℕ, ◌≤◌, ltb, length, drop, Result, Ok, Err}
use Rattle.refusal.specs.declared.Fault.{Fault}
use Rattle.refusal.specs.declared.Fault.TheVariants.{Area, NotGiven, Unfoldings}
use Rattle.spec_text.specs.declared.Workload.{Workload}
use Rattle.spec_text.specs.Value.{Given, lines_of}
use Rattle.value_tables.specs.Lines.{line_table, table_codes}
use Rattle.unfold.specs.LineWords.{words_by, marks_by}
use Rattle.unfold_laws.specs.Pieces.{Piece, flat, totals_before, pieces_before}
use Rattle.unfold.specs.declared.Unfolded.{Unfolded}
use Rattle.unfold.specs.PieceTable.{UnfoldingTable, table}

-- a table told
unfoldable pub table_told : UnfoldingTable → Unfolded
table_told f = record { count = f.count; unfoldings = f.unfoldings }

-- over the lines' numbers: S22, S20, and the pieces that are written
unfoldable pub over_many : List ℕ → Bool
over_many codes = ltb 64 (totals_before codes (length codes)).count || ltb 512 (totals_before codes (length codes)).statements

unfoldable pub is_too_short : List ℕ → ℕ → Bool
is_too_short codes room = ltb room (totals_before codes (length codes)).statements

abbrev pub pieces_over : List ℕ → List ℕ → List ℕ → List Piece
pieces_over codes words marks = pieces_before codes words marks (length codes)

-- where S22 lets them pass, the pieces are no more than 64 and no longer than counted
pub record Ready (codes words marks : List ℕ) : Type 0 where
  pub few : over_many codes ≡ false → length (pieces_over codes words marks) ≤ 64
  pub short : over_many codes ≡ false → length (flat (pieces_over codes words marks)) ≤ (totals_before codes (length codes)).statements

-- S22, S20 in this order with the area as it was, else the pieces told and written from the area's start on, and past them as it was
pub record Tabled (codes words marks before : List ℕ) (r : Result Unfolded Fault) (area : List ℕ) : Type 0 where
  pub tells : r
      ≡ cond (over_many codes) (Err Unfoldings)
      (cond (is_too_short codes (length before)) (Err Area) (Ok (table_told (table (pieces_over codes words marks)))))
  pub stands : area
      ≡ cond (over_many codes) before
      (cond (is_too_short codes (length before)) before
      (flat (pieces_over codes words marks) ++ drop (length (flat (pieces_over codes words marks))) before))

-- of a workload value, by ids or by numbers of lines: S21 with the area as it was, else over the words of its lines
pub data ValueTabled (ids : Bool) (w : Workload) (before : List ℕ) (r : Result Unfolded Fault) (area : List ℕ) : Type 0 where
  value_refused : (Given w → ⊥) → r ≡ Err NotGiven → area ≡ before → ValueTabled ids w before r area
  value_tabled : Given w → (words : List ℕ) → words ≡ line_table (lines_of w)
      → Tabled (table_codes words) (words_by ids words) (marks_by ids words) before r area → ValueTabled ids w before r area
