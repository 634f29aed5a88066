-- From what the parts promise to what is promised of a text's rows; and what the rows are good for.
use Rattle.std.specs.Prelude.{◌⊎◌, take, Result, Ok, Err}
use Rattle.std.proofs.Math.Bool.{false}
use Rattle.std.proofs.lemmas.Bool.{false≢true}
use mathlib.Core.List.{List, ◌++◌}
use Rattle.std.proofs.Math.Option.{Option, some}
use Rattle.std.proofs.Math.Path.{◌≡◌, refl, ap}
use Rattle.std.proofs.Common.{sym, ◌∙◌, inl}
use Prim.Native.Nat.{ℕ, ◌*◌, ◌≤◌}
use native.Mathlib.Omega.{arith}
use Rattle.std.proofs.Math.ListN.{length, drop}
use Rattle.std.proofs.Math.Seq.{take_at}
use Rattle.spec_text.specs.declared.Line.{Line}
use Rattle.spec_text.specs.Reading.{read}
use Rattle.spec_text.specs.Reading.Outcome.{accepted}
use Rattle.spec_text.specs.Value.{lines_of, value_of}
use Rattle.law_text.specs.ValueLaws.{lines_of_value, value_given, given_fits}
use Rattle.spec_graph.specs.Program.{programs_of}
use Rattle.spec_graph.specs.Unfolding.{nodes_of}
use Rattle.spec_report.specs.State.{StateRefusal, statements_in, is_too_many}
use Rattle.spec_report.specs.State.StateRefusal.{not_given, too_many, too_short, taken}
use Rattle.spec_report.specs.Refusals.{not_both, taken_given}
use Rattle.place_row.specs.RowTable.{rows_of, table_of}
use Rattle.place_table.specs.declared.Rows.{Rows}
use Rattle.refusal.specs.declared.Fault.{Fault}
use Rattle.refusal.specs.Numbers.{number_of}
use Rattle.place_table.specs.Rows.{rows_said, RowsSettled}
use Rattle.place_table.specs.Whole.{whole_filled}
use Rattle.place_table.specs.LineRows.{LinesFilled}
use Rattle.value_tables.specs.Lines.{line_table}
use Rattle.value_tables.specs.LineLaws.{line_table_length}
use Rattle.text_table.specs.Tabled.{not_read, lines_read, TextTabled}
use Rattle.place_text.specs.declared.TextRows.{TextRows}
use Rattle.place_text.specs.Placed.{no_rows, rows_told, TextPlaced}
use Rattle.place_text.specs.Placed.TextPlaced.{unread, large, placed}

module _ (text : List ℕ) {lines : List Line} (is_read : read text ≡ accepted lines) {before : List ℕ} {f : Result Rows Fault} {after : List ℕ}
    (settled : RowsSettled (value_of lines) before f after) where
  same : lines_of (value_of lines) ≡ lines
  same = lines_of_value lines

  -- S22 is the only refusal of a value that was read
  pub rows_refused : {fault : Fault} {r : Result TextRows (ℕ × ℕ)} → f ≡ Err fault → r ≡ no_rows (number_of fault) 0
      → TextPlaced (read text) before r after
  unfolding rows_said
  rows_refused {fault} {r} e told = go settled
    where
      n : ℕ
      n = number_of fault

      by_number : {o : Option ℕ} (m : ℕ) → o ≡ some m → StateRefusal (value_of lines) false o → n ≡ m → after ≡ before
          → TextPlaced (read text) before r after
      by_number m q (not_given h) number kept = absurd (h (value_given text is_read))
      by_number m q (too_many g t) number kept =
          let two : m ≡ 22 = cc in
          large lines is_read (ap is_too_many (sym same) ∙ t) (told ∙ ap (λ (k : ℕ). no_rows k 0) (number ∙ two)) kept
      by_number m q (too_short g t s) number kept = absurd (false≢true s)
      by_number m q (taken g t s) number kept = absurd (not_both q refl)

      go : RowsSettled (value_of lines) before f after → TextPlaced (read text) before r after
      go (RowsSettled.refused m refusal said kept) =
          by_number m refl refusal (let z : ◌≡◌ {A = ℕ ⊎ (ℕ × ℕ × ℕ)} (inl n) (inl m) = sym (ap rows_said e) ∙ said in cc) kept
      go (RowsSettled.filled refusal said stands) = absurd (let z : ◌≡◌ {A = ℕ} 0 1 = cc in omega arith)

  -- what is filled are the rows of the text
  pub rows_placed : {rows : Rows} {r : Result TextRows (ℕ × ℕ)} → f ≡ Ok rows
      → r ≡ Ok (record { programs = rows.programs; nodes = rows.nodes; words = rows.places * 8 }) → TextPlaced (read text) before r after
  unfolding rows_said rows_told
  rows_placed {rows} {r} e told = go settled
    where
      go : RowsSettled (value_of lines) before f after → TextPlaced (read text) before r after
      go (RowsSettled.refused m refusal said kept) = absurd (let z : ◌≡◌ {A = ℕ} 0 1 = cc in omega arith)
      go (RowsSettled.filled refusal said stands) =
          let few = (taken_given refusal refl).1 in
          let all : ◌≡◌ {A = ℕ × ℕ × ℕ} (rows.programs, rows.nodes, rows.places)
          (length (programs_of lines), length (nodes_of lines), statements_in (nodes_of lines)) = rw (← same) cc in
          let words : rows.places * 8 ≡ 8 * statements_in (nodes_of lines) = let p = ap (λ (t : ℕ × ℕ × ℕ). t.2) all in omega arith in
          placed lines is_read (ap is_too_many (sym same) ∙ few)
          (told ∙ rw (ap (λ (t : ℕ × ℕ × ℕ). t.0) all, ap (λ (t : ℕ × ℕ × ℕ). t.1) all, words) refl)
          (stands
          ∙ ap (λ (l : List Line). table_of (rows_of (nodes_of l)) ++ drop (8 * statements_in (nodes_of l)) before) same)

  -- so many places have no more than 4096 words
  pub few_places : {rows : Rows} → f ≡ Ok rows → rows.places ≤ 512
  few_places e = (whole_filled settled e).short

-- ---- from the table of a text's lines on

module _ (text : List ℕ) {lines₀ : List ℕ} {lines : List ℕ} where
  -- R: a text that is not read has no rows
  pub rows_unread : {number line : ℕ} → TextTabled (read text) lines₀ (Err (number, line)) lines
      → {before : List ℕ} → TextPlaced (read text) before (Err (number, line)) before
  unfolding not_read lines_read no_rows
  rows_unread {number} {line} (TextTabled.unread m n is_read e) {before} =
      let told : ◌≡◌ {A = ℕ × ℕ} (number, line) (m, n) = cc in unread m n is_read (ap {B = Result TextRows (ℕ × ℕ)} Err told) refl
  rows_unread {number} {line} (TextTabled.tabled ls is_read e stands) {before} = cc

  -- one that is read has its lines in the table
  pub lines_read_lem : {count : ℕ} → TextTabled (read text) lines₀ (Ok count) lines
      → (ls : List Line) × (read text ≡ accepted ls) × (count ≤ 1616) × (take (count * 8) lines ≡ line_table ls)
  unfolding not_read lines_read value_of
  lines_read_lem {count} (TextTabled.unread number line is_read e) = cc
  lines_read_lem {count} (TextTabled.tabled ls is_read e stands) =
      let many : count ≡ length ls = cc in
      let few = given_fits (value_given text is_read) in
      let long = line_table_length ls in
      (ls, is_read, omega arith, ap (take (count * 8)) stands ∙ take_at (line_table ls) _ (count * 8) (omega arith))

  -- their rows are the text's
  pub rows_read : {count : ℕ} (stands : TextTabled (read text) lines₀ (Ok count) lines) {places₀ before : List ℕ} {f : Result Rows Fault}
      {places after : List ℕ} → LinesFilled (take (count * 8) lines) places₀ before f places after
      → RowsSettled (value_of (lines_read_lem stands).0) before f after
  rows_read stands filled =
      let l = lines_read_lem stands in filled.settled l.0 l.3 (value_given text l.1)
