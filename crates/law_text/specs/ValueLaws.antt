-- S21: the workload values that accepted texts give.
use Rattle.std.specs.Prelude.{◌≡◌, refl, List, [], ◌∷◌, ◌++◌, ℕ, suc, ◌+◌, ◌-◌, ◌≤◌, ◌<◌, set, take, drop, replicate}
use Rattle.std.proofs.Common.{sym, ap, ◌∙◌, append_assoc, arith, length-append, take-append-drop, take_at, drop_at, length-take-le}
use Rattle.std.proofs.Math.ListN.{length, length-replicate}
use Rattle.std.proofs.Math.Seq.{set-append_seam}
use Rattle.spec_text.specs.declared.Line.{Line}
use Rattle.spec_text.specs.declared.Workload.{Workload}
use Rattle.spec_text.specs.Text.{unused_line}
use Rattle.spec_text.specs.Reading.{read}
use Rattle.spec_text.specs.Reading.Outcome.{accepted}
use Rattle.spec_text.specs.Value.{lines_of, value_of, Given}
use Rattle.law_text.specs.LineCountLaws.{accepted_length}

-- the lines of the value that lines give are those
pub lines_of_value : (lines : List Line) → lines_of (value_of lines) ≡ lines
unfolding lines_of value_of
lines_of_value lines = take_at lines _ _ refl

-- one line more is stored in the cell after the others
pub appended_value : (before : List Line) (l : Line) → length before < 1616
    → ◌≡◌ {A = Workload}
    (record { count = (value_of before).count + 1; lines = set (value_of before).lines (value_of before).count l })
    (value_of (before ++ (l ∷ [])))
unfolding value_of
appended_value before l h =
    let counts : length before + 1 ≡ length (before ++ (l ∷ [])) = sym (length-append before (l ∷ [])) in
    let left : 1616 - length before ≡ suc (1616 - length (before ++ (l ∷ []))) = omega (arith, length-append before (l ∷ [])) in
    let cells : set (before ++ replicate (1616 - length before) unused_line) (length before) l
    ≡ (before ++ (l ∷ [])) ++ replicate (1616 - length (before ++ (l ∷ []))) unused_line
    = ap (λ n. set (before ++ replicate n unused_line) (length before) l) left
    ∙ set-append_seam before unused_line (replicate (1616 - length (before ++ (l ∷ []))) unused_line) l
    ∙ sym (append_assoc before (l ∷ []) (replicate (1616 - length (before ++ (l ∷ []))) unused_line)) in
    λ i. record { count = counts i; lines = cells i }

-- an accepted text gives the value of its lines
pub value_given : (text : List ℕ) {lines : List Line} → read text ≡ accepted lines → Given (value_of lines)
value_given text {lines} h = record { text = text; lines = lines; is_read = h; value = refl }

-- what a given value is: the value of its lines, which its text gives
module _ {w : Workload} (g : Given w) where
  given_lines : g.lines ≡ lines_of w
  given_lines = sym (ap lines_of g.value ∙ lines_of_value g.lines)

  pub given_value : w ≡ value_of (lines_of w)
  given_value = g.value ∙ ap value_of given_lines

  pub given_read : read g.text ≡ accepted (lines_of w)
  given_read = g.is_read ∙ ap accepted given_lines

  -- T12: no more lines than cells
  pub given_fits : w.count ≤ 1616
  unfolding value_of
  given_fits = rw g.value (accepted_length g.text g.is_read)

  pub given_cells : length w.lines ≡ 1616
  unfolding value_of
  given_cells =
      let most = accepted_length g.text g.is_read in
      rw g.value (length-append g.lines (replicate (1616 - length g.lines) unused_line) ∙ rw length-replicate (omega arith))

  -- the cells after the lines
  pub given_others : drop w.count w.lines ≡ replicate (1616 - w.count) unused_line
  unfolding value_of
  given_others = rw g.value (drop_at g.lines _ _ refl)

-- a value of 1616 cells with nothing after its lines is the value of its lines
pub cells_value : (w : Workload) → length w.lines ≡ 1616 → w.count ≤ 1616
    → drop w.count w.lines ≡ replicate (1616 - w.count) unused_line → w ≡ value_of (lines_of w)
unfolding value_of lines_of
cells_value w size few rest =
    let many : length (take w.count w.lines) ≡ w.count = length-take-le w.count w.lines (omega arith) in
    let cells : w.lines ≡ take w.count w.lines ++ replicate (1616 - length (take w.count w.lines)) unused_line =
    sym (take-append-drop w.count w.lines) ∙ ap (λ r. take w.count w.lines ++ r) (rest ∙ rw many) in
    λ i. record { count = sym many i; lines = cells i }
