-- What a row counts, by the range that its node is in. It rests on `row_outside` and `row_inside` (RowLaws of specs/), so it stands here.
use Rattle.std.specs.Prelude.{◌≡◌}
use mathlib.Core.List.{List}
use Rattle.std.proofs.Math.Path.{ap}
use Rattle.std.proofs.Common.{sym, ◌∙◌}
use Prim.Native.Nat.{ℕ, ◌≤◌, ◌<◌}
use Rattle.place_row.specs.declared.Row.{Row}
use Rattle.place_row.specs.RowTable.{row_at}
use Rattle.edge_between.specs.Between.{in_range}
use Rattle.edge_between.specs.Rows.{nothing_counted, row_entering, row_between}
use Rattle.edge_between.specs.RowLaws.{low, high, inside, row_outside, row_inside}

module _ (table : List ℕ) (i a b c d : ℕ) where
  pub row_low : {q : Row} → q ≡ row_at table i → q.node < a → nothing_counted ≡ row_between table i a b c d
  row_low e h = row_outside table i a b c d (ap (λ (q : Row). in_range a b q.node) (sym e) ∙ low a b _ h)

  pub row_high : {q : Row} → q ≡ row_at table i → a ≤ q.node → b ≤ q.node → nothing_counted ≡ row_between table i a b c d
  row_high e h k = row_outside table i a b c d (ap (λ (q : Row). in_range a b q.node) (sym e) ∙ high a b _ h k)

  pub row_in : {q : Row} → q ≡ row_at table i → a ≤ q.node → q.node < b → row_entering table q c d ≡ row_between table i a b c d
  row_in e h k =
      ap (λ (q : Row). row_entering table q c d) e
      ∙ row_inside table i a b c d (ap (λ (q : Row). in_range a b q.node) (sym e) ∙ inside a b _ h k)
