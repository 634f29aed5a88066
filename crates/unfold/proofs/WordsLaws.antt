-- What is written for a line, by ids or by numbers.
use mathlib.Core.Bool.{Bool, true, false}
use mathlib.Core.List.{List}
use mathlib.Core.Path.{◌≡◌, refl}
use Prim.Native.Nat.{ℕ, ◌<◌}
use native.Mathlib.Omega.{arith}
use lib.ListN.{length, get_or}
use Rattle.value_tables.proofs.CellLaws.{number_at}
use Rattle.value_tables.specs.Lines.{lines_in, table_codes, table_ids, table_marks}
use Rattle.value_tables.specs.TableLaws.{codes_many}
use Rattle.unfold.specs.LineWords.{words_by, marks_by}

module _ (ids : Bool) (lines : List ℕ) (at : ℕ) where
  pub id_word : ids ≡ true → get_or (table_ids lines) at 0 ≡ get_or (words_by ids lines) at 0
  unfolding words_by
  id_word e = rw e refl

  pub line_word : ids ≡ false → at < length (table_codes lines) → at ≡ get_or (words_by ids lines) at 0
  unfolding words_by
  line_word e h = rw e (number_at (lines_in lines) at (omega (arith, codes_many lines)))

  pub id_mark : ids ≡ true → 0 ≡ get_or (marks_by ids lines) at 0
  unfolding marks_by
  id_mark e = rw e refl

  pub line_mark : ids ≡ false → get_or (table_marks lines) at 0 ≡ get_or (marks_by ids lines) at 0
  unfolding marks_by
  line_mark e = rw e refl
