-- The least word so far, and that no row so far is loose, row after row.
use Rattle.std.specs.Prelude.{◌≡◌, Bool, false, cond, ◌&&◌, ◌||◌, List, ℕ, zero, suc, ◌<◌, ltb, leb, get_or}
use Rattle.place_row.specs.declared.Row.{Row}
use Rattle.place_row.specs.RowTable.{row_at}
use Rattle.pick_laws.specs.Completing.{least_below}
use Rattle.step_word.specs.StepWord.{no_step}
use Rattle.walk_step.specs.LeastStep.{pair_step, leaves_from, loose_row}

-- a step from a place into a row of node y can count, by what is asked for y alone
unfoldable pub may_count : List ℕ → List ℕ → ℕ → ℕ → Bool
may_count needs limits place y = ltb y 64 && (leb (get_or needs y 0) 1024 || ltb place (get_or limits y 0))

-- the least of the best word so far and those of the steps from a row to the first n rows
unfoldable pub row_least : List ℕ → ℕ → List ℕ → List ℕ → Row → ℕ → ℕ
row_least table n needs limits p best = least_below (λ j. pair_step needs limits p (row_at table j)) best n

-- the same where the row is of node x
unfoldable pub from_row : List ℕ → ℕ → ℕ → List ℕ → List ℕ → Row → ℕ → ℕ
from_row table n x needs limits p best = cond (leaves_from x p) (row_least table n needs limits p best) best

-- the least word of the steps from the first i rows to the first n rows
unfoldable pub least_rows : List ℕ → ℕ → ℕ → List ℕ → List ℕ → ℕ → ℕ
least_rows table n x needs limits zero = no_step
least_rows table n x needs limits (suc i) = from_row table n x needs limits (row_at table i) (least_rows table n x needs limits i)

-- none of the first k rows is of node x, at the place, and loose
unfoldable pub NoneBefore : List ℕ → ℕ → ℕ → ℕ → Type 0
NoneBefore table x place k = (i : ℕ) → i < k → loose_row x place (row_at table i) ≡ false
