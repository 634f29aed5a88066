-- What the unfoldings are where the caller lends the cells that tell of them: as with `Unfolded`, but that only as many cells as there are
-- unfoldings are written.
use Rattle.std.specs.Prelude.{List, ◌≡◌, ℕ, length, take, Result, Ok, Err}
use Rattle.refusal.specs.declared.Fault.{Fault}
use Rattle.unfold.specs.declared.Unfolded.{Unfolded}
use Rattle.unfold.specs.declared.Unfolding.{Unfolding}
use Rattle.unfold.specs.PieceTable.{over}

-- of the value's cells so many stand as there are unfoldings, past which the lent ones are as they were
pub record IntoCells (u : Unfolded) (before after : List Unfolding) : Type 0 where
  pub cells : after ≡ over (take u.count u.unfoldings) before
  pub many : length after ≡ length before

-- what would be told as a value is settled. A refusal of it is the answer, and the lent cells are as they were; else its count is the answer, and
-- its cells stand in the lent ones
pub data Into (settled : Result Unfolded Fault → Type 0) (before : List Unfolding) (r : Result ℕ Fault) (after : List Unfolding) : Type 0 where
  into_none : (f : Fault) → settled (Err f) → r ≡ Err f → after ≡ before → Into settled before r after
  into_cells : (u : Unfolded) → settled (Ok u) → r ≡ Ok u.count → IntoCells u before after → Into settled before r after
