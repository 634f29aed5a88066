-- Unfolding k is laid over the area and told as one row more, and the unfoldings after it over the rest of the area (rowed-next); where k is n
-- none is left (rowed-nothing).
use native.Mathlib.Omega.{arith}
use borrow.Author.Rules.{rules}
use mathlib.Core.Path.{refl}
use Rattle.unfold.proofs.WriteRowLaws.{rows_end, rowed_nothing, row_cell, more_rows, rowed_next}
use Rattle.unfold_laws.specs.Pieces.{row}
use Rattle.unfold.specs.PieceTable.{added}
use Rattle.unfold.proofs.+write_rows.Goals as goal

pub returns-then-n-k : goal.returns-then-n-k
unfolding row added
returns-then-n-k t c = rowed_nothing _ _ _ (rows_end _ _ _ c.if-n-k.true)

pub bounds-unfoldings-j : goal.bounds-unfoldings-j
unfolding row added
bounds-unfoldings-j t c = omega (arith, row_cell _ _ _ c.if-n-k.false _ _ c.requires.rows, c.requires.rows.wide.cells)

pub write_rows-requires : goal.write_rows-requires
unfolding row added
write_rows-requires t c = (
  search rules,
  (c.requires.known, more_rows _ _ _ c.if-n-k.false _ _ c.requires.rows _ _ c.write_run-m.ensures _ refl),
)

pub returns : goal.returns
unfolding row added
returns t c =
    rowed_next _ _ _ c.if-n-k.false _ _ c.requires.rows _ _ c.write_run-m.ensures _ _ _ refl c.write_rows.ensures
