-- Each field is the word at its place, and `kind_of` tells the kind.
use Rattle.place_row.specs.RowTable.{row_at}
use Rattle.place_fetch.proofs.row_of.Goals as goal

pub returns : goal.returns
unfolding row_at
returns c = simp (← c.kind_of.ensures)
