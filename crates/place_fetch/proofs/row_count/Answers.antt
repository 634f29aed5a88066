-- The lesser of an eighth of the length and 512.
use Rattle.std.proofs.Common.{arith}
use Rattle.place_row.specs.RowTable.{row_count}
use Rattle.place_fetch.proofs.row_count.Goals as goal

pub returns : goal.returns
unfolding row_count
returns c = omega (arith, c.min.ensures)
