-- The rows of a filled table lie inside it.
use mathlib.Core.Path.{sym}
use native.Mathlib.Omega.{arith}
use lib.Seq.{length-take-le}
use Rattle.place_table.specs.Whole.{whole_filled}
use Rattle.inspect.proofs.list_edges.Goals as goal

pub overflow_mul-n : goal.overflow_mul-n
overflow_mul-n c = let h = (whole_filled c.fill_rows-filled.ensures c.in-Ok.is).short in record { fits = omega arith }

pub slice_bounds-table-end : goal.slice_bounds-table-end
slice_bounds-table-end c = (whole_filled c.fill_rows-filled.ensures c.in-Ok.is).inside

pub slice_bounds-print_edges-end : goal.slice_bounds-print_edges-end
slice_bounds-print_edges-end c =
    sym (length-take-le _ _ (whole_filled c.fill_rows-filled.ensures c.in-Ok.is).inside)
