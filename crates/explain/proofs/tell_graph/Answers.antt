-- It is safe: the rows of a filled table lie inside it (whole-filled).
use native.Mathlib.Omega.{arith}
use mathlib.Core.Path.{sym}
use lib.Seq.{length-take-le}
use Rattle.place_table.specs.Whole.{whole_filled}
use Rattle.explain.proofs.tell_graph.Goals as goal

pub overflow_mul-n : goal.overflow_mul-n
overflow_mul-n c = let h = (whole_filled c.fill_rows-filled.ensures c.in-Ok.is).short in record { fits = omega arith }

pub slice_bounds-table-end : goal.slice_bounds-table-end
slice_bounds-table-end c = (whole_filled c.fill_rows-filled.ensures c.in-Ok.is).inside

pub slice_bounds-tell_all-end : goal.slice_bounds-tell_all-end
slice_bounds-tell_all-end c =
    sym (length-take-le _ _ (whole_filled c.fill_rows-filled.ensures c.in-Ok.is).inside)
