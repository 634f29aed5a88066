-- A refused value leaves its refusal; a filled table begins with the rows of all places.
use Rattle.std.proofs.Common.{arith}
use Rattle.place_table.specs.Whole.{whole_filled}
use Rattle.std.proofs.lemmas.Result.{err_from_is_err_and}
use Rattle.edge_list.specs.Listed.{tabled_refused, tabled_filled}
use Rattle.edge_list.proofs.tabled.Goals as goal

pub returns-in_err-rows : goal.returns-in_err-rows
returns-in_err-rows c =
    let p = err_from_is_err_and c.from_residual.result c.from_residual.ensures.1 in rw (p.1, p.2) (tabled_refused c.fill_rows.ensures c.in_err-rows.was)

pub overflow_mul-result : goal.overflow_mul-result
overflow_mul-result c = let h = (whole_filled c.fill_rows.ensures c.in_ok-rows.was).short in record { fits = omega arith }

pub returns : goal.returns
returns c = tabled_filled c.fill_rows.ensures c.in_ok-rows.was
