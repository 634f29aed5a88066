-- A refusal of the table is the answer; else the first words of the table have the workload's edges, and these are counted.
use Rattle.std.proofs.lemmas.Result.{err_from_is_err_and}
use Rattle.edge_list.specs.Listed.{counts_refused, counts_told}
use Rattle.edge_list.proofs.edge_counts.Goals as goal

pub returns-in_err-n : goal.returns-in_err-n
returns-in_err-n c =
    let p = err_from_is_err_and c.from_residual.result c.from_residual.ensures.1 in rw (p.1, p.2) (counts_refused _ c.in_err-n.ensures)

pub slice_bounds-table-end : goal.slice_bounds-table-end
slice_bounds-table-end c = c.in_ok-n.ensures.inside

pub returns : goal.returns
returns c = counts_told _ _ _ c.in_ok-n.ensures _ c.count_edges-c.ensures
