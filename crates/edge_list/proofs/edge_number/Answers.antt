-- A refusal of the table is the answer; else the first words of the table have the workload's edges, and of these the edge is told.
use Rattle.std.proofs.lemmas.Result.{err_from_is_err_and}
use Rattle.edge_list.specs.Listed.{edge_refused, edge_told}
use Rattle.edge_list.proofs.edge_number.Goals as goal

pub returns-in_err-words : goal.returns-in_err-words
returns-in_err-words c =
    let p = err_from_is_err_and c.from_residual.result c.from_residual.ensures.1 in rw (p.1, p.2) (edge_refused _ c.in_err-words.ensures _)

pub slice_bounds-table-end : goal.slice_bounds-table-end
slice_bounds-table-end c = c.in_ok-words.ensures.inside

pub returns : goal.returns
returns c = edge_told _ _ _ c.in_ok-words.ensures _ _ c.edge_of_number.ensures
