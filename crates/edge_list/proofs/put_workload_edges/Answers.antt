-- The edges of the table's words are put, and a refusal of the table leaves the area (put_settled, put_refused).
use Rattle.std.proofs.lemmas.Result.{err_from_is_err_and}
use Rattle.edge_list.specs.Listed.{put_refused, put_settled}
use Rattle.edge_list.proofs.put_workload_edges.Goals as goal

pub returns-in_err-n : goal.returns-in_err-n
returns-in_err-n c =
    let p = err_from_is_err_and c.from_residual.result c.from_residual.ensures.1 in rw (p.1, p.2) (put_refused _ c.in_err-n.ensures _)

pub slice_bounds-table-end : goal.slice_bounds-table-end
slice_bounds-table-end c = c.in_ok-n.ensures.inside

pub returns : goal.returns
returns c = put_settled _ _ _ c.in_ok-n.ensures _ _ _ c.put_edges.ensures
