-- The row is fetched, and its kind kept by its number (start-made).
use Rattle.edge_put.specs.CursorLaws.{start_made}
use Rattle.edge_put.proofs.row_start.Goals as goal

pub row_whole-p-requires : goal.row_whole-p-requires
row_whole-p-requires c = c.requires

pub returns : goal.returns
returns c =
    let row = c.row_whole-p in
    start_made _ _ _ _ _ _ row.ensures c.kind_number-kind.ensures
