-- Programs and rows are taken from the lines as `FilledBy` says (filled_by).
use Rattle.place_table.proofs.FillLaws.{filled_by}
use Rattle.place_table.proofs.fill_table.Goals as goal

pub returns : goal.returns
returns c =
    let put = c.put_nodes-places.ensures in
    filled_by c.programs_in-b.ensures put.1 put.0
