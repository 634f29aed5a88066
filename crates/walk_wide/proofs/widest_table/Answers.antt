-- The words of as many rounds as there are, 64 at most, are written (rounds-capped).
use Rattle.walk_wide.specs.WideLaws.{rounds_capped}
use Rattle.walk_wide.proofs.widest_table.Goals as goal

pub returns : goal.returns
returns c = rounds_capped _ _ _ _ c.capped-last.ensures c.widest_rows.ensures
