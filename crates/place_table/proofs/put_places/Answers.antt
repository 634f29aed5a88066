-- After i places their rows stand from the node's first one on; each turn puts the row of the next place after them (rows_next): the lemmas are
-- named on the function.
use Rattle.place_table.proofs.PutRowLaws.{rows_start}
use Rattle.place_table.proofs.put_places.Goals as goal

pub loop-i-init : goal.loop-i-init
loop-i-init c = rows_start _ _ _ _ _ _ _ c.requires
