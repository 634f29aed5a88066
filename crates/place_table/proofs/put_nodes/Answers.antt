-- Before the first node nothing is put; each node's rows follow those before it, and they have room since those of all nodes do: the lemmas are named
-- on the function.
use Rattle.place_table.proofs.PutRowLaws.{all_start, total_none}
use Rattle.place_table.proofs.put_nodes.Goals as goal

pub loop-j-init : goal.loop-j-init
loop-j-init c = (total_none _, all_start _ _ _ _ _ _ c.requires)
