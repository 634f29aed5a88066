-- Over the words of a given value's lines the nodes' ids are written (value-ids).
use Rattle.unfold.proofs.UnfoldSettledLaws.{value_ids}
use Rattle.unfold.proofs.unfold.Goals as goal

pub returns : goal.returns
returns c = value_ids c.unfold_value.ensures
