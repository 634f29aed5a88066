-- Over the words of a given value's lines the words for the nodes' places are written (value-places).
use Rattle.unfold.proofs.UnfoldSettledLaws.{value_places}
use Rattle.unfold.proofs.unfold_places.Goals as goal

pub returns : goal.returns
returns c = value_places c.unfold_value.ensures
