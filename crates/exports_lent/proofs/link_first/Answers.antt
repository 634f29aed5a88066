-- The first words are cut off and linked; what is past them stays behind them (first-linked).
use Rattle.exports_lent.specs.LinkedLaws.{first_linked}
use mathlib.Core.Path.{refl}
use Rattle.exports_lent.proofs.link_first.Goals as goal

pub returns : goal.returns
returns c =
    let linked = c.link_rows.ensures in
    record { first_linked = first_linked c.requires linked.linked_as refl; lent = linked.lent }
