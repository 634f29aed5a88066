-- The function tells the row of each node that has one (rows_told).
use borrow.Author.Rules.{rules}
use mathlib.Core.Path.{ap, ◌∙◌}
use Rattle.walk_nodes.specs.Nodes.{list_below}
use Rattle.walk_reach.specs.Layers.{joined_row, rows_filled}
use Rattle.walk_reach.specs.FilledLaws.{rows_told}
use Rattle.walk_reach.proofs.joined_rows.Goals as goal

pub returns : goal.returns
unfolding rows_filled
returns c =
    rows_told (joined_row _) _ c.rows_in-n.ensures.1 (λ i x h p. search rules) c.rows_by.ensures
    ∙ ap (list_below (joined_row _)) c.rows_in-n.ensures.0
