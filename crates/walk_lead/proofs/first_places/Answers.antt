-- The function tells the first place of each node that has a row (rows_told).
use borrow.Author.Rules.{rules}
use mathlib.Core.Path.{ap, ◌∙◌}
use Rattle.walk_nodes.specs.Nodes.{list_below}
use Rattle.walk_reach.specs.FilledLaws.{rows_told}
use Rattle.walk_lead.specs.Leads.{earliest, early_filled}
use Rattle.walk_lead.proofs.first_places.Goals as goal

pub returns : goal.returns
unfolding early_filled
returns c =
    rows_told (earliest _) _ c.rows_in.ensures.1 (λ i x h p. search rules) c.rows_by.ensures
    ∙ ap (list_below (earliest _)) c.rows_in.ensures.0
