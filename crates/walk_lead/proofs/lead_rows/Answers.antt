-- The function tells the row of each node that has one (rows_told).
use borrow.Author.Rules.{rules}
use mathlib.Core.Path.{ap, ◌∙◌}
use Rattle.walk_nodes.specs.Nodes.{list_below}
use Rattle.walk_reach.specs.FilledLaws.{rows_told}
use Rattle.walk_lead.specs.Leads.{lead_row, leads_filled}
use Rattle.walk_lead.proofs.lead_rows.Goals as goal

pub returns : goal.returns
unfolding leads_filled
returns c =
    rows_told (lead_row _ _) _ c.rows_in.ensures.1 (λ i x h p. search rules) c.rows_by.ensures
    ∙ ap (list_below (lead_row _ _)) c.rows_in.ensures.0
