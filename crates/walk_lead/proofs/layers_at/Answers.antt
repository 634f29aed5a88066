-- The function tells the layer of each node below n (rows_told).
use borrow.Author.Rules.{rules}
use Rattle.walk_reach.specs.Layers.{layer}
use Rattle.walk_reach.specs.FilledLaws.{rows_told}
use Rattle.walk_lead.specs.Leads.{layers_at}
use Rattle.walk_lead.proofs.layers_at.Goals as goal

pub returns : goal.returns
unfolding layers_at
returns c = rows_told (λ u. layer _ u _) _ c.requires (λ i x h p. search rules) c.rows_by.ensures
