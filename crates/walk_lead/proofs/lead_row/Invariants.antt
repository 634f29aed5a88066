-- After v turns the word has the nodes to which a dangerous pair leads from u by way of a node below v.
use mathlib.Core.Path.{◌≡◌}
use Rattle.walk_lead.specs.LeadLaws.{row_below}
use Rattle.walk_lead.proofs.lead_row.Given as goal

abbrev pub invariant-loop-v : goal.invariant-loop-v
invariant-loop-v l = l.word ≡ row_below l.forwards l.backs l.u l.v
