-- The next row where no back edge is to come, else the same.
use Rattle.std.proofs.Common.{◌∙◌, sym}
use Rattle.edge_put.proofs.row_after.Goals as goal

pub returns-in-Some : goal.returns-in-Some
returns-in-Some c = simp c.in-Some.is

pub returns-in-None : goal.returns-in-None
returns-in-None c = c.row_next.ensures ∙ sym (simp c.in-None.is)
