-- The sets of D where the letter is D, else those of E.
use borrow.Author.Tests.{eq-eqb, ne_eqb}
use Rattle.edge_put.proofs.back_shared.Goals as goal

pub returns-then-letter-eq68 : goal.returns-then-letter-eq68
returns-then-letter-eq68 c = simp (eq-eqb _ _ c.if-letter-eq68.true)

pub returns : goal.returns
returns c = simp (ne_eqb _ _ c.if-letter-eq68.false)
