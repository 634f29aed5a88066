-- The code has the letter's first bit, or its second, or neither, and the contract asks the same.
use borrow.Author.Tests.{eq-eqb, ne_eqb}
use Rattle.edge_test.proofs.letter_holds.Goals as goal

pub returns-then-code-certain-ne0 : goal.returns-then-code-certain-ne0
returns-then-code-certain-ne0 c = simp (ne_eqb _ _ c.if-code-certain-ne0.true)

pub returns-then-code-hangs-ne0 : goal.returns-then-code-hangs-ne0
returns-then-code-hangs-ne0 c = simp (eq-eqb _ _ c.if-code-certain-ne0.false, ne_eqb _ _ c.if-code-hangs-ne0.true)

pub returns : goal.returns
returns c = simp (eq-eqb _ _ c.if-code-certain-ne0.false, eq-eqb _ _ c.if-code-hangs-ne0.false)
