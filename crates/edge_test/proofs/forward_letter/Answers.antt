-- Rows of two relations have no edge; else a forward edge has the first letter that holds (forward-first).
use mathlib.Core.Path.{◌∙◌}
use borrow.Author.Tests.{ne_eqb}
use borrow.Author.Rules.{rules}
use Rattle.edge_test.specs.Letters.{letter_in}
use Rattle.edge_test.specs.LetterLaws.{forward_first}
use Rattle.edge_test.proofs.forward_letter.Goals as goal

pub returns-then-p-q : goal.returns-then-p-q
unfolding letter_in
returns-then-p-q c = simp (ne_eqb _ _ c.if-p-q.true)

pub returns : goal.returns
returns c = c.first_letter.ensures ∙ forward_first _ _ _ c.if-p-q.false
