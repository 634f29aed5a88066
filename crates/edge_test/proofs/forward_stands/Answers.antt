-- Rows of two relations have no edge; where a letter is certain one stands (forward-certain); else where some letter holds (forward-letter).
use mathlib.Core.Path.{sym, ◌∙◌}
use borrow.Author.Tests.{ne_eqb}
use borrow.Author.Rules.{rules}
use Rattle.law_base.specs.BoolLaws.{not_of_false}
use Rattle.edge_test.specs.Letters.{forward_in}
use Rattle.edge_test.specs.LetterLaws.{forward_letter, forward_first, forward_certain}
use Rattle.edge_test.proofs.forward_stands.Goals as goal

pub returns-then-p-q : goal.returns-then-p-q
unfolding forward_in
returns-then-p-q c = simp (ne_eqb _ _ c.if-p-q.true)

pub returns-then-code-ne0 : goal.returns-then-code-ne0
returns-then-code-ne0 c = sym (forward_certain _ _ _ c.if-p-q.false (not_of_false (ne_eqb _ 0 c.if-code-ne0.true)))

pub returns : goal.returns
returns c = c.is_some.ensures ∙ forward_letter _ _ _ (c.first_letter.ensures ∙ forward_first _ _ _ c.if-p-q.false)
