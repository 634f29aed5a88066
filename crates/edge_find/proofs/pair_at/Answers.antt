-- The letter of the slot's flow decides (step-even, step-odd), which the code of the two kinds tells (letter-told).
use mathlib.Core.Path.{◌∙◌}
use Rattle.spec_graph.specs.Graph as G
use Rattle.edge_test.specs.LetterLaws.{letter_told}
use Rattle.edge_find.specs.SearchLaws.{step_even, step_odd}
use borrow.Author.Rules.{rules}
use Rattle.edge_find.proofs.pair_at.Goals as goal

pub returns-then-slot-eq0 : goal.returns-then-slot-eq0
returns-then-slot-eq0 c =
    step_even _ _ _ c.if-slot-eq0.true
    (c.forward_letter-letter.ensures ∙ letter_told _ _ c.pair_code-code.ensures G.Flow.forward) c.step_with.ensures

pub returns : goal.returns
returns c =
    step_odd _ _ _ c.if-slot-eq0.false
    (c.back_letter-letter.ensures ∙ letter_told _ _ c.pair_code-code.ensures G.Flow.back) c.step_with-2.ensures
