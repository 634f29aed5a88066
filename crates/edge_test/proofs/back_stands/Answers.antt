-- An edge stands where there is a letter (back-letter).
use Rattle.std.proofs.Common.{◌∙◌}
use Rattle.edge_test.specs.LetterLaws.{back_letter}
use Rattle.edge_test.proofs.back_stands.Goals as goal

pub returns : goal.returns
returns c = c.is_some.ensures ∙ back_letter _ _ _ c.back_letter.ensures
