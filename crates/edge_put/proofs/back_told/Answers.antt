-- The code tells the letter (letter-told); where the row is not loose there is none (back_none).
use mathlib.Core.Path.{◌∙◌}
use Rattle.edge_kinds.specs.KindLaws.{told, answer}
use Rattle.spec_graph.specs.Graph as G
use Rattle.edge_test.specs.LetterLaws.{letter_told}
use Rattle.edge_put.specs.CursorLaws.{back_none}
use Rattle.edge_put.proofs.back_told.Goals as goal

pub returns-then-kind_has : goal.returns-then-kind_has
returns-then-kind_has c = c.back_letter.ensures ∙ letter_told _ _ c.requires G.Flow.back

pub returns : goal.returns
returns c =
    let p = c.args.p in
    back_none p _ (answer (told p.kind).loosens c.kind_has.ensures c.if-kind_has.false)
