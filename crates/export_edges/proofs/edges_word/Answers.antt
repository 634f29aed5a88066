-- A refusal of the text gives its word; else what became of the edges does.
use mathlib.Core.Path.{◌∙◌}
use Rattle.export_edges.specs.ToldLaws.{word_unread, word_put}
use Rattle.export_edges.proofs.edges_word.Goals as goal

pub returns-then-number-ne0 : goal.returns-then-number-ne0
returns-then-number-ne0 c = c.refusal_word.ensures ∙ word_unread _ _ _ c.if-number-ne0.true

pub returns : goal.returns
returns c = c.put_word.ensures ∙ word_put _ _ _ c.if-number-ne0.false
