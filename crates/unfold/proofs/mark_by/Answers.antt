-- Where ids are written there are no marks; else they are the table's.
use mathlib.Core.Path.{◌∙◌}
use Rattle.unfold.proofs.WordsLaws.{id_mark, line_mark}
use Rattle.unfold.proofs.mark_by.Goals as goal

pub returns-then-source : goal.returns-then-source
returns-then-source c = id_mark _ _ _ c.if-source.true

pub returns : goal.returns
returns c = c.mark_at.ensures ∙ line_mark _ _ _ c.if-source.false
