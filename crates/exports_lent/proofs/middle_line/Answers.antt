-- No line: all 0 (middle-none); else row count / 2 of the table (middle-some), which lies inside it.
use Rattle.exports_lent.specs.Middle.{row_line}
use Rattle.exports_lent.specs.ReadLaws.{middle_none, middle_some}
use Rattle.spec_text.specs.Text.{unused_line}
use Rattle.exports_lent.proofs.middle_line.Goals as goal

pub returns-then-count-eq0 : goal.returns-then-count-eq0
unfolding unused_line
returns-then-count-eq0 c = middle_none _ c.if-count-eq0.true

pub returns : goal.returns
unfolding row_line
returns c = middle_some _ c.if-count-eq0.false
