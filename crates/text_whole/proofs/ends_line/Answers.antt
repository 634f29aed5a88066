-- No byte ends no line (endsLine-none); else the last byte decides (endsLine-last).
use Rattle.text_whole.specs.WholeLaws.{ends_line_none, ends_line_last}
use mathlib.Core.Path.{sym}
use native.Mathlib.Omega.{arith}
use Rattle.text_whole.proofs.ends_line.Goals as goal

pub returns-then-n-eq0 : goal.returns-then-n-eq0
returns-then-n-eq0 c = sym (ends_line_none _ c.if-n-eq0.true)

pub returns : goal.returns
returns c = sym (ends_line_last c.args.text.now (omega arith))
