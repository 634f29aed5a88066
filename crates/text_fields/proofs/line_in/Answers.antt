-- A word and a space stand there, and the fields of its kind, or there is no line.
use Rattle.std.proofs.Common.{sym, arith}
use Rattle.text_fields.specs.InPlaceLine.{in_short, in_unspaced, in_unworded, in_line}
use Rattle.text_fields.proofs.line_in.Goals as goal

pub returns-then-n-at : goal.returns-then-n-at
returns-then-n-at c = in_short _ _ (omega arith)

pub returns-then-n-at-lt3 : goal.returns-then-n-at-lt3
returns-then-n-at-lt3 c = in_short _ _ (omega arith)

pub returns-then-text-at-ne32 : goal.returns-then-text-at-ne32
returns-then-text-at-ne32 c = in_unspaced _ _ (omega arith) c.if-text-at-ne32.true

pub returns-in_err-kind : goal.returns-in_err-kind
returns-in_err-kind c = rw c.from_residual.ensures (in_unworded _ _ (omega arith) (sym c.in_err-kind.ensures))

pub returns : goal.returns
returns c = in_line _ _ (omega arith) (sym c.in_ok-kind.ensures) c.if-text-at-ne32.false c.line_after.result c.line_after.ensures
