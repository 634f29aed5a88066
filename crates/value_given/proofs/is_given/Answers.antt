-- Over 1616 lines, a rest that is not empty, and lines with a fault or an open block are given by no text (refused, rest_refused, lines_refused);
-- else the bytes of the text written out decide (size_decides).
use Rattle.std.proofs.Common.{sym, ◌∙◌, arith}
use Rattle.value_given.specs.DecideLaws.{refused, rest_refused, lines_refused, size_decides}
use Rattle.value_given.proofs.is_given.Goals as goal

pub returns-then-count-gt-CELLS : goal.returns-then-count-gt-CELLS
returns-then-count-gt-CELLS c = refused c.args.w (λ s. let few = s.fits in omega arith)

pub returns-then-not-rest_empty : goal.returns-then-not-rest_empty
returns-then-not-rest_empty c = rest_refused c.args.w (sym c.rest_empty.ensures ∙ c.if-not-rest_empty.true)

pub returns-in_default : goal.returns-in_default
returns-in_default c = lines_refused c.args.w c.in_default.ensures

pub returns : goal.returns
returns c =
    let empty = sym c.rest_empty.ensures ∙ c.if-not-rest_empty.false in
    size_decides c.args.w _ (omega arith) c.if-count-gt-CELLS.false empty c.in-Some.ensures
