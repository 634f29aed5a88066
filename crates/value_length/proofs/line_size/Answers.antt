-- A line that does not fit has no size (size-unfit); one that fits has the digits of its six values and 9 bytes more: the word, six spaces, the
-- line end (size_fits).
use Rattle.value_length.specs.Size.{size_said}
use Rattle.value_length.specs.LineSizeLaws.{size_fits, size_unfit}
use native.Mathlib.Omega.{arith}
use mathlib.Core.Option.{some}
use mathlib.Core.Path.{sym, ap, ◌∙◌}
use Rattle.value_length.proofs.line_size.Goals as goal

pub returns-then-not-line_fits : goal.returns-then-not-line_fits
unfolding size_said
returns-then-not-line_fits c = sym (size_unfit _ (sym c.line_fits.ensures ∙ c.if-not-line_fits.true))

pub returns : goal.returns
unfolding size_said
returns c =
    let fit = sym c.line_fits.ensures ∙ c.if-not-line_fits.false in
    ap some (omega arith) ∙ sym (size_fits c.args.l fit)
