-- S21 is decided; else the table is that of the value's lines, and the words of the unfoldings are written over it.
use native.Mathlib.Omega.{arith}
use mathlib.Core.Path.{refl}
use Rattle.law_text.specs.ValueLaws.{given_fits}
use Rattle.unfold.specs.UnfoldSteps.ValueTabled.{value_refused, value_tabled}
use Rattle.unfold.proofs.PrefixLaws.{prefix_many}
use Rattle.unfold.proofs.unfold_value.Goals as goal

pub returns-then-not-is_given : goal.returns-then-not-is_given
returns-then-not-is_given c = value_refused (c.is_given.ensures.no c.if-not-is_given.true) refl refl

pub overflow_mul-n : goal.overflow_mul-n
overflow_mul-n c =
    let fits = given_fits (c.is_given.ensures.yes c.if-not-is_given.false) in record { fits = omega arith }

pub slice_bounds-lines-end : goal.slice_bounds-lines-end
slice_bounds-lines-end c =
    omega (arith, c.line_table-lines.ensures.1, given_fits (c.is_given.ensures.yes c.if-not-is_given.false))

pub slice_bounds-unfold_by-end : goal.slice_bounds-unfold_by-end
slice_bounds-unfold_by-end c =
    let fits = given_fits (c.is_given.ensures.yes c.if-not-is_given.false) in
    prefix_many _ _ (omega (arith, c.line_table-lines.ensures.1, fits))

pub returns : goal.returns
returns c =
    value_tabled (c.is_given.ensures.yes c.if-not-is_given.false) _ c.line_table-lines.ensures.0 c.unfold_by.ensures
