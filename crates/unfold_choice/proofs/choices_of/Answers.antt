-- A value that no text gives is refused by 21 (not_told). Else the codes are those of its lines, so what is told over them is the promise
-- (settled_over).
use Rattle.unfold_choice.proofs.OverLaws.{not_told, settled_over}
use Rattle.unfold_program.specs.GivenCodes.{table_fits, table_many, codes_few, codes_given}
use Rattle.law_text.specs.ValueLaws.{given_fits}
use native.Mathlib.Omega.{arith}
use Rattle.unfold_choice.proofs.choices_of.Goals as goal

pub returns-then-not-is_given : goal.returns-then-not-is_given
returns-then-not-is_given c = not_told _ _ (c.is_given.ensures.no c.if-not-is_given.true)

pub slice_bounds-lines-end : goal.slice_bounds-lines-end
slice_bounds-lines-end c =
    table_fits _ (c.is_given.ensures.yes c.if-not-is_given.false) c.line_table-lines.result c.line_table-lines.ensures.1

pub slice_bounds-choices_over-end : goal.slice_bounds-choices_over-end
slice_bounds-choices_over-end c =
    table_many _ (c.is_given.ensures.yes c.if-not-is_given.false) _ c.line_table-lines.ensures.1

pub choices_over-requires : goal.choices_over-requires
choices_over-requires c =
    omega (
      arith,
      codes_few _ (c.is_given.ensures.yes c.if-not-is_given.false) c.line_table-lines.result
          c.line_table-lines.ensures.1,
    )

pub returns : goal.returns
returns c =
    let given = (c.is_given.ensures.yes c.if-not-is_given.false) in
    settled_over _ _ _ _ given (codes_given _ given _ c.line_table-lines.ensures.1 c.line_table-lines.ensures.0)
    c.choices_over.ensures

pub overflow_mul-n : goal.overflow_mul-n
overflow_mul-n c = omega (arith, given_fits (c.is_given.ensures.yes c.if-not-is_given.false))
