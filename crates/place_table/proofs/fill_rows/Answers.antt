-- S21 is decided (rows_not_given); of a given value the first words that `line_table` gives are its lines, and their rows are the value's
-- (rows_given).
use native.Mathlib.Omega.{arith}
use Rattle.law_text.specs.ValueLaws.{given_fits}
use Rattle.place_table.proofs.FillLaws.{lines_part, rows_not_given, rows_given}
use Rattle.place_table.proofs.fill_rows.Goals as goal

pub returns-then-not-is_given : goal.returns-then-not-is_given
returns-then-not-is_given c = rows_not_given (c.is_given.ensures.no c.if-not-is_given.true)

pub overflow_mul-n : goal.overflow_mul-n
overflow_mul-n c = let fits = given_fits (c.is_given.ensures.yes c.if-not-is_given.false) in record { fits = omega arith }

pub slice_bounds-lines-end : goal.slice_bounds-lines-end
slice_bounds-lines-end c =
    let fits = given_fits (c.is_given.ensures.yes c.if-not-is_given.false) in
    omega arith

pub slice_bounds-fill_lines-end : goal.slice_bounds-fill_lines-end
slice_bounds-fill_lines-end c =
    let given = c.is_given.ensures.yes c.if-not-is_given.false in
    lines_part c.args.w _ c.line_table-lines.ensures.1 (given_fits given)

pub returns : goal.returns
returns c =
    rows_given (c.is_given.ensures.yes c.if-not-is_given.false) c.line_table-lines.ensures.0 c.fill_lines.ensures
