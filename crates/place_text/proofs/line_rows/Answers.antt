-- The first words of the lines are lent on.
use mathlib.Core.Path.{sym}
use lib.Seq.{length-take-le}
use Rattle.place_text.proofs.line_rows.Goals as goal

pub slice_bounds-fill_lines-end : goal.slice_bounds-fill_lines-end
slice_bounds-fill_lines-end c = sym (length-take-le _ _ c.requires)

pub returns : goal.returns
returns c = c.fill_lines.ensures
