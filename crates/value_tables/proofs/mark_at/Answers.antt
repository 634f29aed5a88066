-- Past the lines no mark is told (mark-past); at a line it is its last word, cut to what fits (mark-there).
use mathlib.Core.Path.{sym}
use native.Mathlib.Omega.{arith}
use Rattle.value_tables.specs.TableLaws.{codes_many, mark_past, mark_there}
use Rattle.value_tables.proofs.mark_at.Goals as goal

pub returns-then-lines_in-at : goal.returns-then-lines_in-at
returns-then-lines_in-at c = sym (mark_past _ _ (omega (arith, codes_many c.args.lines.now, c.lines_in.ensures, c.if-lines_in-at.true)))

pub returns : goal.returns
returns c =
    let inside = mark_there c.args.lines.now _ (omega (arith, codes_many c.args.lines.now, c.lines_in.ensures, c.if-lines_in-at.false)) in
    sym inside
