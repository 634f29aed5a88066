-- Past the lines no id is told (id-past); at a line it is its second word, cut to what fits (id-there).
use mathlib.Core.Path.{sym}
use native.Mathlib.Omega.{arith}
use Rattle.value_tables.specs.TableLaws.{codes_many, id_past, id_there}
use Rattle.value_tables.proofs.id_at.Goals as goal

pub returns-then-lines_in-at : goal.returns-then-lines_in-at
returns-then-lines_in-at c = sym (id_past _ _ (omega (arith, codes_many c.args.lines.now, c.lines_in.ensures, c.if-lines_in-at.true)))

pub returns : goal.returns
returns c =
    let inside = id_there c.args.lines.now _ (omega (arith, codes_many c.args.lines.now, c.lines_in.ensures, c.if-lines_in-at.false)) in
    sym inside
