-- Past the lines no code is told (code-past); at a line it is that of the number in its first word (code-there).
use mathlib.Core.Path.{sym, ◌∙◌}
use native.Mathlib.Omega.{arith}
use Rattle.value_tables.specs.TableLaws.{codes_many, code_past, code_there}
use Rattle.value_tables.proofs.code_at.Goals as goal

pub returns-then-lines_in-at : goal.returns-then-lines_in-at
returns-then-lines_in-at c = sym (code_past _ _ (omega (arith, codes_many c.args.lines.now, c.lines_in.ensures, c.if-lines_in-at.true)))

pub returns : goal.returns
returns c =
    let inside = code_there c.args.lines.now _ (omega (arith, codes_many c.args.lines.now, c.lines_in.ensures, c.if-lines_in-at.false)) in
    c.code_by.ensures ∙ sym inside
