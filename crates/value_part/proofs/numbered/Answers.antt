-- Where the line is no `pr` it is handed back; else the line that is made is the definition's.
use mathlib.Core.Path.{sym, ◌∙◌}
use Rattle.spec_text.specs.Text.{line_with}
use Rattle.value_part.specs.PartSteps.{numbered_as}
use Rattle.value_part.proofs.numbered.Goals as goal

pub returns-then-not-is_program : goal.returns-then-not-is_program
unfolding numbered_as
returns-then-not-is_program c = rw (sym c.is_program.ensures ∙ c.if-not-is_program.true)

pub returns : goal.returns
unfolding numbered_as line_with
returns c = rw (sym c.is_program.ensures ∙ c.if-not-is_program.false)
