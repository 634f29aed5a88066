-- A `pr` line makes the program's number one more (program-next); any other line leaves it (program-stays).
use mathlib.Core.Path.{sym}
use Rattle.unfold_laws.specs.LineCodes.{other_code}
use Rattle.unfold_laws.specs.declared.LineCode.TheVariants.{Program}
use Rattle.unfold.proofs.WriteLineLaws.{program_stays, program_next}
use Rattle.unfold.proofs.next_program.Goals as goal

pub returns-in-Program : goal.returns-in-Program
returns-in-Program c = program_next _ _ _ (sym c.in-Program.ensures)

pub returns-in_default : goal.returns-in_default
returns-in_default c = program_stays _ _ _ (λ z. other_code Program c.in_default.not-Program c.code_at.ensures z)
