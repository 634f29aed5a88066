-- Each return is what `line_programs` picks where the line is a `pr` or not, as the test found it.
use Rattle.unfold_laws.specs.Pieces.{line_programs}
use borrow.Author.Tests.{eq-eqb, ne_eqb}
use mathlib.Core.Path.{sym}
use native.Mathlib.Omega.{arith}
use Rattle.value_tables.specs.TableLaws.{codes_many}
use Rattle.unfold_laws.specs.LineCodes.{other_code}
use Rattle.unfold_laws.specs.declared.LineCode.TheVariants.{Program}
use Rattle.unfold_program.proofs.programs_past.Goals as goal

pub returns-in-Program : goal.returns-in-Program
unfolding line_programs
returns-in-Program c = sym (simp (eq-eqb _ _ (sym c.in-Program.ensures)))

pub returns-in_default : goal.returns-in_default
unfolding line_programs
returns-in_default c = sym (simp (ne_eqb _ _ (λ z. other_code Program c.in_default.not-Program c.code_at.ensures z)))

pub overflow_add-result : goal.overflow_add-result
overflow_add-result c = omega (arith, codes_many c.args.lines.now, c.requires.0, c.requires.1)
