-- Another line leaves the totals (line-none); a `pr` line adds the run after it, each sum stopped at 513 (line-program).
use mathlib.Core.Path.{sym}
use native.Mathlib.Omega.{arith}
use Rattle.value_tables.specs.TableLaws.{codes_many}
use Rattle.unfold_laws.specs.LineCodes.{other_code}
use Rattle.unfold_laws.specs.declared.LineCode.TheVariants.{Program}
use Rattle.unfold_count.proofs.AllLaws.{line_none, line_program}
use Rattle.unfold_count.proofs.count_line.Goals as goal

pub overflow_add-at : goal.overflow_add-at
overflow_add-at c = omega (arith, codes_many c.args.lines.now, c.requires.0.inside)

pub returns-in-Program : goal.returns-in-Program
returns-in-Program c =
    line_program _ _ _ _ (omega (arith, c.requires.1)) c.run_by-c.result _ _ (sym c.in-Program.ensures) c.run_by-c.ensures
    c.sum-count.ensures c.sum-statements.ensures

pub returns-in_default : goal.returns-in_default
returns-in_default c =
    line_none _ _ _ (λ z. other_code Program c.in_default.not-Program c.code_at.ensures z) c.requires.2 c.requires.3
