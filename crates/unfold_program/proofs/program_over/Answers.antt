-- Where there is no program k nothing is told (over_none); else the run after its `pr` line is the program's (over_told).
use Rattle.unfold_program.proofs.LineLaws.{over_none, over_told}
use Rattle.value_tables.specs.TableLaws.{codes_many}
use native.Mathlib.Omega.{arith}
use Rattle.unfold_program.proofs.program_over.Goals as goal

pub returns-in_err-i : goal.returns-in_err-i
returns-in_err-i c = rw c.from_residual.ensures (over_none _ _ c.in_err-i.ensures)

pub overflow_add-i : goal.overflow_add-i
overflow_add-i c = omega (arith, c.in_ok-i.ensures.0, codes_many c.args.lines.now)

pub returns : goal.returns
returns c = over_told _ _ _ _ c.in_ok-i.ensures _ c.lines_in.ensures c.count_run-c.ensures
