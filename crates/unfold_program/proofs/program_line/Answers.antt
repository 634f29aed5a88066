-- Before line i the count is that of the programs that begin before it, at most k; the line at which it comes to be more begins program k
-- (line_found), and where none does there is no program k (line_none).
use Rattle.unfold_program.proofs.LineLaws.{next_line, line_found, line_none}
use Rattle.unfold_program.specs.ProgramLaws.{programs_few}
use Rattle.unfold_laws.specs.Pieces.{programs_before}
use Rattle.value_tables.specs.Lines.{table_codes}
use native.Mathlib.Omega.{arith}
use mathlib.Core.Path.{refl}
use Rattle.unfold_program.proofs.program_line.Goals as goal

pub loop-i-init : goal.loop-i-init
unfolding programs_before
loop-i-init c = (refl, omega arith)

pub programs_past-before-requires : goal.programs_past-before-requires
programs_past-before-requires c = (
  omega (arith, c.lines_in-i-end.ensures, c.loop-i-test.true),
  omega (arith, c.loop-i.invariant.0, programs_few (table_codes c.args.lines.now) c.loop-i.i),
)

pub returns-then-k-before : goal.returns-then-k-before
returns-then-k-before c =
    let inv = c.loop-i.invariant in
    line_found _ _ _ _ _ (omega (arith, c.lines_in-i-end.ensures, c.loop-i-test.true)) inv.0 inv.1 c.programs_past-before.ensures
    c.if-k-before.true

pub loop-i-preserved : goal.loop-i-preserved
loop-i-preserved c = (next_line _ _ _ _ c.loop-i.invariant.0 c.programs_past-before.ensures, c.if-k-before.false)

pub returns : goal.returns
returns c =
    let inv = c.loop-i.invariant in
    line_none _ _ _ _ (omega (arith, c.lines_in-i-end.ensures)) (omega (arith, c.lines_in-i-end.ensures, c.loop-i-test.false)) inv.0 inv.1
