-- Before a line the programs that begin before it are passed, and so many unfoldings are left to the node (find_start, find_skip, find_next); where a
-- program's unfoldings reach the node it is found there (find_here), and after the last line there is no such node (find_none).
use Rattle.unfold_choice.proofs.FindLaws.{find_start, find_skip, find_here, find_next, find_none}
use Rattle.unfold_laws.specs.Pieces.{programs_before}
use Rattle.unfold_program.specs.ProgramLaws.{programs_few}
use Rattle.value_tables.specs.Lines.{table_codes}
use native.Mathlib.Omega.{arith}
use mathlib.Core.Path.{refl, sym}
use Rattle.unfold_laws.specs.LineCodes.{other_code}
use Rattle.unfold_laws.specs.declared.LineCode.TheVariants.{Program}
use Rattle.unfold_choice.proofs.find_node.Goals as goal

pub loop-line-init : goal.loop-line-init
unfolding programs_before
loop-line-init c = (refl, find_start _ _)

pub loop-line-preserved-in_default : goal.loop-line-preserved-in_default
loop-line-preserved-in_default c =
    let inv = c.loop-line.invariant in
    (find_skip _ _ _ inv.0 (λ z. other_code Program c.in_default.not-Program c.code_at.ensures z), inv.1)

pub returns-then-number-c : goal.returns-then-number-c
returns-then-number-c c =
    let inv = c.loop-line.invariant in
    find_here _ _ _ _ _ inv.0 inv.1 (omega (arith, c.lines_in-n.ensures)) (sym c.in-Program.ensures) _
    (rw c.lines_in-n.ensures at c.count_run-c.ensures) c.if-number-c.true

pub overflow_add-program : goal.overflow_add-program
overflow_add-program c = omega (arith, c.loop-line.invariant.0, programs_few (table_codes c.args.lines.now) c.loop-line.line)

pub loop-line-preserved : goal.loop-line-preserved
loop-line-preserved c =
    let inv = c.loop-line.invariant in
    find_next _ _ _ _ _ inv.0 inv.1 (omega (arith, c.lines_in-n.ensures)) (sym c.in-Program.ensures) _
    (rw c.lines_in-n.ensures at c.count_run-c.ensures) c.if-number-c.false

pub returns : goal.returns
returns c = find_none _ _ _ _ _ c.loop-line.invariant.0 c.loop-line.invariant.1 (omega (arith, c.lines_in-n.ensures))
