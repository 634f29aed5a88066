-- What is found behind the line is what is counted there: a loop ends after its body's closing line (loop-ends), a branch after its second arm's
-- (branch-ends).
use mathlib.Core.Path.{sym}
use native.Mathlib.Omega.{arith}
use Rattle.value_tables.specs.TableLaws.{codes_many}
use Rattle.unfold_laws.specs.LineCodes.{other_code}
use Rattle.unfold_laws.specs.declared.LineCode.TheVariants.{Loop}
use Rattle.unfold.proofs.PathLaws.{known_run, loop_ends, branch_ends}
use Rattle.unfold.proofs.block_end.Goals as goal

pub overflow_add-at : goal.overflow_add-at
overflow_add-at c = omega (arith, codes_many c.args.source.now.lines.now, c.requires.0)

pub returns-in-Loop : goal.returns-in-Loop
returns-in-Loop c =
    let known = c.requires.2 in
    loop_ends _ _ _ _ known _ (known_run _ _ _ _ known _ c.run_at-body.ensures) _ c.lines_in-n.ensures _
    c.line_after-second.ensures (sym c.in-Loop.ensures)

pub returns-in_default : goal.returns-in_default
returns-in_default c =
    let known = c.requires.2 in
    branch_ends _ _ _ _ known _ (known_run _ _ _ _ known _ c.run_at-body.ensures) _ c.lines_in-n.ensures _
    c.line_after-second.ensures c.requires.1 (λ z. other_code Loop c.in_default.not-Loop c.code_at.ensures z) _ c.run_at-two.ensures _
    c.line_after.ensures
