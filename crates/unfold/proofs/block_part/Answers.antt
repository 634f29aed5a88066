-- What is found behind the line is what is counted there (known-run). A branch's number is one of its first arm's or one of its second's
-- (branch_one, branch-two), a loop's that of no turn, of one, or of two (loop-none, loop-one, loop-two).
use mathlib.Core.Path.{sym}
use native.Mathlib.Omega.{arith}
use borrow.Author.Rules.{rules}
use Rattle.value_tables.specs.TableLaws.{codes_many}
use Rattle.unfold_laws.specs.LineCodes.{other_code}
use Rattle.unfold_laws.specs.declared.LineCode.TheVariants.{Loop}
use Rattle.unfold.proofs.PathLaws.{known_run, loop_none, loop_one, loop_two, branch_one, branch_two}
use Rattle.unfold.proofs.block_part.Goals as goal

pub overflow_add-first : goal.overflow_add-first
overflow_add-first c = omega (arith, codes_many c.args.source.now.lines.now, c.requires.0)

pub returns-then-k-eq0 : goal.returns-then-k-eq0
returns-then-k-eq0 c =
    let known = c.requires.1 in
    loop_none _ _ _ _ _ known _ (known_run _ _ _ _ known _ c.run_at-body.ensures) (sym c.in-Loop.ensures) c.if-k-eq0.true

pub returns-then-k-n : goal.returns-then-k-n
returns-then-k-n c =
    let known = c.requires.1 in
    loop_one _ _ _ _ _ known _ (known_run _ _ _ _ known _ c.run_at-body.ensures) (sym c.in-Loop.ensures) c.if-k-eq0.false c.if-k-n.true

pub nonzero_div-result : goal.nonzero_div-result
nonzero_div-result c =
    let h = (known_run _ _ _ _ c.requires.1 _ c.run_at-body.ensures).counting.positive in
    search (rules, h)

pub nonzero_rem-result : goal.nonzero_rem-result
nonzero_rem-result c =
    let h = (known_run _ _ _ _ c.requires.1 _ c.run_at-body.ensures).counting.positive in
    search (rules, h)

pub returns-else-k-n : goal.returns-else-k-n
returns-else-k-n c =
    let known = c.requires.1 in
    loop_two _ _ _ _ _ known _ (known_run _ _ _ _ known _ c.run_at-body.ensures) (sym c.in-Loop.ensures) c.if-k-eq0.false c.if-k-n.false

pub returns-then-k-n-2 : goal.returns-then-k-n-2
returns-then-k-n-2 c =
    let known = c.requires.1 in
    branch_one _ _ _ _ _ known _ (known_run _ _ _ _ known _ c.run_at-body.ensures)
    (λ z. other_code Loop c.in_default.not-Loop c.code_at.ensures z) c.if-k-n-2.true

pub returns-else-k-n-2 : goal.returns-else-k-n-2
returns-else-k-n-2 c =
    let known = c.requires.1 in
    branch_two _ _ _ _ _ known _ (known_run _ _ _ _ known _ c.run_at-body.ensures) _ c.lines_in.ensures _ c.line_after-second.ensures
    (λ z. other_code Loop c.in_default.not-Loop c.code_at.ensures z) c.if-k-n-2.false
