-- A run puts the choices of its first block and then those of the run after it; the block takes the quotient of the number by what that run counts,
-- the run the remainder (run_statement, run_block).
use Rattle.std.proofs.Common.{ℕ, ◌≤◌, arith, ap, sym, ◌∙◌}
use Rattle.unfold_laws.specs.Codes.{after}
use Rattle.unfold_choice.proofs.TellLaws.{run_none, run_past, run_stop, run_statement, run_block}
use Rattle.unfold_choice.proofs.TellLaws.{loop_none, loop_one, loop_two, branch_one, branch_two}
use Rattle.unfold_laws.specs.LineCodes.{code_number, other_code}
use Rattle.unfold_laws.specs.declared.LineCode.TheVariants.{Statement, Loop}
use Rattle.unfold_choice.proofs.+tell_block_tell_run.Goals as goal

pub tell_block-returns-then-k-eq0 : goal.tell_block-returns-then-k-eq0
tell_block-returns-then-k-eq0 t c =
    loop_none _ _ _ _ _ _ c.count_run-body.ensures _ (sym c.in-Loop.ensures) c.if-k-eq0.true c.put.ensures

pub tell_block-returns-then-k-n : goal.tell_block-returns-then-k-n
tell_block-returns-then-k-n t c =
    loop_one _ _ _ _ _ _ c.count_run-body.ensures _ _ (sym c.in-Loop.ensures) c.if-k-eq0.false
    c.if-k-n.true c.put-once.ensures c.tell_run.ensures

pub tell_block-returns-else-k-n : goal.tell_block-returns-else-k-n
tell_block-returns-else-k-n t c =
    loop_two _ _ _ _ _ _ c.count_run-body.ensures _ _ _ (sym c.in-Loop.ensures) c.if-k-eq0.false
    c.if-k-n.false c.put-twice.ensures c.tell_run-turn.ensures c.tell_run-in-Loop.ensures

pub tell_block-returns-then-k-n-2 : goal.tell_block-returns-then-k-n-2
tell_block-returns-then-k-n-2 t c =
    branch_one _ _ _ _ _ _ c.count_run-body.ensures _ _ (λ z. other_code Loop c.in_default.not-Loop c.code_at.ensures z) c.if-k-n-2.true
    c.put-one.ensures c.tell_run-then-k-n-2.ensures

pub tell_block-returns-else-k-n-2 : goal.tell_block-returns-else-k-n-2
tell_block-returns-else-k-n-2 t c =
    branch_two _ _ _ _ _ _ c.count_run-body.ensures _ _ _
    (c.line_after-second.ensures ∙ ap (λ (n : ℕ). after n c.count_run-body.result.end) c.lines_in.ensures)
    (λ z. other_code Loop c.in_default.not-Loop c.code_at.ensures z) c.if-k-n-2.false c.put-two.ensures c.tell_run-in_default.ensures

pub tell_run-returns-then-left-eq0 : goal.tell_run-returns-then-left-eq0
tell_run-returns-then-left-eq0 t c = run_none _ _ _ _ _ c.if-left-eq0.true

pub tell_run-returns-then-lines_in-at : goal.tell_run-returns-then-lines_in-at
tell_run-returns-then-lines_in-at t c = run_past _ _ _ _ _ (omega (arith, c.lines_in.ensures, c.if-lines_in-at.true))

pub tell_run-returns-then-not-begins_item : goal.tell_run-returns-then-not-begins_item
tell_run-returns-then-not-begins_item t c =
    run_stop _ _ _ _ _ (omega (arith, c.lines_in.ensures, c.if-lines_in-at.false))
    (let stop : code_number c.code_at-code.result ≤ 2 → ⊥ = λ few. let is = c.begins_item.ensures.1 few in let other = c.if-not-begins_item.true in cc in
    omega (arith, c.code_at-code.ensures, stop))

pub tell_run-returns-in-Statement : goal.tell_run-returns-in-Statement
tell_run-returns-in-Statement t c =
    run_statement _ _ _ _ _ _ c.if-left-eq0.false (omega (arith, c.lines_in.ensures, c.if-lines_in-at.false))
    (sym c.in-Statement.ensures) c.tell_run.ensures

pub tell_run-returns-in_default : goal.tell_run-returns-in_default
tell_run-returns-in_default t c =
    run_block _ _ _ _ _ _ _ _ _ c.if-left-eq0.false (omega (arith, c.lines_in.ensures, c.if-lines_in-at.false))
    (omega (arith, c.code_at-code.ensures, c.begins_item.ensures.0 c.if-not-begins_item.false))
    (λ z. other_code Statement c.in_default.not-Statement c.code_at-code.ensures z) c.count_place-x.ensures c.count_run-more.ensures
    c.tell_block-c.ensures c.tell_run-in_default.ensures
