-- A run counts its first block and the run after it, a block its body or its two arms, as `count_at` and `item_at` do (behind_next, block_loop,
-- block_branch); a word says what is counted at its place (usable_run).
use Rattle.std.proofs.Common.{arith, sym, ap, ◌∙◌}
use Prim.Native.Nat.{ℕ, ◌+◌, ◌-◌, ◌≤◌}
use mathlib.Core.Path.{◌≡◌}
use borrow.Author.Rules.{rules}
use Rattle.unfold_laws.specs.LineCodes.{code_number, other_code}
use Rattle.unfold_laws.specs.declared.LineCode.TheVariants.{Statement, Loop}
use Rattle.unfold_laws.specs.Codes.{after}
use Rattle.value_tables.specs.TableLaws.{codes_many}
use Rattle.unfold_count.proofs.RunLaws.{run_none, run_past, run_stop, block_statement, block_loop, block_branch}
use Rattle.unfold_count.proofs.WordLaws.{usable_run, behind_past, behind_second, behind_onward, behind_next}
use Rattle.unfold_count.proofs.+block_by_run_behind_run_by.Goals as goal

pub block_by-overflow_add-result : goal.block_by-overflow_add-result
block_by-overflow_add-result t c = omega (arith, codes_many c.args.lines.now, c.requires.inside)

pub block_by-returns-in-Statement : goal.block_by-returns-in-Statement
block_by-returns-in-Statement t c = block_statement _ _ _ (sym c.in-Statement.ensures)

pub block_by-overflow_add-at : goal.block_by-overflow_add-at
block_by-overflow_add-at t c = omega (arith, codes_many c.args.lines.now, c.requires.inside)

pub block_by-returns-in-Loop : goal.block_by-returns-in-Loop
block_by-returns-in-Loop t c =
    block_loop _ _ _ _ _ _ c.lines_in.ensures (sym c.in-Loop.ensures) c.run_by-body.ensures c.count_loop.ensures

pub block_by-overflow_add-at-in_default : goal.block_by-overflow_add-at-in_default
block_by-overflow_add-at-in_default t c = omega (arith, codes_many c.args.lines.now, c.requires.inside)

pub block_by-run_by-two-requires : goal.block_by-run_by-two-requires
block_by-run_by-two-requires t c = (
  search rules,
  behind_second _ _ _ _ c.requires _ c.run_by-one.ensures _
      (c.line_after.ensures ∙ ap (λ (n : ℕ). after n c.run_by-one.result.end) c.lines_in-n.ensures),
)

pub block_by-returns-in_default : goal.block_by-returns-in_default
block_by-returns-in_default t c =
    block_branch _ _ _ _ _ _ _ _ c.lines_in-n.ensures c.line_after.ensures
    (λ z. other_code Statement c.in_default.not-Statement c.code_at.ensures z) (λ z. other_code Loop c.in_default.not-Loop c.code_at.ensures z)
    c.run_by-one.ensures c.run_by-two.ensures c.count_arms.ensures

pub run_behind-returns-then-not-begins_item : goal.run_behind-returns-then-not-begins_item
run_behind-returns-then-not-begins_item t c =
    let stop : code_number c.code_at.result ≤ 2 → ⊥ =
    λ few. let yes = c.begins_item.ensures.1 few in let no = c.if-not-begins_item.true in cc in
    run_stop _ _ _ _ c.requires.inside (omega (arith, c.code_at.ensures, stop)) c.nothing.ensures

pub run_behind-run_by-more-requires : goal.run_behind-run_by-more-requires
run_behind-run_by-more-requires t c = (search rules, behind_onward _ _ _ _ c.requires _ c.block_by-x.ensures)

pub run_behind-returns : goal.run_behind-returns
run_behind-returns t c =
    behind_next _ _ _ _ c.requires _ c.block_by-x.ensures _ _
    (omega (arith, c.code_at.ensures, c.begins_item.ensures.0 c.if-not-begins_item.false))
    c.run_by-more.ensures c.count_next.ensures

pub run_by-returns-then-at-counts : goal.run_by-returns-then-at-counts
run_by-returns-then-at-counts t c = usable_run _ _ _ _ c.requires c.if-at-counts.true _ c.word_counted.ensures

pub run_by-returns-then-left-eq0 : goal.run_by-returns-then-left-eq0
run_by-returns-then-left-eq0 t c = run_none _ _ _ _ c.if-left-eq0.true c.nothing.ensures

pub run_by-returns-then-lines_in-at : goal.run_by-returns-then-lines_in-at
run_by-returns-then-lines_in-at t c = run_past _ _ _ _ (omega (arith, c.lines_in.ensures, c.if-lines_in-at.true)) c.nothing-then-lines_in-at.ensures

pub run_by-run_behind-requires : goal.run_by-run_behind-requires
run_by-run_behind-requires t c =
    (search rules, behind_past _ _ _ _ (omega (arith, c.lines_in.ensures, c.if-lines_in-at.false)) (omega (arith, c.if-at-counts.false)))

pub run_by-returns : goal.run_by-returns
run_by-returns t c =
    let less : c.args.left - 1 + 1 ≡ c.args.left = omega (arith, c.if-left-eq0.false) in
    rw less at c.run_behind.ensures
