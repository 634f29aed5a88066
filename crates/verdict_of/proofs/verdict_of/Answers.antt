-- A refusal of the table is the verdict's (judged-rows); else the word by the rows of the workload's places is the word (rows_whole).
use native.Mathlib.Omega.{arith}
use mathlib.Core.Path.{sym}
use Prim.Native.Nat.{ℕ}
use lib.ListN.{length-replicate}
use lib.Seq.{length-take-le}
use Rattle.std.proofs.lemmas.Result.{err_from_is_err_and}
use Rattle.place_table.specs.Whole.{whole_filled}
use Rattle.verdict_of.specs.VerdictLaws.{judged_rows, rows_whole, words_inside, nodes_few}
use Rattle.verdict_of.proofs.verdict_of.Goals as goal

pub returns-in_err-rows : goal.returns-in_err-rows
returns-in_err-rows c =
    let p = err_from_is_err_and c.from_residual.result c.from_residual.ensures.1 in
    rw (p.1, p.2) (judged_rows _ _ _ _ _ _ c.fill_rows.ensures c.in_err-rows.was)

pub overflow_mul-n : goal.overflow_mul-n
overflow_mul-n c =
    let few = (whole_filled c.fill_rows.ensures c.in_ok-rows.was).short in
    record { fits = omega arith }

pub slice_bounds-table-end : goal.slice_bounds-table-end
slice_bounds-table-end c = (whole_filled c.fill_rows.ensures c.in_ok-rows.was).inside

pub slice_bounds-judge_table-end : goal.slice_bounds-judge_table-end
slice_bounds-judge_table-end c =
    let inside = (whole_filled c.fill_rows.ensures c.in_ok-rows.was).inside in
    sym (length-take-le _ _ inside)

pub judge_table-requires : goal.judge_table-requires
judge_table-requires c =
    let whole = whole_filled c.fill_rows.ensures c.in_ok-rows.was in
    (words_inside whole, nodes_few whole, length-replicate {A = ℕ} 4096 0, length-replicate {A = ℕ} 4096 0)

pub returns : goal.returns
returns c =
    c.judge_table.ensures.rows_judged _ (rows_whole (whole_filled c.fill_rows.ensures c.in_ok-rows.was))
