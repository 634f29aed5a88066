-- The parts are as long as the nodes need them, and the word by the rows is the word.
use native.Mathlib.Omega.{arith}
use mathlib.Core.Path.{sym}
use lib.Seq.{length-take-le}
use borrow.Author.Rules.{rules}
use Rattle.lent_words.specs.Lent.{Lent}
use Rattle.verdict_of.proofs.judge_table.Goals as goal

pub slice_bounds-judge_rows-end : goal.slice_bounds-judge_rows-end
slice_bounds-judge_rows-end c = let given = c.requires in sym (length-take-le _ _ given.0)

pub slice_bounds-judge_rows-end-2 : goal.slice_bounds-judge_rows-end-2
slice_bounds-judge_rows-end-2 c =
    let given = c.requires in
    let nodes = given.1 in
    let long = given.2 in
    omega arith

pub slice_bounds-judge_rows-end-3 : goal.slice_bounds-judge_rows-end-3
slice_bounds-judge_rows-end-3 c =
    let given = c.requires in
    let nodes = given.1 in
    let long = given.2 in
    sym (length-take-le _ _ (omega arith))

pub slice_bounds-judge_rows-end-4 : goal.slice_bounds-judge_rows-end-4
slice_bounds-judge_rows-end-4 c =
    let given = c.requires in
    let nodes = given.1 in
    let long = given.3 in
    omega arith

pub slice_bounds-judge_rows-end-5 : goal.slice_bounds-judge_rows-end-5
slice_bounds-judge_rows-end-5 c =
    let given = c.requires in
    let nodes = given.1 in
    let long = given.3 in
    sym (length-take-le _ _ (omega arith))

pub judge_rows-requires : goal.judge_rows-requires
judge_rows-requires c =
    let given = c.requires in
    let nodes = given.1 in
    let forwards-long = given.2 in
    let backs-long = given.3 in
    (length-take-le _ _ (omega arith), length-take-le _ _ (omega arith))

pub returns : goal.returns
unfolding Lent
returns c =
    let judged = c.judge_rows.ensures in
    record { rows_judged = judged.rows_judged; lent = (judged.lent.0, judged.lent.1, search rules, search rules) }
