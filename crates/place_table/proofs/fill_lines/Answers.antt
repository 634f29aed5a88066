-- What the unfolding refuses is refused (told_refused); else the cells that it told are inside (told_inside), of at most 512 places (told_few), for
-- which 4096 words are enough, and `fill_table` fills them (told_filled).
use mathlib.Core.Path.{sym}
use native.Mathlib.Omega.{arith}
use lib.Seq.{length-take-le}
use borrow.Author.Rules.{rules}
use Rattle.std.proofs.lemmas.Result.{err_from_is_err_and}
use Rattle.place_table.proofs.FillLaws.{told_few, told_inside, told_refused, told_filled}
use Rattle.place_table.proofs.fill_lines.Goals as goal

pub returns-in_err-count : goal.returns-in_err-count
returns-in_err-count c =
    let exit = err_from_is_err_and c.from_residual.result c.from_residual.ensures.1 in
    rw (exit.1, exit.2) (told_refused _ _ _ _ (search rules) (search rules) c.in_err-count.ensures)

pub slice_bounds-unfoldings-end : goal.slice_bounds-unfoldings-end
slice_bounds-unfoldings-end c = told_inside _ _ _ _ (search rules) (search rules) c.in_ok-count.ensures

pub slice_bounds-nodes-end : goal.slice_bounds-nodes-end
slice_bounds-nodes-end c = sym (length-take-le _ _ (told_inside _ _ _ _ (search rules) (search rules) c.in_ok-count.ensures))

pub fill_table-requires : goal.fill_table-requires
fill_table-requires c =
    let few = told_few _ _ _ _ (search rules) (search rules) c.in_ok-count.ensures in
    omega arith

pub returns : goal.returns
returns c = told_filled _ _ _ _ (search rules) (search rules) c.in_ok-count.ensures c.fill_table.ensures
