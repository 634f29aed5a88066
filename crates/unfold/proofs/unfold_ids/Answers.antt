-- Over cells of zeros the last row's cells are those of the value that would be told (last-settled).
use mathlib.Core.Path.{refl}
use Rattle.std.proofs.lemmas.Result.{err_from_is_err_and}
use Rattle.unfold.specs.LineWords.{words_by, marks_by}
use Rattle.unfold.proofs.UnfoldSettledLaws.{last_settled, last_refused}
use Rattle.unfold.proofs.unfold_ids.Goals as goal

pub returns : goal.returns
unfolding words_by marks_by
returns c = last_settled c.in_ok-count.ensures refl

pub returns-in_err-count : goal.returns-in_err-count
unfolding words_by marks_by
returns-in_err-count c =
    let exit = err_from_is_err_and c.from_residual.result c.from_residual.ensures.1 in
    rw (exit.1, exit.2) (last_refused c.in_err-count.ensures refl)
