-- Over cells of zeros the lent cells are those of the value that is told (into-value), and a refusal is the value's (into-refusal).
use mathlib.Core.Path.{refl}
use Rattle.std.proofs.lemmas.Result.{err_from_is_err_and}
use Rattle.unfold.specs.IntoLaws.{into_value, into_refusal}
use Rattle.unfold.proofs.unfold_by.Goals as goal

pub returns : goal.returns
returns c = into_value c.in_ok-count.ensures refl

pub returns-in_err-count : goal.returns-in_err-count
returns-in_err-count c =
    let exit = err_from_is_err_and c.from_residual.result c.from_residual.ensures.1 in
    rw (exit.1, exit.2) (into_refusal c.in_err-count.ensures refl)
