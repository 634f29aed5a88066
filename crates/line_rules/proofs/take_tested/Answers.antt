-- The number is that of the first test that fails over the words; where there is one nothing is taken (not_taken), else the line is (is_taken).
use mathlib.Core.Path.{refl}
use Rattle.std.proofs.lemmas.Result.{err_from_is_err_and}
use Rattle.refusal.specs.NumberLaws.{number_some}
use Rattle.line_rules.specs.ReadLaws.{not_taken, is_taken}
use Rattle.line_rules.proofs.take_tested.Goals as goal

pub returns-in_err-check : goal.returns-in_err-check
returns-in_err-check c =
    let p = err_from_is_err_and c.from_residual.result c.from_residual.ensures.1 in
    rw (p.1, p.2) (not_taken c.in_err-check.ensures (number_some _))

pub returns : goal.returns
returns c = is_taken c.in_ok-check.ensures refl c.take.ensures
