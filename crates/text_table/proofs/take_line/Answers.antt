-- `take_tested` tests the line and takes it into the state; where it passed it is put into the table.
use Rattle.std.proofs.lemmas.Result.{err_from_is_err_and}
use Rattle.refusal.specs.NumberLaws.{number_some}
use Rattle.text_table.proofs.take_line.Goals as goal

pub returns-in_err-take_tested : goal.returns-in_err-take_tested
returns-in_err-take_tested c =
    let p = err_from_is_err_and c.from_residual.result c.from_residual.ensures.1 in
    rw (p.1, p.2) (record { tested = c.in_err-take_tested.ensures; put = λ z. absurd (number_some _ z) })

pub returns : goal.returns
returns c = record { tested = c.in_ok-take_tested.ensures; put = λ z. c.put_line.ensures }
