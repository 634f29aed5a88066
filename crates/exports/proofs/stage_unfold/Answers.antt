-- A refusal of the text gives its word and leaves the area (unfold_refused); else the value that is read is unfolded into it
-- (unfold_goes_on).
use Rattle.exports.specs.StageLaws.{unfold_refused, unfold_goes_on}
use Rattle.exports.proofs.stage_unfold.Goals as goal

pub returns-in-Err : goal.returns-in-Err
returns-in-Err c = unfold_refused c.read_text-p.ensures _ c.in-Err.is c.number.ensures c.refusal_word.ensures

pub returns-in-Ok : goal.returns-in-Ok
returns-in-Ok c =
    unfold_goes_on c.read_text-p.ensures _ c.in-Ok.is (record { told = _; settled = c.unfold-u.ensures; word = c.unfold_word.ensures })
