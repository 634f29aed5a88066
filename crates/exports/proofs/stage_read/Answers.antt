-- A refusal of the text gives its word (read_refused); else the value that is read gives its own, from the line in its middle (read_taken).
use Rattle.exports.specs.StageLaws.{read_refused, read_taken}
use Rattle.exports.proofs.stage_read.Goals as goal

pub returns-in-Err : goal.returns-in-Err
returns-in-Err c = read_refused c.read_text-p.ensures _ c.in-Err.is c.number.ensures c.refusal_word.ensures

pub returns-in-Ok : goal.returns-in-Ok
returns-in-Ok c = read_taken c.read_text-p.ensures _ c.in-Ok.is c.value_word.ensures
