-- A refusal of the text gives its word and leaves the area (verdict_refused); else the value that is read is judged, with its walk in the area
-- (verdict_goes_on).
use Rattle.std.proofs.Common.{ap, ◌∙◌}
use Rattle.export_word.specs.Word.{verdict_word}
use Rattle.exports.specs.StageLaws.{verdict_refused, verdict_goes_on}
use Rattle.exports.proofs.stage_verdict.Goals as goal

pub returns-in-Err : goal.returns-in-Err
returns-in-Err c = verdict_refused c.read_text-p.ensures _ c.in-Err.is c.number.ensures c.refusal_word.ensures

pub returns-in-Ok : goal.returns-in-Ok
returns-in-Ok c =
    verdict_goes_on c.read_text-p.ensures _ c.in-Ok.is (record {
      told = _;
      settled = c.verdict_of-v.ensures;
      word = c.verdict_word.ensures ∙ ap verdict_word c.numbered.ensures;
    })
