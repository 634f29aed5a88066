-- A refusal gives its word (stage_refused); else the verdict's word gives its own (stage_word).
use Rattle.exports_lent.specs.StageLaws.{stage_refused, stage_word}
use Rattle.exports_lent.proofs.lent_verdict.Goals as goal

pub returns-in-Err : goal.returns-in-Err
returns-in-Err c =
    let judged = c.text_verdict-told.ensures in
    record {
      verdict_stage = stage_refused _ judged.text_judged _ c.in-Err.is c.number.ensures c.refusal_word.ensures;
      lent = judged.lent;
    }

pub returns-in-Ok : goal.returns-in-Ok
returns-in-Ok c =
    let judged = c.text_verdict-told.ensures in
    record { verdict_stage = stage_word _ judged.text_judged _ c.in-Ok.is c.verdict_word.ensures; lent = judged.lent }
