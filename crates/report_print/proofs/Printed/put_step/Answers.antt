-- The four words are those of step k; its number, node, places and flow, put one after the other, are its line (step_put).
use Rattle.report_print.specs.ReportLineLaws.{step_put}
use Rattle.report_print.proofs.Printed.put_step.Goals as goal

pub returns : goal.returns
returns c =
    step_put _ _ c.word_at.ensures c.word_at-2.ensures c.word_at-3.ensures c.word_at-4.ensures c.put_decimal.ensures c.put_number.ensures
    c.put_number-2.ensures c.put_number-3.ensures c.put_flow.ensures
