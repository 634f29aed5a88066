-- At most 65 steps are shown, so there is room; the verdict's two lines, the names of the steps and the steps' lines, put one after the other at the
-- start of 8192 zeros, are the report of danger (danger_put, danger_printed).
use Rattle.std.proofs.Common.{arith}
use Rattle.spec_report.specs.Report.{danger_word, step_names}
use Rattle.report_print.specs.ReportLineLaws.{danger_put, danger_printed}
use Rattle.report_print.proofs.danger_printed.Goals as goal

pub returns : goal.returns
unfolding danger_word step_names
returns c =
    danger_printed _ _ _ c.min-shown.ensures c.blank-out.ensures
    (danger_put _ _ _ (omega (arith, c.min-shown.ensures)) c.put_verdict.ensures c.put.ensures c.put_steps.ensures)
