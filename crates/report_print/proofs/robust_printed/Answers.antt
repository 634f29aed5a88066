-- The verdict's lines with the word robust, put at the start of 8192 zeros, are the report of robust (robust_put), and after it the zeros stand
-- (printed_after).
use Rattle.std.proofs.Common.{arith}
use Rattle.spec_report.specs.Report.{robust_word}
use Rattle.report_print.specs.PrintLaws.{printed_after}
use Rattle.report_print.specs.ReportLineLaws.{robust_put}
use Rattle.report_print.proofs.robust_printed.Goals as goal

pub returns : goal.returns
unfolding robust_word
returns c = printed_after c.blank-out.ensures (omega arith) (robust_put _ c.put_verdict.ensures)
