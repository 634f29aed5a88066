-- The names, the word, the four counts and the line's end, put one after the other, are the two lines of a verdict (verdict_put).
use Rattle.spec_report.specs.Report.{verdict_names}
use Rattle.report_print.specs.ReportLineLaws.{verdict_put}
use Rattle.report_print.proofs.Printed.put_verdict.Goals as goal

pub returns : goal.returns
unfolding verdict_names
returns c =
    verdict_put _ c.requires.1 c.put.ensures c.put-2.ensures c.put_number.ensures c.put_number-2.ensures c.put_number-3.ensures
    c.put_number-4.ensures c.put_byte.ensures
