-- The names, the number, the line and the line's end, put one after the other at the start of 8192 zeros, are the report of a refusal (refusal_put),
-- and after its at most 55 bytes the zeros stand (printed_after).
use Rattle.std.proofs.Common.{arith}
use Rattle.spec_report.specs.Report.{refused_names}
use Rattle.report_print.specs.PrintLaws.{printed_after}
use Rattle.report_print.specs.ReportLineLaws.{refusal_put}
use Rattle.report_print.proofs.refusal_printed.Goals as goal

pub returns : goal.returns
unfolding refused_names
returns c =
    printed_after c.blank-out.ensures (omega arith)
    (refusal_put _ _ c.put.ensures c.put_decimal.ensures c.put_number.ensures c.put_byte.ensures)
