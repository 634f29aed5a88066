-- Each arm of the match knows which way reading ended, and `read_input` ensures what that way says of the reads; a failed one is no text that came.
use Rattle.verdict_run.proofs.answer_with.Goals as goal

pub report_read-requires-clause-ends : goal.report_read-requires-clause-ends
report_read-requires-clause-ends c = (c.in-Ended.ensures, tt, c.count.ensures)

pub report_read-requires-in-Full-clause-ends : goal.report_read-requires-in-Full-clause-ends
report_read-requires-in-Full-clause-ends c = (c.in-Full.ensures, tt, c.count-in-Full.ensures)

pub returns-in-Failed : goal.returns-in-Failed
returns-in-Failed c = (c.in-Failed.ensures, λ came. came)
