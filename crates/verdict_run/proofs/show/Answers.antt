-- What a caller had to show of the report says how reading ended, and that no read failed.
use Rattle.verdict_run.specs.ShownReportLaws.{shown_came}
use Rattle.verdict_run.proofs.show.Goals as goal

pub returns-then-is_ok : goal.returns-then-is_ok
returns-then-is_ok c = let s = c.requires in (s.ends, shown_came _ s)

pub returns : goal.returns
returns c = let s = c.requires in (s.ends, shown_came _ s)
