-- After k turns the lines of the first k steps stand after what was there (`Stepping`).
use Rattle.report_print.specs.Printed.{Stepping}
use Rattle.report_print.proofs.Printed.put_steps.Given as goal

abbrev pub invariant-loop-k : goal.invariant-loop-k
invariant-loop-k l = Stepping l.walk l.initial.self l.steps l.k l.self
