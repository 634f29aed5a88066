-- A word at the place is read (`word`); past the words the run is counted (`past`), and past the lines it is nothing (run_past).
use native.Mathlib.Omega.{arith}
use Rattle.unfold_count.proofs.RunLaws.{run_past}
use Rattle.unfold_count.proofs.run_at.Goals as goal

pub returns-then-at-counts : goal.returns-then-at-counts
returns-then-at-counts c = record { word = λ less. c.word_counted.ensures; past = λ past. absurd (omega (arith, past, c.if-at-counts.true)) }

pub returns-then-lines_in-at : goal.returns-then-lines_in-at
returns-then-lines_in-at c =
    record {
      word = λ less. absurd (omega (arith, less, c.if-at-counts.false));
      past = λ past. run_past _ _ _ _ (omega (arith, c.if-lines_in-at.true, c.lines_in.ensures)) c.nothing.ensures;
    }

pub returns : goal.returns
returns c = record { word = λ less. absurd (omega (arith, less, c.if-at-counts.false)); past = λ past. c.count_run.ensures }
