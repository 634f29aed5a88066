-- `line_state::start` sets what is looked at before the first line, and such a state holds no line (words-start).
use Rattle.line_rules.specs.WordsHoldLaws.{words_start}
use native.Mathlib.Omega.{arith}
use Rattle.line_rules.proofs.start.Goals as goal

pub returns : goal.returns
returns c = let started = c.start.ensures in (started.0, words_start _ started.0 (omega arith))
