-- The thirteen words that the code sets to 0 are those that `started_in` lists, in its order.
use borrow.Author.Rules.{rules}
use native.Mathlib.Omega.{arith}
use lib.ListN.{length-set}
use Rattle.line_state.specs.StateWords.{zeroed_in, started_in}
use Rattle.line_state.proofs.start_in.Goals as goal

pub returns : goal.returns
unfolding started_in zeroed_in
returns c = search rules
