-- A cell is the word so far after the array's start (cell_at); past the words `get_or` gives 0, as the code does (cell-short).
use mathlib.Core.Path.{sym}
use native.Mathlib.Omega.{arith}
use borrow.Author.Rules.{rules}
use Rattle.line_state.specs.StateWordsLaws.{cell_at, cell_short}
use Rattle.line_state.proofs.cell_in.Goals as goal

pub returns-then-at-n : goal.returns-then-at-n
returns-then-at-n c = sym (cell_at _ _ _)

pub returns-else-at-n : goal.returns-else-at-n
returns-else-at-n c = sym (cell_short _ _ _ (omega arith))

pub returns-else-from-n : goal.returns-else-from-n
returns-else-from-n c = sym (cell_short _ _ _ (omega arith))
