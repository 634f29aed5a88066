-- Where the words past the first n are all 0 they add no node (row-rest); else all words are looked at (row-all).
use native.Mathlib.Omega.{arith}
use Rattle.walk_reach.specs.LayerLaws.{row_rest, row_all}
use Rattle.walk_reach.proofs.whole_row.Goals as goal

pub returns-then-words_joined-eq0 : goal.returns-then-words_joined-eq0
returns-then-words_joined-eq0 c = row_rest _ _ (omega arith) (c.words_joined.ensures c.if-words_joined-eq0.true) c.row_below.ensures

pub returns : goal.returns
returns c = row_all _ _ c.row_below-2.ensures
