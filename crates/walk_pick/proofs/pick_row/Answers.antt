-- What hangs on the row is worked out; from the first row of its chain on (row_started) the rows are met, and that is the whole row (row_read).
use mathlib.Core.Path.{refl}
use Rattle.walk_pick.specs.PairLaws.{row_whole, row_read}
use Rattle.walk_pick.specs.RunLaws.{row_started, head_few}
use Rattle.walk_pick.proofs.pick_row.Goals as goal

pub whole_row-row-requires : goal.whole_row-row-requires
whole_row-row-requires c = row_whole _ c.requires.rows c.requires.inside

pub invariant_of-s : goal.invariant_of-s
invariant_of-s c = record {
  counted = c.requires.rows;
  worked = c.requires.worked;
  words_are = c.left_words-words.ensures;
  never_is = c.never_back-never.ensures;
  loose_is = c.kind_has-loose.ensures;
}

pub head_of-first-requires : goal.head_of-first-requires
head_of-first-requires c = head_few c.requires _

pub pick_chain-requires : goal.pick_chain-requires
pick_chain-requires c = (row_started c.requires c.head_of-first.ensures, c.requires.forwards_for, c.requires.backs_for)

pub returns : goal.returns
returns c = row_read c.whole_row-row.ensures refl c.pick_chain.ensures
