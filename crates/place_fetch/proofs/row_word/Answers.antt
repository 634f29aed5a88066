-- Past the last row and past the table's end `get_or` gives 0 (word-past, word-short); else the word that is read.
use Rattle.place_fetch.specs.FetchLaws.{word_past, word_short}
use borrow.Author.Rules.{rules}
use Rattle.place_fetch.proofs.row_word.Goals as goal

pub returns-then-n-i : goal.returns-then-n-i
returns-then-n-i c = word_past c.args.table.now c.args.i c.args.k c.if-n-i.true

pub returns : goal.returns
returns c = word_short c.args.table.now c.args.i c.args.k c.if-k-n.false
