-- The eight words are those of the line (line-words); past the last of the 1616 lines nothing is put: the two cases of `line_put`.
use mathlib.Core.Path.{sym}
use borrow.Author.Tests.{le-ltb}
use Rattle.value_tables.specs.Lines.{line_put}
use Rattle.value_lines.proofs.PutLaws.{line_words_lem, line_put_lem}
use Rattle.value_lines.proofs.put_line.Goals as goal

pub returns-then-i-ge-CELLS : goal.returns-then-i-ge-CELLS
unfolding line_put
returns-then-i-ge-CELLS c = sym (simp (le-ltb _ _ c.if-i-ge-CELLS.true))

pub returns : goal.returns
returns c =
    let words = line_words_lem _ _ _ c.line_number-number.ensures c.line_facts-facts.ensures _ _ _ _ c.set_in.ensures c.set_in-2.ensures
    c.set_in-3.ensures c.mark_by.ensures in
    line_put_lem _ _ _ words c.put_row.ensures c.if-i-ge-CELLS.false
