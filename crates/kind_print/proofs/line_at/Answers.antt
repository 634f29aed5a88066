-- The words are those of the line's kinds and the digits those of what the entry tells of them, so the bytes are the line's (line-right).
use Rattle.kind_print.specs.LineLaws.{line_right}
use Rattle.kind_print.proofs.line_at.Goals as goal

pub returns : goal.returns
returns c =
    line_right c.args.i c.entry_of-entry.result
    c.kind_of.ensures c.word_of-from.ensures c.kind_of-2.ensures c.word_of-to.ensures
    c.kind_of-3.ensures c.kind_of-4.ensures c.entry_of-entry.ensures
    c.digit_of.ensures c.digit_of-2.ensures c.digit_of-3.ensures c.digit_of-4.ensures
    c.digit_of-5.ensures
