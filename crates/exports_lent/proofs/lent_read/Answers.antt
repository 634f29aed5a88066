-- A refusal of the text gives its word (table_refused); else the table's line in the middle gives the value's (table_taken).
use Rattle.exports_lent.specs.ReadLaws.{table_refused, table_taken}
use Rattle.exports_lent.proofs.lent_read.Goals as goal

pub returns-in-Err : goal.returns-in-Err
returns-in-Err c =
    let read = c.read_table-t.ensures in
    record { value = table_refused _ read.text_tabled _ c.in-Err.is c.number.ensures c.refusal_word.ensures; lent = read.lent }

pub returns-in-Ok : goal.returns-in-Ok
returns-in-Ok c =
    let read = c.read_table-t.ensures in
    record { value = table_taken _ read.text_tabled _ c.in-Ok.is c.middle_line-middle.ensures c.value_word.ensures; lent = read.lent }
