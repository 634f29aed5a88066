-- A refusal of the text gives its word and leaves the area (unfold_refused); else its lines stand in the table, and are unfolded into the area
-- (lines_unfolded).
use native.Mathlib.Omega.{arith}
use Rattle.spec_text.specs.Reading.{read}
use Rattle.place_text.specs.PlacedLaws.{lines_read_lem}
use Rattle.exports_lent.specs.StageLaws.{table_unread, unfold_refused, lines_unfolded, tabled_at}
use Rattle.exports_lent.proofs.lent_unfold.Goals as goal

pub returns-in-Err : goal.returns-in-Err
returns-in-Err c =
    let read = c.read_table-t.ensures in
    record {
      unfold_stage = unfold_refused _ (table_unread _ read.text_tabled _ c.in-Err.is c.number.ensures) c.refusal_word.ensures;
      lent = read.lent;
    }

pub overflow_mul-count : goal.overflow_mul-count
overflow_mul-count c =
    let few = (lines_read_lem _ (tabled_at c.read_table-t.ensures.text_tabled c.in-Ok.is)).2 in
    record { fits = omega arith }

pub unfold_first-u-requires : goal.unfold_first-u-requires
unfold_first-u-requires c =
    let few = (lines_read_lem _ (tabled_at c.read_table-t.ensures.text_tabled c.in-Ok.is)).2 in
    omega arith

pub returns-in-Ok : goal.returns-in-Ok
returns-in-Ok c =
    let table = c.read_table-t.ensures in
    let read = lines_read_lem _ (tabled_at table.text_tabled c.in-Ok.is) in
    record { unfold_stage = lines_unfolded _ read.1 read.3 c.unfold_first-u.ensures c.last_word.ensures; lent = table.lent }
