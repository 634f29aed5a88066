-- A text that is not read has no rows (rows_unread); else its lines stand in the table (lines_read_lem), and what their rows are is what the text's
-- are (rows_refused, rows_placed).
use Rattle.std.proofs.Common.{refl, arith}
use Rattle.std.proofs.lemmas.Result.{err_from_is_err_and}
use Rattle.lent_words.specs.Lent.{Lent}
use Rattle.place_text.specs.Placed.{no_rows}
use Rattle.place_text.specs.PlacedLaws.{rows_unread, lines_read_lem, rows_read, rows_refused, rows_placed, few_places}
use Rattle.place_text.proofs.text_rows.Goals as goal

pub returns-in_err-count : goal.returns-in_err-count
unfolding Lent
returns-in_err-count c =
    let lent = c.in_err-count.ensures.lent in
    let p = err_from_is_err_and c.from_residual.result c.from_residual.ensures.1 in
    rw (p.1, p.2) (record { text_placed = rows_unread _ c.in_err-count.ensures.text_tabled; lent = (lent.0, lent.1, refl) })

pub overflow_mul-count : goal.overflow_mul-count
overflow_mul-count c =
    let few = (lines_read_lem _ c.in_ok-count.ensures.text_tabled).2 in
    record { fits = omega arith }

pub line_rows-requires : goal.line_rows-requires
line_rows-requires c =
    let few = (lines_read_lem _ c.in_ok-count.ensures.text_tabled).2 in
    omega arith

pub overflow_mul-result : goal.overflow_mul-result
overflow_mul-result c =
    let tabled = c.in_ok-count.ensures.text_tabled in
    let few = few_places _ (lines_read_lem _ tabled).1 (rows_read _ tabled c.in-Ok.ensures) refl in
    record { fits = omega arith }

pub returns-in-Ok : goal.returns-in-Ok
unfolding Lent
returns-in-Ok c =
    let tabled = c.in_ok-count.ensures.text_tabled in
    let lent = c.in_ok-count.ensures.lent in
    record {
      text_placed = rows_placed _ (lines_read_lem _ tabled).1 (rows_read _ tabled c.in-Ok.ensures) refl refl;
      lent = (lent.0, lent.1, c.in-Ok.ensures.lent);
    }

pub returns-in-Err : goal.returns-in-Err
unfolding Lent no_rows
returns-in-Err c =
    let tabled = c.in_ok-count.ensures.text_tabled in
    let lent = c.in_ok-count.ensures.lent in
    rw c.at.ensures
    (record {
      text_placed = rows_refused _ (lines_read_lem _ tabled).1 (rows_read _ tabled c.in-Err.ensures) refl refl;
      lent = (lent.0, lent.1, c.in-Err.ensures.lent);
    })
