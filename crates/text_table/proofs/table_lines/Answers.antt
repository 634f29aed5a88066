-- The line at each place is the first of those left (line_here): where it is none, or fails a test, reading ends with that refusal; else it is taken
-- and stands in the table, and reading goes on at the place after it (going_next); at the end no block may be open.
use Rattle.std.proofs.Common.{◌≡◌, refl, sym, ◌∙◌, arith, rules}
use Rattle.std.proofs.lemmas.Result.{err_from_is_err_and}
use Rattle.refusal.specs.NumberLaws.{number_some}
use Rattle.lent_words.specs.Lent.{Lent}
use Rattle.text_fields.specs.LineInLaws.{step_value, step_wrong, line_here}
use Rattle.text_table.specs.Tabled.{not_read, lines_read}
use Rattle.text_table.specs.Tabled.TextTabled.{unread}
use Rattle.text_table.specs.TakingLaws.{going_first, going_at, going_few, going_long, going_wrong, going_fault, going_room}
use Rattle.text_table.specs.TakingLaws.{going_next, going_open, going_closed, started_long, tested_long}
use Rattle.text_table.proofs.table_lines.Goals as goal

pub loop-at-init : goal.loop-at-init
unfolding Lent
loop-at-init c = (going_first _ _ c.requires c.start.ensures.1, refl)

pub overflow_add-line : goal.overflow_add-line
overflow_add-line c = let few = going_few c.loop-at.invariant.0 in search (rules, few)

-- no line is here
pub returns-in_err-l : goal.returns-in_err-l
unfolding Lent not_read
returns-in_err-l c =
    let wrong = step_wrong _ _ (sym c.in_err-l.ensures.ok_part ∙ c.line_there.ensures) in
    let p = err_from_is_err_and c.from_residual.result c.from_residual.ensures.1 in
    let value = rw c.in_err-l.ensures.ok_part at c.in_err-l.ensures.value in
    let told : c.in_err-l.field-0.0 ≡ c.at.result = cc in
    rw (p.1, p.2, told, c.at.ensures) (
      unread _ _ (going_wrong c.loop-at.invariant.0 c.loop-at-test.true wrong) refl,
      c.loop-at.invariant.1 ∙ started_long _ c.start.ensures.0,
      going_long c.loop-at.invariant.0 ∙ sym c.requires,
    )

-- the line taken fails a test
pub returns-in-Err : goal.returns-in-Err
unfolding Lent not_read
returns-in-Err c =
    let line = step_value _ _ (sym c.in_ok-l.ensures.ok_part ∙ c.line_there.ensures) in
    rw c.at-in-Err.ensures (
      unread _ _ (going_fault c.loop-at.invariant.0 c.loop-at-test.true line.0 c.in-Err.ensures (number_some _)) refl,
      tested_long c.in-Err.ensures.tested ∙ c.loop-at.invariant.1 ∙ started_long _ c.start.ensures.0,
      search (rules, going_long c.loop-at.invariant.0, c.requires),
    )

-- it passes them: there is room for it
pub overflow_add-n : goal.overflow_add-n
overflow_add-n c =
    let line = step_value _ _ (sym c.in_ok-l.ensures.ok_part ∙ c.line_there.ensures) in
    let room = going_room c.loop-at.invariant.0 c.loop-at-test.true line.0 c.in_default.ensures refl in
    search (rules, room)

pub loop-at-smaller : goal.loop-at-smaller
loop-at-smaller c =
    let text = c.args.text.now in
    let inside = c.loop-at-test.true in
    let next = (step_value _ _ (sym c.in_ok-l.ensures.ok_part ∙ c.line_there.ensures)).1 in
    let further = (line_here text c.loop-at.at inside).1 in
    omega arith

pub loop-at-preserved : goal.loop-at-preserved
unfolding Lent
loop-at-preserved c =
    let line = step_value _ _ (sym c.in_ok-l.ensures.ok_part ∙ c.line_there.ensures) in (
      going_at (going_next c.loop-at.invariant.0 c.loop-at-test.true line.0 c.in_default.ensures refl) line.1,
      tested_long c.in_default.ensures.tested ∙ c.loop-at.invariant.1,
    )

pub overflow_add-n-then-depth-ne0 : goal.overflow_add-n-then-depth-ne0
overflow_add-n-then-depth-ne0 c = let few = going_few c.loop-at.invariant.0 in search (rules, few)

pub returns-then-depth-ne0 : goal.returns-then-depth-ne0
unfolding Lent not_read
returns-then-depth-ne0 c =
    rw c.at-then-depth-ne0.ensures (
      unread _ _ (going_open c.loop-at.invariant.0 c.loop-at-test.false _ c.depth.ensures.1 c.if-depth-ne0.true) refl,
      c.loop-at.invariant.1 ∙ started_long _ c.start.ensures.0,
      going_long c.loop-at.invariant.0 ∙ sym c.requires,
    )

pub returns : goal.returns
unfolding lines_read Lent
returns c = (
  going_closed c.loop-at.invariant.0 c.loop-at-test.false _ c.depth.ensures.1 c.if-depth-ne0.false,
  c.loop-at.invariant.1 ∙ started_long _ c.start.ensures.0,
  going_long c.loop-at.invariant.0 ∙ sym c.requires,
)
