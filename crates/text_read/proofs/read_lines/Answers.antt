-- The line at each place is the first of those left (line_here): where it is none, or fails a test, reading ends with that refusal; else it is taken
-- and stands in the value, and reading goes on at the place after it (going_next); at the end no block may be open.
use Rattle.std.proofs.Common.{◌≡◌, refl, sym, ap, ◌∙◌, arith, rules}
use Rattle.std.proofs.lemmas.Result.{err_from_is_err_and}
use Rattle.refusal.specs.NumberLaws.{number_some}
use Rattle.text_fields.specs.LineInLaws.{step_value, step_wrong, line_here}
use Rattle.text_read.specs.Parse.{parsed_as}
use Rattle.text_read.specs.ParseLaws.{going_first, going_at, going_few, going_wrong, going_fault, going_room, going_next, going_open, going_closed}
use Rattle.text_read.proofs.read_lines.Goals as goal

pub loop-at-init : goal.loop-at-init
loop-at-init c = going_first _ _ c.unused_cells-w.ensures c.start.ensures.1

pub overflow_add-line : goal.overflow_add-line
overflow_add-line c = let few = going_few c.loop-at.invariant in search (rules, few)

-- no line is here
pub returns-in_err-l : goal.returns-in_err-l
unfolding parsed_as
returns-in_err-l c =
    let wrong = step_wrong _ _ (sym c.in_err-l.ensures.ok_part ∙ c.line_in.ensures) in
    let p = err_from_is_err_and c.from_residual.result c.from_residual.ensures.1 in
    let value = rw c.in_err-l.ensures.ok_part at c.in_err-l.ensures.value in
    let told : c.in_err-l.field-0.0 ≡ c.at.result = cc in
    rw (p.1, p.2, told, c.at.ensures) (ap parsed_as (going_wrong c.loop-at.invariant c.loop-at-test.true wrong))

-- the line taken fails a test
pub returns-in-Err : goal.returns-in-Err
unfolding parsed_as
returns-in-Err c =
    let line = step_value _ _ (sym c.in_ok-l.ensures.ok_part ∙ c.line_in.ensures) in
    rw c.at-in-Err.ensures (ap parsed_as (going_fault c.loop-at.invariant c.loop-at-test.true line.0 c.in-Err.ensures (number_some _)))

-- it passes them: there is room for it
pub bounds-w-n : goal.bounds-w-n
bounds-w-n c =
    let line = step_value _ _ (sym c.in_ok-l.ensures.ok_part ∙ c.line_in.ensures) in
    going_room c.loop-at.invariant c.loop-at-test.true line.0 c.in_default.ensures refl

pub offset_bounds-w-n : goal.offset_bounds-w-n
offset_bounds-w-n c =
    let line = step_value _ _ (sym c.in_ok-l.ensures.ok_part ∙ c.line_in.ensures) in
    let room = going_room c.loop-at.invariant c.loop-at-test.true line.0 c.in_default.ensures refl in
    search (rules, room)

pub loop-at-smaller : goal.loop-at-smaller
loop-at-smaller c =
    let text = c.args.text.now in
    let inside = c.loop-at-test.true in
    let next = (step_value _ _ (sym c.in_ok-l.ensures.ok_part ∙ c.line_in.ensures)).1 in
    let further = (line_here text c.loop-at.at inside).1 in
    omega arith

pub loop-at-preserved : goal.loop-at-preserved
loop-at-preserved c =
    let line = step_value _ _ (sym c.in_ok-l.ensures.ok_part ∙ c.line_in.ensures) in
    going_at (going_next c.loop-at.invariant c.loop-at-test.true line.0 c.in_default.ensures refl) line.1

pub overflow_add-w-then-depth-ne0 : goal.overflow_add-w-then-depth-ne0
overflow_add-w-then-depth-ne0 c = let few = going_few c.loop-at.invariant in search (rules, few)

pub returns-then-depth-ne0 : goal.returns-then-depth-ne0
unfolding parsed_as
returns-then-depth-ne0 c =
    rw c.at-then-depth-ne0.ensures
    (ap parsed_as (going_open c.loop-at.invariant c.loop-at-test.false _ c.depth.ensures.1 c.if-depth-ne0.true))

pub returns : goal.returns
returns c = going_closed c.loop-at.invariant c.loop-at-test.false _ c.depth.ensures.1 c.if-depth-ne0.false
