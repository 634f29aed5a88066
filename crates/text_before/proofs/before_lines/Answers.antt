-- At each place the words hold the lines taken so far: bytes that are no line, or a fault, end taking there, else the line is taken and taking goes
-- on at the place after it; at the end no line is left.
use Rattle.std.proofs.Common.{[], drop, refl, sym, ◌∙◌, arith}
use Rattle.refusal.specs.NumberLaws.{number_some}
use Rattle.spec_text.specs.Text.{lines_in}
use Rattle.text_fields.specs.LineInLaws.{step_value, step_wrong, line_here}
use Rattle.line_rules.specs.WordsHold.{HoldsWords}
use Rattle.text_before.specs.Before.{taken_before}
use Rattle.text_before.specs.TakenLaws.{taking_first, taking_at, taking_wrong, taking_stops, taking_next, taking_ends}
use Rattle.text_before.proofs.before_lines.Goals as goal

pub loop-at-init : goal.loop-at-init
loop-at-init c = taking_first _ _ c.start.ensures.1

pub loop-at-smaller : goal.loop-at-smaller
loop-at-smaller c =
    let text = c.args.text.now in
    let inside = c.loop-at-test.true in
    let next = (step_value _ _ (sym c.in-Some.is ∙ c.line_in.ensures)).1 in
    let further = (line_here text c.loop-at.at inside).1 in
    omega arith

pub loop-at-preserved : goal.loop-at-preserved
loop-at-preserved c =
    let line = step_value _ _ (sym c.in-Some.is ∙ c.line_in.ensures) in
    taking_at (taking_next c.loop-at.invariant c.loop-at-test.true line.0 c.in-Ok.ensures refl) line.1

-- whichever way the loop is left, the words hold what is taken
held : (c : goal.After-counted) → HoldsWords c.loop-at-test.words (taken_before [] (lines_in (drop c.args.start c.args.text.now)))
held c =
    let going = c.loop-at.invariant in
    elim c.loop-at-test.branch [
      | goal.else-loop-at-test w ↦ rw w.words-is (taking_ends going w.loop-at-test.false)
      | goal.then-loop-at-test+in_default w ↦ rw w.words-is (taking_wrong going w.loop-at-test.true (step_wrong _ _ (sym w.in_default.is ∙ w.line_in.ensures)))
      | goal.then-loop-at-test+in-Some+in_default-take_tested w ↦
          let here = step_value _ _ (sym w.in-Some.is ∙ w.line_in.ensures) in
          rw w.words-is (taking_stops going w.loop-at-test.true here.0 w.in_default-take_tested.ensures (number_some _))
    ]

pub returns : goal.returns
returns c = c.counted.ensures _ (held c)
