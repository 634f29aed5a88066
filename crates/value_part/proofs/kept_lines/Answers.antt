-- Between two lines the part so far and the lines that are kept from there on are the group's part (`Going`): a line that is not kept changes only
-- how far it is gone (going_past), one that is kept joins the part (going_next), and past the last line the part is whole (going_end).
use Rattle.std.proofs.Common.{ap, ◌∙◌, ◌<◌, arith, length-take}
use Rattle.std.proofs.lemmas.Bool.{not-true, not-false}
use Rattle.std.proofs.lemmas.List.{get_or-take}
use Rattle.spec_text.specs.declared.Line.{Line}
use Rattle.law_text.specs.ValueLaws.{given_fits}
use Rattle.value_part.specs.PartSteps.{numbered_as, gone_on}
use Rattle.value_part.specs.PartLaws.{going_start, going_room, going_past, going_next, going_end}
use Rattle.value_part.proofs.kept_lines.Goals as goal

pub loop-l-init : goal.loop-l-init
loop-l-init c = going_start c.requires c.unused_cells-part.ensures

-- the lines are among the cells, and there is a cell for the line that is kept
pub shared_ref_as_front-l-items : goal.shared_ref_as_front-l-items
shared_ref_as_front-l-items c = given_fits c.requires

room : (c : goal.After-numbered) → c.loop-l.part.count < 1616
room c =
    let inside : c.loop-l.l-index < c.args.w.count = omega (arith, c.loop-l-test.true, length-take {A = Line}) in
    going_room c.requires c.loop-l.invariant inside

pub offset_bounds-part-part : goal.offset_bounds-part-part
offset_bounds-part-part c = omega (arith, room c)

pub bounds-part-part : goal.bounds-part-part
bounds-part-part c = room c

pub overflow_add-part : goal.overflow_add-part
overflow_add-part c = omega (arith, room c)

pub loop-l-preserved-then-not-at : goal.loop-l-preserved-then-not-at
loop-l-preserved-then-not-at c =
    let inside : c.loop-l.l-index < c.args.w.count = omega (arith, c.loop-l-test.true, length-take {A = Line}) in
    going_past c.requires c.loop-l.invariant inside _
    (c.go_on-at.ensures ∙ ap (gone_on c.args.group c.loop-l.at) (get_or-take _ _ _ _ inside)) (not-true _ c.if-not-at.true)

pub loop-l-preserved : goal.loop-l-preserved
loop-l-preserved c =
    let inside : c.loop-l.l-index < c.args.w.count = omega (arith, c.loop-l-test.true, length-take {A = Line}) in
    going_next c.requires c.loop-l.invariant inside _
    (c.go_on-at.ensures ∙ ap (gone_on c.args.group c.loop-l.at) (get_or-take _ _ _ _ inside)) (not-false _ c.if-not-at.false)
    (c.numbered.ensures ∙ ap (numbered_as c.loop-l.at.chosen) (get_or-take _ _ _ _ inside))

pub returns : goal.returns
returns c = going_end c.requires c.loop-l.invariant (omega (arith, c.loop-l-test.false, given_fits c.requires, length-take {A = Line}))
