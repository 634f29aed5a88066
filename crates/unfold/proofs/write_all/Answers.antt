-- Before line i the pieces of the lines before it stand at the area's front, and table and program number tell them (`Going`); each line adds its
-- own (going_next), and at the end all stand (going_end).
use mathlib.Core.Path.{refl}
use native.Mathlib.Omega.{arith}
use Rattle.unfold.proofs.WriteLineLaws.{going_start, going_fits, going_next, going_end, program_small, less_lines}
use Rattle.unfold.proofs.write_all.Goals as goal

pub loop-i-init : goal.loop-i-init
loop-i-init c = going_start _ _ _ _ _

pub write_line-t-requires : goal.write_line-t-requires
write_line-t-requires c =
    let inside = less_lines _ _ _ c.lines_in-i-end.ensures c.loop-i-test.true in
    record {
      i_in_bounds = (inside, c.requires.held);
      line_fits = going_fits _ _ _ _ c.requires.wide refl refl _ c.requires.all_fit _ _ _ _ c.loop-i.invariant inside;
    }

pub next_program-number-requires : goal.next_program-number-requires
next_program-number-requires c = (
  less_lines _ _ _ c.lines_in-i-end.ensures c.loop-i-test.true,
  program_small _ _ _ _ c.requires.wide refl refl _ c.requires.all_fit _ _ _ _ c.loop-i.invariant,
)

pub loop-i-preserved : goal.loop-i-preserved
loop-i-preserved c =
    going_next _ _ _ _ c.requires.wide refl refl _ c.requires.all_fit _ _ _ _ c.loop-i.invariant
    (less_lines _ _ _ c.lines_in-i-end.ensures c.loop-i-test.true) _ _ _ c.write_line-t.ensures c.next_program-number.ensures

pub returns : goal.returns
returns c =
    going_end _ _ _ _ c.requires.wide refl refl _ c.requires.all_fit _ _ _ _ c.loop-i.invariant
    (omega (arith, c.lines_in-i-end.ensures, c.loop-i-test.false))
