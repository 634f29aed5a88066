-- After the measuring the words for the runs stand (measured-held). The totals tell nodes and statements, stopped at 513, so 22 and 20 are tested
-- exactly (into-refused); past them all pieces fit the area (all_fit) and are told (into-told).
use mathlib.Core.Path.{sym}
use Rattle.unfold.proofs.PrefixLaws.{measured_held}
use Rattle.unfold.proofs.UnfoldLaws.{into_refused, all_fit, into_told}
use Rattle.unfold.proofs.UnfoldSettledLaws.{ready_lines}
use Rattle.unfold.proofs.unfold_counted.Goals as goal

pub returns-in-Some : goal.returns-in-Some
returns-in-Some c = into_refused _ _ _ _ _ c.measure-t.ensures.totals _ _ (sym c.in-Some.ensures)

pub write_all-all-requires : goal.write_all-all-requires
write_all-all-requires c =
    record {
      held = measured_held _ _ c.requires.countable _ _ c.measure-t.ensures;
      all_fit = all_fit _ _ _ _ _ c.measure-t.ensures.totals (sym c.in_default.ensures) (ready_lines _ _);
      wide = c.requires.wide;
    }

pub returns : goal.returns
returns c =
    into_told _ _ _ _ _ c.measure-t.ensures.totals (sym c.in_default.ensures) (ready_lines _ _) _
    c.requires.wide _ _ c.write_all-all.ensures
