-- The fronts of the two areas are tables for as many nodes as both have room for (front-tables); filled, with the rest of the areas behind, they
-- are what is promised (picked-as).
use mathlib.Core.Path.{sym, ap, ◌∙◌}
use Prim.Native.Nat.{min}
use lib.Seq.{length-take-le}
use Rattle.walk_pick.specs.Picks.{room_in}
use Rattle.walk_pick.specs.PairLaws.{front_tables, picked_as}
use borrow.Author.Rules.{rules}
use native.Mathlib.Omega.{arith}
use Rattle.walk_pick.proofs.pick_edges.Goals as goal

pub slice_bounds-pick_rows-end-4 : goal.slice_bounds-pick_rows-end-4
slice_bounds-pick_rows-end-4 c =
    let whole = c.min-limit.ensures in
    let least = c.min-room.ensures in
    sym (length-take-le _ _ (omega arith))

pub slice_bounds-pick_rows-end-6 : goal.slice_bounds-pick_rows-end-6
slice_bounds-pick_rows-end-6 c =
    let whole = c.min-limit.ensures in
    let least = c.min-room.ensures in
    sym (length-take-le _ _ (omega arith))

pub pick_rows-requires : goal.pick_rows-requires
unfolding room_in
pick_rows-requires c =
    let front = front_tables _ _ (c.min-limit.ensures ∙ ap (min 64) c.min-room.ensures) in
    record {
      next_size = search rules;
      work_size = search rules;
      forwards_for = front.2;
      backs_for = front.3;
    }

pub returns : goal.returns
unfolding room_in
returns c =
    let picked = c.pick_rows.ensures in
    record {
      picked_as = picked_as _ _ _ (c.min-limit.ensures ∙ ap (min 64) c.min-room.ensures) picked.rows_added;
      next_lent = picked.next_lent;
      work_lent = picked.work_lent;
    }
