-- The tables are cleared (rows-first), the rows are chained and their words put; after i rows the tables hold the greatest words of the pairs so far
-- and the numbers count their edges (rows-turn); after the last row they are filled (all-picked).
use Rattle.edge_count.specs.SlotLaws.{rows_few}
use Rattle.lent_words.specs.Lent.{Lent}
use Rattle.walk_pick.specs.PairLaws.{rows_first, rows_turn, rows_most, row_most}
use Rattle.walk_pick.specs.PickStepLaws.{rows_tables, all_picked}
use Rattle.walk_pick.specs.WorkLaws.{next_known, heads_known}
use native.Mathlib.Omega.{arith}
use mathlib.Core.Path.{sym, ◌∙◌}
use Rattle.walk_pick.proofs.pick_rows.Goals as goal

pub overflow_mul-limit : goal.overflow_mul-limit
overflow_mul-limit c =
    let few = c.requires.forwards_for.few in
    record { fits = omega arith }

pub overflow_mul-limit-2 : goal.overflow_mul-limit-2
overflow_mul-limit-2 c =
    let few = c.requires.forwards_for.few in
    record { fits = omega arith }

pub fill_work-requires : goal.fill_work-requires
fill_work-requires c =
    let known = c.requires in
    let rows = c.row_count-n.ensures in
    let few = rows_few _ _ rows in
    let size = known.next_size in
    next_known rows (omega arith) known.work_size c.chain_rows-heads.ensures

pub loop-i-init : goal.loop-i-init
loop-i-init c =
    let known = c.requires in
    let first = c.clear in
    let second = c.clear-2 in
    rows_first _ _ _ known.forwards_for known.backs_for first.ensures second.ensures

pub pick_row-t-requires : goal.pick_row-t-requires
pick_row-t-requires c =
    let rows = c.row_count-n.ensures in
    let loop = c.loop-i in
    let tables = rows_tables c.requires.forwards_for.few loop.invariant in
    record {
      rows = rows;
      worked = c.fill_work.ensures;
      firsts = heads_known rows c.chain_rows-heads.ensures;
      inside = c.loop-i-test.true;
      forwards_for = tables.0;
      backs_for = tables.1;
    }

pub overflow_add-edges : goal.overflow_add-edges
overflow_add-edges c =
    let few = rows_few _ _ c.row_count-n.ensures in
    let h = rows_most few c.loop-i.invariant in
    let l = c.loop-i-test.true in
    let m = row_most c.pick_row-t.ensures in
    record { fits = omega (arith, h.0, m.0) }

pub overflow_add-back : goal.overflow_add-back
overflow_add-back c =
    let few = rows_few _ _ c.row_count-n.ensures in
    let h = rows_most few c.loop-i.invariant in
    let l = c.loop-i-test.true in
    let m = row_most c.pick_row-t.ensures in
    record { fits = omega (arith, h.1, m.1) }

pub loop-i-preserved : goal.loop-i-preserved
loop-i-preserved c =
    rows_turn _ _ _ _ c.loop-i.invariant c.pick_row-t.ensures

pub returns : goal.returns
unfolding Lent
returns c =
    let loop = c.loop-i.invariant in
    let filled = c.fill_work.ensures in
    record {
      rows_added = all_picked _ _ _ _ c.row_count-n.ensures c.loop-i.auto.i-end c.loop-i-test.false loop;
      next_lent = c.chain_rows-heads.ensures.size;
      work_lent = filled.size ∙ sym c.requires.work_size;
    }
