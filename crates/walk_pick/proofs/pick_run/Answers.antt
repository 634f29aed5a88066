-- The run tells the marks of its last edges; their words are kept for the nodes of the two rows (run-added).
use mathlib.Core.Path.{ap, refl}
use Rattle.place_row.specs.declared.Row.{Row}
use Rattle.walk_pick.specs.PairLaws.{row_whole}
use Rattle.walk_pick.specs.RunLaws.{run_added}
use Rattle.walk_pick.proofs.pick_run.Goals as goal

pub whole_row-q-requires : goal.whole_row-q-requires
whole_row-q-requires c = row_whole _ c.args.s.now.counted c.requires.0.0

pub run_from-t-requires : goal.run_from-t-requires
run_from-t-requires c =
    (c.requires.0, ap (λ (x : Row). x.relation) c.whole_row-q.ensures)

pub returns : goal.returns
returns c =
    run_added c.run_from-t.ensures c.whole_row-q.ensures c.args.s.now.loose_is
    refl c.keep_forward.ensures refl c.keep_back.ensures
