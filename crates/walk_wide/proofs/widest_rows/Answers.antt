-- After r turns the words of r rounds stand (rounds_turn), after `rounds` turns all (rounds_end).
use native.Mathlib.Omega.{arith}
use Rattle.walk_reach.specs.FilledLaws.{written_none}
use Rattle.walk_wide.specs.WideLaws.{rounds_turn, rounds_end}
use Rattle.walk_wide.proofs.widest_rows.Goals as goal

pub loop-r-init : goal.loop-r-init
loop-r-init c = written_none _ _ _

pub widest_row-requires : goal.widest_row-requires
widest_row-requires c =
    let there = c.nodes_there-n.ensures in
    let long = c.requires.1 in
    let inv = c.loop-r.invariant in
    let size = inv.size in
    (there.0, there.1, there.2, omega arith, omega arith, λ i h. inv.inside i (omega arith) h)

pub loop-r-preserved : goal.loop-r-preserved
loop-r-preserved c = rounds_turn _ _ _ _ c.loop-r.invariant c.widest_row.ensures

pub returns : goal.returns
returns c = rounds_end _ _ _ _ _ (omega arith) (omega arith) c.loop-r.invariant
