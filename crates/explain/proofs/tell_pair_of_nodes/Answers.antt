-- It is safe: of the edges that are counted some are back (back_within), so the forward ones are the others.
use Rattle.edge_between.specs.RowLaws.{back_within}
use Rattle.explain.proofs.tell_pair_of_nodes.Goals as goal

pub overflow_sub-c : goal.overflow_sub-c
overflow_sub-c c = back_within _ _ _ _ _ c.count_between-c.ensures
