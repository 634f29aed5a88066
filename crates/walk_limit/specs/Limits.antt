-- Which back steps count, over words: below which place a step into a node must leave.
use Rattle.std.specs.Prelude.{cond, List, ℕ, zero, suc, get_or}
use Rattle.spec_base.specs.Basic.{has}
use Rattle.pick_laws.specs.declared.Going.{Going}
use Rattle.walk_nodes.specs.Nodes.{list_below}
use Rattle.walk_reach.specs.Layers.{wide_at}

unfoldable pub starting_limit_at : List ℕ → ℕ → ℕ → ℕ
starting_limit_at wide zero y = 0
starting_limit_at wide (suc r) y = wide_at wide r y

-- below which place a back step into y must leave, where r steps are left after it
unfoldable pub limit_at : List ℕ → List ℕ → ℕ → Going → ℕ → ℕ
limit_at ways wide r Going.Starting y = starting_limit_at wide r y
limit_at ways wide r (Going.Opening k) y = cond (has (get_or ways r 0) y) k 0
limit_at ways wide r Going.Closing y = 0
limit_at ways wide r (Going.Ending k) y = 0

-- the same where y is one of the nodes; no step into another counts
unfoldable pub limit_among : List ℕ → List ℕ → ℕ → ℕ → Going → ℕ → ℕ
limit_among ways wide nodes r going y = cond (has nodes y) (limit_at ways wide r going y) 0

-- the same for each of 64 nodes
unfoldable pub limits_of : List ℕ → List ℕ → ℕ → ℕ → Going → List ℕ
limits_of ways wide nodes r going = list_below (limit_among ways wide nodes r going) 64
