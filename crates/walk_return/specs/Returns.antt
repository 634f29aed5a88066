-- How soon a way leads back from one of the nodes that stand for a node.
use Rattle.std.specs.Prelude.{Bool, List, ℕ, get_or}
use Rattle.spec_base.specs.Basic.{meets}
use Rattle.pick_laws.specs.Completing.{least_below}
use Rattle.walk_reach.specs.Search.{first_from}
use Rattle.walk_reach.specs.Layers.{layer}

-- u is reached from one of the nodes in at most d steps
unfoldable pub meets_at : List ℕ → ℕ → ℕ → ℕ → Bool
meets_at rows nodes u d = meets nodes (layer rows u d)

-- the fewest steps below 64 in which it is, or 64
unfoldable pub first_meeting : List ℕ → ℕ → ℕ → ℕ
first_meeting rows nodes u = first_from (meets_at rows nodes u) 64 0

-- in how many steps u is reached from one of the nodes that stand for it in `leads`, or 64
unfoldable pub return_from : List ℕ → List ℕ → ℕ → ℕ
return_from rows leads u = first_meeting rows (get_or leads u 0) u

-- the fewest steps in which any of 64 nodes is reached so, or 64
unfoldable pub shortest_return : List ℕ → List ℕ → ℕ
shortest_return rows leads = least_below (return_from rows leads) 64 64
