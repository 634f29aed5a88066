-- Which forward steps count, over words: how far a step into a node must open.
use Rattle.std.specs.Prelude.{cond, List, ℕ, zero, suc, min, eqb, ltb, get_or}
use Rattle.spec_base.specs.Basic.{has}
use Rattle.pick_laws.specs.declared.Going.{Going}
use Rattle.pick_laws.specs.Completing.{least_below, leaves_at}
use Rattle.pick_laws.specs.Demands.{only_if}
use Rattle.edge_word.specs.Coding.{backs_in}
use Rattle.walk_nodes.specs.Nodes.{list_below}
use Rattle.walk_reach.specs.Layers.{wide_at}

-- the place at which a back edge leaves x for y, where y is one of the nodes
unfoldable pub leaves_for : List ℕ → ℕ → ℕ → ℕ → ℕ
leaves_for backs nodes x y = cond (has nodes y) (leaves_at (backs_in backs x y)) 1024

-- the first such place
unfoldable pub first_leaving : List ℕ → ℕ → ℕ → ℕ
first_leaving backs nodes x = least_below (leaves_for backs nodes x) 1024 64

unfoldable pub opening_need : List ℕ → List ℕ → List ℕ → ℕ → ℕ → ℕ
opening_need backs ways opened zero y = 1025
opening_need backs ways opened (suc r) y = cond (has (get_or opened (suc r) 0) y) 0 (suc (first_leaving backs (get_or ways r 0) y))

unfoldable pub ending_need : List ℕ → ℕ → ℕ → ℕ → ℕ → ℕ
ending_need wide s k zero y = cond (eqb y s) (min (suc k) 1025) 1025
ending_need wide s k (suc r) y = only_if (ltb k (wide_at wide r y))

-- how far a forward step into y must open, where r steps are left after it
unfoldable pub need_at : List ℕ → List ℕ → List ℕ → List ℕ → ℕ → ℕ → Going → ℕ → ℕ
need_at backs ways opened wide s r Going.Starting y = opening_need backs ways opened r y
need_at backs ways opened wide s r (Going.Opening k) y = opening_need backs ways opened r y
need_at backs ways opened wide s r Going.Closing y = only_if (has (get_or ways r 0) y)
need_at backs ways opened wide s r (Going.Ending k) y = ending_need wide s k r y

-- the same where y is one of the nodes; no step into another counts
unfoldable pub need_among : List ℕ → List ℕ → List ℕ → List ℕ → ℕ → ℕ → ℕ → Going → ℕ → ℕ
need_among backs ways opened wide s nodes r going y = cond (has nodes y) (need_at backs ways opened wide s r going y) 1025

-- the same for each of 64 nodes
unfoldable pub needs_of : List ℕ → List ℕ → List ℕ → List ℕ → ℕ → ℕ → ℕ → Going → List ℕ
needs_of backs ways opened wide s nodes r going = list_below (need_among backs ways opened wide s nodes r going) 64
