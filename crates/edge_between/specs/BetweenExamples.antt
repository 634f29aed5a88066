-- Closed theorems that guard the counts between nodes: each changed clause makes one of them false.
use Rattle.std.specs.Prelude.{List, [], ◌∷◌, ◌≡◌, refl, ℕ}
use Rattle.spec_graph.specs.Graph as G
use Rattle.spec_graph.specs.Edge as E
use Rattle.edge_count.specs.declared.Counts.{Counts}
use Rattle.edge_between.specs.Between.{goes, counts_between}

abbrev edge : ℕ → ℕ → G.Flow → E.Edge
edge m n flow =
    record { node = m; leaves = 5; into = n; enters = 6; flow = flow; letter = E.Letter.D; sharing = 1; lowest = 0 }

-- three nodes: from 0 to 1 forward and back, from 0 to 2 forward, from 1 to 1 back, from 2 to 0 forward
abbrev edges : List E.Edge
edges =
    edge 0 1 G.Flow.forward ∷ edge 0 1 G.Flow.back ∷ edge 0 2 G.Flow.forward ∷ edge 1 1 G.Flow.back ∷ edge 2 0 G.Flow.forward ∷ []

abbrev counts : ℕ → ℕ → Counts
counts n back = record { edges = n; back = back }

-- from one node to one: forward and back edges are both counted, back ones also by themselves, and no others
pub two_nodes : counts_between 0 1 1 2 edges ≡ counts 2 1
unfolding counts_between goes
two_nodes = refl

pub other_way : counts_between 1 2 0 1 edges ≡ counts 0 0
unfolding counts_between goes
other_way = refl

pub to_itself : counts_between 1 2 1 2 edges ≡ counts 1 1
unfolding counts_between goes
to_itself = refl

-- from some nodes to all, from all to some, and from none
pub from_first : counts_between 0 1 0 3 edges ≡ counts 3 1
unfolding counts_between goes
from_first = refl

pub from_last : counts_between 1 3 0 3 edges ≡ counts 2 1
unfolding counts_between goes
from_last = refl

pub into_last : counts_between 0 3 2 3 edges ≡ counts 1 0
unfolding counts_between goes
into_last = refl

pub from_none : counts_between 1 1 0 3 edges ≡ counts 0 0
unfolding counts_between goes
from_none = refl
