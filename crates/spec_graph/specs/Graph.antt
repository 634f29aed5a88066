-- A graph of nodes, places and edges with a flow, as the walk rules see it. Believed.
use Rattle.std.specs.Prelude.{Bool, true, false, ℕ}

pub data Flow : Type 0 where
  forward back : Flow

abbrev pub is_back : Flow → Bool
is_back forward = false
is_back back = true

-- nodes 0 to size - 1, node m with places 0 to places m - 1; `edge m i n j flow`: an edge leaves m at i and enters n at j;
-- `loose m i`: an edge that leaves m at i makes a pair dangerous by its kind
pub record Graph : Type 0 where
  pub size : ℕ
  pub places : ℕ → ℕ
  pub edge : ℕ → ℕ → ℕ → ℕ → Flow → Bool
  pub loose : ℕ → ℕ → Bool
