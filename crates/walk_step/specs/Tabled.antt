-- A table of places that has the edges of a graph: the least step over it is the least edge of the graph that counts.
use Rattle.std.specs.Prelude.{true, List, ◌≡◌, ℕ, ◌≤◌, ◌<◌, get_or}
use Rattle.spec_graph.specs.Graph.{Flow, Graph}
use Rattle.step_word.specs.declared.Taken.{Taken}
use Rattle.step_word.specs.StepWord.{flow_of, step_word, step_of}
use Rattle.walk_step.specs.LeastStep.{Counts, least_step, loose_at}

-- the step of a word is an edge out of x that counts, and the word is its
pub record FoundStep (g : Graph) (x : ℕ) (needs limits : List ℕ) (word : ℕ) (t : Taken) : Type 0 where
  pub leaves_small : t.leaves < 1024
  pub enters_small : t.enters < 1024
  pub into_small : t.into < 64
  pub edge : g.edge x t.leaves t.into t.enters (flow_of t.back) ≡ true
  pub counts : Counts (get_or needs t.into 0) (get_or limits t.into 0) (flow_of t.back) (g.loose x t.leaves) t.leaves t.enters
  pub same : word ≡ step_word t.leaves t.enters (flow_of t.back) t.into

-- the table of places has the edges of the graph, and the least step over it is the least edge that counts
pub record Tabled (table : List ℕ) (g : Graph) : Type 0 where
  -- the step found is an edge that counts
  pub found : (x : ℕ) (needs limits : List ℕ) → least_step table x needs limits < 134217728
      → FoundStep g x needs limits (least_step table x needs limits) (step_of (least_step table x needs limits))
  -- no edge that counts has a lesser word
  pub least : (x : ℕ) (needs limits : List ℕ) (i y j : ℕ) (flow : Flow) → g.edge x i y j flow ≡ true
      → Counts (get_or needs y 0) (get_or limits y 0) flow (g.loose x i) i j → least_step table x needs limits ≤ step_word i j flow y
  -- the loose places are the graph's
  pub loose : (x i y j : ℕ) (flow : Flow) → g.edge x i y j flow ≡ true → loose_at table x i ≡ g.loose x i
