-- Refusals because of the state, and the verdict (docs/MODEL.md, "Refused because of the state", "The dangerous walk"). Believed.
use Rattle.std.specs.Prelude.{Bool, true, false, ◌||◌, List, [], ◌∷◌, ◌≡◌, ℕ, zero, suc, ◌+◌, ltb, length}
use Rattle.std.proofs.Math.Option.{Option, none, some}
use Rattle.spec_base.specs.Basic.{count}
use Rattle.spec_text.specs.declared.Line.{Line}
use Rattle.spec_text.specs.declared.Workload.{Workload}
use Rattle.spec_text.specs.Value.{Given, lines_of}
use Rattle.spec_graph.specs.Graph.{Graph, is_back}
use Rattle.spec_graph.specs.Program.{programs_of}
use Rattle.spec_graph.specs.Unfolding.{Node, nodes_of}
use Rattle.spec_graph.specs.Edge.{edges_of, graph_of}
use Rattle.spec_graph.specs.Walk.{DangerousWalk}

-- the statements in unfoldings
unfoldable pub statements_in : List Node → ℕ
statements_in [] = 0
statements_in (n ∷ nodes) = length n.places + statements_in nodes

-- S22: over 64 unfoldings, or over 512 statements in them
unfoldable pub is_too_many : List Line → Bool
is_too_many lines = ltb 64 (length (nodes_of lines)) || ltb 512 (statements_in (nodes_of lines))

-- S21, S22, S20 in this order: the refusal's number, or that there is none; `short` says that a lent area is too short
pub data StateRefusal (w : Workload) (short : Bool) : Option ℕ → Type 0 where
  not_given : (Given w → ⊥) → StateRefusal w short (some 21)
  too_many : Given w → is_too_many (lines_of w) ≡ true → StateRefusal w short (some 22)
  too_short : Given w → is_too_many (lines_of w) ≡ false → short ≡ true → StateRefusal w short (some 20)
  taken : Given w → is_too_many (lines_of w) ≡ false → short ≡ false → StateRefusal w short none

-- a refusal as the code answers it: its number, or 0 for none
unfoldable pub refusal_of : ℕ → Option ℕ
refusal_of zero = none
refusal_of (suc n) = some (suc n)

-- S20: an area for unfoldings, shorter than their statements
unfoldable pub short_for_unfoldings : List Line → ℕ → Bool
short_for_unfoldings lines area = ltb area (statements_in (nodes_of lines))

-- S20: an area for edges, shorter than the edges
unfoldable pub short_for_edges : List Line → ℕ → Bool
short_for_edges lines area = ltb area (length (edges_of (nodes_of lines)))

-- S20: an area for the walk, under 65 steps
unfoldable pub short_for_walk : ℕ → Bool
short_for_walk steps = ltb steps 65

-- P1: programs, nodes, edges of both flows, back edges
pub record Counts : Type 0 where
  pub programs : ℕ
  pub nodes : ℕ
  pub edges : ℕ
  pub back : ℕ

abbrev pub counted : ℕ → ℕ → ℕ → ℕ → Counts
counted programs nodes edges back = record { programs = programs; nodes = nodes; edges = edges; back = back }

unfoldable pub counts_of : List Line → Counts
counts_of lines =
    let nodes = nodes_of lines in
    let edges = edges_of nodes in
    record
    { programs = length (programs_of lines); nodes = length nodes; edges = length edges; back = count (λ e. is_back e.flow) edges }

-- the summary graph of a workload
unfoldable pub summary_graph : List Line → Graph
summary_graph lines = graph_of (nodes_of lines)

-- demand 2: danger where a dangerous closed walk exists, robust where none exists
abbrev pub Danger : List Line → Type 0
Danger lines = DangerousWalk (summary_graph lines)

abbrev pub Robust : List Line → Type 0
Robust lines = Danger lines → ⊥
