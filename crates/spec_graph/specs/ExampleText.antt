-- The words of a text and what is seen of a workload, for the examples of the rules.
use Rattle.std.specs.Prelude.{Bool, ℕ}
use mathlib.Core.List.{List, [], ◌∷◌, map, flat_map}
use Rattle.std.specs.Int.Count.{ones_in, count_trailing_zeros}
use Rattle.spec_base.specs.Basic.{keep, numbers}
use Rattle.spec_text.specs.declared.Line.{Line}
use Rattle.spec_text.specs.declared.LineKind.{LineKind}
use Rattle.spec_text.specs.declared.LineKind.TheVariants.{Rl, Fk, Pr, St, Lo, Br, El, En, Li}
use Rattle.spec_text.specs.declared.StatementKind.TheVariants.{Is, Ks, Ps, Ku, Pu, Kd, Pd, Kl}
use Rattle.spec_graph.specs.Graph.{Flow, Graph, is_back}
use Rattle.spec_graph.specs.Program.{statement_of, in_front_of, run_of, programs_of, links_of}
use Rattle.spec_graph.specs.Unfolding.{inside, occurrences, pairs, unfoldings, nodes_of_program, nodes_from, nodes_of}
use Rattle.spec_graph.specs.Edge.{Letter, Edge, W, R, T, holds, same_relation}
use Rattle.spec_graph.specs.Edge.{leads, binds, has_parent, guarded_near, guarded_far, shielded, forward, back}
use Rattle.spec_graph.specs.Edge.{places_from, places_of, letter_of, shared, edge_of, edges_between, edges_of, place_at, graph_of}
use Rattle.spec_graph.specs.Walk.{Step, is_edge, dangerous_pair, is_dangerous}

-- ---- The lines of a text: each kind's word with the values that it has, in the text's order

abbrev pub line : LineKind → ℕ → ℕ → ℕ → ℕ → ℕ → ℕ → Line
line kind id rel to reads writes tests =
    record { kind = kind; id = id; rel = rel; to = to; reads = reads; writes = writes; tests = tests }

abbrev pub rl : ℕ → ℕ → Line
rl id reads = line Rl id 0 0 reads 0 0

abbrev pub fk : ℕ → ℕ → ℕ → Line
fk id rel to = line Fk id rel to 0 0 0

abbrev pub pr : ℕ → Line
pr id = line Pr id 0 0 0 0 0

abbrev pub is : ℕ → ℕ → ℕ → Line
is id rel writes = line (St Is) id rel 0 0 writes 0

abbrev pub ks : ℕ → ℕ → ℕ → Line
ks id rel reads = line (St Ks) id rel 0 reads 0 0

abbrev pub ps : ℕ → ℕ → ℕ → ℕ → Line
ps id rel reads tests = line (St Ps) id rel 0 reads 0 tests

abbrev pub ku : ℕ → ℕ → ℕ → ℕ → Line
ku id rel reads writes = line (St Ku) id rel 0 reads writes 0

abbrev pub pu : ℕ → ℕ → ℕ → ℕ → ℕ → Line
pu id rel reads writes tests = line (St Pu) id rel 0 reads writes tests

abbrev pub kd : ℕ → ℕ → ℕ → Line
kd id rel writes = line (St Kd) id rel 0 0 writes 0

abbrev pub pd : ℕ → ℕ → ℕ → ℕ → Line
pd id rel writes tests = line (St Pd) id rel 0 0 writes tests

abbrev pub kl : ℕ → ℕ → ℕ → Line
kl id rel reads = line (St Kl) id rel 0 reads 0 0

abbrev pub lo : Line
lo = line Lo 0 0 0 0 0 0

abbrev pub br : Line
br = line Br 0 0 0 0 0 0

abbrev pub el : Line
el = line El 0 0 0 0 0 0

abbrev pub en : Line
en = line En 0 0 0 0 0 0

abbrev pub li : ℕ → ℕ → ℕ → Line
li id rel to = line Li id rel to 0 0 0

-- ---- What is seen of a workload

-- its nodes: of each the program's number and the ids of the statements; whoever unfolds this can compute unfoldings
unfoldable pub nodes : List Line → List (ℕ × List ℕ)
unfolding statement_of in_front_of run_of links_of programs_of inside occurrences pairs flat_map unfoldings nodes_of_program nodes_from nodes_of
nodes lines = map (λ n. (n.program, map (λ o. o.statement.id) n.places)) (nodes_of lines)

-- the ids of the statements of each node, for a workload of one program with these lines
unfoldable pub ids : List Line → List (List ℕ)
unfolding nodes
ids body = map (λ n. map (λ o. o.statement.id) n.places) (nodes_of (rl 0 1 ∷ pr 0 ∷ body))

-- the records of its edges; whoever unfolds this can compute edges
unfoldable pub edges : List Line → List Edge
unfolding nodes W R T holds same_relation leads binds has_parent guarded_near guarded_far shielded forward back places_from places_of
    letter_of shared edge_of edges_between edges_of ones_in count_trailing_zeros
edges lines = edges_of (nodes_of lines)

-- a record: node left, place left, node entered, place entered, flow, letter, attributes shared, the lowest of them
abbrev pub edge : ℕ → ℕ → ℕ → ℕ → Flow → Letter → ℕ → ℕ → Edge
edge node leaves into enters flow letter sharing lowest =
    record {
      node = node;
      leaves = leaves;
      into = into;
      enters = enters;
      flow = flow;
      letter = letter;
      sharing = sharing;
      lowest = lowest;
    }

-- the places that its back edges leave and enter
unfoldable pub backs : List Line → List (ℕ × ℕ × ℕ × ℕ)
unfolding edges
backs lines = map (λ e. (e.node, e.leaves, e.into, e.enters)) (keep (λ e. is_back e.flow) (edges lines))

-- its graph; whoever unfolds this can compute walks
unfoldable pub graph : List Line → Graph
unfolding edges place_at graph_of is_edge dangerous_pair is_dangerous
graph lines = graph_of (nodes_of lines)

-- the test of a walk
unfoldable pub dangerous : List Line → List Step → Bool
unfolding graph
dangerous lines walk = is_dangerous (graph lines) walk

-- a step: node left, place left, place entered, flow
abbrev pub step : ℕ → ℕ → ℕ → Flow → Step
step node leaves enters flow = record { node = node; leaves = leaves; enters = enters; flow = flow }

-- a back edge leaves this place of this node and enters that place of that node
unfoldable pub is_back_edge : List Line → ℕ → ℕ → ℕ → ℕ → Bool
unfolding graph
is_back_edge lines m i n j = (graph lines).edge m i n j Flow.back

-- N2: how many nodes it has, and how many places each
unfoldable pub sizes : List Line → ℕ × List ℕ
unfolding graph
sizes lines = ((graph lines).size, map (graph lines).places (numbers (graph lines).size))

-- ---- The examples of the station

-- the base text up to program 1
abbrev pub station : List Line → List Line
station program =
    rl 0 3 ∷ rl 1 3 ∷ fk 0 1 0 ∷ pr 0 ∷ ku 0 0 2 2 ∷ ku 1 1 0 2 ∷ li 0 1 0 ∷ pr 1 ∷ program

-- the base text
abbrev pub base : List Line
base = station (ps 0 1 2 2 ∷ [])

-- `ps` twice
abbrev pub twice : List Line
twice = station (ps 0 1 2 2 ∷ ps 1 1 2 2 ∷ [])

-- ks first, then ku, linked
abbrev pub select_first : List Line
select_first = station (ks 0 1 2 ∷ ku 1 0 2 2 ∷ li 0 0 1 ∷ [])
