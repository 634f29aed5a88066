-- Closed cases of the refusals of the state and of the report: those that the edits need. The others stand in law_report.
use Rattle.std.specs.Prelude.{Bool, true, ◌≡◌, refl, ℕ, zero, suc, replicate}
use mathlib.Core.List.{List, [], ◌∷◌, ◌++◌, flat_map}
use Prim.Native.String.{String}
use Rattle.std.specs.Int.Count.{ones_in, count_trailing_zeros}
use Rattle.law_base.specs.BoolLaws.{true_false}
use Rattle.spec_text.specs.declared.Line.{Line}
use Rattle.spec_text.specs.declared.LineKind.{LineKind}
use Rattle.spec_text.specs.declared.LineKind.TheVariants.{Pr, St, Br, El, En}
use Rattle.spec_text.specs.declared.StatementKind.TheVariants.{Ku}
use Rattle.spec_text.specs.Reading.Outcome.{refused, accepted}
use Rattle.spec_text.specs.Text.{digit, digits_of}
use Rattle.spec_text.specs.Quoted.{bytes, text, read_bytes}
use Rattle.spec_graph.specs.Graph.{Flow}
use Rattle.spec_graph.specs.Program.{statement_of, in_front_of, run_of, links_of, programs_of}
use Rattle.spec_graph.specs.Unfolding.{inside, occurrences, pairs, unfoldings, nodes_of_program, nodes_from, nodes_of}
use Rattle.spec_graph.specs.Edge.{W, R, T, holds, same_relation, leads, binds, has_parent}
use Rattle.spec_graph.specs.Edge.{guarded_near, guarded_far, shielded, forward, back, places_from, places_of, letter_of}
use Rattle.spec_graph.specs.Edge.{shared, edge_of, edges_between, edges_of, place_at, graph_of}
use Rattle.spec_graph.specs.Walk.{Step, is_edge, dangerous_pair, is_dangerous}
use Rattle.spec_graph.specs.FirstWalkExamples.{forth, return}
use Rattle.spec_report.specs.State.{Counts, counts_of, statements_in, is_too_many, summary_graph, short_for_edges, short_for_walk}
use Rattle.spec_report.specs.SmallestWalk.{smallest_first}
use Rattle.spec_report.specs.Report.{verdict_names, robust_word, danger_word, step_names, refused_names, decimal, verdict_line, step_line}
use Rattle.spec_report.specs.Report.{step_lines}
use Rattle.spec_report.specs.Report.{refusal_report, robust_report, danger_report, Report}
use Rattle.spec_report.specs.Report.Report.{robust, danger}

-- ---- S22, S20

unfoldable pub line : LineKind → Line
line k = record { kind = k; id = 0; rel = 0; to = 0; reads = 0; writes = 0; tests = 0 }

-- a branch with two empty arms doubles the unfoldings
unfoldable pub branches : ℕ → List Line
branches zero = []
branches (suc n) = line Br ∷ line El ∷ line En ∷ branches n

unfoldable pub updates : ℕ → List Line
updates n = replicate n (line (St Ku))

unfoldable pub many : List Line → Bool
unfolding
    line branches updates statements_in is_too_many statement_of in_front_of run_of links_of programs_of
    inside occurrences pairs flat_map unfoldings nodes_of_program
    nodes_from nodes_of
many lines = is_too_many lines

-- S22: 64 unfoldings pass, 65 do not
unfoldings_over : many (line Pr ∷ branches 6 ++ (line Pr ∷ [])) ≡ true
unfolding many
unfoldings_over = refl

-- S20: an area for the walk has 65 steps
walk_short : short_for_walk 64 ≡ true
unfolding short_for_walk
walk_short = refl

-- ---- P1, P2, P3: the bytes of a report

counts : Counts
counts = record { programs = 1; nodes = 3; edges = 9; back = 0 }

unfoldable pub robust_bytes : List ℕ
unfolding bytes digit digits_of decimal verdict_names robust_word danger_word verdict_line robust_report counts
robust_bytes = robust_report counts

danger_bytes : List ℕ
unfolding robust_bytes step_names step_line step_lines danger_report
danger_bytes =
    danger_report (record { programs = 2; nodes = 5; edges = 524288; back = 10 })
    (record { node = 4; leaves = 2; enters = 1; flow = Flow.forward } ∷ record { node = 3; leaves = 17; enters = 0; flow = Flow.back } ∷ [])

-- P2
danger_bytes_lem : danger_bytes
    ≡ text
    ("verdict programs nodes edges back" ∷ "danger 2 5 524288 10" ∷ "step node leaves enters flow" ∷ "0 4 2 1 f" ∷ "1 3 17 0 b" ∷ [])
unfolding danger_bytes text
danger_bytes_lem = refl

unfoldable pub refusal_of_lem : ℕ → ℕ → List ℕ
unfolding robust_bytes refused_names refusal_report
refusal_of_lem number line = refusal_report number line

-- P3
refusal_bytes : refusal_of_lem 22 0 ≡ text ("refused line" ∷ "22 0" ∷ [])
unfolding refusal_of_lem text
refusal_bytes = refl

-- S20: whether an area is short for edges; who unfolds this can compute them
unfoldable pub edges_short : List Line → ℕ → Bool
unfolding
    many short_for_edges W R T holds same_relation leads binds has_parent guarded_near guarded_far shielded forward back places_from places_of
    letter_of shared edge_of edges_between
    edges_of ones_in count_trailing_zeros
edges_short lines area = short_for_edges lines area

-- ---- reports of texts

abbrev pub names : String
names = "kind id rel to reads writes tests"

-- the outcome of a text, computed
unfoldable pub taken_lines : List ℕ → List Line
unfolding read_bytes
taken_lines t = elim (read_bytes t) [ refused number line ↦ [] | accepted lines ↦ lines ]

-- N1, P1: the names line alone is robust: with no node no step is an edge
no_walk : (walk : List Step) → is_dangerous (summary_graph []) walk ≡ true → ⊥
unfolding many summary_graph graph_of place_at is_dangerous is_edge dangerous_pair
no_walk [] h = true_false h refl
no_walk (s ∷ []) h = true_false h refl
no_walk (s ∷ t ∷ walk) h = true_false h refl

names_robust : Report (text (names ∷ [])) (robust_report (counts_of []))
unfolding many text read_bytes
names_robust = robust [] refl refl (λ w. no_walk w.0 w.1)

-- P2, Req 01: a predicate update alone: two runs of it, forward and back; no walk comes before this one
abbrev update_text : List String
update_text = names ∷ "rl 0 - - 1 - -" ∷ "pr 0 - - - - -" ∷ "pu 0 0 - 1 1 1" ∷ []

unfoldable pub update_lines : List Line
unfolding taken_lines text
update_lines = taken_lines (text update_text)

update_danger : Report (text update_text) (danger_report (counts_of update_lines) (forth ∷ return ∷ []))
unfolding update_lines edges_short summary_graph graph_of place_at is_dangerous is_edge dangerous_pair
update_danger = danger update_lines refl refl (forth ∷ return ∷ []) (smallest_first (summary_graph update_lines) refl)
