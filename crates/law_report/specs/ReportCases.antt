-- More closed cases of the refusals of the state and of the report: those that no edit needs.
use Rattle.std.specs.Prelude.{Bool, true, false, ◌≡◌, ℕ, length}
use mathlib.Core.List.{List, [], ◌∷◌, ◌++◌, map, flat_map}
use Rattle.std.proofs.Math.Option.{none, some}
use Rattle.std.proofs.Math.Path.{refl}
use Rattle.std.proofs.Common.{ap, arith}
use Prim.Native.String.{String}
use Rattle.spec_text.specs.declared.Line.{Line}
use Rattle.spec_text.specs.declared.LineKind.TheVariants.{Pr, St, Lo, En}
use Rattle.spec_text.specs.declared.StatementKind.TheVariants.{Ks, Ku}
use Rattle.spec_text.specs.Value.{value_of, lines_of}
use Rattle.spec_text.specs.Quoted.{text, read_bytes}
use Rattle.spec_graph.specs.Graph.{Flow}
use Rattle.spec_graph.specs.Edge.{forward, back, place_at, graph_of}
use Rattle.spec_graph.specs.Walk.{is_edge, dangerous_pair, is_dangerous}
use Rattle.spec_graph.specs.FirstWalkExamples.{forth, return}
use Rattle.spec_report.specs.State.{counted, counts_of, summary_graph, Robust, StateRefusal, refusal_of, short_for_unfoldings, short_for_walk}
use Rattle.spec_report.specs.State.StateRefusal.{not_given, too_many, too_short, taken}
use Rattle.spec_report.specs.Area.{step_words, shown_in}
use Rattle.spec_report.specs.Report.{refusal_report, Report}
use Rattle.spec_report.specs.Report.Report.{refusal, unfolding_refusal}
use Rattle.spec_report.specs.ReportExamples.{line, branches, updates, many, robust_bytes, refusal_of_lem, edges_short, names, taken_lines}
use Rattle.spec_report.specs.ReportExamples.{update_lines}

-- ---- S22, S20

-- S22: 64 unfoldings pass, 65 do not
unfoldings_most : many (line Pr ∷ branches 6) ≡ false
unfolding many
unfoldings_most = refl

-- S22: 16 unfoldings of 32 statements pass, one statement more does not
statements_most : many (line Pr ∷ branches 4 ++ updates 32) ≡ false
unfolding many
statements_most = refl

statements_over : many (line Pr ∷ branches 4 ++ updates 32 ++ (line Pr ∷ line (St Ku) ∷ [])) ≡ true
unfolding many
statements_over = refl

short : List Line → ℕ → Bool
unfolding many short_for_unfoldings
short lines area = short_for_unfoldings lines area

-- S20: an area for unfoldings as long as their statements is long enough; one for the walk has 65 steps
area_enough : short (line Pr ∷ line Lo ∷ line (St Ku) ∷ line (St Ku) ∷ line En ∷ []) 6 ≡ false
unfolding short
area_enough = refl

area_short : short (line Pr ∷ line Lo ∷ line (St Ku) ∷ line (St Ku) ∷ line En ∷ []) 5 ≡ true
unfolding short
area_short = refl

walk_enough : short_for_walk 65 ≡ false
unfolding short_for_walk
walk_enough = refl

-- ---- P1, P2, P3: the bytes of a report

-- P1
robust_bytes_lem : robust_bytes ≡ text ("verdict programs nodes edges back" ∷ "robust 1 3 9 0" ∷ [])
unfolding robust_bytes text
robust_bytes_lem = refl

-- P1, P2, P3: a number is printed whole, up to 20 digits
number_bytes : refusal_of_lem 18446744073709551615 9 ≡ text ("refused line" ∷ "18446744073709551615 9" ∷ [])
unfolding refusal_of_lem text
number_bytes = refl

-- ---- S20 for edges, S21

-- two programs and four nodes: a loop around a read and a write of one tuple, and an empty program
abbrev lost_updates : List Line
lost_updates =
    line Pr
    ∷ line Lo
    ∷ record { kind = St Ks; id = 0; rel = 0; to = 0; reads = 1; writes = 0; tests = 0 }
    ∷ record { kind = St Ku; id = 1; rel = 0; to = 0; reads = 0; writes = 1; tests = 0 }
    ∷ line En
    ∷ line Pr ∷ []

-- S20: an update of nothing has no edge, so an empty area is long enough
edges_enough : edges_short (line Pr ∷ line (St Ku) ∷ []) 0 ≡ false
unfolding edges_short
edges_enough = refl

-- S20: an area for edges as long as the edges of both flows is long enough, a shorter one is not
edges_short_lem : map (edges_short lost_updates) (0 ∷ 35 ∷ 36 ∷ 37 ∷ []) ≡ true ∷ true ∷ false ∷ false ∷ []
unfolding edges_short
edges_short_lem = refl

-- P1: programs, nodes, edges of both flows, back edges
counts_of_lem : counts_of lost_updates ≡ counted 2 4 36 9
unfolding edges_short counts_of
counts_of_lem = refl

-- N3: a refusal's number, 0 for none
refusal_numbers : map refusal_of (0 ∷ 1 ∷ 20 ∷ 22 ∷ []) ≡ none ∷ some 1 ∷ some 20 ∷ some 22 ∷ []
unfolding refusal_of
refusal_numbers = refl

-- S21: a value without cells is given by no text
not_a_workload : StateRefusal (record { count = 0; lines = [] }) true (some 21)
unfolding value_of
not_a_workload = not_given (λ g. go g.lines g.value)
  where
    go : (lines : List Line) → record { count = 0; lines = [] } ≡ value_of lines → ⊥
    go [] e = omega (arith, ap (λ w. length w.lines) e)
    go (l ∷ lines) e = omega (arith, ap (λ w. w.count) e)

-- ---- reports of texts

-- P3: the report of the empty text
empty_refused : Report [] (refusal_report 2 0)
unfolding read_bytes
empty_refused = refusal 2 0 refl

-- S22, P3: 64 unfoldings of one program and one of another
abbrev br : List String
br = "br - - - - - -" ∷ "el - - - - - -" ∷ "en - - - - - -" ∷ []

abbrev many_text : List String
many_text = names ∷ "pr 0 - - - - -" ∷ br ++ (br ++ (br ++ (br ++ (br ++ (br ++ ("pr 1 - - - - -" ∷ []))))))

-- S21, S22, S20: nothing is refused; the area is too short; too many unfoldings come first
names_taken : StateRefusal (value_of []) false none
unfolding many text read_bytes value_of lines_of
names_taken = taken (record { text = text (names ∷ []); lines = []; is_read = refl; value = refl }) refl refl

names_short : StateRefusal (value_of []) true (some 20)
unfolding many text read_bytes value_of lines_of
names_short = too_short (record { text = text (names ∷ []); lines = []; is_read = refl; value = refl }) refl refl

many_before_short : StateRefusal (value_of (taken_lines (text many_text))) true (some 22)
unfolding many text taken_lines value_of lines_of
many_before_short = too_many (record { text = text many_text; lines = taken_lines (text many_text); is_read = refl; value = refl }) refl

many_refused : Report (text many_text) (refusal_report 22 0)
unfolding many text taken_lines
many_refused = unfolding_refusal (taken_lines (text many_text)) refl refl

-- N1, demand 2: so that text is not robust, and a robust text has no dangerous walk
update_not_robust : Robust update_lines → ⊥
unfolding update_lines edges_short summary_graph graph_of place_at is_dangerous is_edge dangerous_pair
update_not_robust none_dangerous = none_dangerous (forth ∷ return ∷ [], refl)

-- W5: in the area the steps stand at the front, four words to a step, and the rest stays as it was
walk_in_area : shown_in
    (record { node = 1; leaves = 2; enters = 3; flow = Flow.forward } ∷ record { node = 4; leaves = 5; enters = 6; flow = Flow.back } ∷ [])
    (10 ∷ 11 ∷ 12 ∷ 13 ∷ 14 ∷ 15 ∷ 16 ∷ 17 ∷ 18 ∷ 19 ∷ [])
    ≡ 1 ∷ 2 ∷ 3 ∷ 0 ∷ 4 ∷ 5 ∷ 6 ∷ 1 ∷ 18 ∷ 19 ∷ []
unfolding shown_in step_words flat_map
walk_in_area = refl
