-- A case of the rules: a text with its report. A computed test of a case, and that the test gives the case.
use Rattle.std.specs.Prelude.{Bool, true, false, not, ◌&&◌, ◌≡◌, refl, ℕ, eqb}
use mathlib.Core.List.{List, flat_map, Memᴰ}
use Rattle.std.proofs.Common.{ap, subst, ◌∙◌, eqb-true}
use Rattle.std.specs.Int.Count.{ones_in, count_trailing_zeros}
use Rattle.spec_base.specs.Basic.{all}
use Rattle.law_base.specs.BoolLaws.{and_true, not_true, true_false}
use Rattle.law_base.specs.ListLaws.{all_true}
use Rattle.spec_text.specs.declared.Line.{Line}
use Rattle.spec_text.specs.Reading.{Outcome, read}
use Rattle.spec_text.specs.Reading.Outcome.{refused, accepted}
use Rattle.spec_text.specs.Quoted.{read_bytes}
use Rattle.spec_graph.specs.Program.{statement_of, in_front_of, run_of, links_of, programs_of}
use Rattle.spec_graph.specs.Unfolding.{inside, occurrences, pairs, unfoldings, nodes_of_program, nodes_from, nodes_of}
use Rattle.spec_graph.specs.Edge.{W, R, T, holds, same_relation, leads, binds, has_parent}
use Rattle.spec_graph.specs.Edge.{guarded_near, guarded_far, shielded, forward, back, places_from, places_of, letter_of}
use Rattle.spec_graph.specs.Edge.{shared, edge_of, edges_between, edges_of, place_at, graph_of}
use Rattle.law_walk.specs.Reach.{leaves_for, joins, joined_to, grow, reached_from, opens, closes_at, danger_test}
use Rattle.law_walk.specs.FirstWalks.{is_first, first_tested}
use Rattle.spec_graph.specs.Graph.{Graph}
use Rattle.spec_graph.specs.Walk.{Step}
use Rattle.spec_report.specs.State.{Counts, counted, counts_of, statements_in, is_too_many, summary_graph}
use Rattle.spec_report.specs.Report.{Report, refusal_report, robust_report, danger_report}
use Rattle.spec_report.specs.Report.Report.{refusal, robust, danger}
use Rattle.law_report.specs.Reports.{robust_of}
use Rattle.law_report.specs.ShownWalk.{summary_regular}

-- what a case expects
pub data Expected : Type 0 where
  is_refused : ℕ → ℕ → Expected
  is_robust : ℕ → ℕ → ℕ → ℕ → Expected
  is_danger : ℕ → ℕ → ℕ → ℕ → List Step → Expected

pub record Case : Type 0 where
  pub text : List ℕ
  pub expected : Expected

-- the bytes that it expects: for danger with this walk (Req 01)
abbrev pub expected_bytes : Expected → List ℕ
expected_bytes (is_refused number line) = refusal_report number line
expected_bytes (is_robust p n e b) = robust_report (counted p n e b)
expected_bytes (is_danger p n e b walk) = danger_report (counted p n e b) walk

-- the case holds by the rules: these bytes are the report of the text
abbrev pub HoldsFor : List ℕ → Expected → Type 0
HoldsFor text e = Report text (expected_bytes e)

abbrev pub Holds : Case → Type 0
Holds c = HoldsFor c.text c.expected

same_counts : Counts → Counts → Bool
same_counts c d =
    eqb c.programs d.programs && eqb c.nodes d.nodes && eqb c.edges d.edges && eqb c.back d.back

same_counts_lem : (c d : Counts) → same_counts c d ≡ true → c ≡ d
unfolding same_counts
same_counts_lem c d h =
    let three = and_true (eqb c.programs d.programs && eqb c.nodes d.nodes && eqb c.edges d.edges) (eqb c.back d.back) h in
    let two = and_true (eqb c.programs d.programs && eqb c.nodes d.nodes) (eqb c.edges d.edges) three.0 in
    let one = and_true (eqb c.programs d.programs) (eqb c.nodes d.nodes) two.0 in
    let p = eqb-true c.programs d.programs one.0 in
    let n = eqb-true c.nodes d.nodes one.1 in
    let e = eqb-true c.edges d.edges two.1 in
    let b = eqb-true c.back d.back three.1 in
    λ i. record { programs = p i; nodes = n i; edges = e i; back = b i }

-- the test of lines whose graph is to pass a test
passes_lines : (Graph → Bool) → Counts → List Line → Bool
passes_lines test c lines = not (is_too_many lines) && same_counts (counts_of lines) c && test (summary_graph lines)

passes_outcome : (Graph → Bool) → Counts → Outcome → Bool
passes_outcome test c (refused number line) = false
passes_outcome test c (accepted lines) = passes_lines test c lines

refuses : ℕ → ℕ → Outcome → Bool
refuses number line (refused k l) = eqb k number && eqb l line
refuses number line (accepted lines) = false

-- the test of a case
passes : List ℕ → Expected → Bool
passes text (is_refused number line) = refuses number line (read text)
passes text (is_robust p n e b) = passes_outcome (λ g. not (danger_test g)) (counted p n e b) (read text)
passes text (is_danger p n e b walk) = passes_outcome (λ g. is_first g walk) (counted p n e b) (read text)

-- ---- a case that passes holds

-- the text is read, taken, and has these counts, and its graph passes the test
record Taken (test : Graph → Bool) (text : List ℕ) (c : Counts) : Type 0 where
  lines : List Line
  is_read : read text ≡ accepted lines
  few : is_too_many lines ≡ false
  counts : counts_of lines ≡ c
  passes_test : test (summary_graph lines) ≡ true

passed : (test : Graph → Bool) (text : List ℕ) (c : Counts) (o : Outcome) → read text ≡ o → passes_outcome test c o ≡ true → Taken test text c
unfolding passes_outcome passes_lines
passed test text c (refused k l) e h = absurd (true_false h refl)
passed test text c (accepted lines) e h =
    let two = and_true (not (is_too_many lines) && same_counts (counts_of lines) c) (test (summary_graph lines)) h in
    let one = and_true (not (is_too_many lines)) (same_counts (counts_of lines) c) two.0 in
    record
    { lines = lines; is_read = e; few = not_true (is_too_many lines) one.0; counts = same_counts_lem (counts_of lines) c one.1; passes_test = two.1 }

refuses_refused : (number line : ℕ) (o : Outcome) → refuses number line o ≡ true → o ≡ refused number line
unfolding refuses
refuses_refused number line (refused k l) h =
    let both = and_true (eqb k number) (eqb l line) h in
    ap (λ (k : ℕ). refused k l) (eqb-true k number both.0) ∙ ap (λ (l : ℕ). refused number l) (eqb-true l line both.1)
refuses_refused number line (accepted lines) h = absurd (true_false h refl)

passes_holds : (text : List ℕ) (e : Expected) → passes text e ≡ true → HoldsFor text e
unfolding passes
passes_holds text (is_refused number line) h = refusal number line (refuses_refused number line (read text) h)
passes_holds text (is_robust p n e b) h =
    let t = passed (λ g. not (danger_test g)) text (counted p n e b) (read text) refl h in
    subst (λ (c : Counts). Report text (robust_report c)) t.counts
    (robust t.lines t.is_read t.few (robust_of t.lines (not_true (danger_test (summary_graph t.lines)) t.passes_test)))
passes_holds text (is_danger p n e b walk) h =
    let t = passed (λ g. is_first g walk) text (counted p n e b) (read text) refl h in
    subst (λ (c : Counts). Report text (danger_report c walk)) t.counts
    (danger t.lines t.is_read t.few walk (first_tested (summary_regular t.lines) walk t.passes_test))

-- ---- a table of cases: one computed test, and one statement over its rows

-- the test with everything opened that it is defined by
unfoldable pub all_pass : List Case → Bool
unfolding
    passes passes_lines passes_outcome refuses same_counts read_bytes counts_of is_too_many statements_in summary_graph
    statement_of in_front_of run_of links_of programs_of inside occurrences pairs flat_map unfoldings nodes_of_program nodes_from nodes_of
    W R T holds same_relation leads binds has_parent guarded_near guarded_far shielded forward back places_from places_of letter_of shared edge_of
    edges_between edges_of place_at
    graph_of ones_in count_trailing_zeros leaves_for joins joined_to grow reached_from opens closes_at danger_test is_first
all_pass table = all (λ c. passes c.text c.expected) table

pub table_holds : (table : List Case) → all_pass table ≡ true → (c : Case) → Memᴰ c table → Holds c
unfolding all_pass
table_holds table h c m = passes_holds c.text c.expected (all_true (λ c. passes c.text c.expected) h m)
