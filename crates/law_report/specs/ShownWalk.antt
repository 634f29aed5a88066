-- W5: where a workload has few enough unfoldings, the first dangerous walk has at most 65 steps: of the walks that are no longer one is the first,
-- and the first is one alone.
use Rattle.std.specs.Prelude.{false, List, ◌≡◌, ◌+◌, ◌≤◌, ltb, length}
use Rattle.std.proofs.Common.{subst, arith, ltb-false}
use Rattle.law_base.specs.BoolLaws.{or_false}
use Rattle.spec_text.specs.declared.Line.{Line}
use Rattle.spec_graph.specs.Unfolding.{nodes_of}
use Rattle.spec_graph.specs.Edge.{graph_of}
use Rattle.spec_graph.specs.Walk.{Step, FirstWalk}
use Rattle.law_walk.specs.Reach.{Regular, regular}
use Rattle.law_walk.specs.Before.{first_unique}
use Rattle.law_walk.specs.FirstWalks.{first_exists}
use Rattle.spec_report.specs.State.{Danger, statements_in, summary_graph, is_too_many}

-- the summary graph is regular
pub summary_regular : (lines : List Line) → Regular (summary_graph lines)
unfolding summary_graph
summary_regular lines = regular (nodes_of lines)

-- Req 01: a dangerous workload has a first walk
pub first_shown : (lines : List Line) → Danger lines → (walk : List Step) × FirstWalk (summary_graph lines) walk
first_shown lines danger = let w = first_exists (summary_regular lines) danger in (w.0, w.1)

-- W5
pub first_short : (lines : List Line) {walk : List Step} → is_too_many lines ≡ false → FirstWalk (summary_graph lines) walk → length walk ≤ 65
unfolding is_too_many summary_graph graph_of
first_short lines {walk} few first =
    let w = first_exists (summary_regular lines) (walk, first.dangerous) in
    let nodes : length (nodes_of lines) ≤ 64 =
    ltb-false 64 (length (nodes_of lines)) (or_false (ltb 64 (length (nodes_of lines))) (ltb 512 (statements_in (nodes_of lines))) few).0 in
    let most : length w.0 ≤ (graph_of (nodes_of lines)).size + 1 = w.2 in
    subst (λ (l : List Step). length l ≤ 65) (first_unique w.0 walk w.1 first) (omega arith)
