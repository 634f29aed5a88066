-- The first walk of a table of places and two tables of edges between 64 nodes, how it is written down, and what the search for it promises.
use Rattle.std.specs.Prelude.{true, false, cond, ◌&&◌, List, [], ◌∷◌, ◌≡◌, ℕ, zero, suc, ◌+◌, ◌*◌, ◌/◌, ◌%◌, ◌≤◌, ◌<◌, eqb, ltb, length, get_or, set}
use Rattle.std.specs.Prelude.{Result, Ok, Err, Option as Optional, Some, None}
use Rattle.std.proofs.Math.Option.{Option, none, some}
use Rattle.spec_base.specs.Basic.{has}
use Rattle.spec_graph.specs.Graph.{Graph}
use Rattle.spec_graph.specs.Walk.{Step, DangerousWalk, FirstWalk}
use Rattle.law_walk.specs.Parts.{only}
use Rattle.law_walk.specs.Reach.{Regular}
use Rattle.spec_report.specs.State.{short_for_walk}
use Rattle.spec_report.specs.Area.{flow_word, shown_in}
use Rattle.pick_laws.specs.declared.Going.{Going}
use Rattle.refusal.specs.declared.Fault.{Fault}
use Rattle.refusal.specs.Numbers.{number_of}
use Rattle.pick_laws.specs.Demands.{going_after}
use Rattle.pick_laws.specs.PickLaws.{Picked}
use Rattle.pick_laws.specs.CompletingLaws.{SmallPlaces}
use Rattle.edge_word.specs.Coding.{forwards_in, backs_in}
use Rattle.walk_reach.specs.Layers.{filled, joined_rows}
use Rattle.walk_lead.specs.Leads.{lead_rows, wrap_start}
use Rattle.walk_return.specs.Returns.{shortest_return}
use Rattle.walk_ways.specs.Ways.{ways_to, openings, first_start}
use Rattle.walk_wide.specs.Wide.{widest_table}
use Rattle.walk_need.specs.Needs.{need_at, needs_of}
use Rattle.walk_limit.specs.Limits.{limit_at, limits_of}
use Rattle.step_word.specs.declared.Taken.{Taken}
use Rattle.step_word.specs.StepWord.{flow_of, step_of}
use Rattle.walk_step.specs.LeastStep.{loose_at, least_step}
use Rattle.walk_step.specs.Tabled.{Tabled}
use Rattle.walk_first.specs.declared.Sought.{Sought}

-- ---- the steps

-- the fewest steps of a way back to a node from where a dangerous pair leads from it, or 64
abbrev pub return_in : List ℕ → List ℕ → ℕ
return_in forwards backs = shortest_return (joined_rows forwards) (lead_rows forwards backs)

-- how far a step out of x opens, by the place left and the place entered
unfoldable pub opens_at : List ℕ → ℕ → ℕ → ℕ → ℕ
opens_at table x leaves enters = cond (loose_at table x leaves) 1024 enters

-- what is worked out before the first step is taken: which nodes end the walk and which still open it, by the number of steps left, and how far the
-- last steps can open; where the walk starts, and the word of the nodes that count
pub record Prepared : Type 0 where
  pub nodes : ℕ
  pub start : ℕ
  pub ways : List ℕ
  pub opened : List ℕ
  pub wide : List ℕ

abbrev pub prepared : ℕ → ℕ → List ℕ → List ℕ → List ℕ → Prepared
prepared nodes start ways opened wide = record { nodes = nodes; start = start; ways = ways; opened = opened; wide = wide }

-- the same in the code
abbrev pub sought : Sought → Prepared
sought s = prepared s.nodes s.start s.ways.now s.opened.now s.wide.now

-- the least step out of x that counts, where r steps are left after it
unfoldable pub taken : List ℕ → List ℕ → Prepared → ℕ → Going → ℕ → Taken
taken table backs p r going x =
    step_of
    (least_step table x (needs_of backs p.ways p.opened p.wide p.start p.nodes r going)
    (limits_of p.ways p.wide p.nodes r going))

-- no step into a node from the n-th on counts
pub record Unasked (backs : List ℕ) (p : Prepared) (r : ℕ) (going : Going) (n : ℕ) : Type 0 where
  pub forward : (y : ℕ) → n ≤ y → y < 64 → 1025 ≡ need_at backs p.ways p.opened p.wide p.start r going y
  pub back : (y : ℕ) → n ≤ y → y < 64 → 0 ≡ limit_at p.ways p.wide r going y

abbrev pub step_taken : ℕ → Taken → Step
step_taken x t = record { node = x; leaves = t.leaves; enters = t.enters; flow = flow_of t.back }

-- the phase after the step
unfoldable pub going_on : List ℕ → Going → ℕ → Taken → Going
going_on table going x t = going_after going t.back (opens_at table x t.leaves t.enters) t.leaves

-- the least step again and again, so many of them, from node x
unfoldable pub steps_from : List ℕ → List ℕ → Prepared → ℕ → Going → ℕ → List Step
steps_from table backs p zero going x = []
steps_from table backs p (suc r) going x =
    let t = taken table backs p r going x in step_taken x t ∷ steps_from table backs p r (going_on table going x t) t.into

-- ---- the walk

-- the node at which a first walk of d + 2 steps starts
unfoldable pub start_of : List ℕ → List ℕ → ℕ → ℕ
start_of forwards backs d =
    wrap_start forwards backs (joined_rows forwards) d (first_start (joined_rows forwards) (lead_rows forwards backs) (d + 2))

-- what is worked out for a walk of d + 2 steps from s
unfoldable pub prepared_for : List ℕ → List ℕ → ℕ → ℕ → ℕ → Prepared
prepared_for forwards backs nodes d s = record {
  nodes = nodes;
  start = s;
  ways = ways_to (joined_rows forwards) s (d + 2);
  opened = openings (joined_rows forwards) (lead_rows forwards backs) (ways_to (joined_rows forwards) s (d + 2)) (d + 2);
  wide = widest_table forwards (joined_rows forwards) s (d + 1);
}

-- the walk of d + 2 steps
unfoldable pub walk_of : List ℕ → List ℕ → List ℕ → ℕ → ℕ → List Step
walk_of table forwards backs nodes d =
    steps_from table backs (prepared_for forwards backs nodes d (start_of forwards backs d)) (d + 2) Going.Starting (start_of forwards backs d)

-- the first walk of the tables: none where no dangerous pair has a way back
unfoldable pub first_steps : List ℕ → List ℕ → List ℕ → ℕ → List Step
first_steps table forwards backs nodes = cond (ltb (return_in forwards backs) 64) (walk_of table forwards backs nodes (return_in forwards backs)) []

-- ---- some of the nodes

-- the word of the edge for two nodes, where both are among the nodes
unfoldable pub chosen_word : List ℕ → ℕ → ℕ → ℕ
chosen_word table nodes x = cond (has nodes (x / 64) && has nodes (x % 64)) (get_or table x 0) 0

-- the words of the edges between nodes of the word
unfoldable pub chosen_words : List ℕ → ℕ → List ℕ
chosen_words table nodes = filled 4096 (chosen_word table nodes) 4096

-- the edges between nodes of the word alone; all where every node counts
unfoldable pub chosen_edges : List ℕ → ℕ → List ℕ
chosen_edges table nodes = cond (eqb nodes 18446744073709551615) table (chosen_words table nodes)

-- the first walk among the nodes of the word
unfoldable pub first_among : List ℕ → List ℕ → List ℕ → ℕ → List Step
first_among table forwards backs nodes = first_steps table (chosen_edges forwards nodes) (chosen_edges backs nodes) nodes

-- ---- the area as it is written, step by step

-- four words at place k
unfoldable pub put_words : List ℕ → ℕ → ℕ → ℕ → ℕ → ℕ → List ℕ
put_words area k a b c d = set (set (set (set area (k * 4) a) (k * 4 + 1) b) (k * 4 + 2) c) (k * 4 + 3) d

unfoldable pub put_step : List ℕ → ℕ → Step → List ℕ
put_step area k s = put_words area k s.node s.leaves s.enters (flow_word s.flow)

unfoldable pub put_steps : List ℕ → ℕ → List Step → List ℕ
put_steps area k [] = area
put_steps area k (s ∷ steps) = put_steps (put_step area k s) (suc k) steps

-- ---- what the parts promise

-- the step taken is written as step k, and the search goes on from the node that it enters
pub record TakenAs (table backs : List ℕ) (p : Prepared) (r : ℕ) (going : Going) (x k : ℕ) (before after : List ℕ) (node : ℕ)
    (next : Going) : Type 0 where
  pub area : after ≡ put_step before k (step_taken x (taken table backs p r going x))
  pub entered : node ≡ (taken table backs p r going x).into
  pub phase : next ≡ going_on table going x (taken table backs p r going x)

-- how many steps are shown, where a walk is found
abbrev pub shown_steps : Optional ℕ → Option ℕ
shown_steps None = none
shown_steps (Some steps) = some steps

-- tables with edges between nodes of the word alone are searched: nothing is written where there is no walk, else the walk
pub data Searched (table forwards backs : List ℕ) (nodes : ℕ) (before : List ℕ) : Option ℕ → Option ℕ → List ℕ → Type 0 where
  nothing : 64 ≤ return_in forwards backs → Searched table forwards backs nodes before none none before
  walked : return_in forwards backs < 64
      → Searched table forwards backs nodes before (some (return_in forwards backs + 2)) none
      (put_steps before 0 (walk_of table forwards backs nodes (return_in forwards backs)))

-- the same by what is found
abbrev pub SearchedFor : (table forwards backs : List ℕ) (nodes : ℕ) (before : List ℕ) → Optional ℕ → List ℕ → Type 0
SearchedFor table forwards backs nodes before found after = Searched table forwards backs nodes before (shown_steps found) none after

-- ---- what is promised

-- a graph with at most 64 nodes, whose places the table has and whose edges the two other tables hold
pub record Held (table forwards backs : List ℕ) (g : Graph) : Type 0 where
  pub is_regular : Regular g
  pub small : g.size ≤ 64
  pub places : SmallPlaces g
  pub picks : Picked g 64 (forwards_in forwards) (backs_in backs)
  pub tabled : Tabled table g

-- N3: the refusal's number, where the answer is one
abbrev pub refusal_in : Result (Optional ℕ) Fault → Option ℕ
refusal_in (Err fault) = some (number_of fault)
refusal_in (Ok found) = none

-- N3: how many steps are shown, where a walk is shown
abbrev pub steps_in : Result (Optional ℕ) Fault → Option ℕ
steps_in (Err fault) = none
steps_in (Ok found) = shown_steps found

-- what is answered, the refusal and the steps, and what the area holds afterwards. S20: under 65 steps it is too short, and stays as it was. Else
-- it stays as it was where no graph whose edges the tables hold has a dangerous closed walk among the nodes of the word; or (Req 01) the walk that
-- stands in it is the first of each such graph among these nodes, in the graph's own numbering, and has at most 65 steps.
pub data WalkAnswered (table forwards backs : List ℕ) (nodes : ℕ) (before : List ℕ) : Option ℕ → Option ℕ → List ℕ → Type 0 where
  no_room : short_for_walk (length before / 4) ≡ true → WalkAnswered table forwards backs nodes before (some 20) none before
  no_walk : short_for_walk (length before / 4) ≡ false → first_among table forwards backs nodes ≡ []
      → ((g : Graph) → Held table forwards backs g → DangerousWalk (only (has nodes) g) → ⊥)
      → WalkAnswered table forwards backs nodes before none none before
  shown : short_for_walk (length before / 4) ≡ false
      → ((g : Graph) → Held table forwards backs g → FirstWalk (only (has nodes) g) (first_among table forwards backs nodes))
      → 0 < length (first_among table forwards backs nodes) → length (first_among table forwards backs nodes) ≤ 65
      → WalkAnswered table forwards backs nodes before none (some (length (first_among table forwards backs nodes)))
      (shown_in (first_among table forwards backs nodes) before)
