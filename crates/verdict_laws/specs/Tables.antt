-- A table with the rows of all places of nodes, and the edges picked from it, hold the summary graph of the nodes.
use Rattle.std.specs.Prelude.{◌≡◌, true, ◌&&◌, ℕ, ◌*◌, ◌≤◌, eqb, length}
use Rattle.std.proofs.Common.{sym, subst, ◌∙◌, eqb-true, eq-eqb}
use Rattle.std.proofs.Math.Path.{ap, ap₂}
use mathlib.Core.List.Memᴰ
use mathlib.Core.List.{List, ◌++◌, append-nil, Memᴰ}
use native.Mathlib.Omega.{arith}
use Rattle.std.proofs.Math.ListN.{drop}
use Rattle.std.proofs.Math.Seq.{drop-length}
use Rattle.spec_base.specs.Basic.{any}
use Rattle.law_base.specs.BoolLaws.{same_test, and_true, and_of}
use Rattle.law_base.specs.ListLaws.{any_true, any_of, map_member}
use Rattle.spec_text.specs.declared.Line.{Line}
use Rattle.spec_graph.specs.Graph.{Flow}
use Rattle.spec_graph.specs.Unfolding.{Node}
use Rattle.spec_graph.specs.Edge.{loosens, places_of, graph_of}
use Rattle.law_walk.specs.Reach.{regular}
use Rattle.spec_report.specs.State.{statements_in}
use Rattle.node_laws.specs.GivenNodes.{LawfulNode}
use Rattle.place_row.specs.declared.Row.{Row}
use Rattle.place_row.specs.RowTable.{row_of, rows_of, table_rows}
use Rattle.edge_word.specs.Greatest.{GreatestWords, greatest_picked}
use Rattle.edge_count.specs.declared.Counts.{Counts}
use Rattle.walk_pick.specs.Picks.{row_forward_word, row_back_word, words_between, room_in, filled_for, PickedAs}
use Rattle.walk_step.specs.LeastStep.{loose_row, loose_at}
use Rattle.walk_step.specs.Tabled.{Tabled}
use Rattle.walk_first.specs.FirstSteps.{Held}
use Rattle.verdict_laws.specs.Entries.{Ends, edge_ends, place_loose, ends_loose, small_graph, rows_greatest}
use Rattle.verdict_laws.specs.LeastSteps.{step_found, step_least}

-- W4: where an edge leaves a place, some row there is loose exactly if the graph has the place loose
loose_rows : (nodes : List Node) (flow : Flow) (x i y j : ℕ) → (graph_of nodes).edge x i y j flow ≡ true
    → any (loose_row x i) (rows_of nodes) ≡ (graph_of nodes).loose x i
unfolding rows_of row_of loose_row
loose_rows nodes flow x i y j h = same_test (any (loose_row x i) (rows_of nodes)) ((graph_of nodes).loose x i) to from
  where
    e : Ends nodes flow x i y j
    e = edge_ends nodes flow x i y j h

    to : any (loose_row x i) (rows_of nodes) ≡ true → (graph_of nodes).loose x i ≡ true
    to t =
        let (p, m, passes) = any_true (loose_row x i) (rows_of nodes) t in
        let (s, l, same) = map_member row_of (places_of 0 nodes) m in
        let kind = and_true (eqb p.node x && eqb p.place i) (loosens p.kind) passes in
        let here = and_true (eqb p.node x) (eqb p.place i) kind.0 in
        sym (ap₂ (graph_of nodes).loose (ap (λ (q : Row). q.node) same ∙ eqb-true p.node x here.0)
        (ap (λ (q : Row). q.place) same ∙ eqb-true p.place i here.1))
        ∙ place_loose nodes s l ∙ ap (λ (q : Row). loosens q.kind) same ∙ kind.1

    from : (graph_of nodes).loose x i ≡ true → any (loose_row x i) (rows_of nodes) ≡ true
    from t =
        any_of (loose_row x i) (Memᴰ.map row_of e.left)
        (and_of (and_of (eq-eqb e.s.number x e.leaves) (eq-eqb e.s.place i e.leaves_at))
        (sym (ends_loose nodes flow x i y j e) ∙ t))

module _ (nodes : List Node) (few : length nodes ≤ 64) (statements : statements_in nodes ≤ 512)
    (lines : List Line) (lawful : (n : Node) → Memᴰ n nodes → LawfulNode lines n) (table : List ℕ) (rows : table_rows table ≡ rows_of nodes) where
  -- the table has the graph's edges and its loose places
  pub rows_tabled : Tabled table (graph_of nodes)
  unfolding loose_at
  rows_tabled = record {
    found = step_found nodes few statements lines lawful table rows;
    least = step_least nodes few statements lines lawful table rows;
    loose = λ x i y j flow h. ap (any (loose_row x i)) rows ∙ loose_rows nodes flow x i y j h;
  }

  module _ {forwards₀ backs₀ forwards backs : List ℕ} {r : Counts} (forwards_for : length forwards₀ ≡ length nodes * 64)
      (backs_for : length backs₀ ≡ length nodes * 64) (picked : PickedAs table forwards₀ backs₀ forwards backs r) where
    room : room_in forwards₀ backs₀ ≡ length nodes
    unfolding room_in
    room = omega arith

    -- areas for as many nodes are filled whole
    filled_whole : (word : Row → Row → ℕ) (before : List ℕ) → length before ≡ length nodes * 64
        → filled_for word (room_in forwards₀ backs₀) (table_rows table) before ≡ words_between word (length nodes) (rows_of nodes)
    unfolding filled_for
    filled_whole word before size =
        ap₂ (λ (k : ℕ) (l : List Row). words_between word k l ++ drop (k * 64) before) room rows
        ∙ ap (λ (l : List ℕ). words_between word (length nodes) (rows_of nodes) ++ l) (ap (λ (k : ℕ). drop k before) (sym size) ∙ drop-length before)
        ∙ append-nil (words_between word (length nodes) (rows_of nodes))

    -- what is picked from the table stands for all edges
    picks_greatest : GreatestWords (graph_of nodes) forwards backs
    picks_greatest =
        subst (λ (l : List ℕ). GreatestWords (graph_of nodes) l backs)
        (sym (picked.forwards_filled ∙ filled_whole row_forward_word forwards₀ forwards_for))
        (subst (GreatestWords (graph_of nodes) (words_between row_forward_word (length nodes) (rows_of nodes)))
        (sym (picked.backs_filled ∙ filled_whole row_back_word backs₀ backs_for))
        (rows_greatest nodes few statements lines lawful))

    pub nodes_held : Held table forwards backs (graph_of nodes)
    unfolding graph_of
    nodes_held = record {
      is_regular = regular nodes;
      small = few;
      places = λ m i n j flow h. let s = small_graph nodes few statements m i n j flow h in (s.2, s.3);
      picks = greatest_picked forwards backs (small_graph nodes few statements) picks_greatest;
      tabled = rows_tabled;
    }
