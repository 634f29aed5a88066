-- The least step over the table of the nodes' rows is the least edge out of a node of their summary graph that counts.
use Rattle.std.specs.Prelude.{◌≡◌, refl, true, ℕ, ◌≤◌, ◌<◌, length}
use Rattle.std.proofs.Math.Path.{sym, ap}
use Rattle.std.proofs.Common.{ap₂, subst, ◌∙◌, arith}
use mathlib.Core.List.Memᴰ
use mathlib.Core.List.{List, Memᴰ}
use Rattle.std.proofs.Math.ListN.{get_or}
use Rattle.law_base.specs.ListLaws.{map_member}
use Rattle.spec_text.specs.declared.Line.{Line}
use Rattle.spec_graph.specs.Graph.{Flow, is_back}
use Rattle.spec_graph.specs.Unfolding.{Node}
use Rattle.spec_graph.specs.Edge.{Place, loosens, places_of, graph_of}
use Rattle.spec_report.specs.State.{statements_in}
use Rattle.node_laws.specs.GivenNodes.{LawfulNode}
use Rattle.place_row.specs.declared.Row.{Row}
use Rattle.place_row.specs.RowTable.{row_of, rows_of, row_stands, table_rows}
use Rattle.step_word.specs.declared.Taken.{Taken}
use Rattle.step_word.specs.StepWord.{flow_of, step_word, step_of}
use Rattle.step_word.specs.StepWordLaws.{word_step, flow_back}
use Rattle.walk_step.specs.LeastStep.{Counts, least_step}
use Rattle.walk_step.specs.Tabled.{FoundStep}
use Rattle.walk_step.specs.LeastStepLaws.{RowStep, counts_same, least_found, least_least}
use Rattle.verdict_laws.specs.Entries.{Ends, edge_ends, ends_edge, place_loose, ends_loose, small_graph, stands_rows}

module _ (nodes : List Node) (few : length nodes ≤ 64) (statements : statements_in nodes ≤ 512)
    (lines : List Line) (lawful : (n : Node) → Memᴰ n nodes → LawfulNode lines n) (table : List ℕ) (rows : table_rows table ≡ rows_of nodes)
    (x : ℕ) (needs limits : List ℕ) where
  -- a step between rows is an edge between their places
  row_edge_lem : {word : ℕ} (s : RowStep (rows_of nodes) x needs limits word)
      → ((graph_of nodes).edge x s.p.place s.q.node s.q.place s.flow ≡ true)
      × ((graph_of nodes).loose x s.p.place ≡ loosens s.p.kind)
  unfolding rows_of row_of
  row_edge_lem s = (edge, loose)
    where
      a : (y : Place) × Memᴰ y (places_of 0 nodes) × (row_of y ≡ s.p)
      a = map_member row_of (places_of 0 nodes) s.left

      b : (y : Place) × Memᴰ y (places_of 0 nodes) × (row_of y ≡ s.q)
      b = map_member row_of (places_of 0 nodes) s.right

      node : a.0.number ≡ x
      node = ap (λ (p : Row). p.node) a.2 ∙ s.leaves

      place : a.0.place ≡ s.p.place
      place = ap (λ (p : Row). p.place) a.2

      edge : (graph_of nodes).edge x s.p.place s.q.node s.q.place s.flow ≡ true
      edge =
          sym (ap₂ (λ (u i : ℕ). (graph_of nodes).edge u i b.0.number b.0.place s.flow) node place
          ∙ ap (λ (q : Row). (graph_of nodes).edge x s.p.place q.node q.place s.flow) b.2)
          ∙ ends_edge nodes s.flow a.0 b.0 a.1 b.1
          ∙ stands_rows nodes few statements lines lawful s.flow a.0 b.0 a.1 b.1
          ∙ ap₂ (row_stands s.flow) a.2 b.2 ∙ s.stands

      loose : (graph_of nodes).loose x s.p.place ≡ loosens s.p.kind
      loose = sym (ap₂ (graph_of nodes).loose node place) ∙ place_loose nodes a.0 a.1 ∙ ap (λ (p : Row). loosens p.kind) a.2

  -- a least word below that of no step is that of an edge that counts
  pub step_found : least_step table x needs limits < 134217728
      → FoundStep (graph_of nodes) x needs limits (least_step table x needs limits) (step_of (least_step table x needs limits))
  step_found h = subst (FoundStep (graph_of nodes) x needs limits word) (sym decoded) found
    where
      word : ℕ
      word = least_step table x needs limits

      s : RowStep (rows_of nodes) x needs limits word
      s = subst (λ (l : List Row). RowStep l x needs limits word) rows (least_found x needs limits table h)

      step : Taken
      step = record { leaves = s.p.place; enters = s.q.place; back = is_back s.flow; into = s.q.node }

      decoded : step_of word ≡ step
      decoded = ap step_of s.same ∙ word_step s.p.place s.q.place s.flow s.q.node s.leaves_small s.enters_small s.into_small

      flow : s.flow ≡ flow_of (is_back s.flow)
      flow = sym (flow_back s.flow)

      found : FoundStep (graph_of nodes) x needs limits word step
      found = record {
        leaves_small = s.leaves_small;
        enters_small = s.enters_small;
        into_small = s.into_small;
        edge = sym (ap ((graph_of nodes).edge x s.p.place s.q.node s.q.place) flow) ∙ (row_edge_lem s).0;
        counts = subst (λ (f : Flow). Counts (get_or needs s.q.node 0) (get_or limits s.q.node 0) f ((graph_of nodes).loose x s.p.place)
            s.p.place s.q.place) flow (counts_same s.flow refl refl (sym (row_edge_lem s).1) refl refl s.counts);
        same = s.same ∙ ap (λ (f : Flow). step_word s.p.place s.q.place f s.q.node) flow;
      }

  -- no edge that counts has a lesser word
  pub step_least : (i y j : ℕ) (flow : Flow) → (graph_of nodes).edge x i y j flow ≡ true
      → Counts (get_or needs y 0) (get_or limits y 0) flow ((graph_of nodes).loose x i) i j
      → least_step table x needs limits ≤ step_word i j flow y
  unfolding rows_of row_of
  step_least i y j flow h c =
      least_least x needs limits table (subst (λ (l : List Row). RowStep l x needs limits (step_word i j flow y)) (sym rows) (record {
        p = row_of e.s;
        q = row_of e.t;
        flow = flow;
        left = Memᴰ.map row_of e.left;
        right = Memᴰ.map row_of e.right;
        leaves = e.leaves;
        leaves_small = let q = e.leaves_at in omega (arith, small.2);
        enters_small = let q = e.enters_at in omega (arith, small.3);
        into_small = let q = e.enters in omega (arith, small.1);
        stands = sym (stands_rows nodes few statements lines lawful flow e.s e.t e.left e.right) ∙ e.edge;
        counts = counts_same flow (ap (λ (k : ℕ). get_or needs k 0) (sym e.enters)) (ap (λ (k : ℕ). get_or limits k 0) (sym e.enters))
            (ends_loose nodes flow x i y j e)
            (sym e.leaves_at) (sym e.enters_at) c;
        same = sym (ap₂ (λ (a b : ℕ). step_word a b flow e.t.number) e.leaves_at e.enters_at ∙ ap (step_word i j flow) e.enters);
      }))
    where
      e : Ends nodes flow x i y j
      e = edge_ends nodes flow x i y j h

      small : (x < 64) × (y < 64) × (i < 1024) × (j < 1024)
      small = small_graph nodes few statements x i y j flow h
