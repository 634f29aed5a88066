-- The edges between the rows of places are the edges between the places. It rests on `shared_rows` (RowTableLaws of specs/), so it stands here.
use Rattle.std.specs.Prelude.{◌≡◌, Bool, not, ◌&&◌, ℕ, ◌<◌}
use Rattle.std.proofs.Math.Path.{refl, sym, ap}
use Rattle.std.proofs.Common.{subst, ◌∙◌}
use Rattle.std.proofs.Math.Bool.{true, false}
use mathlib.Core.List.{List, map, flat_map, Memᴰ}
use Rattle.std.specs.Int.Count.{ones_in, count_trailing_zeros}
use Rattle.std.proofs.Math.Dec.{eqb}
use borrow.Author.Tests.{eqb-true}
use Rattle.law_base.specs.BoolLaws.{and_left}
use Rattle.law_base.specs.FlatLaws.{flat_map_map, flat_map_same}
use Rattle.spec_graph.specs.Graph.{Flow}
use Rattle.spec_graph.specs.Program.{Link}
use Rattle.spec_graph.specs.Unfolding.{Node}
use Rattle.spec_graph.specs.Edge.{Letter, Place, at, holds, same_relation}
use Rattle.spec_graph.specs.Edge.{forward, back, letter_of, shared}
use Rattle.spec_graph.specs.Edge.{edge_of, edges_between, places_of, edges_of}
use Rattle.spec_graph.specs.Edge.Letter.{A, B, C, D, E}
use Rattle.spec_text.specs.declared.Line.{Line}
use Rattle.spec_text.specs.Reading.{relation_set}
use Rattle.law_kinds.specs.KindSets.{Allowed}
use Rattle.law_kinds.specs.Chances.{chance_of, told}
use Rattle.law_kinds.specs.ChanceLaws.{chance_told}
use Rattle.node_laws.specs.GivenNodes.{LawfulStatement, LawfulNode}
use Rattle.place_row.specs.RowTable.{row_of, rows_of, row_holds, row_shared, row_forward, row_back, row_letter, row_edge, row_edges}
use Rattle.place_row.specs.RowTable.{edges_of_rows}
use Rattle.place_row.specs.RowTableLaws.{shielded_rows, shared_rows, place_lawful, place_keys_lem}

-- a letter between rows is the letter between their statements, where the rules allow their sets over one relation
pub holds_rows : (letter : Letter) {full : ℕ} (s t : Place) → Allowed full (at s) → Allowed full (at t)
    → holds letter (at s) (at t) ≡ row_holds letter (row_of s) (row_of t)
unfolding row_holds row_of
holds_rows letter s t f g =
    chance_told (at s) (at t) f g letter
    ∙ ap (λ (x : ℕ). told (chance_of letter (at s).kind (at t).kind) (not (eqb x 0))) (shared_rows letter s t)

-- what is asked only of numbers that agree
where_equal : (a b : ℕ) {x y : Bool} → (a ≡ b → x ≡ y) → eqb a b && x ≡ eqb a b && y
where_equal a b {x} {y} same = go (eqb a b) refl
  where
    go : (e : Bool) → eqb a b ≡ e → e && x ≡ e && y
    go true e = same (eqb-true a b e)
    go false e = refl

-- two places of lawful nodes
module _ (lines : List Line) (s t : Place) (f : LawfulStatement lines (at s)) (g : LawfulStatement lines (at t)) where
  -- over one relation both statements have sets that the rules allow over its set
  module _ (over : (at s).relation ≡ (at t).relation) where
    same_holds : (letter : Letter) → holds letter (at s) (at t) ≡ row_holds letter (row_of s) (row_of t)
    same_holds letter =
        holds_rows letter s t f.sets (subst (λ (r : ℕ). Allowed (relation_set lines r) (at t)) (sym over) g.sets)

    -- the letter between places is the letter between their rows
    letter_rows : (flow : Flow) → letter_of flow (at s) (at t) ≡ row_letter flow (row_of s) (row_of t)
    unfolding letter_of row_letter
    letter_rows Flow.forward = simp (same_holds A, same_holds B, same_holds C, same_holds D)
    letter_rows Flow.back = simp (same_holds E)

    -- the edge between places is the edge between their rows
    edge_rows : (flow : Flow) → edge_of flow s t ≡ row_edge flow (row_of s) (row_of t)
    unfolding edge_of row_edge row_of
    edge_rows flow = λ i. record {
      node = s.number;
      leaves = s.place;
      into = t.number;
      enters = t.place;
      flow = flow;
      letter = letter_rows flow i;
      sharing = ones_in 64 (meeting i);
      lowest = count_trailing_zeros 64 (meeting i);
    }
      where
        meeting : shared (letter_of flow (at s) (at t)) (at s) (at t) ≡ row_shared (row_letter flow (row_of s) (row_of t)) (row_of s) (row_of t)
        meeting = shared_rows (letter_of flow (at s) (at t)) s t ∙ ap (λ (l : Letter). row_shared l (row_of s) (row_of t)) (letter_rows flow)

  -- a forward edge stands between places where it stands between their rows
  pub forward_rows : forward s t ≡ row_forward (row_of s) (row_of t)
  unfolding forward same_relation row_forward row_of
  forward_rows =
      where_equal (at s).relation (at t).relation
      (λ over. simp (same_holds over A, same_holds over B, same_holds over C, same_holds over D, same_holds over E))

  module _ (small : (l : Link) → Memᴰ l s.node.links → l.key < 32) where
    -- a back edge stands between places where it stands between their rows
    pub back_rows : back s t ≡ row_back (row_of s) (row_of t)
    unfolding back same_relation row_back row_of
    back_rows =
        where_equal (at s).relation (at t).relation
        (λ over. simp (same_holds over D, same_holds over E, shielded_rows s t small))

    -- the edges between two places are those between their rows: none where the relations differ
    pub between_rows : edges_between s t ≡ row_edges (row_of s) (row_of t)
    unfolding edges_between row_edges forward back same_relation
    between_rows = go (eqb (at s).relation (at t).relation) refl
      where
        go : (b : Bool) → eqb (at s).relation (at t).relation ≡ b → edges_between s t ≡ row_edges (row_of s) (row_of t)
        go true e =
            let over = eqb-true (at s).relation (at t).relation e in
            simp (forward_rows, back_rows, edge_rows over Flow.forward, edge_rows over Flow.back)
        go false e =
            let f : forward s t ≡ false = and_left _ e in
            let b : back s t ≡ false = and_left _ e in
            simp (f, b, sym forward_rows ∙ f, sym back_rows ∙ b)

module _ (lines : List Line) (nodes : List Node) (lawful : (n : Node) → Memᴰ n nodes → LawfulNode lines n) where
  -- E5: all edges of nodes are the edges of their rows
  pub edges_rows : edges_of nodes ≡ edges_of_rows (rows_of nodes)
  unfolding edges_of edges_of_rows rows_of
  edges_rows =
      let places = places_of 0 nodes in
      flat_map_same _ _ places (λ s m.
      flat_map_same _ _ places (λ t k. between_rows lines s t (place_lawful lines nodes lawful m) (place_lawful lines nodes lawful k) (place_keys_lem lines nodes lawful m))
      ∙ sym (flat_map_map (row_edges (row_of s)) row_of places))
      ∙ sym (flat_map_map (λ p. flat_map (λ q. row_edges p q) (map row_of places)) row_of places)
