-- Each statement of a run is performed by some execution of it, and what an execution of a program performs stands at places of the summary graph:
-- any two of its statements in one node and in their order.
use mathlib.Core.List.Memᴰ
use mathlib.Core.List.{List, [], map, Memᴰ}
use Rattle.std.proofs.Common.{⊎_elim, sym, ap, ◌∙◌, arith}
use Rattle.std.proofs.Math.Option.{some}
use Rattle.std.specs.Prelude.{◌≡◌, refl, ℕ, suc, ◌+◌, ◌<◌}
use Rattle.std.proofs.Math.Decide.{ℕ_discrete, dec_lt}
use Rattle.std.proofs.Math.ListN.{get_elem?}
use Rattle.law_base.specs.ListLaws.{map_member, get_elem?_lt, get_elem?_found}
use Rattle.spec_text.specs.Reading.{Block}
use Rattle.spec_text.specs.declared.Line.{Line}
use Rattle.spec_graph.specs.Program.{Statement, Item, Run, Program, item_lines, run_lines, programs_of}
use Rattle.spec_graph.specs.Program.Item.{statement, loop, branch}
use Rattle.spec_graph.specs.Program.Run.{done, next}
use Rattle.spec_graph.specs.Unfolding.{Execution, ItemExecution, Occurrence, Node, inside, occurrences, item_occurrences, nodes_of}
use Rattle.spec_graph.specs.Unfolding.Execution.{end, step}
use Rattle.spec_graph.specs.Unfolding.ItemExecution.{perform, turns, arm_one, arm_two}
use Rattle.spec_graph.specs.Unfolding.Turns.{stop, turn}
use Rattle.spec_graph.specs.Edge.{Place, at, place_at}
use Rattle.node_laws.specs.Sites.{Site, within, sites, item_sites}
use Rattle.soundness.specs.folding.Folding.{Folded, fold}
use Rattle.soundness.specs.Nodes.{NodeOf, node_of}

-- ---- every statement of a run is performed

-- an execution with no turn of a loop and the first arm of each branch
mutual
  some_execution : (r : Run) → Execution r
  some_execution done = end
  some_execution (next x r) = step (some_item x) (some_execution r)

  some_item : (x : Item) → ItemExecution x
  some_item (statement s) = perform
  some_item (loop r) = turns stop
  some_item (branch a b) = arm_one (some_execution a)

-- the statement is among these occurrences
abbrev Among : Statement → List Occurrence → Type 0
Among q l = (o : Occurrence) × Memᴰ o l × (o.statement ≡ q)

-- some execution performs the statement, whatever number its first item has
abbrev pub Performs : Run → Statement → Type 0
Performs r q = (e : Execution r) × ((i : ℕ) → Among q (occurrences e i))

abbrev ItemPerforms : Item → Statement → Type 0
ItemPerforms x q = (e : ItemExecution x) × ((i : ℕ) → Among q (item_occurrences e i))

-- so among those inside a block
among_inside : (i t : ℕ) {q : Statement} (l : List Occurrence) → Among q l → Among q (map (inside i t) l)
unfolding inside
among_inside i t l (o, m, e) = (inside i t o, Memᴰ.map (inside i t) m, e)

-- a site inside a block is that of a statement of the block's run
site_inside : (b : Block) (l : List Site) (s : Site) → Memᴰ s (map (within b) l)
    → (t : Site) × Memᴰ t l × (t.statement ≡ s.statement)
unfolding within
site_inside b l s m = let t = map_member (within b) l m in (t.0, t.1, ap (λ (x : Site). x.statement) t.2)

-- the statement of each site: by one turn of each loop around it and the arms that it stands in
mutual
  unfolding sites occurrences

  pub site_performed : (r : Run) (place : ℕ) (s : Site) → Memᴰ s (sites r place) → Performs r s.statement
  site_performed done place s m = absurd (Memᴰ.not-nil m)
  site_performed (next x r) place s m =
      ⊎_elim
      (λ n.
      let t = item_performed x place s n in
      (step t.0 (some_execution r), λ i. let o = t.1 i in (o.0, Memᴰ.append_left _ o.1, o.2)))
      (λ n.
      let t = site_performed r (place + item_lines x) s n in
      (step (some_item x) t.0, λ i. let o = t.1 (suc i) in (o.0, Memᴰ.append_right (item_occurrences (some_item x) i) o.1, o.2)))
      (Memᴰ.append_cases (item_sites x place) m)

  item_performed : (x : Item) (place : ℕ) (s : Site) → Memᴰ s (item_sites x place) → ItemPerforms x s.statement
  item_performed (statement q) place s m =
      let same = ap (λ (x : Site). x.statement) (sym (Memᴰ.eq_of_singleton m)) in
      (perform, λ i. (record { statement = q; path = [] }, Memᴰ.head refl, same))
  item_performed (loop r) place s m =
      let t = site_inside _ (sites r (place + 1)) s m in
      let p = site_performed r (place + 1) t.0 t.1 in (
        turns (turn p.0 stop),
        λ i.
            let o = among_inside i 0 (occurrences p.0 0) (p.1 0) in (o.0, Memᴰ.append_left [] o.1, o.2 ∙ t.2),
      )
  item_performed (branch a b) place s m =
      ⊎_elim
      (λ n.
      let t = site_inside _ (sites a (place + 1)) s n in
      let p = site_performed a (place + 1) t.0 t.1 in
      (arm_one p.0, λ i. let o = among_inside i 0 (occurrences p.0 0) (p.1 0) in (o.0, o.1, o.2 ∙ t.2)))
      (λ n.
      let t = site_inside _ (sites b (place + run_lines a + 2)) s n in
      let p = site_performed b (place + run_lines a + 2) t.0 t.1 in
      (arm_two p.0, λ i. let o = among_inside i 1 (occurrences p.0 0) (p.1 0) in (o.0, o.1, o.2 ∙ t.2)))
      (Memᴰ.append_cases (map (within _) (sites a (place + 1))) m)

-- ---- what is performed stands in the graph

-- two statements, performed as the x-th and the y-th, stand at places of one node, in their order
pub record InOneNode (nodes : List Node) (x y : ℕ) (p q : Statement) : Type 0 where
  pub number : ℕ
  pub i : ℕ
  pub j : ℕ
  pub first : Place
  pub second : Place
  pub at_first : place_at nodes number i ≡ some first
  pub at_second : place_at nodes number j ≡ some second
  pub is_first : at first ≡ p
  pub is_second : at second ≡ q
  pub order : x < y → i < j

-- of each program every two statements of every execution do: some unfolding keeps the turns that hold them (demand 3 folds transactions so)
pub in_one_node : (lines : List Line) (p : Program) → Memᴰ p (programs_of lines) → (e : Execution p.body) (x y : ℕ) {o o' : Occurrence}
    → get_elem? (occurrences e 0) x ≡ some o → get_elem? (occurrences e 0) y ≡ some o'
    → InOneNode (nodes_of lines) x y o.statement o'.statement
unfolding place_at
in_one_node lines p m e x y {o} {o'} at_x at_y =
    record {
      number = n.number;
      i = f.at_x.0;
      j = f.at_y.0;
      first = spot f.at_x.0 a.0;
      second = spot f.at_y.0 b.0;
      at_first = found f.at_x.0 a.1;
      at_second = found f.at_y.0 b.1;
      is_first = f.keeps f.at_x.0 a.0 o a.1 (ap (get_elem? (occurrences e 0)) f.at_x.2 ∙ at_x);
      is_second = f.keeps f.at_y.0 b.0 o' b.1 (ap (get_elem? (occurrences e 0)) f.at_y.2 ∙ at_y);
      order = λ less. ordered less (dec_lt f.at_x.0 f.at_y.0) (ℕ_discrete f.at_x.0 f.at_y.0);
    }
  where
    f : Folded e x y
    f = fold e x y (get_elem?_lt (occurrences e 0) x at_x) (get_elem?_lt (occurrences e 0) y at_y)

    n : NodeOf (nodes_of lines) p f.folded
    n = node_of lines p m f.folded f.member

    a : (z : Occurrence) × (get_elem? (occurrences f.folded 0) f.at_x.0 ≡ some z)
    a = get_elem?_found (occurrences f.folded 0) f.at_x.0 f.at_x.1

    b : (z : Occurrence) × (get_elem? (occurrences f.folded 0) f.at_y.0 ≡ some z)
    b = get_elem?_found (occurrences f.folded 0) f.at_y.0 f.at_y.1

    spot : ℕ → Occurrence → Place
    spot i z = record { number = n.number; node = n.node; place = i; occurrence = z }

    found : (i : ℕ) {z : Occurrence} → get_elem? (occurrences f.folded 0) i ≡ some z → place_at (nodes_of lines) n.number i ≡ some (spot i z)
    found i {z} h =
        let in_node : get_elem? n.node.places i ≡ some z = ap (λ (l : List Occurrence). get_elem? l i) n.places ∙ h in
        rw (n.at, place_at) (rw in_node refl)

    ordered : x < y → Dec (f.at_x.0 < f.at_y.0) → Dec (f.at_x.0 ≡ f.at_y.0) → f.at_x.0 < f.at_y.0
    ordered less (yes h) d = h
    ordered less (no h) (yes same) =
        let z = ap f.to same in absurd (omega (arith, f.at_x.2, f.at_y.2))
    ordered less (no h) (no differ) =
        absurd (omega (arith, f.rising f.at_y.0 f.at_x.0 (omega arith) f.at_x.1, f.at_x.2, f.at_y.2))
