-- Where one edge stands for all: the walk found among the nodes is dangerous, and where a dangerous pair can be closed the test among the nodes
-- passes (so it does for a dangerous closed walk of any length: `NodeComplete` of proofs/).
use Rattle.std.specs.Prelude.{◌≡◌, Bool, false, ◌||◌, ◌⊎◌, List, [], ◌∷◌, ◌++◌}
use Rattle.std.proofs.Math.Path.{refl}
use Rattle.std.proofs.Common.{sym, ap, ◌∙◌, inl, inr, not-suc-le-zero, le_of_suc-le-suc, arith, eqb-true, eq-eqb, ltb-true, lt-ltb}
use Rattle.std.proofs.Math.Bool.{true}
use Rattle.std.proofs.lemmas.Bool.{false≢true}
use Rattle.std.proofs.Math.Option.{Option, none, some}
use Prim.Native.Nat.{ℕ, zero, suc, ◌+◌, ◌≤◌, ◌<◌, zero-le, suc-le-suc}
use Rattle.std.proofs.Math.Dec.{ltb}
use Rattle.std.proofs.Math.ListN.{length}
use Rattle.spec_base.specs.Basic.{any, all, first, numbers, around, pairs_to}
use Rattle.law_base.specs.BoolLaws.{true_false, and_true, and_of, or_true, or_left, or_right}
use Rattle.law_base.specs.ListLaws.{any_numbers_of, any_true, first_found, first_some, numbers_member}
use Rattle.spec_graph.specs.Graph.{Flow, Graph, is_back}
use Rattle.spec_graph.specs.Walk.{Step, is_edge, dangerous_pair, is_dangerous}
use Rattle.law_walk.specs.Reach.{Regular, Reachable, steps_of, closes, DangerousReturn, back_of, rounds_for, reach_short}
use Rattle.law_walk.specs.Reach.Reachable.{here, along}
use Rattle.pick_laws.specs.Pick.{Picks, picked, dangerous_picks, onward_to, reaches, returns_at, node_test, step_of, step_along, way_to, walk_at}
use Rattle.pick_laws.specs.declared.Pick.{Pick}

-- the picks among n nodes stand for all edges: each is an edge, a forward one leaves a loose place where any does and else
-- enters last, and a back one leaves first
pub record Picked (g : Graph) (n : ℕ) (forwards backs : Picks) : Type 0 where
  pub forward_edge : (u v : ℕ) (p : Pick) → u < n → v < n → forwards u v ≡ some p
      → (g.edge u p.leaves v p.enters Flow.forward ≡ true) × (p.loose ≡ g.loose u p.leaves)
  pub forward_last : (u i v j : ℕ) → g.edge u i v j Flow.forward ≡ true
      → (p : Pick) × (forwards u v ≡ some p) × ((p.loose ≡ true) ⊎ ((g.loose u i ≡ false) × (j ≤ p.enters)))
  pub back_edge : (v w : ℕ) (q : Pick) → v < n → w < n → backs v w ≡ some q → g.edge v q.leaves w q.enters Flow.back ≡ true
  pub back_first : (v k w l : ℕ) → g.edge v k w l Flow.back ≡ true
      → (q : Pick) × (backs v w ≡ some q) × (q.leaves ≤ k)

-- what is picked
pub picked_some : (o : Option Pick) → picked o ≡ true → (p : Pick) × (o ≡ some p)
picked_some none h = absurd (false≢true h)
picked_some (some p) h = (p, refl)

-- dangerous picks are two
pub dangerous_some : (e c : Option Pick) → dangerous_picks e c ≡ true
    → (p : Pick) × (q : Pick) × (e ≡ some p) × (c ≡ some q) × (ltb q.leaves p.enters || p.loose ≡ true)
dangerous_some none c h = absurd (false≢true h)
dangerous_some (some e) none h = absurd (false≢true h)
dangerous_some (some e) (some c) h = (e, c, refl, refl, h)

-- the step along an edge that is there
along_some : (m : ℕ) (flow : Flow) {o : Option Pick} {p : Pick} → o ≡ some p
    → step_along m flow o ≡ step_of m flow p ∷ []
along_some m flow e = ap (step_along m flow) e

-- the rounds are fewer than the nodes
rounds_short : (n : ℕ) → 0 < n → rounds_for n + 2 ≤ n + 1
rounds_short zero h = absurd (not-suc-le-zero h)
rounds_short (suc n) h = omega arith

-- more nodes need no fewer rounds
rounds_more : (m n : ℕ) → m ≤ n → rounds_for m ≤ rounds_for n
rounds_more zero n h = zero-le
rounds_more (suc m) zero h = absurd (not-suc-le-zero h)
rounds_more (suc m) (suc n) h = le_of_suc-le-suc h

-- a node is reached from itself, in any number of steps
pub reaches_here : (forwards : Picks) (n u d w : ℕ) → w ≡ u → reaches forwards n u d w ≡ true
unfolding reaches
reaches_here forwards n u zero w e = eq-eqb w u e
reaches_here forwards n u (suc d) w e = or_left (any (onward_to forwards (reaches forwards n u d) w) (numbers n)) (reaches_here forwards n u d w e)

module _ {g : Graph} {forwards backs : Picks} where
  -- the way that is found is a way in the graph, of at most d steps
  way_found : {n : ℕ} → Picked g n forwards backs → (u d w : ℕ) → w < n → reaches forwards n u d w ≡ true
      → (r : Reachable g w u) × (steps_of r ≡ way_to forwards n u d w) × (length (steps_of r) ≤ d)
  unfolding reaches way_to steps_of
  way_found {n} picks u zero w small h = (here (eqb-true w u h), refl, zero-le)
  way_found {n} picks u (suc d) w small h =
      go (λ x l e. way_found picks u d x l e) (reaches forwards n u d w) refl h
    where
      Rest : Type 0
      Rest = (x : ℕ) → x < n → reaches forwards n u d x ≡ true
          → (r : Reachable g x u) × (steps_of r ≡ way_to forwards n u d x) × (length (steps_of r) ≤ d)

      next : Rest → (x : ℕ) → x < n → onward_to forwards (reaches forwards n u d) w x ≡ true
          → (r : Reachable g w u) × (steps_of r ≡ step_along w Flow.forward (forwards w x) ++ way_to forwards n u d x) × (length (steps_of r) ≤ suc d)
      next rest x l e =
          let parts = and_true (picked (forwards w x)) (reaches forwards n u d x) e in
          let p = picked_some (forwards w x) parts.0 in
          let t = rest x l parts.1 in (
            along {m = w} p.0.leaves x p.0.enters Flow.forward (picks.forward_edge w x p.0 small l p.1).0 t.0,
            ap (λ (l : List Step). step_of w Flow.forward p.0 ∷ l) t.1
                ∙ ap (λ (l : List Step). l ++ way_to forwards n u d x) (sym (along_some w Flow.forward p.1)),
            suc-le-suc t.2,
          )

      on : Rest → (o : Option ℕ) → first (onward_to forwards (reaches forwards n u d) w) (numbers n) ≡ o
          → any (onward_to forwards (reaches forwards n u d) w) (numbers n) ≡ true
          → (r : Reachable g w u)
          × (steps_of r ≡ elim o [ none ↦ [] | some x ↦ step_along w Flow.forward (forwards w x) ++ way_to forwards n u d x ])
          × (length (steps_of r) ≤ suc d)
      on rest none e k =
          let a = any_true (onward_to forwards (reaches forwards n u d) w) (numbers n) k in
          let f = first_found (onward_to forwards (reaches forwards n u d) w) (numbers n) a.1 a.2 in
          let z : ◌≡◌ {A = ℕ} 0 1 = cc in absurd (omega arith)
      on rest (some x) e k =
          let f = first_some (onward_to forwards (reaches forwards n u d) w) (numbers n) e in
          next rest x (numbers_member n f.0) f.1

      go : Rest → (b : Bool) → reaches forwards n u d w ≡ b
          → b || any (onward_to forwards (reaches forwards n u d) w) (numbers n) ≡ true
          → (r : Reachable g w u)
          × (steps_of r
          ≡ elim b [
            | true ↦ way_to forwards n u d w
            | false ↦
                elim (first (onward_to forwards (reaches forwards n u d) w) (numbers n)) [
                  | none ↦ []
                  | some x ↦ step_along w Flow.forward (forwards w x) ++ way_to forwards n u d x
                ]
          ])
          × (length (steps_of r) ≤ suc d)
      go rest true e k = let t = rest w small e in (t.0, t.1, omega arith)
      go rest false e k = on rest (first (onward_to forwards (reaches forwards n u d) w) (numbers n)) refl k

  -- an edge of either flow is stood for by a forward one
  joined_of : {n : ℕ} → Regular g → Picked g n forwards backs → (m i k j : ℕ) (flow : Flow) → g.edge m i k j flow ≡ true
      → picked (forwards m k) ≡ true
  joined_of regular picks m i k j flow h = go flow h
    where
      forward : g.edge m i k j Flow.forward ≡ true → picked (forwards m k) ≡ true
      forward e = let t = picks.forward_last m i k j e in ap picked t.1

      go : (f : Flow) → g.edge m i k j f ≡ true → picked (forwards m k) ≡ true
      go Flow.forward e = forward e
      go Flow.back e = forward (regular.twin m i k j e)

  -- a way of at most d steps is found
  way_reaches : {n : ℕ} → Regular g → Picked g n forwards backs → (d : ℕ) → g.size ≤ n → {w u : ℕ} (r : Reachable g w u) → length (steps_of r) ≤ d
      → reaches forwards n u d w ≡ true
  unfolding reaches steps_of
  way_reaches {n} regular picks d small {w} {u} (here e) h = reaches_here forwards n u d w e
  way_reaches {n} regular picks zero small (along i k j flow e r) h = absurd (not-suc-le-zero h)
  way_reaches {n} regular picks (suc d) small {w} {u} (along i k j flow e r) h =
      or_right (reaches forwards n u d w)
      (any_numbers_of (onward_to forwards (reaches forwards n u d) w) n k
      (let inside = (regular.in_nodes w i k j flow e).1 in omega arith)
      (and_of (joined_of regular picks w i k j flow e) (way_reaches regular picks d small r (le_of_suc-le-suc h))))

  -- where the test passes for three nodes, the walk along them is a dangerous closed walk, a short one
  pub walk_found : {n : ℕ} → Picked g n forwards backs → (u v w : ℕ) → u < n → v < n → w < n → returns_at forwards backs n u v w ≡ true
      → (is_dangerous g (walk_at forwards backs n u v w) ≡ true) × (length (walk_at forwards backs n u v w) ≤ n + 1)
  unfolding returns_at walk_at is_dangerous is_edge dangerous_pair
  walk_found {n} picks u v w in-u in-v in-w h =
      let test = and_true (dangerous_picks (forwards u v) (backs v w)) (reaches forwards n u (rounds_for n) w) h in
      let pair = dangerous_some (forwards u v) (backs v w) test.0 in
      let way = way_found picks u (rounds_for n) w in-w test.1 in
      go pair.0 pair.1 pair.2 pair.3 pair.4 way.0 way.1 way.2
    where
      go : (p q : Pick) → forwards u v ≡ some p → backs v w ≡ some q → ltb q.leaves p.enters || p.loose ≡ true
          → (r : Reachable g w u) → steps_of r ≡ way_to forwards n u (rounds_for n) w → length (steps_of r) ≤ rounds_for n
          → (is_dangerous g (walk_at forwards backs n u v w) ≡ true) × (length (walk_at forwards backs n u v w) ≤ n + 1)
      go p q first second danger r same short =
          rw shape (and_of (and_of edges (or_left rest pair)) refl, let few = rounds_short n (omega arith) in omega arith)
        where
          e : Step
          e = step_of u Flow.forward p

          c : Step
          c = step_of v Flow.back q

          shape : walk_at forwards backs n u v w ≡ e ∷ c ∷ steps_of r
          shape = rw (first, second, same) refl

          edges : all (is_edge g) (around (e ∷ c ∷ steps_of r)) ≡ true
          edges = and_of (picks.forward_edge u v p in-u in-v first).0 (closes r c e (picks.back_edge v w q in-v in-w second) refl)

          pair : ltb q.leaves p.enters || g.loose u p.leaves ≡ true
          pair = rw (picks.forward_edge u v p in-u in-v first).1 at danger

          rest : Bool
          rest = any (dangerous_pair g) (pairs_to e (c ∷ steps_of r))

  -- a dangerous pair that can be closed passes the test
  pub return_tested : {n : ℕ} → Regular g → Picked g n forwards backs → g.size ≤ n → DangerousReturn g → node_test forwards backs n ≡ true
  unfolding node_test returns_at is_edge dangerous_pair
  return_tested {n} regular picks small r =
      any_numbers_of (λ u. any (λ v. any (returns_at forwards backs n u v) (numbers n)) (numbers n)) n u (omega (arith, out.0))
      (any_numbers_of (λ v. any (returns_at forwards backs n u v) (numbers n)) n v (omega (arith, out.1))
      (any_numbers_of (returns_at forwards backs n u v) n w (omega (arith, into.1))
      (and_of {a = dangerous_picks (forwards u v) (backs v w)} (danger r.e.flow r.first parts.1) returns)))
    where
      u : ℕ
      u = r.e.node

      v : ℕ
      v = r.c.node

      w : ℕ
      w = r.into

      parts : (is_back r.c.flow ≡ true)
          × (is_back r.e.flow || ltb r.c.leaves r.e.enters || g.loose r.e.node r.e.leaves ≡ true)
      parts = and_true _ _ r.dangerous

      second : g.edge v r.c.leaves w r.c.enters Flow.back ≡ true
      second = rw (back_of r.c.flow parts.0) at r.second

      out : (u < g.size) × (v < g.size) × (r.e.leaves < g.places u) × (r.e.enters < g.places v)
      out = regular.in_nodes u r.e.leaves v r.e.enters r.e.flow r.first

      into : (v < g.size) × (w < g.size) × (r.c.leaves < g.places v) × (r.c.enters < g.places w)
      into = regular.in_nodes v r.c.leaves w r.c.enters Flow.back second

      returns : reaches forwards n u (rounds_for n) w ≡ true
      returns =
          let t = reach_short g regular w into.1 r.returns in
          let more = rounds_more g.size n small in
          way_reaches regular picks (rounds_for n) small t.0 (omega arith)

      firmer : (p q : Pick) → q.leaves ≤ r.c.leaves → ltb r.c.leaves r.e.enters || g.loose u r.e.leaves ≡ true
          → (p.loose ≡ true) ⊎ ((g.loose u r.e.leaves ≡ false) × (r.e.enters ≤ p.enters))
          → ltb q.leaves p.enters || p.loose ≡ true
      firmer p q early d (inl l) = or_right (ltb q.leaves p.enters) l
      firmer p q early d (inr (firm, late)) = go (or_true _ _ d)
        where
          go : (ltb r.c.leaves r.e.enters ≡ true) ⊎ (g.loose u r.e.leaves ≡ true) → ltb q.leaves p.enters || p.loose ≡ true
          go (inl l) = let before = ltb-true r.c.leaves r.e.enters l in or_left p.loose (lt-ltb q.leaves p.enters (omega arith))
          go (inr l) = absurd (true_false l firm)

      forward : g.edge u r.e.leaves v r.e.enters Flow.forward ≡ true
          → ltb r.c.leaves r.e.enters || g.loose u r.e.leaves ≡ true
          → dangerous_picks (forwards u v) (backs v w) ≡ true
      forward h d =
          let p = picks.forward_last u r.e.leaves v r.e.enters h in
          let q = picks.back_first v r.c.leaves w r.c.enters second in
          rw (p.1, q.1) (firmer p.0 q.0 q.2 d p.2)

      danger : (flow : Flow) → g.edge u r.e.leaves v r.e.enters flow ≡ true
          → is_back flow || ltb r.c.leaves r.e.enters || g.loose u r.e.leaves ≡ true
          → dangerous_picks (forwards u v) (backs v w) ≡ true
      danger Flow.forward h d = forward h d
      danger Flow.back h d =
          forward (regular.twin u r.e.leaves v r.e.enters h)
          (or_right (ltb r.c.leaves r.e.enters) (regular.back_loose u r.e.leaves v r.e.enters h))
