-- A closed walk of dependencies between the transactions of a schedule, laid out on the summary graph.
use Rattle.std.specs.Prelude.{true, false, not, ◌&&◌, ◌≢◌, ◌≡◌, ℕ, ◌≤◌, ◌<◌, eqb}
use mathlib.Core.List.Memᴰ
use mathlib.Core.List.{List, [], ◌∷◌, map, Memᴰ}
use Rattle.std.proofs.Math.Option.{some}
use Rattle.std.proofs.Math.Path.{refl}
use Rattle.std.proofs.Common.{sym, ap, subst, ◌∙◌, arith}
use Rattle.std.proofs.Math.Decide.{dec_lt}
use Rattle.std.proofs.Math.ListN.{get_elem?}
use Rattle.spec_base.specs.Basic.{all, around}
use Rattle.law_base.specs.BoolLaws.{and_true}
use Rattle.law_base.specs.ListLaws.{map_member, around_member, get_elem?_lt, get_elem?_member, get_elem?_same}
use Rattle.spec_text.specs.declared.Line.{Line}
use Rattle.spec_graph.specs.Program.{Statement}
use Rattle.spec_graph.specs.Unfolding.{Occurrence, occurrences, nodes_of}
use Rattle.spec_graph.specs.Graph.{Flow}
use Rattle.spec_graph.specs.Edge.{at, stands, loosens, graph_of}
use Rattle.spec_graph.specs.Walk.{DangerousWalk}
use Rattle.spec_schedule.specs.Event.{Action, Event, is_read, is_write, is_predicate_read, is_commit}
use Rattle.spec_schedule.specs.Schedule.{Transaction, Schedule}
use Rattle.soundness.specs.dependency.Dependency.{before}
use Rattle.soundness.specs.dependency.DependencyLaws.{before_found}
use Rattle.soundness.specs.committing.EveryAction.{actions_apart}
use Rattle.soundness.specs.committing.Rules.{statement_whole}
use Rattle.soundness.specs.committing.Letters.{Dependency, dependency_cases}
use Rattle.soundness.specs.committing.Letters.Dependency.{write_write_lem, write_read_lem, write_predicate_lem, read_write_lem, predicate_write_lem}
use Rattle.soundness.specs.transactions.Events.{event_made, schedule_lawful, schedule_commits}
use Rattle.soundness.specs.transactions.Statements.{event_stated, place_order}
use Rattle.soundness.specs.folding.Folding.{fold}
use Rattle.law_walk.specs.ClosedWalks.{Hop, Fits, around_linked, around_map, closed_dependencies}
use Rattle.soundness.specs.EdgeLetters.{Sets}
use Rattle.soundness.specs.Nodes.{node_of}
use Rattle.soundness.specs.Visits.{Visit, At, Spot, spot_at, performed_occurrence}
use Rattle.soundness.specs.Edges.{forward_edge_lem, back_edge_lem, firm, early}

-- what reads, writes or tests is no commit
write_goes : (a : Action) → is_write a ≡ true → is_commit a ≡ false
write_goes = actions_apart is_write is_commit refl

read_goes : (a : Action) → is_read a ≡ true → is_commit a ≡ false
read_goes = actions_apart is_read is_commit refl

predicate_goes : (a : Action) → is_predicate_read a ≡ true → is_commit a ≡ false
predicate_goes = actions_apart is_predicate_read is_commit refl

-- the events of a dependency are no commits, and of different transactions
pub parts : {events : List Event} {m n : ℕ} {b a : Event} → Dependency events m b n a
    → (is_commit b.action ≡ false) × (is_commit a.action ≡ false) × (b.transaction ≢ a.transaction)
parts {b} {a} (write_write_lem apart wb wa t h lt) = (write_goes b.action wb, write_goes a.action wa, apart)
parts {b} {a} (write_read_lem apart wb ra t h see) = (write_goes b.action wb, read_goes a.action ra, apart)
parts {b} {a} (write_predicate_lem apart wb pa t see) = (write_goes b.action wb, predicate_goes a.action pa, apart)
parts {b} {a} (read_write_lem apart rb wa t h see) = (read_goes b.action rb, write_goes a.action wa, apart)
parts {b} {a} (predicate_write_lem apart pb wa t see) = (predicate_goes b.action pb, write_goes a.action wa, apart)

-- lists that come out empty were empty
map_empty : {A B : Type 0} (f : A → B) (l : List A) → map f l ≡ [] → l ≡ []
map_empty f [] e = refl
map_empty f (x ∷ l) e = let z : ◌≡◌ {A = ℕ} 0 1 = cc in absurd (omega arith)

around_empty : {A : Type 0} (l : List A) → around l ≡ [] → l ≡ []
around_empty [] e = refl
around_empty (x ∷ []) e = let z : ◌≡◌ {A = ℕ} 0 1 = cc in absurd (omega arith)
around_empty (x ∷ y ∷ l) e = let z : ◌≡◌ {A = ℕ} 0 1 = cc in absurd (omega arith)

module _ {lines : List Line} (s : Schedule lines) where
  -- a dependency between two events of the schedule
  pub record Tie : Type 0 where
    pub left : ℕ
    pub entered : ℕ
    pub b : Event
    pub a : Event
    pub at_b : get_elem? s.events left ≡ some b
    pub at_a : get_elem? s.events entered ≡ some a
    pub dependency : Dependency s.events left b entered a

  -- the transactions that it ties
  abbrev pub ends : Tie → ℕ × ℕ
  ends t = (t.b.transaction, t.a.transaction)

  tie_of : (i j : ℕ) → before s.events i j ≡ true → (t : Tie) × (ends t ≡ (i, j))
  tie_of i j h =
      let (m, n, b, a, at_b, at_a, p, q, d) = before_found s.events i j h in (
        record { left = m; entered = n; b = b; a = a; at_b = at_b; at_a = at_a; dependency = dependency_cases s.events m b n a d },
        λ k. (p k, q k),
      )

  -- a tie for each pair of a walk
  ties_of : (l : List (ℕ × ℕ)) → all (λ pair. before s.events pair.0 pair.1 && not (eqb pair.0 pair.1)) l ≡ true
      → (ties : List Tie) × (map ends ties ≡ l)
  ties_of [] h = ([], refl)
  ties_of (pair ∷ l) h =
      let both = and_true (before s.events pair.0 pair.1 && not (eqb pair.0 pair.1)) _ h in
      let one = and_true (before s.events pair.0 pair.1) (not (eqb pair.0 pair.1)) both.0 in
      let t = tie_of pair.0 pair.1 one.0 in
      let rest = ties_of l both.1 in
      (t.0 ∷ rest.0, λ k. t.1 k ∷ rest.1 k)

  -- a transaction between the tie that enters it and the tie that leaves it, with the node that stands for it there
  pub record Stage : Type 0 where
    pub entering : Tie
    pub leaving : Tie
    pub meets : entering.a.transaction ≡ leaving.b.transaction
    pub visit : Visit s leaving.b.transaction
    pub arrives : ℕ
    pub arrival : At s visit arrives entering.a
    pub leaves : ℕ
    pub departure : At s visit leaves leaving.b

  abbrev pub tied : Stage → Tie × Tie
  tied g = (g.entering, g.leaving)

  stage_of : (t u : Tie) → t.a.transaction ≡ u.b.transaction → (g : Stage) × (tied g ≡ (t, u))
  stage_of t u meets =
      let i = u.b.transaction in
      let made = event_made s u.left u.b u.at_b in
      let x = made.transaction in
      let c = schedule_commits s i made.found in
      let goes = parts t.dependency in
      let leaves = parts u.dependency in
      let st_a = event_stated s i made.found t.entered t.a t.at_a meets goes.1 in
      let st_b = event_stated s i made.found u.left u.b u.at_b refl leaves.0 in
      let occ_a = (performed_occurrence x t.a.place st_a.at).0 in
      let occ_b = (performed_occurrence x u.b.place st_b.at).0 in
      let f =
      fold x.execution t.a.place u.b.place (get_elem?_lt (occurrences x.execution 0) t.a.place occ_a)
      (get_elem?_lt (occurrences x.execution 0) u.b.place occ_b) in
      let n = node_of lines x.program (s.of_programs x (get_elem?_member s.transactions i made.found)) f.folded f.member in
      let v : Visit s i =
      record {
        transaction = x;
        found = made.found;
        commit = c.0;
        commits = c.1;
        number = n.number;
        node = n.node;
        stands = n.at;
        links = n.links;
        first = t.a.place;
        second = u.b.place;
        folded = f;
        places = n.places;
      } in (
        record {
          entering = t;
          leaving = u;
          meets = meets;
          visit = v;
          arrives = f.at_x.0;
          arrival = record { inside = f.at_x.1; to = f.at_x.2 };
          leaves = f.at_y.0;
          departure = record { inside = f.at_y.1; to = f.at_y.2 };
        },
        refl,
      )

  -- a stage for each pair of ties that meet
  stages_of : (l : List (Tie × Tie)) → ((q : Tie × Tie) → Memᴰ q l → q.0.a.transaction ≡ q.1.b.transaction)
      → (stages : List Stage) × (map tied stages ≡ l)
  stages_of [] meets = ([], refl)
  stages_of (q ∷ l) meets =
      let g = stage_of q.0 q.1 (meets q (Memᴰ.head refl)) in
      let rest = stages_of l (λ r m. meets r (Memᴰ.tail m)) in
      (g.0 ∷ rest.0, λ k. g.1 k ∷ rest.1 k)

  -- consecutive images of a closed walk's pairs are linked where the pairs are
  linked_map : {A B : Type 0} (f : A → B × B) (l : List A) (walk : List B) → map f l ≡ around walk → (q : A × A) → Memᴰ q (around l)
      → (f q.0).1 ≡ (f q.1).0
  linked_map {A} {B} f l walk e q m =
      around_linked walk
      (subst (λ (l : List (B × B)). Memᴰ (f q.0, f q.1) (around l)) e
      (subst (λ (l : List ((B × B) × (B × B))). Memᴰ (f q.0, f q.1) l) (sym (around_map f l))
      (Memᴰ.map (λ (q : A × A). (f q.0, f q.1)) m)))

  -- the hop from one stage to the next
  abbrev hop_of : Stage × Stage → Hop
  hop_of q =
      record {
        node = q.0.visit.number;
        leaves = q.0.leaves;
        enters = q.1.arrives;
        commit = q.0.visit.commit;
        left = q.0.leaving.left;
        entered = q.0.leaving.entered;
      }

  module _ (set : ℕ → ℕ)
      (sets : (x : Transaction) → Memᴰ x s.transactions → (j : ℕ) (o : Occurrence) → get_elem? (occurrences x.execution 0) j ≡ some o
      → Sets set o.statement) where
    -- a tie between two nodes fits the summary graph
    module _ {j : ℕ} (g : Stage) (w : Visit s j) (r k : ℕ) (t : Tie) (e : g.leaving ≡ t) (of_a : t.a.transaction ≡ j)
        (arrival : At s w r t.a) (next : Event) (position : ℕ) (at_next : get_elem? s.events position ≡ some next)
        (of_next : next.transaction ≡ j) (departure : At s w k next) where
      abbrev u : Tie
      u = g.leaving

      arrival_u : At s w r u.a
      arrival_u = subst (λ (t : Tie). At s w r t.a) (sym e) arrival

      of_u : u.a.transaction ≡ j
      of_u = ap (λ (t : Tie). t.a.transaction) e ∙ of_a

      spot_b : Spot s g.visit g.leaves u.b
      spot_b =
          spot_at s g.visit g.leaves u.b g.departure
          (event_stated s u.b.transaction g.visit.found u.left u.b u.at_b refl (parts u.dependency).0)

      spot_a : Spot s w r u.a
      spot_a = spot_at s w r u.a arrival_u (event_stated s j w.found u.entered u.a u.at_a of_u (parts u.dependency).1)

      edge : (flow : Flow) → stands flow spot_b.spot spot_a.spot ≡ true
          → (graph_of (nodes_of lines)).edge g.visit.number g.leaves w.number r flow ≡ true
      unfolding graph_of
      edge flow h = rw (spot_b.found, spot_a.found) h

      tie_forward : (graph_of (nodes_of lines)).edge g.visit.number g.leaves w.number r Flow.forward ≡ true
      tie_forward =
          edge Flow.forward
          (forward_edge_lem s set sets g.visit w u.at_b u.at_a refl of_u g.departure arrival_u spot_b spot_a u.dependency)

      tie_back : w.commit < g.visit.commit → (graph_of (nodes_of lines)).edge g.visit.number g.leaves w.number r Flow.back ≡ true
      tie_back h =
          edge Flow.back
          (back_edge_lem s set sets g.visit w u.at_b u.at_a refl of_u g.departure arrival_u spot_b spot_a u.dependency h)

      tie_firm : (graph_of (nodes_of lines)).loose g.visit.number g.leaves ≡ false → g.visit.commit < u.entered
      unfolding graph_of
      tie_firm h =
          firm s set sets g.visit w u.at_b u.at_a refl of_u g.departure arrival_u spot_b spot_a u.dependency
          (subst (λ (x : Statement). loosens x.kind ≡ false) spot_b.statement (rw spot_b.found at h))

      tie_early : w.commit < g.visit.commit → u.left < w.commit
      tie_early h = early s set sets g.visit w u.at_b u.at_a refl of_u g.departure arrival_u spot_b spot_a u.dependency h

      -- one commit is of one transaction
      tie_differ : g.visit.commit ≡ w.commit → ⊥
      tie_differ h =
          let same = get_elem?_same s.events g.visit.commit g.visit.commits.stands (ap (get_elem? s.events) h ∙ w.commits.stands) in
          (parts u.dependency).2
          (sym g.visit.commits.own ∙ ap (λ (e : Event). e.transaction) same ∙ w.commits.own ∙ sym of_u)

      -- where the place entered is not after the place left, what is left comes after the commit too
      tie_after : g.visit.commit < u.entered → r ≤ k → g.visit.commit < position
      tie_after h le = go (dec_lt r k)
        where
          go : Dec (r < k) → g.visit.commit < position
          go (yes lt) =
              let up = w.folded.rising r k lt departure.inside in
              let a : w.folded.to r ≡ u.a.place = arrival_u.to in
              let b : w.folded.to k ≡ next.place = departure.to in
              let later : u.entered < position =
              place_order s j w.found u.entered position u.a next u.at_a at_next of_u of_next (omega arith) in
              omega arith
          go (no ge) =
              let here : r ≡ k = omega arith in
              let same_place : u.a.place ≡ next.place = sym arrival_u.to ∙ ap w.folded.to here ∙ departure.to in
              statement_whole (schedule_lawful s) u.entered position u.at_a at_next (of_u ∙ sym of_next) same_place g.visit.commits
              (λ q. (parts u.dependency).2 (sym q)) h

    -- the hops between three consecutive stages fit the graph
    fits : (f g h : Stage) → f.leaving ≡ g.entering → Fits (graph_of (nodes_of lines)) (hop_of (f, g)) (hop_of (g, h))
    fits f g h e =
        let meets : g.entering.a.transaction ≡ g.leaving.b.transaction = g.meets in
        let r = g.arrives in
        let k = g.leaves in
        let t = g.entering in
        let b = g.leaving.b in
        let m = g.leaving.left in
        let at_b = g.leaving.at_b in
        record {
          differ = tie_differ f g.visit r k t e meets g.arrival b m at_b refl g.departure;
          is_forward = λ c. tie_forward f g.visit r k t e meets g.arrival b m at_b refl g.departure;
          is_back = tie_back f g.visit r k t e meets g.arrival b m at_b refl g.departure;
          firm = tie_firm f g.visit r k t e meets g.arrival b m at_b refl g.departure;
          early = tie_early f g.visit r k t e meets g.arrival b m at_b refl g.departure;
          after = tie_after f g.visit r k t e meets g.arrival b m at_b refl g.departure;
        }

    -- a closed walk of dependencies gives a dangerous closed walk of the summary graph
    pub closed_dangerous : (walk : List ℕ) → (walk ≡ [] → ⊥)
        → all (λ pair. before s.events pair.0 pair.1 && not (eqb pair.0 pair.1)) (around walk) ≡ true
        → DangerousWalk (graph_of (nodes_of lines))
    closed_dangerous walk full h =
        closed_dependencies (graph_of (nodes_of lines)) hops nonempty (λ pair m. fitting pair (hop_pair pair m))
      where
        ties : (l : List Tie) × (map ends l ≡ around walk)
        ties = ties_of (around walk) h

        stages : (l : List Stage) × (map tied l ≡ around ties.0)
        stages = stages_of (around ties.0) (linked_map ends ties.0 walk ties.1)

        hops : List Hop
        hops = map hop_of (around stages.0)

        nonempty : hops ≡ [] → ⊥
        nonempty e =
            let no_stages = around_empty stages.0 (map_empty hop_of (around stages.0) e) in
            let no_ties = around_empty ties.0 (sym stages.1 ∙ ap (map tied) no_stages) in
            full (around_empty walk (sym ties.1 ∙ ap (map ends) no_ties))

        Consecutive : Hop × Hop → Type 0
        Consecutive pair =
            (q : (Stage × Stage) × (Stage × Stage)) × Memᴰ q (around (around stages.0)) × ((hop_of q.0, hop_of q.1) ≡ pair)

        hop_pair : (pair : Hop × Hop) → Memᴰ pair (around hops) → Consecutive pair
        hop_pair pair m =
            map_member (λ (q : (Stage × Stage) × (Stage × Stage)). (hop_of q.0, hop_of q.1)) (around (around stages.0))
            (subst (λ (l : List (Hop × Hop)). Memᴰ pair l) (around_map hop_of (around stages.0)) m)

        fitting : (pair : Hop × Hop) → Consecutive pair → Fits (graph_of (nodes_of lines)) pair.0 pair.1
        fitting pair (q, m, e) =
            let linked : q.0.1 ≡ q.1.0 = around_linked stages.0 m in
            let inside = around_member (around stages.0) m in
            let tie : q.0.0.leaving ≡ q.0.1.entering = linked_map tied stages.0 ties.0 stages.1 q.0 inside.0 in
            subst (λ (pair : Hop × Hop). Fits (graph_of (nodes_of lines)) pair.0 pair.1) e
            (subst (λ (g : Stage). Fits (graph_of (nodes_of lines)) (hop_of q.0) (hop_of (g, q.1.1))) linked
            (fits q.0.0 q.0.1 q.1.1 tie))
