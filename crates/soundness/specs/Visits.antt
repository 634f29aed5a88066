-- A transaction as a node of the summary graph: which place stands for which event, and what a link says there.
use Rattle.std.proofs.Math.Bool.{Bool, true}
use Rattle.std.specs.Prelude.{false, not, ◌&&◌, ◌⊎◌, ◌≡◌, refl, ℕ, ◌<◌, length, take}
use mathlib.Core.List.{List, Memᴰ}
use Rattle.std.proofs.Common.{inl, inr, ◌∙◌, zero-add, arith}
use Rattle.std.proofs.Math.Option.{some}
use Rattle.std.proofs.Math.Path.{sym, ap, subst}
use Rattle.std.proofs.Math.Dec.{eqb}
use Rattle.std.proofs.Math.ListN.{get_elem?}
use borrow.Author.Tests.{eqb-true, eq-eqb}
use Rattle.spec_base.specs.Basic.{any, all}
use Rattle.law_base.specs.BoolLaws.{and_true, and_of, or_true, true_false, not_true}
use Rattle.law_base.specs.ListLaws.{any_true, all_true, get_elem?_member, get_elem?_lt, get_elem?_found, get_elem?_of_take, member_get_elem?}
use Rattle.spec_text.specs.declared.Line.{Line}
use Rattle.spec_graph.specs.Program.{Statement, Link}
use Rattle.spec_graph.specs.Unfolding.{Occurrence, Node, occurrences, nodes_of}
use Rattle.spec_graph.specs.Edge.{Place, at, place_at, binds, leads, has_parent, guarded_near, guarded_far, shields}
use Rattle.spec_schedule.specs.Event.{Event, is_claim, is_predicate_read}
use Rattle.spec_schedule.specs.Schedule.{Transaction, Performed, Operation, Schedule, performed, link_kept, keys_kept}
use Rattle.soundness.specs.committing.Rules.{CommitsAt}
use Rattle.soundness.specs.transactions.Operations.{
  Does,
  does_test,
  does_read,
  does_lock,
  does_write,
  does_insert,
  does_delete,
  statement_done,
  performed_at,
  at_performed,
}
use Rattle.soundness.specs.transactions.Statements.{Stated, shield_event}
use Rattle.soundness.specs.folding.Folding.{Folded}

-- the occurrence of a performed statement
pub performed_occurrence : (x : Transaction) (j : ℕ) {p : Performed} → get_elem? (performed x) j ≡ some p
    → (get_elem? (occurrences x.execution 0) j ≡ some p.occurrence) × (p.place ≡ j)
unfolding performed
performed_occurrence x j h = let r = performed_at x 0 (occurrences x.execution 0) j h in (r.1, r.0 ∙ zero-add j)

pub occurrence_performed : (x : Transaction) (j : ℕ) {o : Occurrence} → get_elem? (occurrences x.execution 0) j ≡ some o
    → (p : Performed) × (get_elem? (performed x) j ≡ some p) × (p.occurrence ≡ o)
unfolding performed
occurrence_performed x j h = at_performed x 0 (occurrences x.execution 0) j h

-- an operation on a tuple is on one of its statement's tuples
pub does_tuple : {p : Performed} {o : Operation} → Does p o → is_predicate_read o.action ≡ false → Memᴰ o.tuple p.tuples
does_tuple (does_read a u t m) n = m
does_tuple (does_lock a u t m) n = m
does_tuple (does_write a u t m) n = m
does_tuple (does_insert a u t m) n = m
does_tuple (does_delete a u t m) n = m
does_tuple (does_test a u t) n = absurd (true_false (rw a) n)

module _ {lines : List Line} (s : Schedule lines) where
  -- transaction i, with a node that stands for it
  pub record Visit (i : ℕ) : Type 0 where
    pub transaction : Transaction
    pub found : get_elem? s.transactions i ≡ some transaction
    pub commit : ℕ
    pub commits : CommitsAt s.events i commit
    pub number : ℕ
    pub node : Node
    pub stands : get_elem? (nodes_of lines) number ≡ some node
    pub links : node.links ≡ transaction.program.links
    pub first : ℕ
    pub second : ℕ
    pub folded : Folded transaction.execution first second
    pub places : node.places ≡ occurrences folded.folded 0

  -- the event e of the transaction stands at this place of the node
  pub record At {i : ℕ} (v : Visit i) (place : ℕ) (e : Event) : Type 0 where
    pub inside : place < length (occurrences v.folded.folded 0)
    pub to : v.folded.to place ≡ e.place

  -- the place of the graph where an event stands, and its statement
  pub record Spot {i : ℕ} (v : Visit i) (place : ℕ) (e : Event) : Type 0 where
    pub spot : Place
    pub found : place_at (nodes_of lines) v.number place ≡ some spot
    pub node : spot.node ≡ v.node
    pub here : spot.place ≡ place
    pub occurrence : get_elem? (occurrences v.folded.folded 0) place ≡ some spot.occurrence
    pub stated : Stated s v.transaction e
    pub statement : at spot ≡ statement_done stated.performs

  pub spot_at : {i : ℕ} (v : Visit i) (place : ℕ) (e : Event) → At v place e → Stated s v.transaction e → Spot v place e
  unfolding place_at
  spot_at {i} v place e a st =
      let o = get_elem?_found (occurrences v.folded.folded 0) place a.inside in
      let in_node : get_elem? v.node.places place ≡ some o.0 = ap (λ (l : List Occurrence). get_elem? l place) v.places ∙ o.1 in
      let p = performed_occurrence v.transaction e.place st.at in
      record {
        spot = record { number = v.number; node = v.node; place = place; occurrence = o.0 };
        found = rw (v.stands, place_at) (rw in_node refl);
        node = refl;
        here = refl;
        occurrence = o.1;
        stated = st;
        statement = v.folded.keeps place o.0 st.performs.occurrence o.1
            (ap (λ (k : ℕ). get_elem? (occurrences v.transaction.execution 0) k) a.to ∙ p.0);
      }

  -- what a guarded place says of its event: its transaction writes or locks the key's image of the event's tuple, in the statement that the
  -- parent's place in the node stands for
  pub record Guard {i : ℕ} (v : Visit i) (key : ℕ) (e : Event) : Type 0 where
    pub position : ℕ
    pub event : Event
    pub stands : get_elem? s.events position ≡ some event
    pub own : event.transaction ≡ i
    pub parent : ℕ
    pub to : v.folded.to parent ≡ event.place
    pub claims : is_claim event.action ≡ true
    pub relation : (s.key key (record { relation = e.relation; number = e.tuple })).relation ≡ event.relation
    pub tuple : (s.key key (record { relation = e.relation; number = e.tuple })).number ≡ event.tuple

  -- a link that binds, in words
  binds_parts : (l : Link) (child parent : Occurrence) → binds l child parent ≡ true
      → (l.child ≡ child.statement.id) × (l.parent ≡ parent.statement.id) × (leads parent.path child.path ≡ true)
  unfolding binds
  binds_parts l child parent h =
      let two = and_true (eqb l.child child.statement.id && eqb l.parent parent.statement.id) (leads parent.path child.path) h in
      let one = and_true (eqb l.child child.statement.id) (eqb l.parent parent.statement.id) two.0 in
      (eqb-true l.child child.statement.id one.0, eqb-true l.parent parent.statement.id one.1, two.1)

  binds_of : (l : Link) (child parent : Occurrence) → l.child ≡ child.statement.id → l.parent ≡ parent.statement.id
      → leads parent.path child.path ≡ true → binds l child parent ≡ true
  unfolding binds
  binds_of l child parent c p t = and_of (and_of (eq-eqb l.child child.statement.id c) (eq-eqb l.parent parent.statement.id p)) t

  -- H7: where a link binds in the execution, the key takes each tuple of the child to each of the parent
  link_image : (x : Transaction) → keys_kept s.key x ≡ true → (l : Link) → Memᴰ l x.program.links → (j k : ℕ) {child parent : Performed}
      → get_elem? (performed x) j ≡ some child → get_elem? (performed x) k ≡ some parent → binds l child.occurrence parent.occurrence ≡ true
      → (t u : ℕ) → Memᴰ t child.tuples → Memᴰ u parent.tuples
      → ((s.key l.key (record { relation = (statement_done child).relation; number = t })).relation ≡ (statement_done parent).relation)
      × ((s.key l.key (record { relation = (statement_done child).relation; number = t })).number ≡ u)
  unfolding keys_kept link_kept
  link_image x kept l in_links j k {child} {parent} at_c at_p b t u in_c in_p =
      let image = s.key l.key (record { relation = (statement_done child).relation; number = t }) in
      let links = all_true (λ l. all (λ child. all (λ parent. link_kept s.key l child parent) (performed x)) (performed x)) kept in_links in
      let children = all_true (λ child. all (λ parent. link_kept s.key l child parent) (performed x)) links (get_elem?_member (performed x) j at_c) in
      let one = all_true (λ parent. link_kept s.key l child parent) children (get_elem?_member (performed x) k at_p) in
      let tuples = all_true _ (bound one) in_c in
      let both = and_true (eqb image.relation (statement_done parent).relation) (eqb image.number u) (all_true _ tuples in_p) in
      (eqb-true image.relation (statement_done parent).relation both.0, eqb-true image.number u both.1)
    where
      Held : Bool
      Held =
          all
          (λ t. all
          (λ u.
          let image = s.key l.key (record { relation = child.occurrence.statement.relation; number = t }) in
          eqb image.relation parent.occurrence.statement.relation && eqb image.number u)
          parent.tuples)
          child.tuples

      bound : link_kept s.key l child parent ≡ true → Held ≡ true
      bound h = go (or_true (not (binds l child.occurrence parent.occurrence)) Held h)
        where
          go : (not (binds l child.occurrence parent.occurrence) ≡ true) ⊎ (Held ≡ true) → Held ≡ true
          go (inl n) = absurd (true_false b (not_true (binds l child.occurrence parent.occurrence) n))
          go (inr h) = h

  -- a place that has a parent among some places of its node has its guard, at one of them: the parent's statement claims what the link says
  guard_among : {i : ℕ} (v : Visit i) (place key : ℕ) (e : Event) (p : Spot v place e) → At v place e → is_predicate_read e.action ≡ false
      → (Among : ℕ → Type 0) (among : List Occurrence)
      → ((k : ℕ) (o : Occurrence) → get_elem? among k ≡ some o → Among k × (get_elem? p.spot.node.places k ≡ some o))
      → has_parent key p.spot among ≡ true → (g : Guard v key e) × Among g.parent
  unfolding has_parent
  guard_among {i} v place key e p a np Among among found h = linked (any_true _ p.spot.node.links h)
    where
      x : Transaction
      x = v.transaction

      unfolded : List Occurrence
      unfolded = occurrences v.folded.folded 0

      executed : List Occurrence
      executed = occurrences x.execution 0

      child : Performed
      child = p.stated.performs

      child_at : get_elem? executed (v.folded.to place) ≡ some child.occurrence
      child_at = ap (λ (k : ℕ). get_elem? executed k) a.to ∙ (performed_occurrence x e.place p.stated.at).0

      -- the parent in the unfolding, at place k, is one in the execution
      parent : (l : Link) → Memᴰ l x.program.links → l.key ≡ key → (k : ℕ) (o : Occurrence) → Among k → get_elem? unfolded k ≡ some o
          → binds l p.spot.occurrence o ≡ true → shields o.statement.kind ≡ true → (g : Guard v key e) × Among g.parent
      parent l in_links same_key k o here at_o b sh =
          let to = v.folded.to k in
          let o' = get_elem?_found executed to (v.folded.inside k (get_elem?_lt unfolded k at_o)) in
          let q = occurrence_performed x to o'.1 in
          let same_parent : o.statement ≡ q.0.occurrence.statement =
          v.folded.keeps k o o'.0 at_o o'.1 ∙ ap (λ (o : Occurrence). o.statement) (sym q.2) in
          let parts = binds_parts l p.spot.occurrence o b in
          let leading =
          v.folded.binding k place o p.spot.occurrence o'.0 child.occurrence at_o p.occurrence o'.1 child_at parts.2 in
          let bound =
          binds_of l child.occurrence q.0.occurrence (parts.0 ∙ ap (λ (s : Statement). s.id) p.statement)
          (parts.1 ∙ ap (λ (s : Statement). s.id) same_parent)
          (subst (λ (o : Occurrence). leads o.path child.occurrence.path ≡ true) (sym q.2) leading) in
          let w = shield_event s i v.found to q.1 (subst (λ (s : Statement). shields s.kind ≡ true) same_parent sh) in
          let kept = all_true (keys_kept s.key) s.kept (get_elem?_member s.transactions i v.found) in
          let image =
          link_image x kept l in_links e.place to p.stated.at q.1 bound e.tuple w.1.tuple
          (does_tuple p.stated.belongs.does np) w.7 in
          let rel : (statement_done child).relation ≡ e.relation = sym p.stated.belongs.relation in
          let guard : Guard v key e =
          record {
            position = w.0;
            event = w.1;
            stands = w.2;
            own = w.3;
            parent = k;
            to = sym w.4;
            claims = w.5;
            relation =
                subst (λ (r : ℕ). (s.key key (record { relation = r; number = e.tuple })).relation ≡ w.1.relation) rel
                (subst (λ (f : ℕ). (s.key f (record { relation = (statement_done child).relation; number = e.tuple })).relation ≡ w.1.relation)
                same_key
                (image.0 ∙ sym w.6));
            tuple =
                subst (λ (r : ℕ). (s.key key (record { relation = r; number = e.tuple })).number ≡ w.1.tuple) rel
                (subst (λ (f : ℕ). (s.key f (record { relation = (statement_done child).relation; number = e.tuple })).number ≡ w.1.tuple) same_key
                image.1);
          } in
          (guard, here)

      linked : (l : Link) × Memᴰ l p.spot.node.links
          × (eqb l.key key && any (λ parent. binds l p.spot.occurrence parent && shields parent.statement.kind) among ≡ true)
          → (g : Guard v key e) × Among g.parent
      linked (l, in_links, h) =
          let two =
          and_true (eqb l.key key) (any (λ parent. binds l p.spot.occurrence parent && shields parent.statement.kind) among) h in
          let one = any_true (λ parent. binds l p.spot.occurrence parent && shields parent.statement.kind) among two.1 in
          let both = and_true (binds l p.spot.occurrence one.0) (shields one.0.statement.kind) one.2 in
          let position = member_get_elem? one.1 in
          let k = position.0 in
          let taken = found k one.0 position.1 in
          let at_o : get_elem? unfolded k ≡ some one.0 =
          ap (λ (l : List Occurrence). get_elem? l k) (sym v.places)
          ∙ subst (λ (n : Node). get_elem? n.places k ≡ some one.0) p.node taken.1 in
          parent l
          (subst (λ (links : List Link). Memᴰ l links) (ap (λ (n : Node). n.links) p.node ∙ v.links) in_links)
          (eqb-true l.key key two.0) k one.0 taken.0 at_o both.0 both.1

  -- E3: a place guarded on the near side has its guard before it: the map of places rises
  pub guard_near : {i : ℕ} (v : Visit i) (place key : ℕ) (e : Event) (p : Spot v place e) → At v place e → is_predicate_read e.action ≡ false
      → guarded_near key p.spot ≡ true → (g : Guard v key e) × (g.event.place < e.place)
  unfolding guarded_near
  guard_near v place key e p a np h =
      let places = p.spot.node.places in
      let g =
      guard_among v place key e p a np (λ k. k < place) (take p.spot.place places)
      (λ k o m. let t = get_elem?_of_take p.spot.place places k m in (subst (λ (n : ℕ). k < n) p.here t.0, t.1)) h in
      let up = v.folded.rising g.0.parent place g.1 a.inside in
      (g.0, omega (arith, a.to, g.0.to))

  -- Req 02: a place guarded on the far side has its guard, wherever it stands
  pub guard_far : {i : ℕ} (v : Visit i) (place key : ℕ) (e : Event) (p : Spot v place e) → At v place e → is_predicate_read e.action ≡ false
      → guarded_far key p.spot ≡ true → Guard v key e
  unfolding guarded_far
  guard_far v place key e p a np h = (guard_among v place key e p a np (λ k. Unit {0}) p.spot.node.places (λ k o m. (tt, m)) h).0
