-- T11: in every node of an accepted workload each child occurrence has its bound parent occurrence. A link's line passed its test: the blocks around
-- the parent's statement are all around the child's; so wherever the child occurs, the parent occurs in the same turns and arms, before it or after.
use Rattle.std.specs.Prelude.{Bool, true, false, ◌&&◌, ◌≡◌, refl, ℕ, ◌<◌, length}
use mathlib.Core.List.{List, [], ◌∷◌, ◌++◌, map, reverse, append_assoc, Memᴰ}
use Rattle.std.proofs.Math.Path.{sym, ap, subst}
use Rattle.std.proofs.Common.{◌∙◌, arith, eqb-true, eq-eqb}
use Rattle.std.proofs.Math.Dec.{eqb}
use Rattle.spec_base.specs.Basic.{any, count}
use Rattle.law_base.specs.BoolLaws.{and_true, and_of, implied, or_left, or_right}
use Rattle.law_base.specs.ListLaws.{any_true, any_append, all_true, count_keep, map_member, member_reverse, reverse_member, get_elem?_member}
use Rattle.spec_text.specs.declared.Line.{Line}
use Rattle.spec_text.specs.declared.LineKind.TheVariants.{Pr, Li}
use Rattle.spec_text.specs.declared.StatementKind.{StatementKind}
use Rattle.spec_text.specs.declared.Workload.{Workload}
use Rattle.spec_text.specs.Reading.{sort, is_program, is_link, is_statement, is_statement_of, program, Block, same_block, open_blocks, blocks_around}
use Rattle.spec_text.specs.Reading.{none_open, ordered, statement, key, can_be_parent, all_around, link_fits, read}
use Rattle.spec_text.specs.Reading.Outcome.{accepted}
use Rattle.spec_text.specs.Value.{Given, lines_of}
use Rattle.law_text.specs.ReadingLaws.{Taken, line_passes, read_taken}
use Rattle.law_text.specs.ReaderStateLaws.{link_named}
use Rattle.law_text.specs.ValueLaws.{given_read}
use Rattle.spec_graph.specs.Program.{Statement, Link, Program, run_of, links_of, programs_of}
use Rattle.spec_graph.specs.Unfolding.{Execution, Occurrence, Node, occurrences, nodes_of}
use Rattle.spec_graph.specs.Edge.{leads, binds}
use Rattle.node_laws.specs.FromLinks.{OwnLink, own_link, own_program, node_program}
use Rattle.node_laws.specs.Bodies.{Body, body_of, taken_own, accepted_body}
use Rattle.node_laws.specs.Sites.{Site, sites, Bound, run_bound}
use Rattle.node_laws.specs.LineSites.{LineSite, line_sites, carried, sites_cut, site_around, site_kind, site_found}
use Rattle.node_laws.specs.RunSites.{seen, run_sites}
use Rattle.node_laws.specs.LineCases.{program_kind}

-- ---- the lines before a link

-- the lines after the last `pr` are the program at hand
program_own : (front : List Line) (pr : Line) (passed : List Line) → is_program pr ≡ true → any is_program passed ≡ false
    → program (front ++ (pr ∷ passed)) ≡ passed
unfolding program
program_own [] pr passed h none = rw (none, program) (rw h refl)
program_own (x ∷ front) pr passed h none =
    let found : any is_program (front ++ (pr ∷ passed)) ≡ true =
    any_append is_program front (pr ∷ passed) ∙ or_right (any is_program front) (or_left (any is_program passed) h) in
    rw (found, program) (program_own front pr passed h none)

-- lines that are taken are taken without those after them
taken_front : (before front back : List Line) → Taken before (front ++ back) → Taken before front
taken_front before [] back t = _
taken_front before (x ∷ front) back t = (t.0, t.1, taken_front (before ++ (x ∷ [])) front back t.2)

-- what an `li` line of an accepted text says of the program's lines before it: no block is open there, its statements are there, and each block
-- around its parent is around its child
record Linked (passed : List Line) (line : Line) : Type 0 where
  body : Body [] 0 passed
  parent : line.to < count is_statement passed
  around : all_around passed line.to line.rel ≡ true

-- the last of the tests of a link
link_fits_lem : (before : List Line) (l : Line) → is_link l ≡ true → link_fits before l ≡ true → all_around (program before) l.to l.rel ≡ true
unfolding link_fits
link_fits_lem before l link h =
    let own = program before in
    let child = statement own l.rel in
    let parent = statement own l.to in
    let others =
    eqb child.rel (key before l.id).rel && eqb parent.rel (key before l.id).to && is_statement_of can_be_parent parent.kind in
    let around = all_around own l.to l.rel in
    (and_true others around (implied (is_link l) (others && around) h link)).1

-- so it is, for the line passed its tests after those lines
linked : (text : List ℕ) (lines : List Line) → read text ≡ accepted lines → (front : List Line) (pr : Line) (passed : List Line) (line : Line)
    (after : List Line) → lines ≡ front ++ (pr ∷ passed ++ (line ∷ after)) → is_program pr ≡ true → any is_program passed ≡ false → line.kind ≡ Li
    → Linked passed line
unfolding ordered is_link sort
linked text lines taken front pr passed line after e h none kind =
    let before = front ++ (pr ∷ passed) in
    let split : lines ≡ before ++ (line ∷ after) = e ∙ sym (append_assoc front (pr ∷ passed) (line ∷ after)) in
    let passes = line_passes text taken before line after split in
    let own = program_own front pr passed h none in
    let link : is_link line ≡ true = rw kind refl in
    let closed = (and_true (any is_program before) (none_open before) (rw (kind, ordered) at passes.order)).1 in
    record {
      body = taken_own front pr passed h (taken_front [] before (line ∷ after) (rw split at (read_taken text lines taken))) closed;
      parent = rw (count_keep is_statement passed) (rw own at (link_named before line link passes.names).1);
      around = rw own at (link_fits_lem before line link passes.link);
    }

-- ---- T11: a parent of the child

-- one block by its place and part
same_block_lem : (a b : Block) → same_block a b ≡ true → a ≡ b
unfolding same_block
same_block_lem a b h =
    let both = and_true (eqb a.place b.place) (eqb a.part b.part) h in
    let place = eqb-true a.place b.place both.0 in
    let part = eqb-true a.part b.part both.1 in
    λ i. record { place = place i; part = part i }

-- each block around the first statement is one around the second
around_member : (lines : List Line) (parent child : ℕ) → all_around lines parent child ≡ true → (b : Block) → Memᴰ b (blocks_around lines parent)
    → Memᴰ b (blocks_around lines child)
unfolding all_around
around_member lines parent child h b m =
    let found = any_true (λ c. same_block b c) (blocks_around lines child) (all_true _ h m) in
    subst (λ (x : Block). Memᴰ x (blocks_around lines child)) (sym (same_block_lem b found.0 found.2)) found.1

-- an execution of a program that is read off the lines after a `pr` line of an accepted text
module _ (text : List ℕ) (lines : List Line) (taken : read text ≡ accepted lines) (front : List Line) (pr : Line) (own : List Line)
    (joined : lines ≡ front ++ (pr ∷ own)) (kind : pr.kind ≡ Pr) (e : Execution (run_of (length own) own).run) where
  -- the sites of the program, and that its lines are a body
  from : List Site
  from = sites (run_of (length own) own).run 0

  whole : Body [] 0 own
  whole = accepted_body text lines taken front pr own joined (program_kind pr kind)

  -- T7: the kind of a statement that occurs is that of the program's line with its id, for the occurrence's site is that line's
  pub own_kinds : (test : StatementKind → Bool) → (o : Occurrence) → Memᴰ o (occurrences e 0)
      → test o.statement.kind ≡ any (λ x. is_statement_of test x.kind && eqb x.id o.statement.id) (body_of own)
  unfolding seen from
  own_kinds test o m =
      let b = run_bound e 0 0 o m in
      let listed : Memᴰ (seen [] b.site) (line_sites 0 [] own) =
      rw (run_sites (length own) own (omega arith) whole) (mathlib.Core.List.Memᴰ.map (seen []) b.member) in
      subst
      (λ (s : Statement). test s.kind ≡ any (λ x. is_statement_of test x.kind && eqb x.id s.id) (body_of own))
      b.same
      (site_kind test [] 0 [] 0 own whole (seen [] b.site) listed)

  -- the sites of the run are those of the lines before the program's first link
  sites_before : (passed : List Line) (line : Line) (after : List Line) → own ≡ passed ++ (line ∷ after) → line.kind ≡ Li
      → map (seen []) from ≡ line_sites 0 [] passed
  unfolding from
  sites_before passed line after split link =
      sym (run_sites (length own) own (omega arith) whole) ∙ ap (line_sites 0 []) split ∙ sites_cut 0 [] passed line after link

  -- a site of the run has the blocks around the statement of its id
  site_blocks : (passed : List Line) → Body [] 0 passed → map (seen []) from ≡ line_sites 0 [] passed → (s : Site) → Memᴰ s from
      → blocks_around passed s.statement.id ≡ reverse s.blocks
  unfolding seen blocks_around open_blocks
  site_blocks passed body same s m =
      (site_around [] 0 [] 0 passed body (seen [] s) (carried same (mathlib.Core.List.Memᴰ.map (seen []) m))).1

  -- the parent's site, for its id is below the number of statements
  parent_site : (passed : List Line) (line : Line) → Linked passed line → any is_program passed ≡ false → map (seen []) from ≡ line_sites 0 [] passed
      → (s : Site) × Memᴰ s from × (s.statement.id ≡ line.to)
  unfolding seen
  parent_site passed line links none same =
      let f = site_found [] 0 [] 0 passed links.body none line.to (omega arith) (let z = links.parent in omega arith) in
      let q = map_member (seen []) from (carried (sym same) f.1) in
      (q.0, q.1, ap (λ (x : LineSite). x.0.id) q.2 ∙ f.2)

  -- each block around the parent's site is around the child's, for the blocks of the two are those of the link's test
  blocks_inner : (passed : List Line) (line : Line) → Linked passed line → map (seen []) from ≡ line_sites 0 [] passed
      → (p : Site) → Memᴰ p from → p.statement.id ≡ line.to → (c : Site) → Memᴰ c from → c.statement.id ≡ line.rel
      → (b : Block) → Memᴰ b p.blocks → Memᴰ b c.blocks
  blocks_inner passed line links same p m to c n rel b h =
      let parent : blocks_around passed line.to ≡ reverse p.blocks =
      ap (blocks_around passed) (sym to) ∙ site_blocks passed links.body same p m in
      let child : blocks_around passed line.rel ≡ reverse c.blocks =
      ap (blocks_around passed) (sym rel) ∙ site_blocks passed links.body same c n in
      let there : Memᴰ b (blocks_around passed line.to) = subst (λ (l : List Block). Memᴰ b l) (sym parent) (member_reverse h) in
      reverse_member c.blocks
      (subst (λ (l : List Block). Memᴰ b l) child (around_member passed line.to line.rel links.around b there))

  -- a bound parent of the child
  abbrev Parent : Link → Occurrence → Type 0
  Parent l child = (parent : Occurrence) × Memᴰ parent (occurrences e 0) × (binds l child parent ≡ true)

  -- an occurrence of the parent's statement whose path leads to the child's
  binds_both : (l : Link) (child parent : Occurrence) (s : Site) → Memᴰ parent (occurrences e 0) → l.child ≡ child.statement.id
      → l.parent ≡ s.statement.id → parent.statement ≡ s.statement → leads parent.path child.path ≡ true → Parent l child
  unfolding binds
  binds_both l child parent s m rel to same path = (
    parent,
    m,
    and_of (and_of (eq-eqb l.child child.statement.id rel)
        (eq-eqb l.parent parent.statement.id (to ∙ ap (λ (x : Statement). x.id) (sym same)))) path,
  )

  -- the parent's site has no block that the child's has not, so the child's turns and arms hold a parent
  link_bound : (l : Link) (k : OwnLink own l) (child : Occurrence) → Bound from (occurrences e 0) child → l.child ≡ child.statement.id
      → Parent l child
  link_bound l k child b h =
      let links = linked text lines taken front pr k.passed k.line k.after
      (joined ∙ ap (λ (x : List Line). front ++ (pr ∷ x)) k.joined) (program_kind pr kind) k.none k.kind in
      let same = sites_before k.passed k.line k.after k.joined k.kind in
      let p = parent_site k.passed k.line links k.none same in
      let rel = ap (λ (s : Statement). s.id) b.same ∙ sym h ∙ ap (λ (x : Link). x.child) k.same in
      let found = b.parent p.0 p.1 (blocks_inner k.passed k.line links same p.0 p.1 p.2 b.site b.member rel) in
      binds_both l child found.0 p.0 found.1 h (ap (λ (x : Link). x.parent) k.same ∙ sym p.2) found.2 found.3

  -- T11: the parent's blocks are all around the child, and in the turns and arms of these blocks the parent occurs wherever the child does
  pub own_bound : (l : Link) → Memᴰ l (links_of own) → (child : Occurrence) → Memᴰ child (occurrences e 0)
      → l.child ≡ child.statement.id → (parent : Occurrence) × Memᴰ parent (occurrences e 0) × (binds l child parent ≡ true)
  unfolding from
  own_bound l listed child m h = link_bound l (own_link own l listed) child (run_bound e 0 0 child m) h

-- each child in every execution of a program has a bound parent
abbrev BoundIn : Program → Type 0
BoundIn p =
    (e : Execution p.body) (l : Link) → Memᴰ l p.links → (child : Occurrence) → Memᴰ child (occurrences e 0)
    → l.child ≡ child.statement.id → (parent : Occurrence) × Memᴰ parent (occurrences e 0) × (binds l child parent ≡ true)

-- T11: in every program of an accepted text, for each has its `pr` line
program_bound : (text : List ℕ) (lines : List Line) → read text ≡ accepted lines → (p : Program) → Memᴰ p (programs_of lines) → BoundIn p
program_bound text lines taken p m =
    let o = own_program lines p m in
    subst BoundIn (sym o.same) (own_bound text lines taken o.front o.line o.own o.joined o.kind)

-- T11: in every node of a given workload, for a node is an unfolding of a program and an unfolding is an execution
pub given_bound : {w : Workload} → Given w → (n : Node) → Memᴰ n (nodes_of (lines_of w)) → (l : Link) → Memᴰ l n.links
    → (child : Occurrence) → Memᴰ child n.places → l.child ≡ child.statement.id
    → (parent : Occurrence) × Memᴰ parent n.places × (binds l child parent ≡ true)
unfolding nodes_of
given_bound {w} g n m l listed child there h =
    let f = node_program 0 (programs_of (lines_of w)) n m in
    let member = get_elem?_member (programs_of (lines_of w)) f.index f.there in
    let t = program_bound g.text (lines_of w) (given_read g) f.program member f.execution l
    (subst (λ (x : List Link). Memᴰ l x) f.links listed) child (subst (λ (x : List Occurrence). Memᴰ child x) f.places there) h in
    (t.0, subst (λ (x : List Occurrence). Memᴰ t.0 x) (sym f.places) t.1, t.2)
