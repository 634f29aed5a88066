-- Every statement line of a given workload stands at a place of its summary graph: it is in the run of the program whose `pr` is the last before it.
use Rattle.std.specs.Prelude.{true, false, ◌⊎◌, ◌≡◌, ℕ, suc, ◌+◌, length}
use mathlib.Core.List.{List, [], ◌∷◌, ◌++◌, append_assoc, Memᴰ}
use Rattle.std.proofs.Common.{inl, inr, sym, ap, subst, ◌∙◌, arith}
use Rattle.std.proofs.Math.Option.{some}
use Rattle.std.proofs.Math.Path.{refl}
use Rattle.spec_base.specs.Basic.{any}
use Rattle.law_base.specs.BoolLaws.{decide, true_false, and_true, or_true, or_false}
use Rattle.law_base.specs.ListLaws.{map_member, member_split, member_get_elem?}
use Rattle.spec_text.specs.declared.Line.{Line}
use Rattle.spec_text.specs.declared.LineKind.{LineKind}
use Rattle.spec_text.specs.declared.LineKind.TheVariants.{Rl, Fk, Pr, St, Lo, Br, El, En, Li}
use Rattle.spec_text.specs.declared.StatementKind.{StatementKind}
use Rattle.spec_text.specs.declared.Workload.{Workload}
use Rattle.spec_text.specs.Reading.{Block, is_program, blocks_after, loop, first_arm, second_arm, in_body, ordered, read}
use Rattle.spec_text.specs.Reading.Outcome.{accepted}
use Rattle.spec_text.specs.Value.{Given, lines_of}
use Rattle.law_text.specs.ReadingLaws.{line_passes}
use Rattle.law_text.specs.ValueLaws.{given_read}
use Rattle.spec_graph.specs.Program.{Statement, Program, statement_of, run_of, programs_of}
use Rattle.spec_graph.specs.Unfolding.{Node, nodes_of}
use Rattle.spec_graph.specs.Edge.{Place, at, place_at}
use Rattle.node_laws.specs.LineCases.{LineCase, line_case, link_program, program_after, program_kind, kind_program, programs_here, programs_later}
use Rattle.node_laws.specs.LineCases.LineCase.{is_program_lem, is_link_lem, is_other}
use Rattle.node_laws.specs.Bodies.{Body, LinksOnly, body_statement, body_loop, body_branch, body_relation, body_key, accepted_body}
use Rattle.node_laws.specs.Sites.{sites}
use Rattle.node_laws.specs.LineSites.{LineSite, line_sites, carried, Flow, statement_sites, flow_sites}
use Rattle.node_laws.specs.RunSites.{seen, run_sites}
use Rattle.law_database.specs.Performed.{Performs, site_performed, in_one_node}

-- ---- the program of a line

-- the last `pr` before a line
record OwnProgram (before : List Line) : Type 0 where
  front : List Line
  pr : Line
  passed : List Line
  joined : before ≡ front ++ (pr ∷ passed)
  begins : is_program pr ≡ true
  none : any is_program passed ≡ false

last_program : (before : List Line) → any is_program before ≡ true → OwnProgram before
last_program [] h = absurd (true_false h refl)
last_program (x ∷ before) h = go (decide (any is_program before)) (or_true (is_program x) (any is_program before) h) (λ e. last_program before e)
  where
    go : (any is_program before ≡ true) ⊎ (any is_program before ≡ false) → (is_program x ≡ true) ⊎ (any is_program before ≡ true)
        → (any is_program before ≡ true → OwnProgram before) → OwnProgram (x ∷ before)
    go (inl e) b again =
        let o = again e in
        record {
          front = x ∷ o.front;
          pr = o.pr;
          passed = o.passed;
          joined = ap {B = List Line} (λ l. x ∷ l) o.joined;
          begins = o.begins;
          none = o.none;
        }
    go (inr e) (inl b) again = record { front = []; pr = x; passed = before; joined = refl; begins = b; none = e }
    go (inr e) (inr b) again = absurd (true_false b e)

-- T6: the program that begins there is one of the workload's
program_listed : (front : List Line) (pr : Line) (own : List Line) → pr.kind ≡ Pr
    → Memᴰ (program_after pr own) (programs_of (front ++ (pr ∷ own)))
program_listed [] pr own e = rw (programs_here pr own e) (Memᴰ.head refl)
program_listed (x ∷ front) pr own e = go (line_case x.kind) (program_listed front pr own e)
  where
    go : LineCase x.kind → Memᴰ (program_after pr own) (programs_of (front ++ (pr ∷ own)))
        → Memᴰ (program_after pr own) (programs_of (x ∷ front ++ (pr ∷ own)))
    go (is_program_lem p) m = rw (programs_here x (front ++ (pr ∷ own)) p) (Memᴰ.tail m)
    go (is_link_lem p) m = rw (programs_later x (front ++ (pr ∷ own)) (link_program p)) m
    go (is_other d q) m = rw (programs_later x (front ++ (pr ∷ own)) d) m

-- ---- the site of a line

module _ (l : Line) (k : StatementKind) (after : List Line) (kind : l.kind ≡ St k) where
  -- no statement among links, up to the next program
  links_none : (passed : List Line) → any is_program passed ≡ false → LinksOnly (passed ++ (l ∷ after)) → ⊥
  unfolding LinksOnly
  links_none [] none h = rw (kind, LinksOnly) at h
  links_none (x ∷ passed) none h = go x.kind refl (λ t. links_none passed (or_false (is_program x) (any is_program passed) none).1 t)
    where
      go : (c : LineKind) → x.kind ≡ c → (LinksOnly (passed ++ (l ∷ after)) → ⊥) → ⊥
      go Li e again = again (rw (e, LinksOnly) at h)
      go Pr e again = true_false (program_kind x e) (or_false (is_program x) (any is_program passed) none).0
      go (St c) e again = rw (e, LinksOnly) at h
      go Lo e again = rw (e, LinksOnly) at h
      go Br e again = rw (e, LinksOnly) at h
      go El e again = rw (e, LinksOnly) at h
      go En e again = rw (e, LinksOnly) at h
      go Rl e again = rw (e, LinksOnly) at h
      go Fk e again = rw (e, LinksOnly) at h

  -- the statement on a line of a body, no further than the next program, has its site
  line_site : (parts : List ℕ) (n place : ℕ) (blocks : List Block) (passed : List Line) → any is_program passed ≡ false
      → Body parts n (passed ++ (l ∷ after))
      → (around : List Block) × Memᴰ (statement_of k l, around) (line_sites place blocks (passed ++ (l ∷ after)))
  unfolding Body Flow
  line_site parts n place blocks [] none h =
      (blocks, carried (sym (statement_sites place blocks l after k kind)) (Memᴰ.head refl))
  line_site parts n place blocks (x ∷ passed) none h =
      go x.kind refl (λ parts n blocks t. line_site parts n (place + 1) blocks passed (or_false (is_program x) (any is_program passed) none).1 t)
    where
      rest : List Line
      rest = passed ++ (l ∷ after)

      Found : ℕ → List Block → List Line → Type 0
      Found place blocks lines = (around : List Block) × Memᴰ (statement_of k l, around) (line_sites place blocks lines)

      flow : (c : LineKind) → x.kind ≡ c → Flow c → Found (place + 1) (blocks_after c place blocks) rest → Found place blocks (x ∷ rest)
      flow c e f t = (t.0, carried (sym (flow_sites place blocks x rest c e f)) t.1)

      go : (c : LineKind) → x.kind ≡ c
          → ((parts : List ℕ) (n : ℕ) (blocks : List Block) → Body parts n rest → Found (place + 1) blocks rest) → Found place blocks (x ∷ rest)
      go (St c) e again =
          let t = again parts (suc n) blocks (body_statement parts n x rest c e h).1 in
          (t.0, carried (sym (statement_sites place blocks x rest c e)) (Memᴰ.tail t.1))
      go Lo e again = flow Lo e _ (again (loop ∷ parts) n _ (body_loop parts n x rest e h))
      go Br e again = flow Br e _ (again (first_arm ∷ parts) n _ (body_branch parts n x rest e h))
      go El e again =
          let t : (around : List ℕ) × (parts ≡ first_arm ∷ around) × Body (second_arm ∷ around) n rest = rw (e, Body) at h in
          flow El e _ (again (second_arm ∷ t.0) n _ t.2)
      go En e again =
          let t : (p : ℕ) × (around : List ℕ) × (parts ≡ p ∷ around) × (p ≡ first_arm → ⊥) × Body around n rest = rw (e, Body) at h in
          flow En e _ (again t.1 n _ t.4)
      go Li e again =
          let t : (parts ≡ []) × LinksOnly rest = rw (e, Body) at h in
          absurd (links_none passed (or_false (is_program x) (any is_program passed) none).1 t.1)
      go Pr e again = absurd (true_false (program_kind x e) (or_false (is_program x) (any is_program passed) none).0)
      go Rl e again = absurd (body_relation parts n x rest e h)
      go Fk e again = absurd (body_key parts n x rest e h)

-- ---- the place of a line

-- the statement stands at a place of the nodes
pub record Placed (nodes : List Node) (q : Statement) : Type 0 where
  pub number : ℕ
  pub place : ℕ
  pub spot : Place
  pub found : place_at nodes number place ≡ some spot
  pub same : at spot ≡ q

-- a statement that some execution of a program performs does
performed_placed : (lines : List Line) (p : Program) → Memᴰ p (programs_of lines) → (q : Statement) → Performs p.body q
    → Placed (nodes_of lines) q
performed_placed lines p m q (e, every) =
    let o = every 0 in
    let x = member_get_elem? o.1 in
    let n = in_one_node lines p m e x.0 x.0 x.1 x.1 in
    record { number = n.number; place = n.i; spot = n.first; found = n.at_first; same = n.is_first ∙ o.2 }

-- the statement of a line of a body is performed, for the run that is read off the lines has their sites
line_performed : (own : List Line) → Body [] 0 own → (q : Statement) (around : List Block) → Memᴰ (q, around) (line_sites 0 [] own)
    → Performs (run_of (length own) own).run q
unfolding seen
line_performed own body q around m =
    let run = (run_of (length own) own).run in
    let t = map_member (seen []) (sites run 0) (carried (run_sites (length own) own (omega arith) body) m) in
    subst (λ (q : Statement). Performs run q) (ap (λ (x : LineSite). x.0) t.2) (site_performed run 0 t.0 t.1)

-- every statement line of an accepted text does: a program has begun before it, and no other up to it
pub accepted_placed : (text : List ℕ) (lines : List Line) → read text ≡ accepted lines → (l : Line) → Memᴰ l lines
    → (k : StatementKind) → l.kind ≡ St k → Placed (nodes_of lines) (statement_of k l)
unfolding ordered in_body
accepted_placed text lines taken l m k e = placed (last_program s.0 begun)
  where
    s : (front : List Line) × (back : List Line) × (lines ≡ front ++ (l ∷ back))
    s = member_split m

    begun : any is_program s.0 ≡ true
    begun = (and_true _ _ (rw (e, ordered) at (line_passes text taken s.0 l s.1 s.2).order)).0

    placed : OwnProgram s.0 → Placed (nodes_of lines) (statement_of k l)
    placed o =
        let own = o.passed ++ (l ∷ s.1) in
        let joined : lines ≡ o.front ++ (o.pr ∷ own) =
        s.2 ∙ ap (λ (x : List Line). x ++ (l ∷ s.1)) o.joined ∙ append_assoc o.front (o.pr ∷ o.passed) (l ∷ s.1) in
        let body = accepted_body text lines taken o.front o.pr own joined o.begins in
        let site = line_site l k s.1 e [] 0 0 [] o.passed o.none body in
        let listed = program_listed o.front o.pr own (kind_program o.pr o.begins) in
        performed_placed lines (program_after o.pr own)
        (subst (λ (x : List Line). Memᴰ (program_after o.pr own) (programs_of x)) (sym joined) listed)
        (statement_of k l) (line_performed own body (statement_of k l) site.0 site.1)

-- so of a given workload
pub given_placed : {w : Workload} → Given w → (l : Line) → Memᴰ l (lines_of w) → (k : StatementKind) → l.kind ≡ St k
    → Placed (nodes_of (lines_of w)) (statement_of k l)
given_placed {w} given = accepted_placed given.text (lines_of w) (given_read given)
