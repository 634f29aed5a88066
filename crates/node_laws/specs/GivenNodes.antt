-- What the nodes of an accepted workload have in common: the numbers that their lines name are small and there, and their sets are those of T9.
-- Each line of the text passed its tests; a node's places stand on statement lines, its links on `li` lines.
use Rattle.std.specs.Prelude.{◌≡◌, ℕ, ◌+◌, ◌<◌, ◌^◌}
use Rattle.std.proofs.Math.Path.{refl, ap, subst}
use Rattle.std.proofs.Math.Bool.{true, false}
use mathlib.Core.List.{List, [], ◌∷◌, ◌++◌, Memᴰ}
use native.Mathlib.Omega.{arith}
use borrow.Author.Tests.{eqb-true, ltb-true}
use Rattle.spec_base.specs.Basic.{any, count}
use Rattle.law_base.specs.BoolLaws.{and_true}
use Rattle.law_base.specs.ListLaws.{member_split, count_append, get_elem?_member}
use Rattle.spec_text.specs.declared.Line.{Line}
use Rattle.spec_text.specs.declared.LineKind.TheVariants.{St, Li}
use Rattle.spec_text.specs.declared.StatementKind.{StatementKind}
use Rattle.spec_text.specs.declared.Workload.{Workload}
use Rattle.spec_text.specs.Reading.{sort, is_relation, is_key, is_program, is_statement, is_statement_of, program, relation_set}
use Rattle.spec_text.specs.Reading.{in_body, within_bounds, ordered, named, read}
use Rattle.spec_text.specs.Reading.Outcome.{accepted}
use Rattle.spec_text.specs.Value.{Given, lines_of}
use Rattle.law_text.specs.ReadingLaws.{line_passes, statement_relation, statement_sets}
use Rattle.law_text.specs.LineCountLaws.{bounded_true, program_joins}
use Rattle.law_text.specs.ValueLaws.{given_read}
use Rattle.spec_graph.specs.Program.{Statement, Link, statement_of, programs_of}
use Rattle.spec_graph.specs.Unfolding.{Node, Occurrence, nodes_of}
use Rattle.law_kinds.specs.KindSets.{Allowed, allowed_sets}
use Rattle.node_laws.specs.FromLines.{OnLines, execution_holds, program_holds}
use Rattle.node_laws.specs.FromLinks.{program_link, node_program}

-- a statement of an accepted workload
pub record LawfulStatement (lines : List Line) (s : Statement) : Type 0 where
  -- T7, T12: its id is below 32
  pub id : s.id < 32
  -- T7, T12: its relation is there, and below 32
  pub there : s.relation < count is_relation lines
  pub relation : s.relation < 32
  -- T9: the relation has at most 64 attributes, and the statement's sets are those that its kind allows over them
  pub word : relation_set lines s.relation < 2 ^ 64
  pub sets : Allowed (relation_set lines s.relation) s

-- a node of an accepted workload
pub record LawfulNode (lines : List Line) (n : Node) : Type 0 where
  -- T7, T12: the keys of its links are below 32
  pub keys : (l : Link) → Memᴰ l n.links → l.key < 32
  -- at each place stands such a statement
  pub places : (o : Occurrence) → Memᴰ o n.places → LawfulStatement lines o.statement

-- ---- accepted lines

module _ (text : List ℕ) (lines : List Line) (taken : read text ≡ accepted lines) where
  -- T7, T12: the id of an `li` line is a key's, and there are at most 32 keys
  link_id : (l : Line) → Memᴰ l lines → l.kind ≡ Li → l.id < 32
  unfolding named within_bounds
  link_id l m e =
      let s = member_split m in
      let passed = line_passes text taken s.0 l s.1 s.2 in
      let most = (bounded_true (s.0 ++ (l ∷ [])) passed.bounds).keys in
      let less = ltb-true l.id (count is_key s.0) (and_true _ _ (and_true _ _ (rw (e, named) at passed.names)).0).0 in
      let parts = count_append is_key s.0 (l ∷ []) in
      omega arith

  -- T7, T12: the id of a statement is how many stand before it in its program, and there are at most 32; nor are there more relations
  statement_small : (l : Line) → Memᴰ l lines → (k : StatementKind) → l.kind ≡ St k → (l.id < 32) × (l.rel < 32)
  unfolding named within_bounds ordered in_body is_program is_statement is_statement_of sort
  statement_small l m k e =
      let s = member_split m in
      let passed = line_passes text taken s.0 l s.1 s.2 in
      let begun : any is_program s.0 ≡ true = (and_true _ _ (rw (e, ordered) at passed.order)).0 in
      let other : is_program l ≡ false = rw e refl in
      let one : is_statement l ≡ true = rw e refl in
      let most = bounded_true (s.0 ++ (l ∷ [])) passed.bounds in
      let joined = ap (count is_statement) (program_joins s.0 l other begun) in
      let parts = count_append is_statement (program s.0) (l ∷ []) in
      let here : count is_statement (l ∷ []) ≡ 1 = rw one refl in
      let names = and_true _ _ (rw (e, named) at passed.names) in
      let next = eqb-true l.id (count is_statement (program s.0)) names.0 in
      let less = ltb-true l.rel (count is_relation s.0) names.1 in
      let relations = count_append is_relation s.0 (l ∷ []) in
      (omega (arith, most.statements, joined, parts, here, next), omega (arith, most.relations, less, relations))

  -- the statement of each line
  pub accepted_lines : OnLines (LawfulStatement lines) lines
  unfolding statement_of
  accepted_lines k l m e =
      let small = statement_small l m k e in
      let sets = statement_sets text taken m k e in
      record {
        id = small.0;
        there = statement_relation text taken m k e;
        relation = small.1;
        word = sets.word;
        sets = allowed_sets k sets;
      }

  -- each node
  pub accepted_nodes : (n : Node) → Memᴰ n (nodes_of lines) → LawfulNode lines n
  unfolding nodes_of
  accepted_nodes n m =
      let f = node_program 0 (programs_of lines) n m in
      let member = get_elem?_member (programs_of lines) f.index f.there in
      let body = program_holds (LawfulStatement lines) lines accepted_lines f.program member in
      record {
        keys = λ l h.
            let x = program_link lines f.program member l (subst (λ (ls : List Link). Memᴰ l ls) f.links h) in
            subst (λ (k : ℕ). k < 32) x.key (link_id x.line x.member x.kind);
        places = λ o h.
            execution_holds (LawfulStatement lines) f.execution body 0 o (subst (λ (l : List Occurrence). Memᴰ o l) f.places h);
      }

-- T7, T9, T12: every node of a given workload, and so every place of it
pub given_places : {w : Workload} → Given w → (n : Node) → Memᴰ n (nodes_of (lines_of w)) → LawfulNode (lines_of w) n
given_places {w} g = accepted_nodes g.text (lines_of w) (given_read g)
