-- The links of a node stand on `li` lines of the workload.
use Rattle.std.specs.Prelude.{◌≡◌, refl, false, ℕ, suc, ◌+◌, length}
use Rattle.std.proofs.Common.{sym, ap, subst, ◌∙◌, ⊎_elim, add-zero, arith}
use mathlib.Core.List.Memᴰ
use mathlib.Core.List.{List, [], ◌∷◌, ◌++◌, Memᴰ}
use Rattle.std.proofs.Math.Option.{some}
use Rattle.std.proofs.Math.ListN.{get_elem?}
use Rattle.spec_base.specs.Basic.{any}
use Rattle.law_base.specs.BoolLaws.{or_of}
use Rattle.law_base.specs.ListLaws.{map_member}
use Rattle.spec_text.specs.declared.Line.{Line}
use Rattle.spec_text.specs.declared.LineKind.TheVariants.{Pr, Li}
use Rattle.spec_text.specs.Reading.{is_program}
use Rattle.node_laws.specs.LineCases.{LineCase, line_case, link_program, no_program, programs_here, programs_later, links_here, links_end}
use Rattle.node_laws.specs.LineCases.{links_later}
use Rattle.node_laws.specs.LineCases.LineCase.{is_program_lem, is_link_lem, is_other}
use Rattle.spec_graph.specs.Program.{Link, Program, run_of, links_of, programs_of}
use Rattle.spec_graph.specs.Unfolding.{Node, Occurrence, Execution, occurrences, unfoldings, nodes_of_program, nodes_from}

-- a program stands after a `pr` line: the lines after it up to the end of the text are what it is read off
pub record OwnProgram (lines : List Line) (p : Program) : Type 0 where
  pub front : List Line
  pub line : Line
  pub own : List Line
  pub joined : lines ≡ front ++ (line ∷ own)
  pub kind : line.kind ≡ Pr
  pub same : p ≡ record { body = (run_of (length own) own).run; links = links_of own }

-- T6: each program has its `pr` line, for `programs_of` reads one off the lines after each
pub own_program : (lines : List Line) (p : Program) → Memᴰ p (programs_of lines) → OwnProgram lines p
unfolding programs_of
own_program [] p m = absurd (Memᴰ.not-nil m)
own_program (l ∷ lines) p m = go (line_case l.kind) (λ r. later (own_program lines p r))
  where
    later : OwnProgram lines p → OwnProgram (l ∷ lines) p
    later o =
        record {
          front = l ∷ o.front;
          line = o.line;
          own = o.own;
          joined = ap {B = List Line} (λ x. l ∷ x) o.joined;
          kind = o.kind;
          same = o.same;
        }

    past : (l.kind ≡ Pr → ⊥) → Memᴰ p (programs_of lines)
    past d = subst (λ (x : List Program). Memᴰ p x) (programs_later l lines d) m

    go : LineCase l.kind → (Memᴰ p (programs_of lines) → OwnProgram (l ∷ lines) p) → OwnProgram (l ∷ lines) p
    go (is_program_lem e) rest =
        ⊎_elim
        (λ s. record { front = []; line = l; own = lines; joined = refl; kind = e; same = s })
        rest
        (Memᴰ.cases_cons (subst (λ (x : List Program). Memᴰ p x) (programs_here l lines e) m))
    go (is_link_lem e) rest = rest (past (link_program e))
    go (is_other d q) rest = rest (past d)

-- a link of a program stands on an `li` line of its own, with no `pr` before it
pub record OwnLink (own : List Line) (link : Link) : Type 0 where
  pub passed : List Line
  pub line : Line
  pub after : List Line
  pub joined : own ≡ passed ++ (line ∷ after)
  pub none : any is_program passed ≡ false
  pub kind : line.kind ≡ Li
  pub same : link ≡ record { key = line.id; child = line.rel; parent = line.to }

-- T6: each link has its `li` line, for `links_of` reads one off each up to the next `pr`
pub own_link : (own : List Line) (link : Link) → Memᴰ link (links_of own) → OwnLink own link
unfolding links_of
own_link [] link m = absurd (Memᴰ.not-nil m)
own_link (l ∷ lines) link m = go (line_case l.kind) (λ e r. later e (own_link lines link r))
  where
    later : is_program l ≡ false → OwnLink lines link → OwnLink (l ∷ lines) link
    later e o =
        record {
          passed = l ∷ o.passed;
          line = o.line;
          after = o.after;
          joined = ap {B = List Line} (λ x. l ∷ x) o.joined;
          none = or_of e o.none;
          kind = o.kind;
          same = o.same;
        }

    go : LineCase l.kind → (is_program l ≡ false → Memᴰ link (links_of lines) → OwnLink (l ∷ lines) link) → OwnLink (l ∷ lines) link
    go (is_link_lem e) rest =
        ⊎_elim
        (λ s. record { passed = []; line = l; after = lines; joined = refl; none = refl; kind = e; same = s })
        (rest (no_program l (link_program e)))
        (Memᴰ.cases_cons (subst (λ (x : List Link). Memᴰ link x) (links_here l lines e) m))
    go (is_program_lem e) rest = absurd (Memᴰ.not-nil (subst (λ (x : List Link). Memᴰ link x) (links_end l lines e) m))
    go (is_other p q) rest = rest (no_program l p) (subst (λ (x : List Link). Memᴰ link x) (links_later l lines p q) m)

-- a link comes from an `li` line, whose id is the link's key
pub record FromLink (lines : List Line) (link : Link) : Type 0 where
  pub line : Line
  pub member : Memᴰ line lines
  pub kind : line.kind ≡ Li
  pub key : line.id ≡ link.key

-- a line in a join is a line of it
joined_member : (lines front : List Line) (l : Line) (after : List Line) → lines ≡ front ++ (l ∷ after) → Memᴰ l lines
joined_member lines front l after e = rw e (Memᴰ.append_right front (Memᴰ.head refl))

-- a program's links come from lines: each from an `li` line of the program's own
pub program_link : (lines : List Line) (p : Program) → Memᴰ p (programs_of lines) → (link : Link) → Memᴰ link p.links
    → FromLink lines link
program_link lines p m link h =
    let o = own_program lines p m in
    let k = own_link o.own link (subst (λ (x : Program). Memᴰ link x.links) o.same h) in
    record {
      line = k.line;
      member =
          subst (λ (x : List Line). Memᴰ k.line x) (sym o.joined)
          (Memᴰ.append_right o.front (Memᴰ.tail (joined_member o.own k.passed k.line k.after k.joined)));
      kind = k.kind;
      key = ap (λ (x : Link). x.key) (sym k.same);
    }

-- a node is an unfolding of the program with its number
pub record FromProgram (first : ℕ) (programs : List Program) (n : Node) : Type 0 where
  pub program : Program
  pub index : ℕ
  pub number : n.program ≡ first + index
  pub there : get_elem? programs index ≡ some program
  pub execution : Execution program.body
  pub links : n.links ≡ program.links
  pub places : n.places ≡ occurrences execution 0

pub node_program : (first : ℕ) (programs : List Program) (n : Node) → Memᴰ n (nodes_from first programs) → FromProgram first programs n
unfolding nodes_from nodes_of_program
node_program first [] n h = absurd (Memᴰ.not-nil h)
node_program first (p ∷ programs) n h =
    ⊎_elim
    (λ s.
    let f = map_member _ (unfoldings p.body) s in
    record {
      program = p;
      index = 0;
      number = ap (λ (x : Node). x.program) (sym f.2) ∙ sym (add-zero first);
      there = refl;
      execution = f.0;
      links = ap (λ (x : Node). x.links) (sym f.2);
      places = ap (λ (x : Node). x.places) (sym f.2);
    })
    (λ r.
    let t = node_program (suc first) programs n r in
    record {
      program = t.program;
      index = suc t.index;
      number = t.number ∙ omega arith;
      there = t.there;
      execution = t.execution;
      links = t.links;
      places = t.places;
    })
    (Memᴰ.append_cases (nodes_of_program first p) h)
