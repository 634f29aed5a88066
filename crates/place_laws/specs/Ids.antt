-- A statement on a line of an accepted workload: its line, and its id below 32.
use Rattle.std.specs.Prelude.{◌≡◌, refl, List, ℕ, ◌<◌}
use Rattle.std.proofs.Common.{sym, arith}
use Rattle.std.proofs.Math.Option.{none, some}
use Rattle.std.proofs.Math.ListN.{get_elem?}
use Rattle.law_base.specs.ListLaws.{get_elem?_member, some_injective}
use Rattle.spec_text.specs.declared.Line.{Line}
use Rattle.spec_text.specs.declared.LineKind.{LineKind}
use Rattle.spec_text.specs.declared.LineKind.TheVariants.{Rl, Fk, Pr, St, Lo, Br, El, En, Li}
use Rattle.spec_text.specs.declared.StatementKind.{StatementKind}
use Rattle.spec_text.specs.Reading.{read}
use Rattle.spec_text.specs.Reading.Outcome.{accepted}
use Rattle.spec_graph.specs.Program.{Statement, statement_of}
use Rattle.node_laws.specs.GivenNodes.{accepted_lines}
use Rattle.unfold_laws.specs.Seen.{statement_in, statement_on}

-- a statement that stands on a line comes from that line
pub record FromLine (lines : List Line) (i : ℕ) (x : Statement) : Type 0 where
  pub line : Line
  pub at : get_elem? lines i ≡ some line
  pub sort : StatementKind
  pub kind : line.kind ≡ St sort
  pub same : x ≡ statement_of sort line

pub statement_line : (lines : List Line) (i : ℕ) (x : Statement) → statement_on lines i ≡ some x → FromLine lines i x
unfolding statement_on statement_in
statement_line lines i x h = found (get_elem? lines i) refl h
  where
    kinds : (l : Line) → get_elem? lines i ≡ some l → (c : LineKind) → l.kind ≡ c → statement_in c l ≡ some x → FromLine lines i x
    kinds l at (St k) e h = record { line = l; at = at; sort = k; kind = e; same = sym (some_injective h) }
    kinds l at Rl e h = let z : ◌≡◌ {A = ℕ} 0 1 = cc in absurd (omega arith)
    kinds l at Fk e h = let z : ◌≡◌ {A = ℕ} 0 1 = cc in absurd (omega arith)
    kinds l at Pr e h = let z : ◌≡◌ {A = ℕ} 0 1 = cc in absurd (omega arith)
    kinds l at Lo e h = let z : ◌≡◌ {A = ℕ} 0 1 = cc in absurd (omega arith)
    kinds l at Br e h = let z : ◌≡◌ {A = ℕ} 0 1 = cc in absurd (omega arith)
    kinds l at El e h = let z : ◌≡◌ {A = ℕ} 0 1 = cc in absurd (omega arith)
    kinds l at En e h = let z : ◌≡◌ {A = ℕ} 0 1 = cc in absurd (omega arith)
    kinds l at Li e h = let z : ◌≡◌ {A = ℕ} 0 1 = cc in absurd (omega arith)

    found : (o : _) → get_elem? lines i ≡ o → (elim o [ none ↦ none | some l ↦ statement_in l.kind l ]) ≡ some x → FromLine lines i x
    found none e h = let z : ◌≡◌ {A = ℕ} 0 1 = cc in absurd (omega arith)
    found (some l) e h = kinds l e l.kind refl h

-- T7, T12: so its id is below 32
pub on_line_id : (text : List ℕ) (lines : List Line) → read text ≡ accepted lines → (i : ℕ) (x : Statement) → statement_on lines i ≡ some x
    → x.id < 32
on_line_id text lines h i x e =
    let f = statement_line lines i x e in
    rw f.same (accepted_lines text lines h f.sort f.line (get_elem?_member lines i f.at) f.kind).id
