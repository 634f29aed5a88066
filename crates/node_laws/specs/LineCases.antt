-- What a line is to the programs of a workload: a `pr`, a link, or another; and what programs, links and body read off it.
use Rattle.std.specs.Prelude.{true, false, ◌≡◌, ℕ, eqb, length}
use mathlib.Core.List.{List, [], ◌∷◌}
use Rattle.std.proofs.Math.Path.{refl}
use Rattle.std.proofs.Common.{sym, ap, ◌∙◌, arith}
use Rattle.law_base.specs.BoolLaws.{true_false}
use Rattle.spec_text.specs.declared.Line.{Line}
use Rattle.spec_text.specs.declared.LineKind.{LineKind}
use Rattle.spec_text.specs.declared.LineKind.TheVariants.{Rl, Fk, Pr, St, Lo, Br, El, En, Li}
use Rattle.spec_text.specs.Reading.{sort, is_program}
use Rattle.spec_graph.specs.Program.{Link, Program, run_of, links_of, programs_of}

pub data LineCase (c : LineKind) : Type 0 where
  is_program_lem : c ≡ Pr → LineCase c
  is_link_lem : c ≡ Li → LineCase c
  is_other : (c ≡ Pr → ⊥) → (c ≡ Li → ⊥) → LineCase c

-- the sort tells them apart
apart : {c d : LineKind} → (sort c ≡ sort d → ⊥) → c ≡ d → ⊥
apart differ e = differ (ap sort e)

pub line_case : (c : LineKind) → LineCase c
unfolding sort
line_case Pr = is_program_lem refl
line_case Li = is_link_lem refl
line_case Rl = is_other (apart (λ e. omega arith)) (apart (λ e. omega arith))
line_case Fk = is_other (apart (λ e. omega arith)) (apart (λ e. omega arith))
line_case (St k) = is_other (apart (λ e. omega arith)) (apart (λ e. omega arith))
line_case Lo = is_other (apart (λ e. omega arith)) (apart (λ e. omega arith))
line_case Br = is_other (apart (λ e. omega arith)) (apart (λ e. omega arith))
line_case El = is_other (apart (λ e. omega arith)) (apart (λ e. omega arith))
line_case En = is_other (apart (λ e. omega arith)) (apart (λ e. omega arith))

-- a link is no `pr`
pub link_program : {c : LineKind} → c ≡ Li → c ≡ Pr → ⊥
unfolding sort
link_program e p = let z : ◌≡◌ {A = ℕ} 4 2 = ap sort (sym e ∙ p) in omega arith

-- T6: a line that is no `pr` begins no program
pub no_program : (l : Line) → (l.kind ≡ Pr → ⊥) → is_program l ≡ false
unfolding is_program sort
no_program l d = go l.kind refl
  where
    go : (c : LineKind) → l.kind ≡ c → eqb (sort c) 2 ≡ false
    go Pr e = absurd (d e)
    go (St k) e = refl
    go Rl e = refl
    go Fk e = refl
    go Lo e = refl
    go Br e = refl
    go El e = refl
    go En e = refl
    go Li e = refl

-- T6: a `pr` begins one
pub program_kind : (l : Line) → l.kind ≡ Pr → is_program l ≡ true
unfolding is_program sort
program_kind l e = rw e refl

-- T6: a line that begins a program is a `pr`
pub kind_program : (l : Line) → is_program l ≡ true → l.kind ≡ Pr
kind_program l h = go (line_case l.kind)
  where
    go : LineCase l.kind → l.kind ≡ Pr
    go (is_program_lem e) = e
    go (is_link_lem e) = absurd (true_false h (no_program l (link_program e)))
    go (is_other d q) = absurd (true_false h (no_program l d))

module _ (l : Line) (lines : List Line) where
  -- the program that is read off the lines after a `pr`, and the link of a line
  abbrev pub program_after : Program
  program_after = record { body = (run_of (length lines) lines).run; links = links_of lines }

  abbrev pub link_on : Link
  link_on = record { key = l.id; child = l.rel; parent = l.to }

  -- ---- T6: the programs

  pub programs_here : l.kind ≡ Pr → programs_of (l ∷ lines) ≡ program_after ∷ programs_of lines
  unfolding programs_of
  programs_here e = rw (e, programs_of) refl

  pub programs_later : (l.kind ≡ Pr → ⊥) → programs_of (l ∷ lines) ≡ programs_of lines
  unfolding programs_of
  programs_later d = go l.kind refl d
    where
      found : LineKind → List Program
      found c =
          elim c [
            | Pr ↦ program_after ∷ programs_of lines
            | Rl ↦ programs_of lines
            | Fk ↦ programs_of lines
            | St k ↦ programs_of lines
            | Lo ↦ programs_of lines
            | Br ↦ programs_of lines
            | El ↦ programs_of lines
            | En ↦ programs_of lines
            | Li ↦ programs_of lines
          ]

      go : (c : LineKind) → l.kind ≡ c → (l.kind ≡ Pr → ⊥) → found c ≡ programs_of lines
      go Pr e d = absurd (d e)
      go (St k) e d = refl
      go Rl e d = refl
      go Fk e d = refl
      go Lo e d = refl
      go Br e d = refl
      go El e d = refl
      go En e d = refl
      go Li e d = refl

  -- ---- T6: the links of the program that the lines begin in

  pub links_here : l.kind ≡ Li → links_of (l ∷ lines) ≡ link_on ∷ links_of lines
  unfolding links_of
  links_here e = rw (e, links_of) refl

  pub links_end : l.kind ≡ Pr → links_of (l ∷ lines) ≡ []
  unfolding links_of
  links_end e = rw (e, links_of) refl

  pub links_later : (l.kind ≡ Pr → ⊥) → (l.kind ≡ Li → ⊥) → links_of (l ∷ lines) ≡ links_of lines
  unfolding links_of
  links_later p q = go l.kind refl
    where
      found : LineKind → List Link
      found c =
          elim c [
            | Li ↦ link_on ∷ links_of lines
            | Pr ↦ []
            | Rl ↦ links_of lines
            | Fk ↦ links_of lines
            | St k ↦ links_of lines
            | Lo ↦ links_of lines
            | Br ↦ links_of lines
            | El ↦ links_of lines
            | En ↦ links_of lines
          ]

      go : (c : LineKind) → l.kind ≡ c → found c ≡ links_of lines
      go Li e = absurd (q e)
      go Pr e = absurd (p e)
      go (St k) e = refl
      go Rl e = refl
      go Fk e = refl
      go Lo e = refl
      go Br e = refl
      go El e = refl
      go En e = refl
