-- The program after a `pr` line is the one whose number is that of the programs before the line, and all lines begin as many programs as there are.
use Rattle.std.specs.Prelude.{Bool, true, false, cond, List, [], ◌∷◌, ◌≡◌, refl, ℕ, zero, suc, ◌+◌, ◌-◌, ◌≤◌, length, get_or, drop, eqb}
use Rattle.std.proofs.Math.Option.{some}
use Rattle.std.proofs.Common.{◌∙◌, arith, eq-eqb}
use Rattle.std.proofs.Math.ListN.{get_elem?}
use Rattle.law_base.specs.BoolLaws.{true_false}
use Rattle.spec_text.specs.declared.Line.{Line}
use Rattle.spec_text.specs.Reading.{is_program}
use Rattle.spec_graph.specs.Program.{Program, run_of, links_of, programs_of}
use Rattle.node_laws.specs.LineCases.{program_kind, kind_program, programs_here, programs_later}
use Rattle.unfold_laws.specs.Codes.{code_of, codes_of}
use Rattle.unfold_laws.specs.Pieces.{line_programs, programs_before}
use Rattle.unfold.specs.OwnLaws.{program_code, programs_first}

-- the program that is read off the lines after line i
unfoldable pub program_at : List Line → ℕ → Program
program_at lines i = record { body = (run_of (length lines - (i + 1)) (drop (i + 1) lines)).run; links = links_of (drop (i + 1) lines) }

-- one line more in front
program_later : (l : Line) (lines : List Line) (i : ℕ) → program_at (l ∷ lines) (suc i) ≡ program_at lines i
unfolding program_at
program_later l lines i =
    let many : length (l ∷ lines) - (suc i + 1) ≡ length lines - (i + 1) = omega arith in
    let next : suc i + 1 ≡ suc (i + 1) = omega arith in
    rw (many, next)

program_first : (l : Line) (lines : List Line)
    → program_at (l ∷ lines) 0 ≡ record { body = (run_of (length lines) lines).run; links = links_of lines }
unfolding program_at
program_first l lines = let many : length (l ∷ lines) - (0 + 1) ≡ length lines = omega arith in rw many

pub program_there : (lines : List Line) (i : ℕ) → get_or (codes_of lines) i 0 ≡ 3
    → get_elem? (programs_of lines) (programs_before (codes_of lines) i) ≡ some (program_at lines i)
unfolding codes_of programs_before
program_there [] i e = let z : ◌≡◌ {A = ℕ} 0 3 = e in absurd (omega arith)
program_there (l ∷ lines) zero e =
    let pr = kind_program l (program_code l ∙ eq-eqb (code_of l.kind) 3 e) in
    rw (programs_here l lines pr, program_first l lines) refl
program_there (l ∷ lines) (suc i) e = go (is_program l) refl (program_there lines i e)
  where
    number : programs_before (codes_of (l ∷ lines)) (suc i) ≡ cond (is_program l) 1 0 + programs_before (codes_of lines) i
    number = programs_first (code_of l.kind) (codes_of lines) i ∙ rw (← program_code l)

    go : (b : Bool) → is_program l ≡ b → get_elem? (programs_of lines) (programs_before (codes_of lines) i) ≡ some (program_at lines i)
        → get_elem? (programs_of (l ∷ lines)) (programs_before (codes_of (l ∷ lines)) (suc i)) ≡ some (program_at (l ∷ lines) (suc i))
    go true h again =
        let one : programs_before (codes_of (l ∷ lines)) (suc i) ≡ suc (programs_before (codes_of lines) i) =
        number ∙ rw h (omega arith) in
        rw (one, programs_here l lines (kind_program l h), program_later l lines i) again
    go false h again =
        let none : programs_before (codes_of (l ∷ lines)) (suc i) ≡ programs_before (codes_of lines) i = number ∙ rw h (omega arith) in
        rw (none, programs_later l lines (λ p. true_false (program_kind l p) h), program_later l lines i) again

pub programs_many : (lines : List Line) → programs_before (codes_of lines) (length (codes_of lines)) ≡ length (programs_of lines)
unfolding codes_of programs_before programs_of
programs_many [] = refl
programs_many (l ∷ lines) = go (is_program l) refl (programs_many lines)
  where
    number : programs_before (codes_of (l ∷ lines)) (length (codes_of (l ∷ lines)))
        ≡ cond (is_program l) 1 0 + programs_before (codes_of lines) (length (codes_of lines))
    number = programs_first (code_of l.kind) (codes_of lines) (length (codes_of lines)) ∙ rw (← program_code l)

    go : (b : Bool) → is_program l ≡ b → programs_before (codes_of lines) (length (codes_of lines)) ≡ length (programs_of lines)
        → programs_before (codes_of (l ∷ lines)) (length (codes_of (l ∷ lines))) ≡ length (programs_of (l ∷ lines))
    go true h again = number ∙ rw (h, programs_here l lines (kind_program l h)) (omega arith)
    go false h again = number ∙ rw (h, programs_later l lines (λ p. true_false (program_kind l p) h)) (omega arith)

-- no more programs begin before a line than lines stand before it
pub programs_few : (codes : List ℕ) (i : ℕ) → programs_before codes i ≤ i
unfolding programs_before line_programs
programs_few codes zero = omega arith
programs_few codes (suc i) = go (eqb (get_or codes i 0) 3) (programs_few codes i)
  where
    go : (b : Bool) → programs_before codes i ≤ i → cond b (programs_before codes i + 1) (programs_before codes i) ≤ suc i
    go true h = omega arith
    go false h = omega arith
