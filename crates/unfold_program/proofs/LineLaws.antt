-- The paths through the functions over codes.
use mathlib.Core.Bool.{Bool, true, false, cond}
use mathlib.Core.List.{List}
use mathlib.Core.Option.{Option, none, some, none-ne-some}
use mathlib.Core.Path.{◌≡◌, refl, sym, ap, ◌∙◌}
use Rattle.std.specs.Prelude.{Option as Maybe, Some, None, Ok}
use Prim.Native.Nat.{ℕ, ◌+◌, ◌-◌, ◌≤◌, ◌<◌}
use native.Mathlib.Numerals.{add-one}
use native.Mathlib.Omega.{arith}
use lib.Dec.{eqb}
use lib.ListN.{length, get_or, get_elem?, drop}
use borrow.Author.Tests.{eqb-true}
use Rattle.law_base.specs.ListLaws.{get_elem?_past, get_elem?_same}
use Rattle.spec_text.specs.declared.Line.{Line}
use Rattle.spec_text.specs.declared.Workload.{Workload}
use Rattle.spec_text.specs.Value.{Given, lines_of}
use Rattle.spec_graph.specs.Program.{Program, run_of, links_of, programs_of}
use Rattle.spec_graph.specs.Unfolding.{unfoldings, nodes_of_program}
use Rattle.spec_report.specs.State.{statements_in}
use Rattle.unfold_laws.specs.declared.Counted.{Counted}
use Rattle.unfold_laws.specs.Cap.{cap}
use Rattle.unfold_laws.specs.Codes.{codes_of}
use Rattle.unfold_laws.specs.CodesLaws.{length_codes}
use Rattle.unfold_laws.specs.ChoosingLaws.{length_unfoldings}
use Rattle.unfold_laws.specs.Pieces.{line_programs, programs_before}
use Rattle.unfold_laws.specs.Places.{first_line}
use Rattle.unfold_laws.specs.PiecesLaws.{program_statements}
use Rattle.unfold_count.specs.Counted.{RunCounted}
use Rattle.unfold.specs.OwnLaws.{first_there}
use Rattle.unfold_program.specs.declared.ProgramUnfoldings.{ProgramUnfoldings}
use Rattle.unfold_program.specs.ProgramSettled.{program_told, ProgramSettled}
use Rattle.unfold_program.specs.ProgramSettled.ProgramSettled.{missing, told}
use Rattle.unfold_program.specs.ProgramSteps.{ProgramLine, ProgramOver}
use Rattle.unfold_program.specs.ProgramLaws.{program_at, program_there, programs_many}

-- ---- the `pr` line

-- one line further
pub next_line : (codes : List ℕ) (i before past : ℕ) → before ≡ programs_before codes i → past ≡ line_programs codes i before
    → past ≡ programs_before codes (i + 1)
unfolding programs_before
next_line codes i before past e p = p ∙ rw (add-one, e) refl

-- the line at which the programs come to be more than k begins program k
pub line_found : (codes : List ℕ) (k i before past : ℕ) → i < length codes → before ≡ programs_before codes i → before ≤ k
    → past ≡ line_programs codes i before → k < past → ProgramLine codes k (Some i)
unfolding line_programs
line_found codes k i before past inside e few p more =
    let pr = go (eqb (get_or codes i 0) 3) refl p in
    (inside, eqb-true (get_or codes i 0) 3 pr.0, sym e ∙ pr.1)
  where
    go : (b : Bool) → eqb (get_or codes i 0) 3 ≡ b → past ≡ cond b (before + 1) before → (eqb (get_or codes i 0) 3 ≡ true) × (before ≡ k)
    go true h q = (h, omega arith)
    go false h q = absurd (omega arith)

-- no line does
pub line_none : (codes : List ℕ) (k i before : ℕ) → i ≤ length codes → length codes ≤ i → before ≡ programs_before codes i → before ≤ k
    → ProgramLine codes k None
line_none codes k i before p q e few = let end : length codes ≡ i = omega arith in rw end (omega (arith, e))

-- ---- what is told of a program

-- there is no program k
pub over_none : (codes : List ℕ) (k : ℕ) → ProgramLine codes k None → ProgramOver codes k None
over_none codes k h =
    record {
      missing = λ lines c n. refl;
      told = λ lines c p there. absurd (none-ne-some p (sym (nothing lines c) ∙ there));
    }
  where
    nothing : (lines : List Line) → codes ≡ codes_of lines → get_elem? (programs_of lines) k ≡ none
    nothing lines c = get_elem?_past (programs_of lines) k (omega (arith, programs_many lines, rw c at h))

-- program k stands after the line
pub over_told : (codes : List ℕ) (k i : ℕ) (c : Counted) → ProgramLine codes k (Some i) → (n : ℕ) → n ≡ length codes
    → RunCounted (n - (i + 1)) codes (i + 1) c
    → ProgramOver codes k (Some (record { line = i; count = c.count; statements = c.statements }))
unfolding program_told program_at
over_told codes k i c h n many got =
    record {
      missing = λ lines e n. absurd (none-ne-some _ (sym n ∙ there lines e));
      told = λ lines e p here. rw (get_elem?_same (programs_of lines) k here (there lines e)) (whole lines e);
    }
  where
    counted : RunCounted (length codes - (i + 1)) codes (i + 1) c
    counted = rw many at got

    begins : (lines : List Line) → codes ≡ codes_of lines → (get_or (codes_of lines) i 0 ≡ 3) × (programs_before (codes_of lines) i ≡ k)
    begins lines e = rw (← e) (h.1, h.2)

    there : (lines : List Line) → codes ≡ codes_of lines → get_elem? (programs_of lines) k ≡ some (program_at lines i)
    there lines e = let pr = begins lines e in rw (← pr.1) (program_there lines i pr.0)

    whole : (lines : List Line) → codes ≡ codes_of lines
        → Some (record { line = i; count = c.count; statements = c.statements }) ≡ Some (program_told lines k (program_at lines i))
    whole lines e =
        let pr = begins lines e in
        let many : length codes ≡ length lines = ap length e ∙ length_codes lines in
        let means = rw many at (counted.means lines e) in
        let run = (run_of (length lines - (i + 1)) (drop (i + 1) lines)).run in
        let line : i ≡ first_line k lines - 1 = omega (arith, rw pr.1 at (first_there lines i pr.0)) in
        let count : c.count ≡ cap (length (unfoldings run)) = means.counts ∙ ap cap (sym (length_unfoldings run)) in
        let statements : c.statements ≡ cap (statements_in (nodes_of_program k (program_at lines i))) =
        means.states ∙ ap cap (sym (program_statements lines k (i + 1) (length lines - (i + 1)) (links_of (drop (i + 1) lines)))) in
        rw (← line, ← count, ← statements)

-- over the lines of a given value that is the promise
pub settled_over : (w : Workload) (k : ℕ) (codes : List ℕ) (r : Maybe ProgramUnfoldings) → Given w → codes ≡ codes_of (lines_of w)
    → ProgramOver codes k r
    → ProgramSettled w k (Ok r)
settled_over w k codes r g e h = go (get_elem? (programs_of (lines_of w)) k) refl
  where
    go : (o : Option Program) → get_elem? (programs_of (lines_of w)) k ≡ o → ProgramSettled w k (Ok r)
    go none n = rw (h.missing (lines_of w) e n) (missing g n)
    go (some p) there = rw (h.told (lines_of w) e p there) (told g p there)
