-- A small workload that pins what is told of a program (U1, U2, U3).
use Rattle.std.specs.Prelude.{List, [], ◌∷◌, map, ◌≡◌, refl, ℕ, take, drop}
use Rattle.spec_base.specs.Basic.{numbers}
use Rattle.spec_text.specs.declared.Line.{Line}
use Rattle.spec_text.specs.Reading.{is_program, sort}
use Rattle.spec_graph.specs.Program.{programs_of}
use Rattle.spec_graph.specs.ExampleText.{rl, pr, ks, lo, br, el, en, nodes}
use Rattle.spec_report.specs.State.{statements_in}
use Rattle.unfold_laws.specs.Cap.{cap}
use Rattle.unfold_laws.specs.Places.{first_line}
use Rattle.unfold_program.specs.ProgramSettled.{program_told}

-- a statement and a branch; nothing; a loop; six loops in a row, which have 729 unfoldings
abbrev four_programs : List Line
four_programs =
    rl 0 1
    ∷ pr 0 ∷ ks 0 0 1 ∷ br ∷ ks 1 0 1 ∷ el ∷ en
    ∷ pr 1
    ∷ pr 2 ∷ lo ∷ ks 0 0 1 ∷ en
    ∷ pr 3 ∷ lo ∷ en ∷ lo ∷ en ∷ lo ∷ en ∷ lo ∷ en ∷ lo ∷ en ∷ lo ∷ ks 0 0 1 ∷ en ∷ []

-- the line of its `pr`, its unfoldings and the statements in them
unfoldable told_of : ℕ → List (List ℕ)
unfolding nodes first_line is_program sort statements_in cap program_told
told_of k =
    map (λ p. let r = program_told four_programs k p in r.line ∷ r.count ∷ r.statements ∷ []) (take 1 (drop k (programs_of four_programs)))

U_programs : map told_of (numbers 5)
    ≡ ((1 ∷ 2 ∷ 3 ∷ []) ∷ []) ∷ ((7 ∷ 1 ∷ 0 ∷ []) ∷ []) ∷ ((8 ∷ 3 ∷ 3 ∷ []) ∷ []) ∷ ((12 ∷ 513 ∷ 513 ∷ []) ∷ []) ∷ [] ∷ []
unfolding told_of
U_programs = refl
