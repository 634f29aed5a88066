-- A small workload that pins what is told of a node (U4).
use Rattle.std.specs.Prelude.{List, [], ◌∷◌, map, ◌≡◌, refl, ℕ, take, drop}
use Rattle.spec_base.specs.Basic.{numbers}
use Rattle.spec_text.specs.declared.Line.{Line}
use Rattle.spec_text.specs.Reading.{is_program, sort}
use Rattle.spec_graph.specs.Program.{run_lines}
use Rattle.spec_graph.specs.ExampleText.{rl, pr, ks, lo, br, el, en, nodes}
use Rattle.spec_part.specs.Arm.{unfoldings_from}
use Rattle.unfold_laws.specs.Places.{first_line}
use Rattle.spec_choice.specs.Choices.{turns_taken, choices}
use Rattle.unfold_choice.specs.ChoicesSettled.{unfoldings_of, choice_words, choices_told}

-- two programs, each with a block: the lines count on from program to program
abbrev two_programs : List Line
two_programs = rl 0 1 ∷ pr 0 ∷ ks 0 0 1 ∷ br ∷ el ∷ en ∷ pr 1 ∷ lo ∷ ks 0 0 1 ∷ en ∷ []

-- the words of each node: four times the place of the `br` or `lo` line among all lines, and the arm or how many turns
U4_words : map (λ u. choice_words two_programs u) (unfoldings_of two_programs) ≡ (13 ∷ []) ∷ (14 ∷ []) ∷ (28 ∷ []) ∷ (29 ∷ []) ∷ (30 ∷ []) ∷ []
unfolding nodes choices turns_taken run_lines unfoldings_from unfoldings_of choice_words first_line is_program sort
U4_words = refl

-- what is told of a node: its program, which unfolding of its program it is, and how many choices it makes
unfoldable told_at : ℕ → List (List ℕ)
unfolding nodes choices turns_taken run_lines unfoldings_from unfoldings_of choice_words first_line is_program sort choices_told
told_at node =
    map (λ u. let r = choices_told two_programs node u in r.program ∷ r.number ∷ r.count ∷ []) (take 1 (drop node (unfoldings_of two_programs)))

U4_numbers : map told_at (numbers 6)
    ≡ ((0 ∷ 0 ∷ 1 ∷ []) ∷ [])
    ∷ ((0 ∷ 1 ∷ 1 ∷ []) ∷ [])
    ∷ ((1 ∷ 0 ∷ 1 ∷ []) ∷ [])
    ∷ ((1 ∷ 1 ∷ 1 ∷ []) ∷ [])
    ∷ ((1 ∷ 2 ∷ 1 ∷ []) ∷ [])
    ∷ []
    ∷ []
unfolding told_at
U4_numbers = refl
