-- Small workloads that pin what a group's part is (Req 06): each case is computed from the definitions.
use Rattle.std.specs.Prelude.{List, [], ◌∷◌, map, ◌≡◌, refl, ℕ}
use Rattle.spec_base.specs.Basic.{numbers}
use Rattle.spec_text.specs.declared.Line.{Line}
use Rattle.spec_text.specs.Text.{line_with}
use Rattle.spec_text.specs.Reading.{sort, is_program}
use Rattle.spec_text.specs.Value.{lines_of, value_of}
use Rattle.spec_graph.specs.ExampleText.{rl, fk, pr, ks, ps, ku, lo, br, el, en, li, base}
use Rattle.spec_part.specs.Group.{chosen_from, until_program, program_lines, joined_from, part_lines, part_of}

-- whoever unfolds this can compute parts
unfoldable part : ℕ → List Line → List Line
unfolding line_with sort is_program chosen_from until_program program_lines joined_from part_lines
part group lines = part_lines group lines

-- Req 06: bit k chooses place k, in order; bits past the end count for nothing
chosen_places : map (λ group. chosen_from {A = ℕ} group 0 (10 ∷ 11 ∷ 12 ∷ [])) (numbers 9)
    ≡ []
    ∷ (10 ∷ [])
    ∷ (11 ∷ [])
    ∷ (10 ∷ 11 ∷ [])
    ∷ (12 ∷ [])
    ∷ (10 ∷ 12 ∷ [])
    ∷ (11 ∷ 12 ∷ [])
    ∷ (10 ∷ 11 ∷ 12 ∷ [])
    ∷ []
    ∷ []
unfolding chosen_from
chosen_places = refl

-- Req 06: the place of the first element counts
chosen_from_lem : chosen_from {A = ℕ} 0x8004 2 (10 ∷ 11 ∷ []) ≡ 10 ∷ []
unfolding chosen_from
chosen_from_lem = refl

-- three programs: statements, flow and links of two, one that is empty between them
abbrev three : List Line
three =
    rl 0 3 ∷ rl 1 3 ∷ fk 0 1 0
    ∷ pr 0 ∷ ku 0 0 2 2 ∷ lo ∷ ku 1 1 0 2 ∷ en ∷ li 0 1 0 ∷ li 0 1 0
    ∷ pr 1
    ∷ pr 2 ∷ br ∷ ps 0 1 2 2 ∷ el ∷ en ∷ ks 1 1 2 ∷ li 0 1 1 ∷ []

-- T6: the lines of its programs, links included, and what stands before them
three_programs : program_lines three
    ≡ (ku 0 0 2 2 ∷ lo ∷ ku 1 1 0 2 ∷ en ∷ li 0 1 0 ∷ li 0 1 0 ∷ [])
    ∷ []
    ∷ (br ∷ ps 0 1 2 2 ∷ el ∷ en ∷ ks 1 1 2 ∷ li 0 1 1 ∷ [])
    ∷ []
unfolding part
three_programs = refl

three_opening : until_program three ≡ rl 0 3 ∷ rl 1 3 ∷ fk 0 1 0 ∷ []
unfolding part
three_opening = refl

-- Req 06: no program leaves relations and keys
part_of_none : part 0 three ≡ rl 0 3 ∷ rl 1 3 ∷ fk 0 1 0 ∷ []
unfolding part
part_of_none = refl

-- Req 06: the first program alone
part_of_first : part 1 three
    ≡ rl 0 3 ∷ rl 1 3 ∷ fk 0 1 0
    ∷ pr 0 ∷ ku 0 0 2 2 ∷ lo ∷ ku 1 1 0 2 ∷ en ∷ li 0 1 0 ∷ li 0 1 0 ∷ []
unfolding part
part_of_first = refl

-- Req 06: the others, renumbered, with their links
part_of_last : part 4 three ≡ rl 0 3 ∷ rl 1 3 ∷ fk 0 1 0 ∷ pr 0 ∷ br ∷ ps 0 1 2 2 ∷ el ∷ en ∷ ks 1 1 2 ∷ li 0 1 1 ∷ []
unfolding part
part_of_last = refl

part_of_two : part 5 three
    ≡ rl 0 3 ∷ rl 1 3 ∷ fk 0 1 0
    ∷ pr 0 ∷ ku 0 0 2 2 ∷ lo ∷ ku 1 1 0 2 ∷ en ∷ li 0 1 0 ∷ li 0 1 0
    ∷ pr 1 ∷ br ∷ ps 0 1 2 2 ∷ el ∷ en ∷ ks 1 1 2 ∷ li 0 1 1 ∷ []
unfolding part
part_of_two = refl

part_of_later : part 6 three ≡ rl 0 3 ∷ rl 1 3 ∷ fk 0 1 0 ∷ pr 0 ∷ pr 1 ∷ br ∷ ps 0 1 2 2 ∷ el ∷ en ∷ ks 1 1 2 ∷ li 0 1 1 ∷ []
unfolding part
part_of_later = refl

-- Req 06: all programs are the workload itself, and bits past them count for nothing
part_of_all : map (λ group. part group three) (7 ∷ 15 ∷ 0xffff ∷ []) ≡ three ∷ three ∷ three ∷ []
unfolding part
part_of_all = refl

part_past : part 0xfff8 three ≡ part 0 three
unfolding part
part_past = refl

-- Req 06: the part's value: its lines first, in a workload of as many cells, the unused line in the others
value_of_part : part_of 2 (value_of base) ≡ value_of (rl 0 3 ∷ rl 1 3 ∷ fk 0 1 0 ∷ pr 0 ∷ ps 0 1 2 2 ∷ [])
unfolding part lines_of value_of part_of
value_of_part = refl
