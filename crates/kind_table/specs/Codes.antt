-- The chances of all letters between two kinds as one number, the code of the two: two bits to each letter.
use Rattle.std.specs.Prelude.{Bool, cond, ◌&&◌, ◌||◌, List, map, ℕ, ◌+◌, ◌*◌}
use Rattle.spec_base.specs.Basic.{meets}
use Rattle.spec_text.specs.declared.StatementKind.{StatementKind}
use Rattle.spec_graph.specs.Edge.{Letter}
use Rattle.spec_graph.specs.Edge.Letter.{A, B, C, D, E}
use Rattle.spec_kinds.specs.declared.Chance.{Chance}
use Rattle.spec_kinds.specs.declared.Chance.TheVariants.{Impossible, Certain, Hanging}
use Rattle.spec_kinds.specs.Table.{kinds, digit_of}
use Rattle.law_kinds.specs.Chances.{chance_of}

-- the bit of a letter that is certain: what its digit counts
abbrev pub certain_bit : Letter → ℕ
certain_bit A = 256
certain_bit B = 64
certain_bit C = 16
certain_bit D = 4
certain_bit E = 1

-- the bit of a letter that hangs on its sets
abbrev pub hanging_bit : Letter → ℕ
hanging_bit x = 2 * certain_bit x

abbrev part : Letter → StatementKind → StatementKind → ℕ
part x k l = digit_of (chance_of x k l) * certain_bit x

-- Req 04: the code of two kinds, from the rules
unfoldable pub code_of : StatementKind → StatementKind → ℕ
code_of k l = part A k l + part B k l + part C k l + part D k l + part E k l

-- the codes of a kind that an edge leaves, for all that it may enter
unfoldable pub codes_from : StatementKind → List ℕ
codes_from k = map (code_of k) kinds

-- Req 04: the table that the rules give
unfoldable pub letter_table : List (List ℕ)
letter_table = map codes_from kinds

-- what a code, any number, says of a letter
abbrev pub chance_in : ℕ → Letter → Chance
chance_in code x = cond (meets code (certain_bit x)) Certain (cond (meets code (hanging_bit x)) Hanging Impossible)

-- whether a letter is told to hold, by a code and by whether its two sets meet
abbrev pub told_in : ℕ → Letter → Bool → Bool
told_in code x meet = meets code (certain_bit x) || meets code (hanging_bit x) && meet
