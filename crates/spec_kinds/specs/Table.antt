-- The table of kinds as bytes (Req 05). Believed.
use mathlib.Core.List.{List, [], ◌∷◌, ◌++◌, map, flat_map}
use Rattle.std.specs.Prelude.{◌≡◌, ℕ}
use Rattle.spec_text.specs.declared.LineKind.TheVariants.{St}
use Rattle.spec_text.specs.declared.StatementKind.{StatementKind}
use Rattle.spec_text.specs.declared.StatementKind.TheVariants.{Is, Ks, Ps, Ku, Pu, Kd, Pd, Kl}
use Rattle.spec_text.specs.Text.{newline, space, digit, word_of}
use Rattle.spec_graph.specs.Edge.{Letter}
use Rattle.spec_graph.specs.Edge.Letter.{A, B, C, D, E}
use Rattle.spec_kinds.specs.declared.Chance.{Chance}
use Rattle.spec_kinds.specs.declared.Chance.TheVariants.{Impossible, Certain, Hanging}
use Rattle.spec_kinds.specs.Meaning.{Means}

-- Req 05: the kinds in their order, the letters in theirs
abbrev pub kinds : List StatementKind
kinds = Is ∷ Ks ∷ Ps ∷ Ku ∷ Pu ∷ Kd ∷ Pd ∷ Kl ∷ []

abbrev pub letters : List Letter
letters = A ∷ B ∷ C ∷ D ∷ E ∷ []

-- Req 05: 0 impossible, 1 certain, 2 hanging on sets
abbrev pub digit_of : Chance → ℕ
digit_of Impossible = 0
digit_of Certain = 1
digit_of Hanging = 2

-- Req 05: `from to a b c d e` and its line end
unfoldable pub table_names : List ℕ
table_names =
    0x66 ∷ 0x72 ∷ 0x6f ∷ 0x6d ∷ space
    ∷ 0x74 ∷ 0x6f ∷ space
    ∷ 0x61 ∷ space ∷ 0x62 ∷ space ∷ 0x63 ∷ space ∷ 0x64 ∷ space ∷ 0x65 ∷ newline ∷ []

-- Req 05: a space and a digit for each letter
unfoldable pub columns : (Letter → Chance) → List ℕ
columns chance = flat_map (λ x. space ∷ digit (digit_of (chance x)) ∷ []) letters

-- Req 05: the line of two kinds, by their two letters, and of the letters between them
unfoldable pub table_line : StatementKind → StatementKind → (Letter → Chance) → List ℕ
table_line k l chance = word_of (St k) ++ (space ∷ word_of (St l)) ++ columns chance ++ (newline ∷ [])

-- Req 05: each kind that an edge leaves with each that it enters; the latter changes fastest
abbrev pub pairs : List (StatementKind × StatementKind)
pairs = flat_map (λ k. map (λ l. (k, l)) kinds) kinds

-- Req 05: the names, then the line of each pair
unfoldable pub table_text : (Letter → StatementKind → StatementKind → Chance) → List ℕ
table_text entry = table_names ++ flat_map (λ p. table_line p.0 p.1 (λ x. entry x p.0 p.1)) pairs

-- Req 05: these bytes are the table: its entries say what is so by the rules, over all sets that the rules allow
pub record KindTable (bytes : List ℕ) : Type 0 where
  pub entry : Letter → StatementKind → StatementKind → Chance
  pub right : (x : Letter) (k l : StatementKind) → Means x k l (entry x k l)
  pub text : bytes ≡ table_text entry
