-- Codes in words of four, a row's in two of them.
use Rattle.std.specs.Prelude.{List, [], ◌∷◌, ℕ, ◌+◌, ◌*◌, ◌%◌, get_or}

-- four codes in a word, sixteen bits to each
abbrev pub packed : ℕ → ℕ → ℕ → ℕ → ℕ
packed a b c d = a % 65536 + b % 65536 * 65536 + c % 65536 * 4294967296 + d % 65536 * 281474976710656

-- the codes of a row: the first four, and the last
abbrev pub halves_of : List ℕ → List ℕ
halves_of row =
    packed (get_or row 0 0) (get_or row 1 0) (get_or row 2 0) (get_or row 3 0)
    ∷ packed (get_or row 4 0) (get_or row 5 0) (get_or row 6 0) (get_or row 7 0)
    ∷ []
