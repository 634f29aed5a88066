-- All unfoldings of a workload, program after program, over the numbers of its lines.
use Rattle.std.specs.Prelude.{cond, List, [], ◌∷◌, ◌++◌, ℕ, zero, suc, ◌+◌, ◌-◌, eqb, length, get_or}
use Rattle.unfold_laws.specs.declared.Counted.{Counted}
use Rattle.unfold_laws.specs.declared.UnfoldingTotals.{UnfoldingTotals}
use Rattle.unfold_laws.specs.Cap.{plus}
use Rattle.unfold_laws.specs.Codes.{count_at}
use Rattle.unfold_laws.specs.Writing.{write_at}

-- an unfolding as it is written: its program and its places' words
pub record Piece : Type 0 where
  pub program : ℕ
  pub words : List ℕ

-- the words of pieces one after the other
unfoldable pub flat : List Piece → List ℕ
flat [] = []
flat (p ∷ ps) = p.words ++ flat ps

-- what a function gives for m numbers from k on
unfoldable pub tabulate : {A : Type 0} → (ℕ → A) → ℕ → ℕ → List A
tabulate f k zero = []
tabulate f k (suc m) = f k ∷ tabulate f (k + 1) m

-- unfolding number k of the program whose run begins at a place
unfoldable pub row : ℕ → List ℕ → List ℕ → List ℕ → ℕ → ℕ → ℕ → Piece
row program codes words marks at left k = record { program = program; words = write_at left codes words marks 0 at k }

-- what is counted after a `pr` line
unfoldable pub counted_after : List ℕ → ℕ → Counted
counted_after codes i = count_at (length codes - (i + 1)) codes (i + 1)

-- a line's part in the totals, in the number of programs, in the pieces: only a `pr` line has one
unfoldable pub line_totals : List ℕ → ℕ → UnfoldingTotals → UnfoldingTotals
line_totals codes i t =
    cond (eqb (get_or codes i 0) 3)
    (record { count = plus t.count (counted_after codes i).count; statements = plus t.statements (counted_after codes i).statements })
    t

unfoldable pub line_programs : List ℕ → ℕ → ℕ → ℕ
line_programs codes i n = cond (eqb (get_or codes i 0) 3) (n + 1) n

unfoldable pub line_pieces : List ℕ → List ℕ → List ℕ → ℕ → ℕ → List Piece
line_pieces codes words marks i program =
    cond (eqb (get_or codes i 0) 3)
    (tabulate (row program codes words marks (i + 1) (length codes - (i + 1))) 0 (counted_after codes i).count)
    []

-- the same of all lines before a place
unfoldable pub totals_before : List ℕ → ℕ → UnfoldingTotals
totals_before codes zero = record { count = 0; statements = 0 }
totals_before codes (suc i) = line_totals codes i (totals_before codes i)

unfoldable pub programs_before : List ℕ → ℕ → ℕ
programs_before codes zero = 0
programs_before codes (suc i) = line_programs codes i (programs_before codes i)

unfoldable pub pieces_before : List ℕ → List ℕ → List ℕ → ℕ → List Piece
pieces_before codes words marks zero = []
pieces_before codes words marks (suc i) = pieces_before codes words marks i ++ line_pieces codes words marks i (programs_before codes i)
