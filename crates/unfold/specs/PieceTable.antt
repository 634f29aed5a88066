-- The table of what is written: each piece's program, start and length.
use Rattle.std.specs.Prelude.{List, [], ◌∷◌, ◌++◌, ◌≡◌, ℕ, ◌+◌, length, set, drop}
use Rattle.unfold_laws.specs.Pieces.{Piece, flat}
use Rattle.unfold.specs.declared.Unfolding.{Unfolding}
use Rattle.unfold.specs.UnfoldTold.{unfolding_cells}

-- how many rows, how many places they take, and the cells of the rows: each one's program, start and length
pub record UnfoldingTable : Type 0 where
  pub count : ℕ
  pub used : ℕ
  pub unfoldings : List Unfolding

-- with room for 64 rows
pub record Wide (t : UnfoldingTable) : Type 0 where
  pub cells : length t.unfoldings ≡ 64

-- one row more
unfoldable pub added : UnfoldingTable → ℕ → ℕ → UnfoldingTable
added t program n =
    record {
      count = t.count + 1;
      used = t.used + n;
      unfoldings = set t.unfoldings t.count (record { program = program; start = t.used; length = n });
    }

unfoldable pub add_all : UnfoldingTable → List Piece → UnfoldingTable
add_all t [] = t
add_all t (p ∷ ps) = add_all (added t p.program (length p.words)) ps

-- the place where each piece starts
unfoldable pub starts : ℕ → List Piece → List ℕ
starts s [] = []
starts s (p ∷ ps) = s ∷ starts (s + length p.words) ps

-- what is told of each piece
unfoldable pub unfoldings_from : ℕ → List Piece → List Unfolding
unfoldings_from s [] = []
unfoldings_from s (p ∷ ps) =
    record { program = p.program; start = s; length = length p.words } ∷ unfoldings_from (s + length p.words) ps

unfoldable pub table : List Piece → UnfoldingTable
table ps = record { count = length ps; used = length (flat ps); unfoldings = unfolding_cells (unfoldings_from 0 ps) }

-- the table with no rows
abbrev pub table_none : List Unfolding → UnfoldingTable
table_none unfoldings = record { count = 0; used = 0; unfoldings = unfoldings }

-- a list over cells from the first on; past it the cells are as they were
unfoldable pub over : {A : Type 0} → List A → List A → List A
over l before = l ++ drop (length l) before

-- the same table over cells that held something before
unfoldable pub table_over : UnfoldingTable → List Piece → UnfoldingTable
table_over t ps =
    record { count = length ps; used = length (flat ps); unfoldings = over (unfoldings_from 0 ps) t.unfoldings }
