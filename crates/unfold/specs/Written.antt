-- What the writing functions ask for and say of their results.
use Rattle.std.specs.Prelude.{List, ◌++◌, ◌≡◌, ℕ, ◌+◌, ◌≤◌, ◌<◌, length, take, drop}
use Rattle.unfold.specs.PieceTable.{UnfoldingTable}
use Rattle.unfold_laws.specs.Pieces.{Piece, flat}
use Rattle.unfold.specs.PieceTable.{Wide, add_all}
use Rattle.unfold.specs.declared.Unfolding.{Unfolding}
use Rattle.unfold.specs.declared.Used.{Used}

-- the table whose cells are lent
abbrev pub table_at : Used → List Unfolding → UnfoldingTable
table_at t unfoldings = record { count = t.count; used = t.used; unfoldings = unfoldings }

-- numbers stand at the start of an area, which is otherwise as it was; the result is how many
pub record Wrote (written before : List ℕ) (r : ℕ) (area : List ℕ) : Type 0 where
  pub many : r ≡ length written
  pub inside : r ≤ length before
  pub stands : area ≡ written ++ drop (length written) before

-- the table and the area have room for rows
pub record Rows (rows : List Piece) (t : UnfoldingTable) (area : List ℕ) : Type 0 where
  pub wide : Wide t
  pub room : length (flat rows) ≤ length area
  pub cells : t.count + length rows ≤ 64
  pub places : t.used + length area < 18446744073709551616

-- rows stand in the table and at the start of an area, which is otherwise as it was
pub record Rowed (rows : List Piece) (t : UnfoldingTable) (before : List ℕ) (r : UnfoldingTable) (area : List ℕ) : Type 0 where
  pub same : r ≡ add_all t rows
  pub stands : Wrote (flat rows) before (length (flat rows)) area

-- the table and the area have room for a line's rows after those that stand there
pub record LineFits (rows : List Piece) (t : UnfoldingTable) (area : List ℕ) : Type 0 where
  pub wide : Wide t
  pub cells : t.count + length rows ≤ 64
  pub places : t.used + length (flat rows) ≤ length area

-- rows stand in the table and in the area from its first free place on; the area is otherwise as it was
pub record Lined (rows : List Piece) (t : UnfoldingTable) (before : List ℕ) (r : UnfoldingTable) (area : List ℕ) : Type 0 where
  pub same : r ≡ add_all t rows
  pub stands : area ≡ take t.used before ++ (flat rows ++ drop (t.used + length (flat rows)) before)

-- all pieces have room
pub record AllFit (rows : List Piece) (area : List ℕ) : Type 0 where
  pub cells : length rows ≤ 64
  pub places : length (flat rows) ≤ length area

-- all pieces stand from an area's start on and are told over a table with no rows
pub record AllTold (rows : List Piece) (t : UnfoldingTable) (before : List ℕ) (r : UnfoldingTable) (area : List ℕ) : Type 0 where
  pub tells : r ≡ add_all t rows
  pub stands : Wrote (flat rows) before (length (flat rows)) area
