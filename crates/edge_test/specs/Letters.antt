-- The letter of the edge that stands between two rows, as a byte; and which letters a code tells to hold between them.
use Rattle.std.specs.Prelude.{Bool, cond, not, Option, None, Some, ℕ, eqb}
use Rattle.spec_graph.specs.Graph.{Flow}
use Rattle.spec_graph.specs.Edge.{Letter}
use Rattle.spec_graph.specs.Edge.Letter.{A, B, C, D, E}
use Rattle.kind_table.specs.Codes.{told_in}
use Rattle.place_row.specs.declared.Row.{Row}
use Rattle.place_row.specs.RowTable.{row_holds, row_shared, forward_by, back_by, stands_by, letter_by}

-- the byte of a letter
abbrev pub byte_of : Letter → ℕ
byte_of A = 0x41
byte_of B = 0x42
byte_of C = 0x43
byte_of D = 0x44
byte_of E = 0x45

-- the letter of the edge with this flow, by which letters hold, if one stands
abbrev pub byte_by : Flow → (Letter → Bool) → Row → Row → Option ℕ
byte_by flow holds p q = cond (stands_by flow holds p q) (Some (byte_of (letter_by flow holds))) None

unfoldable pub letter_between : Flow → Row → Row → Option ℕ
letter_between flow p q = byte_by flow (λ x. row_holds x p q) p q

-- the first letter that holds, if one does
abbrev pub first_by : (Letter → Bool) → Option ℕ
first_by holds =
    cond (holds A) (Some (byte_of A))
    (cond (holds B) (Some (byte_of B))
    (cond (holds C) (Some (byte_of C))
    (cond (holds D) (Some (byte_of D))
    (cond (holds E) (Some (byte_of E))
    None))))

-- Req 04: which letters a code, any number, tells to hold between two rows: those that it says are certain, and of those that it says hang on sets
-- those whose two sets meet
unfoldable pub told_between : ℕ → Row → Row → Letter → Bool
told_between code p q x = told_in code x (not (eqb (row_shared x p q) 0))

-- the edges that it tells, and the letter of such an edge
unfoldable pub forward_in : ℕ → Row → Row → Bool
forward_in code p q = forward_by (told_between code p q) p q

unfoldable pub back_in : ℕ → Row → Row → Bool
back_in code p q = back_by (told_between code p q) p q

unfoldable pub letter_in : Flow → ℕ → Row → Row → Option ℕ
letter_in flow code p q = byte_by flow (told_between code p q) p q
