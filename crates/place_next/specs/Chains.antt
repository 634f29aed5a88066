-- Chains of rows: a row is on the chain of its relation's number modulo 64.
use Rattle.std.specs.Prelude.{cond, List, ◌≡◌, ℕ, zero, suc, ◌+◌, ◌-◌, ◌%◌, ◌≤◌, ◌<◌, eqb, length, get_or}
use Rattle.place_row.specs.RowTable.{row_at, row_count}

-- the chain of a row
abbrev pub chain_of : List ℕ → ℕ → ℕ
chain_of table k = (row_at table k).relation % 64

-- the first on a chain of so many rows from some row on, or the row after them
unfoldable pub first_on : List ℕ → ℕ → ℕ → ℕ → ℕ
first_on table c from zero = from
first_on table c from (suc m) = cond (eqb (chain_of table from) c) from (first_on table c (suc from) m)

-- the first row on a chain from some row on; n where there is none below n
unfoldable pub on_chain : List ℕ → ℕ → ℕ → ℕ → ℕ
on_chain table n c from = first_on table c from (n - from)

-- The chains of the rows from some row on: for each chain its first such row, and after each such row the next on its chain, as far as there are
-- words; the other words are as before.
pub record ChainedFrom (table before heads after : List ℕ) (from : ℕ) : Type 0 where
  pub count : length heads ≡ 64
  pub size : length after ≡ length before
  pub first : (c : ℕ) → c < 64 → get_or heads c 0 ≡ on_chain table (row_count table) c from
  pub next : (j : ℕ) → from ≤ j → j < row_count table → j < length before
      → get_or after j 0 ≡ on_chain table (row_count table) (chain_of table j) (j + 1)
  pub below : (j : ℕ) → j < from → get_or after j 0 ≡ get_or before j 0
  pub above : (j : ℕ) → row_count table ≤ j → get_or after j 0 ≡ get_or before j 0

-- the chains of all rows
abbrev pub Chained : (table before heads after : List ℕ) → Type 0
Chained table before heads after = ChainedFrom table before heads after 0
