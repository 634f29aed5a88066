-- Rows linked by relation: the word of a row's kind, of which only the number modulo 8 tells the kind, holds the next row and the first on its chain.
use Rattle.std.specs.Prelude.{Bool, true, false, cond, ◌&&◌, List, ◌≡◌, ℕ, ◌+◌, ◌*◌, ◌/◌, ◌%◌, ◌≤◌, ◌<◌, leb, ltb, length, get_or}
use Rattle.place_row.specs.RowTable.{row_count}
use Rattle.place_next.specs.Chains.{chain_of, on_chain}

-- the word of a row's kind
abbrev pub kind_word : List ℕ → ℕ → ℕ
kind_word table j = get_or table (j * 8 + 2) 0

-- what it holds
abbrev pub link_word : ℕ → ℕ → ℕ → ℕ
link_word kind next first = kind % 8 + next * 8 + first * 8192

abbrev pub next_in : ℕ → ℕ
next_in word = word / 8 % 1024

abbrev pub first_in : ℕ → ℕ
first_in word = word / 8192

-- each row tells the next row and the first on its chain
pub record Links (table : List ℕ) : Type 0 where
  pub next : (j : ℕ) → j < row_count table → next_in (kind_word table j) ≡ on_chain table (row_count table) (chain_of table j) (j + 1)
  pub first : (j : ℕ) → j < row_count table → first_in (kind_word table j) ≡ on_chain table (row_count table) (chain_of table j) 0

-- rows are linked where they are not few and there are as many words to work in
abbrev pub linkable : List ℕ → ℕ → Bool
linkable table m = leb 8 (row_count table) && leb (row_count table) m

-- the word of a row's kind after linking
unfoldable pub linked_word : List ℕ → ℕ → ℕ → ℕ
linked_word table m j =
    cond (linkable table m && ltb j (row_count table))
    (link_word (kind_word table j) (on_chain table (row_count table) (chain_of table j) (j + 1)) (on_chain table (row_count table) (chain_of table j) 0))
    (kind_word table j)

-- linking changes the words of the kinds alone
pub record LinkedAs (before : List ℕ) (m : ℕ) (after : List ℕ) : Type 0 where
  pub size : length after ≡ length before
  pub kind : (j : ℕ) → kind_word after j ≡ linked_word before m j
  pub rest : (p : ℕ) → (p % 8 ≡ 2 → ⊥) → get_or after p 0 ≡ get_or before p 0

-- whether the rows are linked and not few
pub record LinkedTold (table : List ℕ) (r : Bool) : Type 0 where
  pub held : r ≡ true → (8 ≤ row_count table) × Links table
  pub not : r ≡ false → 8 ≤ row_count table → Links table → ⊥
