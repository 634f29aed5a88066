-- Words laid over a lent area, as far as it reaches, and what the writing of a run asks for.
use Rattle.std.specs.Prelude.{Some, None, List, [], ◌∷◌, ◌++◌, ◌≡◌, ℕ, ◌+◌, ◌-◌, ◌≤◌, ◌<◌, min, length, get_or, take, drop}
use Rattle.unfold_laws.specs.Codes.{count_at}
use Rattle.unfold_laws.specs.Writing.{write_block, write_at}
use Rattle.unfold_count.specs.CountWords.{Held}
use Rattle.unfold.specs.declared.Part.{Part}
use Rattle.unfold.specs.declared.Part.TheVariants.{Nothing, Once, Twice}
use Rattle.unfold.specs.declared.Stretch.{Stretch}

-- words over an area from its start on; past them it is as it was
unfoldable pub laid : List ℕ → List ℕ → List ℕ
laid [] before = before
laid (w ∷ words) [] = []
laid (w ∷ words) (x ∷ before) = w ∷ laid words before

-- words are laid over an area; the result is how many found room
pub record Laid (words before : List ℕ) (r : ℕ) (area : List ℕ) : Type 0 where
  pub many : r ≡ min (length words) (length before)
  pub inside : r ≤ length before
  pub stands : area ≡ laid words before

-- the first m lines from a line on are statements, and their words are laid over an area: a run there is these words and then the run after
-- them, with what they leave seen
pub record Stretching (codes words marks : List ℕ) (seen at : ℕ) (before : List ℕ) (m sees : ℕ) (area : List ℕ) : Type 0 where
  pub reach : m ≤ length codes - at
  pub inside : m ≤ length before
  pub many : length area ≡ length before
  pub rest : drop m area ≡ drop m before
  pub first : (left k : ℕ) → m ≤ left
      → write_at left codes words marks seen at k ≡ take m area ++ write_at (left - m) codes words marks sees (at + m) k

-- a line begins a block
pub record BlockAt (codes : List ℕ) (at : ℕ) : Type 0 where
  pub inside : at < length codes
  pub some : get_or codes at 0 ≡ 0 → ⊥
  pub few : get_or codes at 0 ≤ 2

-- the same up to the first line that is no statement, or to the area's end: then the run ends there, or the area, or a block is next
pub record Stretched (codes words marks : List ℕ) (seen at : ℕ) (before : List ℕ) (r : Stretch) (area : List ℕ) : Type 0 where
  pub sees : ℕ
  pub laid : Stretching codes words marks seen at before r.many sees area
  pub whole : r.block ≡ None → (left k : ℕ) → length codes ≤ at + left → Laid (write_at left codes words marks seen at k) before r.many area
  pub block : (there : ℕ) → r.block ≡ Some there → (there ≡ sees) × BlockAt codes (at + r.many)

-- the words for all runs stand, as far as they reach, and enough lines are left for the run at a place
pub record Known (codes counts : List ℕ) (at left : ℕ) : Type 0 where
  pub held : Held codes counts 0
  pub enough : length codes ≤ at + left

-- words for the counts: one for each line, or none
pub record Countable (codes counts : List ℕ) : Type 0 where
  pub short : length counts < 2048
  pub all : (length counts ≡ 0 → ⊥) → length counts ≡ length codes

-- what number k of a block is: nothing, or turns of the run at a line
abbrev pub Parted : List ℕ → List ℕ → ℕ → ℕ → ℕ → Part → Type 0
Parted codes counts left at k Nothing = (write : ℕ → ℕ → List ℕ) → write_block write (count_at left codes) codes at k ≡ []
Parted codes counts left at k (Once line number) =
    Known codes counts line left
    × ((write : ℕ → ℕ → List ℕ) → write_block write (count_at left codes) codes at k ≡ write line number)
Parted codes counts left at k (Twice line one two) =
    Known codes counts line left
    × ((write : ℕ → ℕ → List ℕ) → write_block write (count_at left codes) codes at k ≡ write line one ++ write line two)
