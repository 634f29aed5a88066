-- What is counted of the run at a line as one word, and the words for all lines.
use Rattle.std.specs.Prelude.{List, map, ◌≡◌, ℕ, ◌+◌, ◌*◌, ◌/◌, ◌%◌, ◌≤◌, ◌<◌, length, get_or}
use Rattle.spec_base.specs.Basic.{numbers}
use Rattle.unfold_laws.specs.declared.Counted.{Counted}
use Rattle.unfold_laws.specs.declared.UnfoldingTotals.{UnfoldingTotals}
use Rattle.unfold_laws.specs.CountEnds.{count_from}
use Rattle.unfold_count.specs.Counted.{RunCounted, AllCounted}

unfoldable pub count_word : Counted → ℕ
count_word c = c.count + c.statements * 1024 + c.end * 1024 * 1024

unfoldable pub counted_in : ℕ → Counted
counted_in word = record { count = word % 1024; statements = word / 1024 % 1024; end = word / 1024 / 1024 }

-- the words for the runs at all lines
unfoldable pub count_words : List ℕ → List ℕ
count_words codes = map (λ at. count_word (count_from codes at)) (numbers (length codes))

-- from a line on, the words are those for the runs there, as far as they reach
pub record Held (codes counts : List ℕ) (from : ℕ) : Type 0 where
  pub short : length counts < 2048
  pub few : length counts ≤ length codes
  pub told : (at : ℕ) → from ≤ at → at < length counts → get_or counts at 0 ≡ count_word (count_from codes at)

-- from a place on, the words are those for the runs there, as far as they reach; and where one stands at the place, enough lines are left
pub record Usable (codes counts : List ℕ) (at left : ℕ) : Type 0 where
  pub enough : at < length counts → length codes ≤ at + left
  pub told : (e : ℕ) → at ≤ e → e < length counts → get_or counts e 0 ≡ count_word (count_from codes e)

-- at a line: so it is from the next one on
pub record Behind (codes counts : List ℕ) (at left : ℕ) : Type 0 where
  pub inside : at < length codes
  pub usable : Usable codes counts (at + 1) left

-- what is found at a place: what its word says, or, past the words, what is counted there
pub record Looked (left : ℕ) (codes counts : List ℕ) (at : ℕ) (r : Counted) : Type 0 where
  pub word : at < length counts → r ≡ counted_in (get_or counts at 0)
  pub past : length counts ≤ at → RunCounted left codes at r

-- all words stand, and the totals are those of all lines
pub record Filled (codes : List ℕ) (r : UnfoldingTotals) (after : List ℕ) : Type 0 where
  pub totals : AllCounted codes r
  pub words : after ≡ count_words codes

-- the totals; the words where there is room for just one to each line and there are fewer than 2048, else they stay
pub record Measured (codes before : List ℕ) (r : UnfoldingTotals) (after : List ℕ) : Type 0 where
  pub totals : AllCounted codes r
  pub words : length before ≡ length codes → length codes < 2048 → after ≡ count_words codes
  pub kept : (length before ≡ length codes → length codes < 2048 → ⊥) → after ≡ before
