-- What the answers of the functions below `line_in` stand for.
use Rattle.std.specs.Prelude.{List, ℕ, ◌+◌, ◌≤◌, ◌<◌, length, get_or, drop, ◌≡◌, MatchOption, Option as Returned}
use Rattle.std.proofs.Math.Option.{Option, none, some}
use Rattle.text_number.specs.Digits.{hexadecimal}

-- what is read in place, a field or a line: its value and what stands from the next place on, which is within the text; or that there is none
abbrev pub Read : {A : Type 0} → List ℕ → Returned (A × ℕ) → Option (A × List ℕ) → Type 0
Read text r o = MatchOption r (none ≡ o) (λ p. (some (p.0, drop p.1 text) ≡ o) × (p.1 ≤ length text))

-- how far at most so many bytes more reach
pub record Reach (at more size r : ℕ) : Type 0 where
  pub from : at ≤ r
  pub within : r ≤ size
  pub most : r ≤ at + more
  pub all : r < size → r ≡ at + more

-- what the decimal digit at a place stands for, or that there is none
abbrev pub Decimal : List ℕ → ℕ → Returned ℕ → Type 0
Decimal text at r =
    MatchOption r (at < length text → 10 ≤ hexadecimal (get_or text at 0))
    (λ d. (at < length text) × (hexadecimal (get_or text at 0) ≡ d) × (d < 10))
